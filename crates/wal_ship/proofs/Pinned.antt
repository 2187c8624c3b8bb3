-- What the format fixes, computed by the checker: the first eight bytes of a stream, and its end mark.
use Rattle.std.proofs.Common.{◌≡◌, [], ◌∷◌, refl}
use Rattle.crc_chunk.specs.Crc.{checksum, after_bits}
use Rattle.wal_ship.specs.Stream.{magic, in_frame, end_mark}

magic_is : magic ≡ 80 ∷ 66 ∷ 87 ∷ 83 ∷ 72 ∷ 73 ∷ 80 ∷ 49 ∷ []
magic_is = refl

end_mark_is : end_mark ≡ 0 ∷ 0 ∷ 0 ∷ 0 ∷ 216 ∷ 234 ∷ 130 ∷ 162 ∷ []
unfolding in_frame checksum after_bits
end_mark_is = refl
