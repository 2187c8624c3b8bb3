-- The numbers that the format fixes, as the checker computes them.
use Rattle.std.proofs.Common.{◌≡◌, refl}
use Rattle.publish_core.specs.declared.state.TheConstants.{SLOTS, SHARDS, END_LIMIT}

slots : SLOTS ≡ 64
slots = refl

shards : SHARDS ≡ 8
shards = refl

end_limit : END_LIMIT ≡ 72057594037927936
end_limit = refl
