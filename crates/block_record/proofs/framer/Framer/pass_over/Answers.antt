-- A header fits after the zeros of the record that was passed over, whatever its bytes are.
use Rattle.std.proofs.Common.{◌≡◌, ℕ, List, [], length, replicate, refl, sym, subst, arith}
use Rattle.std.proofs.lemmas.List.{length-replicate}
use Rattle.block_record.specs.Framing.{Standing, framed}
use Rattle.block_record.specs.Promises.{framed_by}
use Rattle.block_record.proofs.Fragments.{room_after}
use Rattle.block_record.proofs.framer.Framer.pass_over.Goals as goal

pub invariant_of-self : goal.invariant_of-self
invariant_of-self c =
    let bytes : List ℕ = replicate c.args.record_len 0 in
    let all : List ℕ = framed c.self.inside.log c.self.inside.place 0 bytes in
    let len : c.framed_len-len.result ≡ length all =
    subst (λ (s : Standing). c.framed_len-len.result ≡ length (framed_by s 0 bytes)) (sym c.self.view_is)
    (c.framed_len-len.ensures 0 bytes (length-replicate {A = ℕ} c.args.record_len 0)) in
    omega (arith, len, room_after c.self.inside.log c.self.inside.place 0 [] all bytes refl)
