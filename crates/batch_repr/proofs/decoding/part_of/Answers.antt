use Rattle.std.proofs.Common.{◌≡◌, ◌∙◌, arith}
use Rattle.batch_repr.proofs.EndsWith.{string_before, has_room, part_is, ends_after}
use Rattle.batch_repr.proofs.decoding.part_of.Goals as goal

pub overflow_sub-end-2 : goal.overflow_sub-end-2
overflow_sub-end-2 c =
    rw c.as_slice-whole.ensures
    (has_room c.args.text.now _ _ (string_before c.args.text.now _ _ _ c.args.bytes.now _ _ c.requires (λ i. omega (arith, c.type_inv.bytes i)) c.in_ok-string.ensures.exact))

pub returns-clause-exact : goal.returns-clause-exact
returns-clause-exact c =
    let before = string_before c.args.text.now _ _ _ c.args.bytes.now _ _ c.requires (λ i. omega (arith, c.type_inv.bytes i)) c.in_ok-string.ensures.exact in
    let is : c.in_ok-part.part ≡ c.in_ok-string.string.now = (rw c.as_slice-whole.ensures at c.in_ok-part.ensures) ∙ part_is c.args.text.now _ c.in_ok-string.rest.now before in
    rw (is, ← c.as_slice-whole.ensures) c.in_ok-string.ensures.exact

pub returns-clause-rest : goal.returns-clause-rest
returns-clause-rest c =
    ends_after c.args.text.now _ _ (string_before c.args.text.now _ _ _ c.args.bytes.now _ _ c.requires (λ i. omega (arith, c.type_inv.bytes i)) c.in_ok-string.ensures.exact)
