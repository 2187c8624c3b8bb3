-- Where one of the keys is within the extent, their lengths are in the order of the keys.
use Rattle.std.proofs.Common.{◌⊎◌, inl, inr, ◌≤◌, length, sym, ◌∙◌}
use Rattle.arena_list.proofs.lead.order_of_same_lead.Goals as goal

pub returns-then-key-extent : goal.returns-then-key-extent
returns-then-key-extent c =
    let key = c.args.key.now in
    let other = c.args.other.now in
    let short : (length key ≤ c.args.extent) ⊎ (length other ≤ c.args.extent) =
    elim c.then-key-extent.either [ inl less ↦ inl less | inr less ↦ inr less.1 ] in
    c.cmp.ensures ∙ sym (c.requires short)
