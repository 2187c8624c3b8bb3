-- Keys of one length that are within the extent are told by their lead.
use Rattle.std.proofs.Common.{inl, ◌≤◌, length, nat_cmp, sym, ap, ◌∙◌, le-leb}
use Rattle.std.proofs.lemmas.Cmp.{tied_itself, nat_cmp_total}
use Rattle.arena_list.proofs.Orders.{keys_equal}
use Rattle.arena_list.proofs.lead.is_same_key.Goals as goal

pub returns-then-key-extent : goal.returns-then-key-extent
returns-then-key-extent c =
    let key = c.args.key.now in
    let other = c.args.other.now in
    let short : length key ≤ c.args.extent = c.if-key-extent.true in (
      λ _. keys_equal key other
          (c.requires (inl short) ∙ ap (nat_cmp (length key)) (sym c.if-key-other.true) ∙ tied_itself nat_cmp_total (length key)),
      λ _. le-leb (length key) c.args.extent short,
    )
