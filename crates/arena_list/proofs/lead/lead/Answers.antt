-- Where there are fewer than eight bytes, the lead is read from all of them and zeros.
use Rattle.std.proofs.Common.{List, ℕ, ◌++◌, drop, length, replicate, ap, ◌∙◌}
use Rattle.std.specs.Int.{w64, from_be_bytes}
use Rattle.arena_list.proofs.Leads.{short_lead}
use Rattle.arena_list.proofs.lead.lead.Goals as goal

pub returns-clause-number : goal.returns-clause-number
returns-clause-number c =
    let key = c.args.key.now in
    c.from_be_bytes-2.ensures
    ∙ ap (λ (front : List ℕ). from_be_bytes w64 (front ++ drop (length key) (replicate 8 0))) c.copy_from_slice.ensures.after
    ∙ short_lead key c.in_default.ensures.cases
