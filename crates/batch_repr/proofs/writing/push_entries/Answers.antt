use Rattle.std.proofs.Common.{◌∙◌, ap, ◌++◌, List, ℕ, sym, take, append_assoc, append-nil}
use Rattle.batch_repr.specs.Written.{written_entry, written_entries}
use Rattle.batch_repr.proofs.Sizes.{entries_none, entries_more}
use Rattle.batch_repr.proofs.writing.push_entries.Goals as goal

pub loop-entry-init : goal.loop-entry-init
loop-entry-init c = sym (ap (λ (t : List ℕ). c.args.out.now.items ++ t) entries_none ∙ append-nil c.args.out.now.items)

pub loop-entry-preserved : goal.loop-entry-preserved
loop-entry-preserved c =
    c.in_ok-push_entry.ensures.ok
    ∙ ap (λ (t : List ℕ). t ++ written_entry c.entry-item.result) c.loop-entry.invariant
    ∙ append_assoc c.args.out.now.items (written_entries (take c.loop-entry.entry-index c.args.entries.now)) (written_entry c.entry-item.result)
    ∙ ap (λ (t : List ℕ). c.args.out.now.items ++ t)
    (sym (entries_more c.args.entries.now c.loop-entry.entry-index c.entry-item.result c.loop-entry-test.true c.entry-item.is))
