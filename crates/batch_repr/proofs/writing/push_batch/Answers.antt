-- The header, and then the entries.
use Rattle.std.proofs.Common.{◌++◌, List, ℕ, ap, subst, sym, ◌∙◌, append_assoc}
use Rattle.std.specs.Prelude.{length, ◌<◌, ◌^◌}
use Rattle.std.specs.Int.{w32, w64, to_le_bytes}
use Rattle.wal_base.specs.declared.entry.Entry.{Entry}
use Rattle.batch_repr.specs.Batches.{count_of}
use Rattle.batch_repr.specs.Written.{written, written_entries}
use Rattle.batch_repr.proofs.Sizes.{fits_few}
use Rattle.batch_repr.proofs.writing.push_batch.Goals as goal

pub count-requires : goal.count-requires
count-requires c = subst (λ (es : List Entry). length es < 2 ^ 32) (sym c.as_slice-entries.ensures) (fits_few c.args.batch.now.entries c.requires)

pub returns : goal.returns
unfolding written
returns c =
    let out = c.args.out.now.items in
    let entries = c.args.batch.now.entries in
    let first = to_le_bytes w64 c.args.batch.now.first in
    let count = to_le_bytes w32 (count_of entries) in
    c.in_ok-push_entries.ensures
    ∙ ap (λ (es : List Entry). c.push_header.new.out.items ++ written_entries es) c.as_slice-entries.ensures
    ∙ ap (λ (t : List ℕ). t ++ written_entries entries)
    (c.in_ok-push_header.ensures ∙ ap (λ (n : ℕ). out ++ first ++ to_le_bytes w32 n) (c.count.ensures ∙ ap count_of c.as_slice-entries.ensures) ∙ append_assoc out first count)
    ∙ append_assoc out (first ++ count) (written_entries entries)
