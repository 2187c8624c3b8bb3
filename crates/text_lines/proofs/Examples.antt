-- Worked examples of the definitions, as the checker computes them.
use Rattle.std.proofs.Common.{◌≡◌, [], ◌∷◌, true, refl}
use Rattle.std.specs.Prelude.{codes}
use Rattle.std.specs.Fmt.{digits}
use Rattle.wal_base.specs.declared.entry.Entry.TheVariants.{Set, Delete, Note}
use Rattle.batch_repr.specs.declared.fault.BatchFault.TheVariants as faults
use Rattle.disk_face.specs.declared.Side.TheVariants.{Primary}
use Rattle.text_lines.specs.Printed.{printed}
use Rattle.text_lines.specs.Lines.{batch_lines, segment_line, recovered_end}
use Rattle.text_lines.specs.Refusals.{bad_batch_line, gap_line}
use Rattle.text_lines.specs.Store.{held_line}

a_blank_and_a_backslash : printed (codes "a b\\") ≡ codes "a\\x20b\\x5c"
a_blank_and_a_backslash = refl

no_bytes : printed [] ≡ codes "\\e"
no_bytes = refl

first_and_last : printed (0 ∷ 255 ∷ []) ≡ codes "\\x00\\xff"
first_and_last = refl

a_batch : batch_lines (record { first = 10; entries = Set (codes "a") (codes "1") ∷ Delete (codes "b") ∷ Note (codes "x") ∷ [] }) ≡ codes
    "batch 10 2\nset a 1\ndel b\nnote x\n"
unfolding digits
a_batch = refl

a_segment : segment_line (record { side = Primary; name = record { wal = 1; index = 0 }; len = 40; ends_at = 34; torn = true }) 1 ≡ codes
    "segment 000001.log primary bytes 40 records 1 ends 34 torn\n"
unfolding digits
a_segment = refl

an_end : recovered_end 1 12 ≡ codes "end batches 1 next 12\n"
unfolding recovered_end digits
an_end = refl

a_kind_that_is_unknown : bad_batch_line (record { wal = 1; index = 0 }) 0 (faults.UnknownKind 12 2) ≡ codes "refused batch 000001.log 0 unknown-kind 12 2\n"
unfolding digits
a_kind_that_is_unknown = refl

a_gap : gap_line (record { wal = 1; index = 1 }) 13 15 ≡ codes "refused gap 000001-001.log expected 13 found 15\n"
unfolding digits
a_gap = refl

an_empty_value : held_line (record { key = codes "c"; value = [] }) ≡ codes "c = \\e\n"
an_empty_value = refl
