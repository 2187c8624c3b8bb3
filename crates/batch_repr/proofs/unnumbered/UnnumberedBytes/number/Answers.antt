use Rattle.std.proofs.Common.{◌≡◌, ◌++◌, ◌+◌, ◌≤◌, List, take, drop, length, arith, ap, ◌∙◌, subst, sym}
use Rattle.std.specs.Int.{w32, w64, to_le_bytes}
use Rattle.std.proofs.lemmas.List.{take_at}
use Rattle.wal_base.specs.declared.entry.Entry.{Entry}
use Rattle.batch_repr.specs.Batches.{count_of}
use Rattle.batch_repr.specs.declared.limits.TheConstants.{NUMBER_MAX}
use Rattle.batch_repr.proofs.Written.{draft_written}
use Rattle.batch_repr.proofs.unnumbered.UnnumberedBytes.number.Goals as goal

pub invariant_of-result : goal.invariant_of-result
invariant_of-result c =
    let whole : take c.self.inside.bytes.len (c.put_header.new.bytes ++ drop (length c.put_header.new.bytes) c.self.inside.bytes.items) ≡
    c.put_header.new.bytes =
    take_at c.put_header.new.bytes (drop (length c.put_header.new.bytes) c.self.inside.bytes.items) c.self.inside.bytes.len
    (omega (arith, c.put_header.auto.bytes, c.deref_mut.ensures.len)) in
    let within : c.args.first + count_of c.self.inside.entries.value ≤ NUMBER_MAX = subst
    (λ (es : List Entry). c.args.first + count_of es ≤ NUMBER_MAX) (sym c.self.view_is) c.requires in
    rw whole (draft_written c.self.inside.bytes.items c.put_header.new.bytes c.self.inside.entries.value c.args.first
    c.self.inside.count c.self.invariant.is_draft c.self.invariant.count_is c.self.invariant.some within
    (c.put_header.ensures ∙ ap (λ t. to_le_bytes w64 c.args.first ++ to_le_bytes w32 c.self.inside.count ++ drop 12 t) c.deref_mut.ensures.value))
