use Rattle.std.proofs.Common.{◌≡◌, arith, ◌∙◌, ap, length, rules}
use Rattle.std.proofs.lemmas.Result.{err_from_is_err_and}
use Rattle.batch_repr.specs.Batches.{count_of}
use Rattle.batch_repr.specs.Reading.{IsFirstFault, HasEntryFault}
use Rattle.batch_repr.specs.Reading.IsFirstFault.{too_long, short_header, in_entry}
use Rattle.batch_repr.proofs.Outcomes.{memory_or, is_other_count, is_past, behind_is}
use Rattle.batch_repr.proofs.decoding.read_batch.Goals as goal

pub returns-then-bytes-gt-BATCH_MAX-clause-fault : goal.returns-then-bytes-gt-BATCH_MAX-clause-fault
returns-then-bytes-gt-BATCH_MAX-clause-fault c = rw (← c.as_slice-bytes.ensures) (too_long c.if-bytes-gt-BATCH_MAX.true)

pub returns-in_default-clause-fault : goal.returns-in_default-clause-fault
returns-in_default-clause-fault c = rw (← c.as_slice-bytes.ensures) (short_header c.in_default.ensures.none)

pub returns-in_err-read_entries-clause-fault : goal.returns-in_err-read_entries-clause-fault
returns-in_err-read_entries-clause-fault c =
    let p = err_from_is_err_and c.from_residual.result c.from_residual.ensures.1 in
    rw (p.1, p.2) (memory_or (HasEntryFault c.args.text.now) (IsFirstFault c.args.text.now) c.in_err-read_entries.field-0.0 (λ f h. in_entry f h)
    c.in_err-read_entries.ensures.fault)

pub returns-then-said-found-clause-fault : goal.returns-then-said-found-clause-fault
returns-then-said-found-clause-fault c =
    let adds = c.in_ok-read_entries.ensures.found in
    let begins : c.len-from.result ≡ length c.args.entries.now.items = search rules in
    let counted : c.count-found.result ≡ count_of adds.read = c.count-found.ensures
    ∙ ap count_of (behind_is c.args.entries.now.items adds.read c.read_entries.new.entries.items c.deref.result.now c.len-from.result adds.added c.deref.ensures.value begins) in
    is_other_count c.args.text.now adds.read c.in-Some.said c.count-found.result adds.splits
    (rw (← c.as_slice-bytes.ensures) c.in-Some.ensures.count) counted c.if-said-found.true

pub returns-then-first-from-clause-fault : goal.returns-then-first-from-clause-fault
returns-then-first-from-clause-fault c =
    let adds = c.in_ok-read_entries.ensures.found in
    let begins : c.len-from.result ≡ length c.args.entries.now.items = search rules in
    let counted : c.count-found.result ≡ count_of adds.read = c.count-found.ensures
    ∙ ap count_of (behind_is c.args.entries.now.items adds.read c.read_entries.new.entries.items c.deref.result.now c.len-from.result adds.added c.deref.ensures.value begins) in
    is_past c.args.text.now adds.read c.in-Some.first c.in-Some.said c.count-found.result adds.splits
    (rw (← c.as_slice-bytes.ensures) c.in-Some.ensures.first) (rw (← c.as_slice-bytes.ensures) c.in-Some.ensures.count) counted
    c.if-said-found.false (omega (arith, c.from.ensures, c.if-first-from.true))
