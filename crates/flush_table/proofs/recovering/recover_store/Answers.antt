-- Before the segments are read nothing changes: so what is said of the directories then holds of them as they were. Recovery begins above
-- the table that was found, which is the used one.
use Rattle.std.proofs.Common.{◌≡◌, ◌≤◌, List, Result, Err, IsTrue, sym, subst, ◌∙◌, arith, rules}
use Rattle.std.specs.Prelude.{IfErr}
use Rattle.batch_repr.specs.declared.limits.TheConstants.{NUMBER_MAX}
use Rattle.disk_face.specs.declared.TableListed.{TableListed}
use Rattle.disk_face.specs.View.{Files, files}
use Rattle.disk_face.specs.Image.{dirs_as_read}
use Rattle.disk_face.proofs.Laws.{goes_on_further, same_files, same_further}
use Rattle.wal_recovery.specs.declared.fault.RecoverFault.{RecoverFault}
use Rattle.wal_recovery.specs.declared.reports.Start.{Start}
use Rattle.wal_recovery.specs.Answers.{DiskMemoryOr, FaultRose}
use Rattle.wal_recovery.specs.Base.{IsBaseOf, AreWithinLimits}
use Rattle.wal_recovery.specs.Listing.{IsNextWal}
use Rattle.wal_recovery.specs.Promises.{UntouchedIfRefused}
use Rattle.wal_recovery.specs.Resting.{AddsNoImage, OnlySynced}
use Rattle.wal_recovery.specs.Sides.{AreListings}
use Rattle.wal_recovery.proofs.Laws.{same_then}
use Rattle.flush_table.specs.declared.reports.StoreRead.{StoreRead}
use Rattle.flush_table.specs.Stores.{IsStoreRefused}
use Rattle.flush_table.specs.Reading.{IsAfterTables, least_read}
use Rattle.flush_table.specs.Promises.{FoundOrFailed, RefusedOrFailed}
use Rattle.flush_table.proofs.Asks.{begins_then, lists_in_turn, reads_none_below}
use Rattle.flush_table.proofs.NextWal.{next_is}
use Rattle.flush_table.proofs.SameAnswers.{answers_read}
use Rattle.flush_table.proofs.Starting.{is_base, base_within, number_within, spares_seen}
use Rattle.flush_table.proofs.Answering.{IsRefusedAt, reports_from, next_from, stable_from, begins_seen, ends_seen, no_gap_seen}
use Rattle.flush_table.proofs.Answering.{recovered_store, store_recovered, refused_store, store_refused}
use Rattle.flush_table.proofs.Answering.{failed_or, failed_found, failed_refused, or_for, fault_found, fault_refused, rose_since}
use Rattle.flush_table.proofs.recovering.recover_store.Goals as goal

-- ---- where recovery begins

pub recover_listed-requires-clause-number : goal.recover_listed-requires-clause-number
recover_listed-requires-clause-number g c =
    subst (λ (s : Start). s.number ≤ NUMBER_MAX) (sym c.start_of-start.ensures) (number_within c.in_ok-begun.begun.used c.in_ok-begun.ensures.some)

pub recover_listed-requires-clause-base : goal.recover_listed-requires-clause-base
recover_listed-requires-clause-base g c =
    subst (λ (s : Start). IsBaseOf s.number s.base) (sym c.start_of-start.ensures) (is_base c.in_ok-begun.begun.used c.in_ok-begun.ensures.some)

-- ---- nothing was begun

pub returns-in_err-begun-clause-complete : goal.returns-in_err-begun-clause-complete
returns-in_err-begun-clause-complete g c = λ told used batches store.
    let fault = c.in_err-begun.field-0.0 in
    let is : c.from_residual.result ≡ Err fault = search rules in
    subst (λ (r : Result StoreRead RecoverFault). FoundOrFailed r used batches) (sym is) (failed_found fault used batches c.in_err-begun.ensures.fault)

pub returns-in_err-begun-clause-refused : goal.returns-in_err-begun-clause-refused
returns-in_err-begun-clause-refused g c =
    let dirs = dirs_as_read (files (g.D.Disk.view c.args.disk.now)) in
    let fault = c.in_err-begun.field-0.0 in
    let is : c.from_residual.result ≡ Err fault = search rules in
    subst (λ (r : Result StoreRead RecoverFault). IfErr r (λ why. IsTrue g.D.Disk.tells → DiskMemoryOr (IsStoreRefused c.args.mode dirs) why)) (sym is)
    (λ told. failed_or (IsStoreRefused c.args.mode dirs) fault c.in_err-begun.ensures.fault)

pub returns-in_err-begun-clause-refusal : goal.returns-in_err-begun-clause-refusal
returns-in_err-begun-clause-refusal g c = λ told refusal refused.
    let fault = c.in_err-begun.field-0.0 in
    let is : c.from_residual.result ≡ Err fault = search rules in
    subst (λ (r : Result StoreRead RecoverFault). RefusedOrFailed r refusal) (sym is) (failed_refused StoreRead fault refusal c.in_err-begun.ensures.fault)

-- ---- the segments are refused

pub returns-in_err-found-clause-goes_on : goal.returns-in_err-found-clause-goes_on
returns-in_err-found-clause-goes_on g c =
    goes_on_further (g.D.Disk.view c.args.disk.now) (g.D.Disk.view c.begin.new.disk) (g.D.Disk.view c.recover_listed.new.disk)
    c.in_ok-begun.ensures.goes_on c.recover_listed.ensures.goes_on

pub returns-in_err-found-clause-disk : goal.returns-in_err-found-clause-disk
returns-in_err-found-clause-disk g c =
    let old = g.D.Disk.view c.args.disk.now in
    let new = g.D.Disk.view c.recover_listed.new.disk in
    let fault = c.in_err-found.field-0.0 in
    let is : c.from_residual-in_err-found.result ≡ Err fault = search rules in
    subst (λ (r : Result StoreRead RecoverFault). IfErr r (FaultRose old new)) (sym is)
    (rose_since old (g.D.Disk.view c.begin.new.disk) new fault c.in_ok-begun.ensures.calm c.in_err-found.ensures.disk)

pub returns-in_err-found-clause-complete : goal.returns-in_err-found-clause-complete
returns-in_err-found-clause-complete g c = λ told used batches store.
    let old = g.D.Disk.view c.args.disk.now in
    let mid = g.D.Disk.view c.begin.new.disk in
    let fault = c.in_err-found.field-0.0 in
    let is : c.from_residual-in_err-found.result ≡ Err fault = search rules in
    let there = store_recovered c.args.mode (files old) (files mid) (same_files old mid c.in_ok-begun.ensures.same) c.in_ok-begun.begun.used
    c.start_of-start.result c.start_of-start.ensures c.seen_of-seen.result c.seen_of-seen.ensures (c.in_ok-begun.ensures.used told) used batches store in
    subst (λ (r : Result StoreRead RecoverFault). FoundOrFailed r used batches) (sym is)
    (fault_found fault used batches (c.in_err-found.ensures.complete told batches there.0))

pub returns-in_err-found-clause-refused : goal.returns-in_err-found-clause-refused
returns-in_err-found-clause-refused g c =
    let old = g.D.Disk.view c.args.disk.now in
    let mid = g.D.Disk.view c.begin.new.disk in
    let dirs = dirs_as_read (files old) in
    let fault = c.in_err-found.field-0.0 in
    let is : c.from_residual-in_err-found.result ≡ Err fault = search rules in
    subst (λ (r : Result StoreRead RecoverFault). IfErr r (λ why. IsTrue g.D.Disk.tells → DiskMemoryOr (IsStoreRefused c.args.mode dirs) why)) (sym is)
    (λ told. or_for (λ (f : RecoverFault). IsRefusedAt c.args.mode (dirs_as_read (files mid)) f c.start_of-start.result)
    (IsStoreRefused c.args.mode dirs) fault
    (refused_store c.args.mode (files old) (files mid) (same_files old mid c.in_ok-begun.ensures.same) c.in_ok-begun.begun.used
    c.start_of-start.result c.start_of-start.ensures c.seen_of-seen.result c.seen_of-seen.ensures (c.in_ok-begun.ensures.used told))
    (c.in_err-found.ensures.refused told))

pub returns-in_err-found-clause-refusal : goal.returns-in_err-found-clause-refusal
returns-in_err-found-clause-refusal g c = λ told refusal refused.
    let old = g.D.Disk.view c.args.disk.now in
    let mid = g.D.Disk.view c.begin.new.disk in
    let fault = c.in_err-found.field-0.0 in
    let is : c.from_residual-in_err-found.result ≡ Err fault = search rules in
    subst (λ (r : Result StoreRead RecoverFault). RefusedOrFailed r refusal) (sym is)
    (fault_refused StoreRead fault refusal (c.in_err-found.ensures.refusal told refusal
    (store_refused c.args.mode (files old) (files mid) (same_files old mid c.in_ok-begun.ensures.same) c.in_ok-begun.begun.used
    c.start_of-start.result c.start_of-start.ensures c.seen_of-seen.result c.seen_of-seen.ensures (c.in_ok-begun.ensures.used told) refusal refused)))

pub returns-in_err-found-clause-asks : goal.returns-in_err-found-clause-asks
returns-in_err-found-clause-asks g c =
    begins_then (least_read c.in_ok-begun.begun.used) c.start_of-start.result.wal c.in_ok-begun.begun.tables c.in_ok-begun.begun.sides (g.D.Disk.view c.args.disk.now) (g.D.Disk.view c.begin.new.disk)
    (g.D.Disk.view c.recover_listed.new.disk) c.in_ok-begun.ensures.begun c.recover_listed.ensures.asks

pub returns-in_err-found-clause-each_moment : goal.returns-in_err-found-clause-each_moment
returns-in_err-found-clause-each_moment g c = λ told.
    same_then (g.D.Disk.view c.args.disk.now) (g.D.Disk.view c.begin.new.disk) (g.D.Disk.view c.recover_listed.new.disk) AddsNoImage
    c.in_ok-begun.ensures.same (c.recover_listed.ensures.each_moment told)

pub returns-in_err-found-clause-files : goal.returns-in_err-found-clause-files
returns-in_err-found-clause-files g c = λ told.
    same_then (g.D.Disk.view c.args.disk.now) (g.D.Disk.view c.begin.new.disk) (g.D.Disk.view c.recover_listed.new.disk) OnlySynced
    c.in_ok-begun.ensures.same (c.recover_listed.ensures.files told)

pub returns-in_err-found-clause-untouched : goal.returns-in_err-found-clause-untouched
returns-in_err-found-clause-untouched g c =
    let old = g.D.Disk.view c.args.disk.now in
    let new = g.D.Disk.view c.recover_listed.new.disk in
    let fault = c.in_err-found.field-0.0 in
    let is : c.from_residual-in_err-found.result ≡ Err fault = search rules in
    subst (λ (r : Result StoreRead RecoverFault). IfErr r (UntouchedIfRefused old new)) (sym is)
    (λ refusal. same_further old (g.D.Disk.view c.begin.new.disk) new c.in_ok-begun.ensures.same (c.in_err-found.ensures.untouched refusal))

pub returns-in_err-found-clause-starts_nothing : goal.returns-in_err-found-clause-starts_nothing
returns-in_err-found-clause-starts_nothing g c = λ lenient.
    same_further (g.D.Disk.view c.args.disk.now) (g.D.Disk.view c.begin.new.disk) (g.D.Disk.view c.recover_listed.new.disk)
    c.in_ok-begun.ensures.same (c.recover_listed.ensures.starts_nothing lenient)

-- ---- the store

pub returns-clause-goes_on : goal.returns-clause-goes_on
returns-clause-goes_on g c =
    goes_on_further (g.D.Disk.view c.args.disk.now) (g.D.Disk.view c.begin.new.disk) (g.D.Disk.view c.recover_listed.new.disk)
    c.in_ok-begun.ensures.goes_on c.recover_listed.ensures.goes_on

pub returns-clause-calm : goal.returns-clause-calm
returns-clause-calm g c = c.in_ok-found.ensures.calm ∙ c.in_ok-begun.ensures.calm

pub returns-clause-recovered : goal.returns-clause-recovered
returns-clause-recovered g c = λ told.
    let old = g.D.Disk.view c.args.disk.now in
    let mid = g.D.Disk.view c.begin.new.disk in
    recovered_store c.args.mode (files old) (files mid) (same_files old mid c.in_ok-begun.ensures.same) c.in_ok-begun.begun.used
    c.start_of-start.result c.start_of-start.ensures c.seen_of-seen.result c.seen_of-seen.ensures (c.in_ok-begun.ensures.used told)
    c.in_ok-found.found.batches (c.in_ok-found.ensures.recovered told)

pub returns-clause-complete : goal.returns-clause-complete
returns-clause-complete g c = λ told used batches store.
    let old = g.D.Disk.view c.args.disk.now in
    let mid = g.D.Disk.view c.begin.new.disk in
    let there = store_recovered c.args.mode (files old) (files mid) (same_files old mid c.in_ok-begun.ensures.same) c.in_ok-begun.begun.used
    c.start_of-start.result c.start_of-start.ensures c.seen_of-seen.result c.seen_of-seen.ensures (c.in_ok-begun.ensures.used told) used batches store in
    (c.in_ok-found.ensures.complete told batches there.0, there.1)

pub returns-clause-refusal : goal.returns-clause-refusal
returns-clause-refusal g c = λ told refusal refused.
    let old = g.D.Disk.view c.args.disk.now in
    let mid = g.D.Disk.view c.begin.new.disk in
    c.in_ok-found.ensures.refusal told refusal
    (store_refused c.args.mode (files old) (files mid) (same_files old mid c.in_ok-begun.ensures.same) c.in_ok-begun.begun.used
    c.start_of-start.result c.start_of-start.ensures c.seen_of-seen.result c.seen_of-seen.ensures (c.in_ok-begun.ensures.used told) refusal refused)

pub returns-clause-reports : goal.returns-clause-reports
returns-clause-reports g c = λ told.
    let old = g.D.Disk.view c.args.disk.now in
    let mid = g.D.Disk.view c.begin.new.disk in
    reports_from c.args.mode (files old) (files mid) (same_files old mid c.in_ok-begun.ensures.same) c.in_ok-begun.begun.used
    c.start_of-start.result c.start_of-start.ensures c.seen_of-seen.result c.seen_of-seen.ensures c.in_ok-found.found.segments
    (c.in_ok-found.ensures.reports told)

pub returns-clause-next : goal.returns-clause-next
returns-clause-next g c =
    let old = g.D.Disk.view c.args.disk.now in
    let mid = g.D.Disk.view c.begin.new.disk in
    next_from c.args.mode (files old) (files mid) (same_files old mid c.in_ok-begun.ensures.same) c.in_ok-begun.begun.used
    c.start_of-start.result c.start_of-start.ensures c.seen_of-seen.result c.seen_of-seen.ensures c.in_ok-found.found.batches
    c.in_ok-found.found.next c.in_ok-found.ensures.next

pub returns-clause-next_wal : goal.returns-clause-next_wal
returns-clause-next_wal g c = λ told.
    let old = g.D.Disk.view c.args.disk.now in
    let mid = g.D.Disk.view c.begin.new.disk in
    let tables = c.in_ok-begun.begun.tables in
    next_is (files old) tables (c.in_ok-begun.ensures.tables told) c.in_ok-found.found.next_wal c.next_after.result
    (subst (λ (fs : Files). IsNextWal (dirs_as_read fs) c.in_ok-found.found.next_wal) (same_files old mid c.in_ok-begun.ensures.same)
    (c.in_ok-found.ensures.next_wal told))
    (subst (λ (l : List TableListed). IsAfterTables l c.next_after.result) c.as_slice.ensures c.next_after.ensures)
    c.max-next_wal.result c.max-next_wal.ensures

pub returns-clause-listings : goal.returns-clause-listings
returns-clause-listings g c = record {
  tables = c.in_ok-begun.ensures.tables;
  sides = λ told. subst (λ (fs : Files). AreListings fs c.in_ok-begun.begun.sides)
      (same_files (g.D.Disk.view c.args.disk.now) (g.D.Disk.view c.begin.new.disk) c.in_ok-begun.ensures.same) (c.in_ok-begun.ensures.sides told);
}

pub returns-clause-begins : goal.returns-clause-begins
returns-clause-begins g c =
    let old = g.D.Disk.view c.args.disk.now in
    let mid = g.D.Disk.view c.begin.new.disk in
    begins_seen c.args.mode (files old) (files mid) (same_files old mid c.in_ok-begun.ensures.same) c.in_ok-begun.begun.used
    c.start_of-start.result c.start_of-start.ensures c.seen_of-seen.result c.seen_of-seen.ensures c.in_ok-begun.ensures.some
    c.in_ok-found.found.batches c.in_ok-found.ensures.begins

pub returns-clause-contiguous : goal.returns-clause-contiguous
returns-clause-contiguous g c = λ strict.
    let old = g.D.Disk.view c.args.disk.now in
    let mid = g.D.Disk.view c.begin.new.disk in
    no_gap_seen c.args.mode (files old) (files mid) (same_files old mid c.in_ok-begun.ensures.same) c.in_ok-begun.begun.used
    c.start_of-start.result c.start_of-start.ensures c.seen_of-seen.result c.seen_of-seen.ensures c.in_ok-begun.ensures.some
    c.in_ok-found.found.batches (c.in_ok-found.ensures.contiguous strict)

pub returns-clause-numbered : goal.returns-clause-numbered
returns-clause-numbered g c = λ strict.
    let old = g.D.Disk.view c.args.disk.now in
    let mid = g.D.Disk.view c.begin.new.disk in
    ends_seen c.args.mode (files old) (files mid) (same_files old mid c.in_ok-begun.ensures.same) c.in_ok-begun.begun.used
    c.start_of-start.result c.start_of-start.ensures c.seen_of-seen.result c.seen_of-seen.ensures c.in_ok-begun.ensures.some
    c.in_ok-found.found.batches (c.in_ok-found.ensures.contiguous strict) c.in_ok-found.found.next c.in_ok-found.ensures.next

pub returns-clause-limits : goal.returns-clause-limits
returns-clause-limits g c = λ strict.
    c.in_ok-found.ensures.limits strict
    (subst (λ (s : Start). AreWithinLimits s.base) (sym c.start_of-start.ensures) (base_within c.in_ok-begun.begun.used c.in_ok-begun.ensures.some))

pub returns-clause-quiet : goal.returns-clause-quiet
returns-clause-quiet g c = λ none bare.
    same_further (g.D.Disk.view c.args.disk.now) (g.D.Disk.view c.begin.new.disk) (g.D.Disk.view c.recover_listed.new.disk)
    c.in_ok-begun.ensures.same (c.recover_listed.ensures.quiet none bare)

pub returns-clause-within : goal.returns-clause-within
returns-clause-within g c = c.in_ok-found.ensures.within

pub returns-clause-names : goal.returns-clause-names
returns-clause-names g c = record {
  ascend = c.in_ok-begun.ensures.ascending;
  numbers = c.in_ok-begun.ensures.numbers;
  sides = c.in_ok-begun.ensures.names;
}

pub returns-clause-asks : goal.returns-clause-asks
returns-clause-asks g c =
    begins_then (least_read c.in_ok-begun.begun.used) c.start_of-start.result.wal c.in_ok-begun.begun.tables c.in_ok-begun.begun.sides (g.D.Disk.view c.args.disk.now) (g.D.Disk.view c.begin.new.disk)
    (g.D.Disk.view c.recover_listed.new.disk) c.in_ok-begun.ensures.begun c.recover_listed.ensures.asks

pub returns-clause-lists : goal.returns-clause-lists
returns-clause-lists g c =
    lists_in_turn (least_read c.in_ok-begun.begun.used) c.start_of-start.result.wal c.in_ok-begun.begun.tables c.in_ok-begun.begun.sides (g.D.Disk.view c.args.disk.now) (g.D.Disk.view c.begin.new.disk)
    (g.D.Disk.view c.recover_listed.new.disk) c.in_ok-begun.ensures.begun c.recover_listed.ensures.asks

pub returns-clause-spares : goal.returns-clause-spares
returns-clause-spares g c =
    let old = g.D.Disk.view c.args.disk.now in
    let new = g.D.Disk.view c.recover_listed.new.disk in
    spares_seen c.in_ok-begun.begun.used c.start_of-start.result c.start_of-start.ensures c.seen_of-seen.result c.seen_of-seen.ensures old new
    (reads_none_below (least_read c.in_ok-begun.begun.used) c.start_of-start.result.wal c.in_ok-begun.begun.tables c.in_ok-begun.begun.sides old
    (g.D.Disk.view c.begin.new.disk) new c.in_ok-begun.ensures.begun c.recover_listed.ensures.asks)

pub returns-clause-each_moment : goal.returns-clause-each_moment
returns-clause-each_moment g c = λ told.
    same_then (g.D.Disk.view c.args.disk.now) (g.D.Disk.view c.begin.new.disk) (g.D.Disk.view c.recover_listed.new.disk) AddsNoImage
    c.in_ok-begun.ensures.same (c.recover_listed.ensures.each_moment told)

pub returns-clause-files : goal.returns-clause-files
returns-clause-files g c = λ told.
    same_then (g.D.Disk.view c.args.disk.now) (g.D.Disk.view c.begin.new.disk) (g.D.Disk.view c.recover_listed.new.disk) OnlySynced
    c.in_ok-begun.ensures.same (c.recover_listed.ensures.files told)

pub returns-clause-stable : goal.returns-clause-stable
returns-clause-stable g c = λ told strict.
    let old = g.D.Disk.view c.args.disk.now in
    let mid = g.D.Disk.view c.begin.new.disk in
    stable_from c.args.mode (files old) (files mid) (same_files old mid c.in_ok-begun.ensures.same) c.in_ok-begun.begun.used
    c.start_of-start.result c.start_of-start.ensures c.seen_of-seen.result c.seen_of-seen.ensures (files (g.D.Disk.view c.recover_listed.new.disk))
    (c.in_ok-found.ensures.stable told strict)

pub returns-clause-starts_nothing : goal.returns-clause-starts_nothing
returns-clause-starts_nothing g c = λ lenient.
    same_further (g.D.Disk.view c.args.disk.now) (g.D.Disk.view c.begin.new.disk) (g.D.Disk.view c.recover_listed.new.disk)
    c.in_ok-begun.ensures.same (c.recover_listed.ensures.starts_nothing lenient)

pub returns-clause-answers : goal.returns-clause-answers
returns-clause-answers g c = λ told strict rested.
    let old = g.D.Disk.view c.args.disk.now in
    let new = g.D.Disk.view c.recover_listed.new.disk in
    answers_read c.args.mode strict (files old) (files new) rested
    (returns-clause-files g c told new.clock (returns-clause-goes_on g c).clock (omega arith)) c.seen_of-seen.result c.in_ok-found.found.batches
    c.in_ok-found.found.next (returns-clause-next g c) (returns-clause-stable g c told strict rested) (returns-clause-recovered g c told)
