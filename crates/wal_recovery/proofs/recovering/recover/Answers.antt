-- The listings change no file, and all segments are read from the first number of all: so what is said of the directories from there on
-- holds of the directories.
use Rattle.std.proofs.Common.{◌≡◌, List, [], IsTrue, sym, subst, ◌∙◌, ap}
use Rattle.std.specs.Prelude.{IfOk, IfErr}
use Rattle.batch_repr.specs.declared.limits.TheConstants.{NUMBER_FIRST}
use Rattle.batch_repr.specs.declared.batch.Batch.{Batch}
use Rattle.batch_repr.specs.Batches.{IsContiguous}
use Rattle.disk_face.specs.View.{Dirs, DiskView, files}
use Rattle.disk_face.specs.Image.{dirs_as_read, IsRested}
use Rattle.disk_face.specs.Calls.{SameDisk}
use Rattle.disk_face.proofs.Laws.{same_files}
use Rattle.wal_recovery.specs.declared.fault.RecoverFault.{RecoverFault}
use Rattle.wal_recovery.specs.declared.reports.Mode.{Mode}
use Rattle.wal_recovery.specs.declared.reports.Mode.TheVariants.{Strict}
use Rattle.wal_recovery.specs.declared.reports.Recovered.{Recovered}
use Rattle.wal_recovery.specs.Listing.{from_wal}
use Rattle.wal_recovery.specs.Reports.{AreReports}
use Rattle.wal_recovery.specs.Rows.{files_from}
use Rattle.wal_recovery.specs.Resting.{AreSegmentsStable, AddsNoImage}
use Rattle.wal_recovery.specs.Answers.{RecoversBy, RecoversByFrom, IsRefusedBy, IsRefusedByFrom, DiskMemoryOr}
use Rattle.wal_recovery.specs.Asking.{ListsInTurn}
use Rattle.wal_recovery.proofs.Tools.{ok_map, on_ok_map, always_ok}
use Rattle.wal_recovery.proofs.From.{all_dirs, all_files}
use Rattle.wal_recovery.specs.Base.{GoesOnFrom}
use Rattle.wal_recovery.proofs.Base.{no_base, none_onto, onto_none, one_refused, contiguous_none}
use Rattle.wal_recovery.proofs.IsStable.{same_then}
use Rattle.wal_recovery.proofs.ReadsOnly.{asks_once, lists_in_turn}
use Rattle.wal_recovery.proofs.recovering.recover.Goals as goal

all_before : (old mid : DiskView) → SameDisk old mid → from_wal 0 (dirs_as_read (files mid)) ≡ dirs_as_read (files old)
all_before old mid same = all_dirs (dirs_as_read (files mid)) ∙ ap dirs_as_read (same_files old mid same)

pub recover_listed-requires-clause-base : goal.recover_listed-requires-clause-base
recover_listed-requires-clause-base g c = no_base NUMBER_FIRST c.new.result c.new.ensures

pub returns-clause-recovered : goal.returns-clause-recovered
returns-clause-recovered g c =
    let dirs = dirs_as_read (files (g.D.Disk.view c.args.disk.now)) in
    ok_map (λ (found : Recovered). IsTrue g.D.Disk.tells → RecoversByFrom c.args.mode NUMBER_FIRST c.new.result dirs found.batches)
    (λ (found : Recovered). IsTrue g.D.Disk.tells → RecoversBy c.args.mode dirs found.batches) c.recover_listed.result
    (λ found h told. none_onto c.args.mode c.new.result c.new.ensures dirs found.batches (h told))
    (subst (λ (at : Dirs). IfOk c.recover_listed.result (λ (found : Recovered). IsTrue g.D.Disk.tells
    → RecoversByFrom c.args.mode NUMBER_FIRST c.new.result at found.batches))
    (all_before (g.D.Disk.view c.args.disk.now) (g.D.Disk.view c.list_sides.new.disk) c.in_ok-sides.ensures.same) c.recover_listed.ensures.recovered)

pub returns-clause-complete : goal.returns-clause-complete
returns-clause-complete g c = λ told merged h.
    c.recover_listed.ensures.complete told merged
    (onto_none c.args.mode c.new.result c.new.ensures (from_wal 0 (dirs_as_read (files (g.D.Disk.view c.list_sides.new.disk)))) merged
    (subst (λ (dirs : Dirs). RecoversBy c.args.mode dirs merged)
    (sym (all_before (g.D.Disk.view c.args.disk.now) (g.D.Disk.view c.list_sides.new.disk) c.in_ok-sides.ensures.same)) h))

-- the same reasons refuse
reasons : (mode : Mode) (base : List Batch) (old mid : DiskView) → base ≡ [] → SameDisk old mid
    → IsRefusedByFrom mode NUMBER_FIRST base (from_wal 0 (dirs_as_read (files mid))) ≡ IsRefusedBy mode (dirs_as_read (files old))
reasons mode base old mid none same = ap (IsRefusedByFrom mode NUMBER_FIRST base) (all_before old mid same)
    ∙ one_refused mode base none (dirs_as_read (files old))

pub returns-clause-refused : goal.returns-clause-refused
returns-clause-refused g c =
    subst (λ (Why : RecoverFault → Type 0). IfErr c.recover_listed.result (λ (fault : RecoverFault). IsTrue g.D.Disk.tells → DiskMemoryOr Why fault))
    (reasons c.args.mode c.new.result (g.D.Disk.view c.args.disk.now) (g.D.Disk.view c.list_sides.new.disk) c.new.ensures c.in_ok-sides.ensures.same)
    c.recover_listed.ensures.refused

pub returns-clause-refusal : goal.returns-clause-refusal
returns-clause-refusal g c = λ told fault r.
    c.recover_listed.ensures.refusal told fault
    (subst (λ (Why : RecoverFault → Type 0). Why fault)
    (sym (reasons c.args.mode c.new.result (g.D.Disk.view c.args.disk.now) (g.D.Disk.view c.list_sides.new.disk) c.new.ensures c.in_ok-sides.ensures.same)) r)

pub returns-clause-contiguous : goal.returns-clause-contiguous
returns-clause-contiguous g c = λ strict.
    ok_map (λ (found : Recovered). GoesOnFrom NUMBER_FIRST c.new.result found.batches) (λ (found : Recovered). IsContiguous NUMBER_FIRST found.batches)
    c.recover_listed.result (λ found h. contiguous_none NUMBER_FIRST c.new.result found.batches c.new.ensures h) (c.recover_listed.ensures.contiguous strict)

pub returns-clause-reports : goal.returns-clause-reports
returns-clause-reports g c =
    subst (λ (dirs : Dirs). IfOk c.recover_listed.result (λ (found : Recovered). IsTrue g.D.Disk.tells → AreReports dirs found.segments))
    (all_before (g.D.Disk.view c.args.disk.now) (g.D.Disk.view c.list_sides.new.disk) c.in_ok-sides.ensures.same) c.recover_listed.ensures.reports

pub returns-clause-asks : goal.returns-clause-asks
returns-clause-asks g c =
    asks_once 0 c.in_ok-sides.sides (g.D.Disk.view c.args.disk.now) (g.D.Disk.view c.list_sides.new.disk) (g.D.Disk.view c.recover_listed.new.disk)
    c.in_ok-sides.ensures.lists c.recover_listed.ensures.asks

pub returns-clause-lists : goal.returns-clause-lists
returns-clause-lists g c =
    let old = g.D.Disk.view c.args.disk.now in
    let new = g.D.Disk.view c.recover_listed.new.disk in
    always_ok (ListsInTurn old new) c.recover_listed.result
    (lists_in_turn 0 c.in_ok-sides.sides old (g.D.Disk.view c.list_sides.new.disk) new c.in_ok-sides.ensures.lists c.recover_listed.ensures.asks)

pub returns-clause-each_moment : goal.returns-clause-each_moment
returns-clause-each_moment g c = λ told.
    same_then (g.D.Disk.view c.args.disk.now) (g.D.Disk.view c.list_sides.new.disk) (g.D.Disk.view c.recover_listed.new.disk) AddsNoImage
    c.in_ok-sides.ensures.same (c.recover_listed.ensures.each_moment told)

pub returns-clause-stable : goal.returns-clause-stable
returns-clause-stable g c =
    let old = g.D.Disk.view c.args.disk.now in
    let mid = g.D.Disk.view c.list_sides.new.disk in
    let new = g.D.Disk.view c.recover_listed.new.disk in
    on_ok_map (IsTrue g.D.Disk.tells → c.args.mode ≡ Strict → IsRested (files mid) → AreSegmentsStable (files_from 0 (files new)))
    (IsTrue g.D.Disk.tells → c.args.mode ≡ Strict → IsRested (files old) → AreSegmentsStable (files new)) c.recover_listed.result
    (λ h told by rested. subst AreSegmentsStable (all_files (files new)) (h told by (subst IsRested (sym (same_files old mid c.in_ok-sides.ensures.same)) rested)))
    c.recover_listed.ensures.stable
