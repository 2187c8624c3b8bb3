-- What an arm says of the directories from a WAL on is answered, since they have one answer.
use Rattle.std.proofs.Common.{◌≡◌, List, Result, Err, IsTrue, sym, subst, rules}
use Rattle.disk_face.specs.View.{files}
use Rattle.disk_face.specs.Image.{dirs_as_read, IsRested}
use Rattle.wal_recovery.specs.declared.fault.RecoverFault.{RecoverFault}
use Rattle.wal_recovery.specs.declared.listing.Found.{Found}
use Rattle.wal_recovery.specs.declared.reports.Mode.TheVariants.{Strict, Lenient}
use Rattle.wal_recovery.specs.declared.reports.Recovered.{Recovered}
use Rattle.wal_recovery.specs.Base.{BeginsWith, GoesOnFrom}
use Rattle.wal_recovery.specs.Listing.{from_wal, IsNextWal}
use Rattle.wal_recovery.specs.Resting.{AreSegmentsStable}
use Rattle.std.specs.Prelude.{IfErr}
use Rattle.wal_recovery.specs.Answers.{OkOrFailed, ErrOrFailed, DiskMemoryOr, IsRefusedByFrom}
use Rattle.wal_recovery.specs.Rows.{IsRowOf, files_from}
use Rattle.wal_recovery.proofs.Tools.{ok_map, on_ok_map}
use Rattle.wal_recovery.proofs.IsStable.{synced_moments}
use Rattle.wal_recovery.proofs.RecoversBy.{twice_refused, only_recovered, only_refused, recovered_by, refused_by}
use Rattle.wal_recovery.specs.Asking.{ReadsOnly}
use Rattle.wal_recovery.proofs.ReadsOnly.{reads_listed}
use Rattle.wal_recovery.proofs.recovering.recover_listed.Goals as goal

-- ---- a name that stands twice

pub returns-in_err-segments-clause-refused : goal.returns-in_err-segments-clause-refused
returns-in_err-segments-clause-refused g c =
    let now = files (g.D.Disk.view c.args.disk.now) in
    let dirs = from_wal c.args.start.wal (dirs_as_read now) in
    let fault = c.in_err-segments.field-0.0 in
    let is : c.from_residual.result ≡ Err fault = search rules in
    subst (λ (r : Result Recovered RecoverFault). IfErr r (λ why. IsTrue g.D.Disk.tells
    → DiskMemoryOr (IsRefusedByFrom c.args.mode c.args.start.number c.args.start.base dirs) why)) (sym is)
    (λ told. twice_refused c.args.mode c.args.start.number c.args.start.base dirs fault (c.in_err-segments.ensures.refused now (c.requires.sides told)))

pub returns-in_err-segments-clause-complete : goal.returns-in_err-segments-clause-complete
returns-in_err-segments-clause-complete g c = λ told merged h.
    let now = files (g.D.Disk.view c.args.disk.now) in
    let dirs = from_wal c.args.start.wal (dirs_as_read now) in
    let fault = c.in_err-segments.field-0.0 in
    let is : c.from_residual.result ≡ Err fault = search rules in
    subst (λ (r : Result Recovered RecoverFault). OkOrFailed r merged) (sym is)
    (only_recovered c.args.mode c.args.start.number c.args.start.base dirs g.D.Disk.tells told (Err fault) tt
    (λ t. twice_refused c.args.mode c.args.start.number c.args.start.base dirs fault (c.in_err-segments.ensures.refused now (c.requires.sides t))) merged h)

pub returns-in_err-segments-clause-refusal : goal.returns-in_err-segments-clause-refusal
returns-in_err-segments-clause-refusal g c = λ told other r.
    let now = files (g.D.Disk.view c.args.disk.now) in
    let dirs = from_wal c.args.start.wal (dirs_as_read now) in
    let fault = c.in_err-segments.field-0.0 in
    let is : c.from_residual.result ≡ Err fault = search rules in
    subst (λ (r : Result Recovered RecoverFault). ErrOrFailed r other) (sym is)
    (only_refused c.args.mode c.args.start.number c.args.start.base dirs g.D.Disk.tells told (Err fault) tt
    (λ t. twice_refused c.args.mode c.args.start.number c.args.start.base dirs fault (c.in_err-segments.ensures.refused now (c.requires.sides t))) other r)

-- ---- no gap is accepted

pub recover_strict-requires-clause-listed : goal.recover_strict-requires-clause-listed
recover_strict-requires-clause-listed g c = λ told.
    let now = files (g.D.Disk.view c.args.disk.now) in
    subst (λ (row : List Found). IsRowOf (files_from c.args.start.wal now) row) (sym c.as_slice.ensures)
    (c.in_ok-segments.ensures.listed now (c.requires.sides told))

pub returns-in-Strict-clause-complete : goal.returns-in-Strict-clause-complete
returns-in-Strict-clause-complete g c = λ told merged h.
    let dirs = from_wal c.args.start.wal (dirs_as_read (files (g.D.Disk.view c.args.disk.now))) in
    only_recovered c.args.mode c.args.start.number c.args.start.base dirs g.D.Disk.tells told c.recover_strict.result
    (recovered_by c.args.mode Strict c.args.start.number c.args.start.base c.in-Strict.is dirs g.D.Disk.tells
    c.recover_strict.result c.recover_strict.ensures.recovered)
    (refused_by c.args.mode Strict c.args.start.number c.args.start.base c.in-Strict.is dirs g.D.Disk.tells
    c.recover_strict.result c.recover_strict.ensures.refused) merged h

pub returns-in-Strict-clause-refusal : goal.returns-in-Strict-clause-refusal
returns-in-Strict-clause-refusal g c = λ told fault r.
    let dirs = from_wal c.args.start.wal (dirs_as_read (files (g.D.Disk.view c.args.disk.now))) in
    only_refused c.args.mode c.args.start.number c.args.start.base dirs g.D.Disk.tells told c.recover_strict.result
    (recovered_by c.args.mode Strict c.args.start.number c.args.start.base c.in-Strict.is dirs g.D.Disk.tells
    c.recover_strict.result c.recover_strict.ensures.recovered)
    (refused_by c.args.mode Strict c.args.start.number c.args.start.base c.in-Strict.is dirs g.D.Disk.tells
    c.recover_strict.result c.recover_strict.ensures.refused) fault r

pub returns-in-Strict-clause-each_moment : goal.returns-in-Strict-clause-each_moment
returns-in-Strict-clause-each_moment g c = λ told.
    let now = g.D.Disk.view c.args.disk.now in
    let new = g.D.Disk.view c.recover_strict.new.disk in
    synced_moments now.clock new (files now) (λ p f is. g.met.D.Disk.sound c.args.disk.now p f told is) (c.recover_strict.ensures.each_moment told)

pub returns-in-Strict-clause-stable : goal.returns-in-Strict-clause-stable
returns-in-Strict-clause-stable g c =
    let now = g.D.Disk.view c.args.disk.now in
    let new = g.D.Disk.view c.recover_strict.new.disk in
    on_ok_map (IsTrue g.D.Disk.tells → IsRested (files now) → AreSegmentsStable (files_from c.args.start.wal (files new)))
    (IsTrue g.D.Disk.tells → c.args.mode ≡ Strict → IsRested (files now) → AreSegmentsStable (files_from c.args.start.wal (files new))) c.recover_strict.result
    (λ h told by rested. h told rested) c.recover_strict.ensures.stable

pub returns-in-Strict-clause-asks : goal.returns-in-Strict-clause-asks
returns-in-Strict-clause-asks g c =
    let now = g.D.Disk.view c.args.disk.now in
    let new = g.D.Disk.view c.recover_strict.new.disk in
    reads_listed c.in_ok-segments.segments c.args.start.wal c.args.sides.now now new c.in_ok-segments.ensures.lengths c.in_ok-segments.ensures.below
    (subst (λ (r : List Found). ReadsOnly r now new) c.as_slice.ensures c.recover_strict.ensures.asks)

pub returns-in-Strict-clause-begins : goal.returns-in-Strict-clause-begins
returns-in-Strict-clause-begins g c =
    ok_map (λ (found : Recovered). GoesOnFrom c.args.start.number c.args.start.base found.batches)
    (λ (found : Recovered). BeginsWith c.args.start.base found.batches) c.recover_strict.result (λ found h. (h.merged, h.behind))
    c.recover_strict.ensures.contiguous

-- ---- gaps are accepted

pub recover_lenient-requires-clause-listed : goal.recover_lenient-requires-clause-listed
recover_lenient-requires-clause-listed g c = λ told.
    let now = files (g.D.Disk.view c.args.disk.now) in
    subst (λ (row : List Found). IsRowOf (files_from c.args.start.wal now) row) (sym c.as_slice-in-Lenient.ensures)
    (c.in_ok-segments.ensures.listed now (c.requires.sides told))

pub returns-clause-complete : goal.returns-clause-complete
returns-clause-complete g c = λ told merged h.
    let dirs = from_wal c.args.start.wal (dirs_as_read (files (g.D.Disk.view c.args.disk.now))) in
    only_recovered c.args.mode c.args.start.number c.args.start.base dirs g.D.Disk.tells told c.recover_lenient.result
    (recovered_by c.args.mode Lenient c.args.start.number c.args.start.base c.in-Lenient.is dirs g.D.Disk.tells
    c.recover_lenient.result c.recover_lenient.ensures.recovered)
    (refused_by c.args.mode Lenient c.args.start.number c.args.start.base c.in-Lenient.is dirs g.D.Disk.tells
    c.recover_lenient.result c.recover_lenient.ensures.refused) merged h

pub returns-clause-refusal : goal.returns-clause-refusal
returns-clause-refusal g c = λ told fault r.
    let dirs = from_wal c.args.start.wal (dirs_as_read (files (g.D.Disk.view c.args.disk.now))) in
    only_refused c.args.mode c.args.start.number c.args.start.base dirs g.D.Disk.tells told c.recover_lenient.result
    (recovered_by c.args.mode Lenient c.args.start.number c.args.start.base c.in-Lenient.is dirs g.D.Disk.tells
    c.recover_lenient.result c.recover_lenient.ensures.recovered)
    (refused_by c.args.mode Lenient c.args.start.number c.args.start.base c.in-Lenient.is dirs g.D.Disk.tells
    c.recover_lenient.result c.recover_lenient.ensures.refused) fault r

pub returns-clause-asks : goal.returns-clause-asks
returns-clause-asks g c =
    let now = g.D.Disk.view c.args.disk.now in
    let new = g.D.Disk.view c.recover_lenient.new.disk in
    reads_listed c.in_ok-segments.segments c.args.start.wal c.args.sides.now now new c.in_ok-segments.ensures.lengths c.in_ok-segments.ensures.below
    (subst (λ (r : List Found). ReadsOnly r now new) c.as_slice-in-Lenient.ensures c.recover_lenient.ensures.asks)

-- ---- the number of the next WAL

pub returns-in-Strict-clause-next_wal : goal.returns-in-Strict-clause-next_wal
returns-in-Strict-clause-next_wal g c =
    let now = files (g.D.Disk.view c.args.disk.now) in
    ok_map (λ (found : Recovered). found.next_wal ≡ c.next_wal-next_wal.result) (λ (found : Recovered). IsTrue g.D.Disk.tells → IsNextWal (dirs_as_read now) found.next_wal) c.recover_strict.result
    (λ found is told. subst (IsNextWal (dirs_as_read now)) (sym is) (c.next_wal-next_wal.ensures now (c.requires.sides told)))
    c.recover_strict.ensures.next_wal

pub returns-clause-next_wal : goal.returns-clause-next_wal
returns-clause-next_wal g c =
    let now = files (g.D.Disk.view c.args.disk.now) in
    ok_map (λ (found : Recovered). found.next_wal ≡ c.next_wal-next_wal.result) (λ (found : Recovered). IsTrue g.D.Disk.tells → IsNextWal (dirs_as_read now) found.next_wal) c.recover_lenient.result
    (λ found is told. subst (IsNextWal (dirs_as_read now)) (sym is) (c.next_wal-next_wal.ensures now (c.requires.sides told)))
    c.recover_lenient.ensures.next_wal
