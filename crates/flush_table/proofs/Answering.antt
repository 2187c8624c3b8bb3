-- What recovery answers above the table that was found is what the store is.
use Rattle.std.proofs.Common.{◌≡◌, ℕ, List, Option, Err, sym, subst, ap, ◌∙◌}
use Rattle.std.specs.Prelude.{IfSome}
use Rattle.batch_repr.specs.declared.batch.Batch.{Batch}
use Rattle.batch_repr.specs.Batches.{end_after}
use Rattle.wal_base.specs.Faults.{Rose}
use Rattle.disk_face.specs.declared.Side.{Side}
use Rattle.disk_face.specs.View.{Files, Dirs, DiskView}
use Rattle.disk_face.specs.Image.{IsRested, dirs_as_read}
use Rattle.wal_recovery.specs.declared.fault.RecoverFault.{RecoverFault}
use Rattle.wal_recovery.specs.declared.fault.RecoverFault.TheVariants as faults
use Rattle.wal_recovery.specs.declared.reports.Mode.{Mode}
use Rattle.wal_recovery.specs.declared.reports.Start.{Start}
use Rattle.wal_recovery.specs.Listing.{from_wal}
use Rattle.wal_recovery.specs.Answers.{RecoversByFrom, IsRefusedByFrom, DiskMemoryOr, OkOrFailed, ErrOrFailed, FaultRose, NoFaultRose}
use Rattle.wal_recovery.specs.Rows.{files_from, IsDiskOrMemory}
use Rattle.wal_recovery.specs.declared.reports.SegReport.{SegReport}
use Rattle.wal_recovery.specs.Reports.{AreReports}
use Rattle.wal_recovery.specs.Resting.{AreSegmentsStable}
use Rattle.wal_recovery.specs.Base.{BeginsWith, GoesOnFrom}
use Rattle.flush_table.specs.declared.reports.TableSeen.{TableSeen}
use Rattle.flush_table.specs.declared.tables.UsedTable.{UsedTable}
use Rattle.flush_table.specs.Stores.{Used, StoreOf, IsStoreRefused, TellsUsed, IsBaseSeen, IsNumberedBefore, wal_after, number_after}
use Rattle.flush_table.specs.Reading.{FindsUsed, IsSomeUsed, start_with, seen_with}
use Rattle.flush_table.specs.Promises.{FoundOrFailed, RefusedOrFailed}
use Rattle.flush_table.proofs.OneStore.{used_once}
use Rattle.flush_table.proofs.Starting.{start_from, found_used, start_numbered, goes_on_numbered, wal_seen, number_seen, base_seen}

-- recovery of directories from a start
abbrev pub RecoversAt : Mode → Dirs → List Batch → Start → Type 0
RecoversAt mode dirs batches start = RecoversByFrom mode start.number start.base (from_wal start.wal dirs) batches

abbrev pub IsRefusedAt : Mode → Dirs → RecoverFault → Start → Type 0
IsRefusedAt mode dirs fault start = IsRefusedByFrom mode start.number start.base (from_wal start.wal dirs) fault

module _ (mode : Mode) (dirs : Dirs) (found : Option UsedTable) (finds : FindsUsed dirs found) where
  -- what is recovered is the store
  pub is_store : (batches : List Batch) → RecoversAt mode dirs batches (start_with found)
      → (used : Option Used) × StoreOf mode dirs used batches × TellsUsed used (seen_with found)
  is_store batches recovers =
      let f = found_used dirs found finds in
      (f.0, record { is_used = f.1; recovers = subst (RecoversAt mode dirs batches) f.2 recovers }, f.3)

  -- and the store is what is recovered
  pub store_is : (used : Option Used) (batches : List Batch) → StoreOf mode dirs used batches
      → RecoversAt mode dirs batches (start_with found) × TellsUsed used (seen_with found)
  store_is used batches store =
      let f = found_used dirs found finds in
      let same : f.0 ≡ used = used_once dirs f.0 used f.1 store.is_used in (
        subst (RecoversAt mode dirs batches) (sym (f.2 ∙ ap start_from same)) store.recovers,
        subst (λ (u : Option Used). TellsUsed u (seen_with found)) same f.3,
      )

  -- the reasons to refuse are the same
  pub is_refused : (fault : RecoverFault) → IsRefusedAt mode dirs fault (start_with found) → IsStoreRefused mode dirs fault
  is_refused fault refused =
      let f = found_used dirs found finds in
      record { used = f.0; is_used = f.1; refused = subst (IsRefusedAt mode dirs fault) f.2 refused }

  pub refused_is : (fault : RecoverFault) → IsStoreRefused mode dirs fault → IsRefusedAt mode dirs fault (start_with found)
  refused_is fault refused =
      let f = found_used dirs found finds in
      let same : f.0 ≡ refused.used = used_once dirs f.0 refused.used f.1 refused.is_used in
      subst (IsRefusedAt mode dirs fault) (sym (f.2 ∙ ap start_from same)) refused.refused

-- ---- where the disk was listed and read between, and its files are the same

module _ (mode : Mode) (old mid : Files) (same : mid ≡ old) (found : Option UsedTable) (start : Start) (start_is : start ≡ start_with found)
    (seen : Option TableSeen) (seen_is : seen ≡ seen_with found) where
  wal_is : start.wal ≡ wal_after seen
  wal_is = ap (λ (s : Start). s.wal) start_is ∙ wal_seen found ∙ ap wal_after (sym seen_is)

  number_is : start.number ≡ number_after seen
  number_is = ap (λ (s : Start). s.number) start_is ∙ number_seen found ∙ ap number_after (sym seen_is)

  pub reports_from : (reports : List SegReport) → AreReports (from_wal start.wal (dirs_as_read mid)) reports
      → AreReports (from_wal (wal_after seen) (dirs_as_read old)) reports
  reports_from reports are =
      subst (λ (n : ℕ). AreReports (from_wal n (dirs_as_read old)) reports) wal_is
      (subst (λ (fs : Files). AreReports (from_wal start.wal (dirs_as_read fs)) reports) same are)

  pub next_from : (batches : List Batch) (next : ℕ) → next ≡ end_after start.number batches → next ≡ end_after (number_after seen) batches
  next_from batches next is = subst (λ (n : ℕ). next ≡ end_after n batches) number_is is

  pub stable_from : (new : Files) → (IsRested mid → AreSegmentsStable (files_from start.wal new)) → IsRested old
      → AreSegmentsStable (files_from (wal_after seen) new)
  stable_from new h rested =
      subst (λ (n : ℕ). AreSegmentsStable (files_from n new)) wal_is (h (subst IsRested (sym same) rested))

  module _ (some : IfSome found IsSomeUsed) (batches : List Batch) where
    base_is : IsBaseSeen seen start.base
    base_is = subst (λ (s : Option TableSeen). IsBaseSeen s start.base) (sym seen_is)
        (subst (λ (s : Start). IsBaseSeen (seen_with found) s.base) (sym start_is) (base_seen found some))

    pub begins_seen : BeginsWith start.base batches → (base : List Batch) × IsBaseSeen seen base × BeginsWith base batches
    begins_seen h = (start.base, base_is, h)

    pub ends_seen : GoesOnFrom start.number start.base batches → (next : ℕ) → next ≡ end_after start.number batches → IsNumberedBefore next batches
    ends_seen h next is =
        let base : IsNumberedBefore start.number start.base =
        subst (λ (s : Start). IsNumberedBefore s.number s.base) (sym start_is) (start_numbered found some) in
        subst (λ (n : ℕ). IsNumberedBefore n batches) (sym is) (goes_on_numbered start.number start.base batches base h)

    pub no_gap_seen : GoesOnFrom start.number start.base batches → (base : List Batch) × IsBaseSeen seen base × GoesOnFrom (number_after seen) base batches
    no_gap_seen h = (start.base, base_is, subst (λ (n : ℕ). GoesOnFrom n start.base batches) number_is h)

  module _ (finds : FindsUsed (dirs_as_read old) found) where
    pub recovered_store : (batches : List Batch) → RecoversAt mode (dirs_as_read mid) batches start
        → (used : Option Used) × StoreOf mode (dirs_as_read old) used batches × TellsUsed used seen
    recovered_store batches h =
        let there = subst (λ (fs : Files). RecoversAt mode (dirs_as_read fs) batches (start_with found)) same
        (subst (RecoversAt mode (dirs_as_read mid) batches) start_is h) in
        let s = is_store mode (dirs_as_read old) found finds batches there in
        (s.0, s.1, subst (λ (o : Option TableSeen). TellsUsed s.0 o) (sym seen_is) s.2)

    pub store_recovered : (used : Option Used) (batches : List Batch) → StoreOf mode (dirs_as_read old) used batches
        → RecoversAt mode (dirs_as_read mid) batches start × TellsUsed used seen
    store_recovered used batches store =
        let s = store_is mode (dirs_as_read old) found finds used batches store in (
          subst (RecoversAt mode (dirs_as_read mid) batches) (sym start_is)
              (subst (λ (fs : Files). RecoversAt mode (dirs_as_read fs) batches (start_with found)) (sym same) s.0),
          subst (λ (o : Option TableSeen). TellsUsed used o) (sym seen_is) s.1,
        )

    pub refused_store : (fault : RecoverFault) → IsRefusedAt mode (dirs_as_read mid) fault start → IsStoreRefused mode (dirs_as_read old) fault
    refused_store fault h = is_refused mode (dirs_as_read old) found finds fault
        (subst (λ (fs : Files). IsRefusedAt mode (dirs_as_read fs) fault (start_with found)) same
        (subst (IsRefusedAt mode (dirs_as_read mid) fault) start_is h))

    pub store_refused : (fault : RecoverFault) → IsStoreRefused mode (dirs_as_read old) fault → IsRefusedAt mode (dirs_as_read mid) fault start
    store_refused fault h =
        subst (IsRefusedAt mode (dirs_as_read mid) fault) (sym start_is)
        (subst (λ (fs : Files). IsRefusedAt mode (dirs_as_read fs) fault (start_with found)) (sym same)
        (refused_is mode (dirs_as_read old) found finds fault h))

-- ---- a fault

-- what the disk's fault is answered in place of
pub failed_or : (P : RecoverFault → Type 0) (fault : RecoverFault) → IsDiskOrMemory fault → DiskMemoryOr P fault
failed_or P (faults.Disk side) is = tt
failed_or P (faults.DuplicateSegment w i) is = absurd is
failed_or P (faults.BadBatch w i p f) is = absurd is
failed_or P (faults.Gap w i e x) is = absurd is
failed_or P (faults.Conflict w i x) is = absurd is
failed_or P (faults.Corrupt w i p x) is = absurd is
failed_or P faults.NoMemory is = tt

pub failed_found : (fault : RecoverFault) (used : Option Used) (batches : List Batch) → IsDiskOrMemory fault → FoundOrFailed (Err fault) used batches
failed_found (faults.Disk side) used batches is = tt
failed_found (faults.DuplicateSegment w i) used batches is = absurd is
failed_found (faults.BadBatch w i p f) used batches is = absurd is
failed_found (faults.Gap w i e x) used batches is = absurd is
failed_found (faults.Conflict w i x) used batches is = absurd is
failed_found (faults.Corrupt w i p x) used batches is = absurd is
failed_found faults.NoMemory used batches is = tt

pub failed_refused : (T : Type 0) (fault refusal : RecoverFault) → IsDiskOrMemory fault → RefusedOrFailed {T = T} (Err fault) refusal
failed_refused T (faults.Disk side) refusal is = tt
failed_refused T (faults.DuplicateSegment w i) refusal is = absurd is
failed_refused T (faults.BadBatch w i p f) refusal is = absurd is
failed_refused T (faults.Gap w i e x) refusal is = absurd is
failed_refused T (faults.Conflict w i x) refusal is = absurd is
failed_refused T (faults.Corrupt w i p x) refusal is = absurd is
failed_refused T faults.NoMemory refusal is = tt

-- the same fault, of recovery and of the store
pub or_for : (P Q : RecoverFault → Type 0) (fault : RecoverFault) → ((f : RecoverFault) → P f → Q f) → DiskMemoryOr P fault → DiskMemoryOr Q fault
or_for P Q (faults.Disk side) h is = tt
or_for P Q (faults.DuplicateSegment w i) h is = h (faults.DuplicateSegment w i) is
or_for P Q (faults.BadBatch w i p f) h is = h (faults.BadBatch w i p f) is
or_for P Q (faults.Gap w i e x) h is = h (faults.Gap w i e x) is
or_for P Q (faults.Conflict w i x) h is = h (faults.Conflict w i x) is
or_for P Q (faults.Corrupt w i p x) h is = h (faults.Corrupt w i p x) is
or_for P Q faults.NoMemory h is = tt

pub fault_found : (fault : RecoverFault) (used : Option Used) (batches : List Batch) → OkOrFailed (Err fault) batches → FoundOrFailed (Err fault) used batches
fault_found (faults.Disk side) used batches is = tt
fault_found (faults.DuplicateSegment w i) used batches is = is
fault_found (faults.BadBatch w i p f) used batches is = is
fault_found (faults.Gap w i e x) used batches is = is
fault_found (faults.Conflict w i x) used batches is = is
fault_found (faults.Corrupt w i p x) used batches is = is
fault_found faults.NoMemory used batches is = tt

pub fault_refused : (T : Type 0) (fault refusal : RecoverFault) → ErrOrFailed (Err fault) refusal → RefusedOrFailed {T = T} (Err fault) refusal
fault_refused T (faults.Disk side) refusal is = tt
fault_refused T (faults.DuplicateSegment w i) refusal is = is
fault_refused T (faults.BadBatch w i p f) refusal is = is
fault_refused T (faults.Gap w i e x) refusal is = is
fault_refused T (faults.Conflict w i x) refusal is = is
fault_refused T (faults.Corrupt w i p x) refusal is = is
fault_refused T faults.NoMemory refusal is = tt

-- a fault that rose since a call that counted none
pub rose_since : (old mid new : DiskView) (fault : RecoverFault) → NoFaultRose old mid → FaultRose mid new fault → FaultRose old new fault
rose_since old mid new (faults.Disk side) calm rose = subst (λ (counts : Side → ℕ). Rose (counts side) (new.faults side)) calm rose
rose_since old mid new (faults.DuplicateSegment w i) calm rose = tt
rose_since old mid new (faults.BadBatch w i p f) calm rose = tt
rose_since old mid new (faults.Gap w i e x) calm rose = tt
rose_since old mid new (faults.Conflict w i x) calm rose = tt
rose_since old mid new (faults.Corrupt w i p x) calm rose = tt
rose_since old mid new faults.NoMemory calm rose = tt
