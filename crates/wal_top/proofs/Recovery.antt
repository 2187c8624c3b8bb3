-- What recovery answers where the directories do not recover, as it is said, and when it has to be.
use Rattle.std.proofs.Common.{◌≡◌, ℕ, Bool, true, false, List, Option, None, IsTrue, refl, sym, arith, subst}
use Rattle.disk_face.specs.View.{DiskView, files, NothingInFlight}
use Rattle.disk_face.specs.Image.{directories}
use Rattle.disk_face.specs.Calls.{GoesOn, SameDisk}
use Rattle.wal_recovery.specs.declared.reports.Mode.{Mode}
use Rattle.wal_recovery.specs.declared.fault.RecoverFault.{RecoverFault}
use Rattle.wal_recovery.specs.declared.fault.RecoverFault.TheVariants as faults
use Rattle.wal_recovery.specs.Resting.{OnlySynced}
use Rattle.wal_recovery.specs.Answers.{IsRefusal, FaultRose, DiskMemoryOr}
use Rattle.wal_recovery.specs.Promises.{OnlySyncsThroughout}
use Rattle.flush_table.specs.declared.reports.StoreRead.{StoreRead}
use Rattle.flush_table.specs.Stores.{Used, StoreOf, IsStoreRefused, TellsUsed}
use Rattle.flush_table.specs.Promises.{IsStoreRead}
use Rattle.flush_table.proofs.Laws.{store_or_refused}
use Rattle.wal_top.specs.declared.status.Status.{Status}
use Rattle.wal_top.specs.declared.status.Status.TheVariants.{Done, Usage, Script, Read, Write, Disk, Refused, NoMemory, Limit}
use Rattle.wal_top.specs.Call.{Change}
use Rattle.wal_top.specs.Recovery.{refusal_text, FailsRecovery, RefusesDirectories, SaysUnrecovered, IsToRefuse, ReadsStore, HasStoreToShow, SaysShown, ShownIsDue}
use Rattle.wal_top.specs.Faults.{SaysFault}
use Rattle.wal_top.specs.Rightly.{IsOfCommand, IsTheDue}

-- ---- what recovery does to the files

-- what happened to them at each moment has happened at the last
pub synced_now : (tells : Bool) (old new : DiskView) → GoesOn old new → OnlySyncsThroughout tells old new → IsTrue tells
    → OnlySynced (files old) (files new)
synced_now tells old new goes each told = each told new.clock goes.clock (omega arith)

-- ---- directories that do not recover

module _ (mode : Mode) (tells : Bool) (disk : Change DiskView) (text : List ℕ) where
  -- what holds of both answers holds of the status
  pub unrecovered_in : (P : Status → Type 0) → (FailsRecovery tells disk text → P Disk) → (RefusesDirectories mode tells disk text → P Refused)
      → (status : Status) → SaysUnrecovered mode tells disk status text → P status
  unrecovered_in P fails refuses Done h = absurd h
  unrecovered_in P fails refuses Usage h = absurd h
  unrecovered_in P fails refuses Script h = absurd h
  unrecovered_in P fails refuses Read h = absurd h
  unrecovered_in P fails refuses Write h = absurd h
  unrecovered_in P fails refuses Disk h = fails h
  unrecovered_in P fails refuses Refused h = refuses h
  unrecovered_in P fails refuses NoMemory h = absurd h
  unrecovered_in P fails refuses Limit h = absurd h

  pub unrecovered_told : (said : Status) → SaysUnrecovered mode tells disk said text → IsOfCommand said
  unrecovered_told = unrecovered_in IsOfCommand (λ f. tt) (λ r. tt)

  -- directories that are to be refused are
  pub refuse_due : IsToRefuse mode tells disk → (said : Status) → SaysUnrecovered mode tells disk said text → Refused ≡ said
  refuse_due d = unrecovered_in (λ (s : Status). Refused ≡ s) (λ f. absurd (d.calm f.side f.failed)) (λ r. refl)

  module _ (only : IsTrue tells → OnlySynced (files disk.before) (files disk.after)) (rests : NothingInFlight disk.after) where
    refuses : (why : RecoverFault) (status : Status) → status ≡ Refused → text ≡ refusal_text why → IsRefusal why
        → (IsTrue tells → IsStoreRefused mode (directories disk.before) why) → SameDisk disk.before disk.after → SaysUnrecovered mode tells disk status text
    refuses why status status_is told real_ is same_ = subst (λ (s : Status). SaysUnrecovered mode tells disk s text) (sym status_is) (record {
      fault = why;
      real = real_;
      refused = is;
      text_is = told;
      same = same_;
    })

    -- a fault of recovery is said by its side, or by why the directories are refused
    pub says_unrecovered : (fault : RecoverFault) (status : Status) → SaysFault fault status text → FaultRose disk.before disk.after fault
        → (IsTrue tells → DiskMemoryOr (IsStoreRefused mode (directories disk.before)) fault)
        → (IsRefusal fault → SameDisk disk.before disk.after) → SaysUnrecovered mode tells disk status text
    says_unrecovered (faults.Disk side') status (s, t) rose is same =
        subst (λ (x : Status). SaysUnrecovered mode tells disk x text) (sym s)
        (record { side = side'; failed = rose; text_is = t; only_synced = only; idle = rests })
    says_unrecovered (faults.DuplicateSegment wal index) status (s, t) rose is same = refuses (faults.DuplicateSegment wal index) status s t tt is (same tt)
    says_unrecovered (faults.BadBatch wal index place fault) status (s, t) rose is same = refuses (faults.BadBatch wal index place fault) status s t tt is (same tt)
    says_unrecovered (faults.Gap wal index expected found) status (s, t) rose is same = refuses (faults.Gap wal index expected found) status s t tt is (same tt)
    says_unrecovered (faults.Conflict wal index first) status (s, t) rose is same = refuses (faults.Conflict wal index first) status s t tt is (same tt)
    says_unrecovered (faults.Corrupt wal index at shown_at) status (s, t) rose is same = refuses (faults.Corrupt wal index at shown_at) status s t tt is (same tt)
    says_unrecovered faults.NoMemory status says rose is same = absurd says

-- ---- the store

-- the used table, where it is told
pub told_used : (tells : Bool) (P : Option Used → Type 0) → (IsTrue tells → (used : Option Used) × P used) → (used : Option Used) × (IsTrue tells → P used)
told_used true P is = let s = is refl in (s.0, λ told. s.1)
told_used false P is = (None, λ told. absurd cc)

-- what was found, as it is read
abbrev pub reads_store : (mode : Mode) (tells : Bool) (disk : Change DiskView) (found : StoreRead) → IsStoreRead tells mode disk.before found
    → ReadsStore mode tells disk
reads_store mode tells disk found is =
    let t = told_used tells (λ (used : Option Used). StoreOf mode (directories disk.before) used found.batches × TellsUsed used found.table)
    (λ told. let s = is told in (s.0, (s.1, s.2))) in
    record { batches = found.batches; used = t.0; seen = found.table; store = λ told. (t.1 told).0; tells_used = λ told. (t.1 told).1 }

-- directories that are refused were not read as a store
pub not_read : (mode : Mode) (tells : Bool) (disk : Change DiskView) → ReadsStore mode tells disk → IsToRefuse mode tells disk → ⊥
not_read mode tells disk read refuse =
    store_or_refused mode (directories disk.before) read.used read.batches refuse.fault (read.store refuse.told) refuse.refused

-- ---- a command that shows what the directories recover to

module _ (mode : Mode) (tells : Bool) (disk : Change DiskView) (text : List ℕ) (Shows : Type 0) where
  pub shows_unrecovered : (status : Status) → SaysUnrecovered mode tells disk status text → SaysShown mode tells disk Shows status text
  shows_unrecovered = unrecovered_in mode tells disk text (λ (s : Status). SaysShown mode tells disk Shows s text) (λ f. f) (λ r. r)

  -- either it is shown, or it is said why not
  module _ (P : Status → Type 0) (shows : Shows → P Done) (unrecovered : (said : Status) → SaysUnrecovered mode tells disk said text → P said) where
    each : (said : Status) → SaysShown mode tells disk Shows said text → P said
    each Done h = shows h
    each Usage h = unrecovered Usage h
    each Script h = unrecovered Script h
    each Read h = unrecovered Read h
    each Write h = unrecovered Write h
    each Disk h = unrecovered Disk h
    each Refused h = unrecovered Refused h
    each NoMemory h = unrecovered NoMemory h
    each Limit h = unrecovered Limit h

  pub shown_told : (said : Status) → SaysShown mode tells disk Shows said text → IsOfCommand said
  shown_told = each IsOfCommand (λ h. tt) (unrecovered_told mode tells disk text)

  -- What has to be shown is shown and refused directories are refused, since no directories have a store and are refused.
  module _ (read : Shows → ReadsStore mode tells disk) where
    shown_when_due : HasStoreToShow mode tells disk → (said : Status) → SaysShown mode tells disk Shows said text → Done ≡ said
    shown_when_due d = each (λ (s : Status). Done ≡ s) (λ h. refl)
        (unrecovered_in mode tells disk text (λ (s : Status). Done ≡ s) (λ f. absurd (d.calm f.side f.failed))
        (λ r. absurd (store_or_refused mode (directories disk.before) d.used d.batches r.fault d.store (r.refused d.told))))

    refused_when_due : IsToRefuse mode tells disk → (said : Status) → SaysShown mode tells disk Shows said text → Refused ≡ said
    refused_when_due d = each (λ (s : Status). Refused ≡ s) (λ h. absurd (not_read mode tells disk (read h) d)) (refuse_due mode tells disk text d)

    pub shown_due : (said : Status) → SaysShown mode tells disk Shows said text → IsTheDue (ShownIsDue mode tells disk) said
    shown_due said h Done d = shown_when_due d said h
    shown_due said h Usage d = absurd d
    shown_due said h Script d = absurd d
    shown_due said h Read d = absurd d
    shown_due said h Write d = absurd d
    shown_due said h Disk d = absurd d
    shown_due said h Refused d = refused_when_due d said h
    shown_due said h NoMemory d = absurd d
    shown_due said h Limit d = absurd d
