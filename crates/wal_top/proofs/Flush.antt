-- What `flush` says of a store that was flushed, and that it says what has to come.
use Rattle.std.proofs.Common.{◌≡◌, ℕ, Bool, true, false, List, [], Option, Some, None, IsTrue, inl, refl, sym, ap, subst}
use Rattle.std.specs.Prelude.{nat_lt, if◌then◌else◌}
use Rattle.disk_face.specs.View.{Dirs, DiskView, NothingInFlight, AtEachMoment}
use Rattle.disk_face.specs.Image.{directories}
use Rattle.disk_face.specs.Calls.{SameDisk}
use Rattle.disk_face.proofs.Laws.{moments_from, same_files}
use Rattle.wal_recovery.specs.declared.reports.Mode.TheVariants.{Strict}
use Rattle.wal_recovery.specs.declared.fault.RecoverFault.{RecoverFault}
use Rattle.wal_recovery.specs.declared.fault.RecoverFault.TheVariants as faults
use Rattle.wal_recovery.specs.Listing.{Stored, StandsIn, from_wal}
use Rattle.wal_recovery.specs.Answers.{IsRefusal, FaultRose, DiskMemoryOr}
use Rattle.wal_recovery.proofs.Laws.{recovers_none, recovered_or_refused_from}
use Rattle.flush_table.specs.declared.flushing.Flushed.{Flushed}
use Rattle.flush_table.specs.Stores.{IsStoreRefused, first_from, wal_from}
use Rattle.flush_table.specs.Flushing.{ImagesAnswerAs, HasNoSegments, TellsFlush}
use Rattle.flush_table.proofs.Laws.{store_or_refused}
use Rattle.wal_top.specs.declared.status.Status.{Status}
use Rattle.wal_top.specs.declared.status.Status.TheVariants.{Done, Usage, Script, Read, Write, Disk, Refused, NoMemory, Limit}
use Rattle.wal_top.specs.Call.{Change, Stays}
use Rattle.wal_top.specs.Recovery.{HasStoreToShow, IsToRefuse}
use Rattle.wal_top.specs.Faults.{SaysFault}
use Rattle.wal_top.specs.Flush.{FlushesStore, FailsFlush, SaysFlush, FlushIsDue, LeavesFlush}
use Rattle.wal_top.specs.Rightly.{IsOfCommand, IsTheDue}
use Rattle.wal_top.proofs.Recovery.{says_unrecovered, unrecovered_in}
use Rattle.wal_top.proofs.Untouched.{untouched_polls}

-- ---- directories that were flushed are not refused

-- a segment that stands from a WAL on, stands
stands_whole : (least : ℕ) (dirs : Dirs) (number : ℕ) (stored : Stored) → StandsIn (from_wal least dirs) number stored → StandsIn dirs number stored
stands_whole least dirs number stored (named, there) = (named, go (nat_lt number least) _ there)
  where
    go : (below : Bool) (o : Option (List ℕ)) → (if below then None else o) ≡ Some stored.content → o ≡ Some stored.content
    go true o is = absurd cc
    go false o is = is

none_refused : (dirs : Dirs) (fault : RecoverFault) → HasNoSegments dirs → IsStoreRefused Strict dirs fault → ⊥
none_refused dirs fault none refused =
    let above : Dirs = from_wal (wal_from refused.used) dirs in
    recovered_or_refused_from (first_from refused.used) above [] fault
    (recovers_none (first_from refused.used) above (λ number stored stands. none number stored (stands_whole (wal_from refused.used) dirs number stored stands)))
    refused.refused

told_unrefused : (tells : Bool) (old new : DiskView) (flushed : Option Flushed) → TellsFlush tells old new flushed → IsTrue tells
    → (fault : RecoverFault) → IsStoreRefused Strict (directories old) fault → ⊥
told_unrefused tells old new None none told fault refused = none_refused (directories old) fault (none told) refused
told_unrefused tells old new (Some flushed) is told fault refused =
    let f = is told in store_or_refused Strict (directories old) f.used f.batches fault f.store refused

module _ (tells : Bool) (disk : Change DiskView) (text : List ℕ) where
  -- ---- what is said

  module _ (rests : NothingInFlight disk.after) where
    says_refusal : (fault : RecoverFault) (status : Status) → IsRefusal fault → SaysFault fault status text → FaultRose disk.before disk.after fault
        → (IsTrue tells → DiskMemoryOr (IsStoreRefused Strict (directories disk.before)) fault)
        → (IsRefusal fault → SameDisk disk.before disk.after) → SaysFlush tells disk status text
    says_refusal fault status real says rose is same =
        unrecovered_in Strict tells disk text (λ (s : Status). SaysFlush tells disk s text)
        (λ f. record { side = f.side; failed = f.failed; text_is = f.text_is; idle = f.idle }) (λ r. r) status
        (says_unrecovered Strict tells disk text (λ told p. inl (ap (λ (fs : _). fs p) (same_files disk.before disk.after (same real)))) rests
        fault status says rose is same)

    -- a fault of a flush is said by its side, or by why the directories are refused
    pub says_unflushed : (fault : RecoverFault) (status : Status) → SaysFault fault status text → FaultRose disk.before disk.after fault
        → (IsTrue tells → DiskMemoryOr (IsStoreRefused Strict (directories disk.before)) fault)
        → (IsRefusal fault → SameDisk disk.before disk.after) → SaysFlush tells disk status text
    says_unflushed (faults.Disk side') status (s, t) rose is same =
        subst (λ (x : Status). SaysFlush tells disk x text) (sym s) (record { side = side'; failed = rose; text_is = t; idle = rests })
    says_unflushed (faults.DuplicateSegment wal index) status says rose is same =
        says_refusal (faults.DuplicateSegment wal index) status tt says rose is same
    says_unflushed (faults.BadBatch wal index place fault) status says rose is same =
        says_refusal (faults.BadBatch wal index place fault) status tt says rose is same
    says_unflushed (faults.Gap wal index expected found) status says rose is same =
        says_refusal (faults.Gap wal index expected found) status tt says rose is same
    says_unflushed (faults.Conflict wal index first) status says rose is same =
        says_refusal (faults.Conflict wal index first) status tt says rose is same
    says_unflushed (faults.Corrupt wal index at shown_at) status says rose is same =
        says_refusal (faults.Corrupt wal index at shown_at) status tt says rose is same
    says_unflushed faults.NoMemory status says rose is same = absurd says

  -- ---- what has to come

  -- what holds of each answer holds of the status
  each : (P : Status → Type 0) → (FlushesStore tells disk text → P Done) → (FailsFlush tells disk text → P Disk)
      → (SaysFlush tells disk Refused text → P Refused) → (said : Status) → SaysFlush tells disk said text → P said
  each P flushes fails refuses Done h = flushes h
  each P flushes fails refuses Usage h = absurd h
  each P flushes fails refuses Script h = absurd h
  each P flushes fails refuses Read h = absurd h
  each P flushes fails refuses Write h = absurd h
  each P flushes fails refuses Disk h = fails h
  each P flushes fails refuses Refused h = refuses h
  each P flushes fails refuses NoMemory h = absurd h
  each P flushes fails refuses Limit h = absurd h

  pub flush_told : (said : Status) → SaysFlush tells disk said text → IsOfCommand said
  flush_told = each IsOfCommand (λ h. tt) (λ h. tt) (λ h. tt)

  flushed_when_due : HasStoreToShow Strict tells disk → (said : Status) → SaysFlush tells disk said text → Done ≡ said
  flushed_when_due d = each (λ (s : Status). Done ≡ s) (λ h. refl) (λ f. absurd (d.calm f.side f.failed))
      (λ r. absurd (store_or_refused Strict (directories disk.before) d.used d.batches r.fault d.store (r.refused d.told)))

  refused_when_due : IsToRefuse Strict tells disk → (said : Status) → SaysFlush tells disk said text → Refused ≡ said
  refused_when_due d = each (λ (s : Status). Refused ≡ s)
      (λ h. absurd (told_unrefused tells disk.before disk.after h.flushed h.told d.told d.fault d.refused))
      (λ f. absurd (d.calm f.side f.failed)) (λ r. refl)

  pub flush_due : (said : Status) → SaysFlush tells disk said text → IsTheDue (FlushIsDue tells disk) said
  flush_due said h Done d = flushed_when_due d said h
  flush_due said h Usage d = absurd d
  flush_due said h Script d = absurd d
  flush_due said h Read d = absurd d
  flush_due said h Write d = absurd d
  flush_due said h Disk d = absurd d
  flush_due said h Refused d = refused_when_due d said h
  flush_due said h NoMemory d = absurd d
  flush_due said h Limit d = absurd d

-- ---- what is left where nothing was done

pub flush_unrun : (tells : Bool) (disk : Change DiskView) → Stays disk → NothingInFlight disk.after → LeavesFlush tells disk
flush_unrun tells disk untouched rests = record {
  polls = untouched_polls tells disk untouched;
  idle = rests;
  answers = λ told rested batches next images.
      subst (λ (v : DiskView). AtEachMoment disk.before.clock v (ImagesAnswerAs batches next)) (sym untouched)
      (moments_from disk.before (ImagesAnswerAs batches next) images);
}
