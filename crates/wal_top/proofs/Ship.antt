-- What `ship` says of a store that was read, and that it says what has to come.
use Rattle.std.proofs.Common.{◌≡◌, inl, inr, ℕ, ◌≤◌, Bool, List, [], ◌∷◌, Option, Some, None, All, IsTrue, refl, sym, ◌∙◌, subst, arith}
use Rattle.std.proofs.lemmas.List.Elements.{All-nil, All-cons, All-head, All-tail}
use Rattle.batch_repr.specs.declared.batch.Batch.{Batch}
use Rattle.batch_repr.specs.declared.limits.TheConstants.{NUMBER_MAX}
use Rattle.batch_repr.specs.Batches.{end_of, end_after, IsContiguous}
use Rattle.batch_repr.specs.Building.{HasSpelling}
use Rattle.batch_repr.proofs.Laws.{end_up}
use Rattle.disk_face.specs.View.{DiskView, files, NothingInFlight}
use Rattle.disk_face.specs.Image.{IsRested, directories}
use Rattle.wal_recovery.specs.declared.reports.Mode.TheVariants.{Strict}
use Rattle.wal_recovery.specs.Base.{IsBatchWithin, AreWithinLimits}
use Rattle.wal_recovery.specs.Rows.{files_from}
use Rattle.wal_recovery.specs.Resting.{OnlySynced, AreSegmentsStable}
use Rattle.flush_table.specs.declared.reports.TableSeen.{TableSeen}
use Rattle.flush_table.specs.Stores.{Used, IsNumberedBefore, TellsUsed, wal_after}
use Rattle.flush_table.proofs.Laws.{store_once, store_or_refused}
use Rattle.wal_top.specs.declared.status.Status.{Status}
use Rattle.wal_top.specs.declared.status.Status.TheVariants.{Done, Usage, Script, Read, Write, Disk, Refused, NoMemory, Limit}
use Rattle.wal_top.specs.Call.{Change, Stays}
use Rattle.wal_top.specs.Recovery.{ReadsStore, SaysUnrecovered, RefusesDirectories, FailsRecovery, HasStoreToShow}
use Rattle.wal_top.specs.Ship.{ShipsStore, RefusesTable, HasStoreToShip, HasTableToRefuse, SaysShip, ShipIsDue, LeavesShip, SaysOfStore}
use Rattle.wal_top.specs.Rightly.{IsOfCommand, IsTheDue}
use Rattle.wal_top.proofs.Recovery.{unrecovered_in, not_read}
use Rattle.wal_top.proofs.Untouched.{untouched_polls, untouched_journal}

-- ---- the batches of a store have a spelling

numbered_spelled : (from : ℕ) (batches : List Batch) → IsContiguous from batches → end_after from batches ≤ NUMBER_MAX → AreWithinLimits batches
    → All HasSpelling batches
unfolding IsContiguous end_after
numbered_spelled from [] row ends within = All-nil HasSpelling
numbered_spelled from (batch ∷ batches) (at, some, rest) ends within =
    All-cons HasSpelling batch batches
    (record { fits = All-head IsBatchWithin batch batches within; numbers = omega (arith, ends, end_up (end_of batch) batches rest) })
    (numbered_spelled (end_of batch) batches rest ends (All-tail IsBatchWithin batch batches within))

pub store_spelled : (next : ℕ) (batches : List Batch) → IsNumberedBefore next batches → next ≤ NUMBER_MAX → AreWithinLimits batches
    → All HasSpelling batches
store_spelled next batches numbered small within =
    numbered_spelled numbered.base.from batches numbered.base.contiguous (omega (arith, numbered.base.ends, small)) within

-- ---- a table is used, or none

-- what was seen tells of the same table that a store begins with
seen_of_used : (tells : Bool) (disk : Change DiskView) (read : ReadsStore Strict tells disk) (has : HasStoreToShow Strict tells disk)
    → TellsUsed has.used read.seen
seen_of_used tells disk read has =
    subst (λ (used : Option Used). TellsUsed used read.seen)
    (store_once Strict (directories disk.before) read.used has.used read.batches has.batches (read.store has.told) has.store).0 (read.tells_used has.told)

used_none : (used : Option Used) (seen : Option TableSeen) → TellsUsed used seen → used ≡ None → seen ≡ None
used_none used None tells is = refl
used_none used (Some seen) tells is = absurd (subst (λ (u : Option Used). TellsUsed u (Some seen)) is tells)

used_some : (used : Option Used) (one : Used) (seen : Option TableSeen) → TellsUsed used seen → used ≡ Some one → seen ≡ None → ⊥
used_some used one seen tells is none =
    subst (λ (s : Option TableSeen). TellsUsed (Some one) s) none (subst (λ (u : Option Used). TellsUsed u seen) is tells)

module _ (tells : Bool) (disk : Change DiskView) (text : List ℕ) where
  -- ---- what is said

  -- the store as it was read, and what is said of it
  module _ (read' : ReadsStore Strict tells disk) (only : IsTrue tells → OnlySynced (files disk.before) (files disk.after))
      (rested : IsTrue tells → IsRested (files disk.before) → AreSegmentsStable (files_from (wal_after read'.seen) (files disk.after))) where
    says_by_seen : (seen' : Option TableSeen) → read'.seen ≡ seen' → (status : Status) → SaysOfStore seen' read'.batches status text → SaysShip tells disk status text
    says_by_seen None none status (s, t) = subst (λ (x : Status). SaysShip tells disk x text) (sym s) (record {
      read = read';
      untabled = none;
      text_is = t;
      only_synced = only;
      stable = rested;
    })
    says_by_seen (Some one) some status (s, t) = subst (λ (x : Status). SaysShip tells disk x text) (sym s) (inl (record {
      read = read';
      seen = one;
      tabled = some;
      text_is = t;
      only_synced = only;
    }))

    pub says_read : (status : Status) → SaysOfStore read'.seen read'.batches status text → SaysShip tells disk status text
    says_read status says = says_by_seen read'.seen refl status says

  pub says_unread_store : (status : Status) → SaysUnrecovered Strict tells disk status text → SaysShip tells disk status text
  says_unread_store = unrecovered_in Strict tells disk text (λ (s : Status). SaysShip tells disk s text) (λ f. f) (λ r. inr r)

  -- what holds of each answer holds of the status
  each : (P : Status → Type 0) → (ShipsStore tells disk text → P Done) → (FailsRecovery tells disk text → P Disk)
      → (RefusesTable tells disk text → P Refused) → (RefusesDirectories Strict tells disk text → P Refused)
      → (said : Status) → SaysShip tells disk said text → P said
  each P ships fails table refuses Done h = ships h
  each P ships fails table refuses Usage h = absurd h
  each P ships fails table refuses Script h = absurd h
  each P ships fails table refuses Read h = absurd h
  each P ships fails table refuses Write h = absurd h
  each P ships fails table refuses Disk h = fails h
  each P ships fails table refuses Refused (inl h) = table h
  each P ships fails table refuses Refused (inr h) = refuses h
  each P ships fails table refuses NoMemory h = absurd h
  each P ships fails table refuses Limit h = absurd h

  pub ship_told : (said : Status) → SaysShip tells disk said text → IsOfCommand said
  ship_told = each IsOfCommand (λ h. tt) (λ h. tt) (λ h. tt) (λ h. tt)

  -- ---- what has to come

  -- directories that have a store are not refused
  stored : {P : Type 0} → HasStoreToShow Strict tells disk → RefusesDirectories Strict tells disk text → P
  stored has r = absurd (store_or_refused Strict (directories disk.before) has.used has.batches r.fault has.store (r.refused has.told))

  shipped_when_due : HasStoreToShip tells disk → (said : Status) → SaysShip tells disk said text → Done ≡ said
  shipped_when_due (has, none) = each (λ (s : Status). Done ≡ s) (λ h. refl) (λ f. absurd (has.calm f.side f.failed))
      (λ t. let no : None ≡ Some t.seen = sym (used_none has.used t.read.seen (seen_of_used tells disk t.read has) none) ∙ t.tabled in absurd cc)
      (λ r. stored has r)

  table_when_due : HasTableToRefuse tells disk → (said : Status) → SaysShip tells disk said text → Refused ≡ said
  table_when_due (has, one, some) = each (λ (s : Status). Refused ≡ s)
      (λ h. absurd (used_some has.used one h.read.seen (seen_of_used tells disk h.read has) some h.untabled))
      (λ f. absurd (has.calm f.side f.failed)) (λ t. refl) (λ r. refl)

  pub ship_due : (said : Status) → SaysShip tells disk said text → IsTheDue (ShipIsDue tells disk) said
  ship_due said h Done d = shipped_when_due d said h
  ship_due said h Usage d = absurd d
  ship_due said h Script d = absurd d
  ship_due said h Read d = absurd d
  ship_due said h Write d = absurd d
  ship_due said h Disk d = absurd d
  ship_due said h Refused (inl d) = table_when_due d said h
  ship_due said h Refused (inr d) =
      each (λ (s : Status). Refused ≡ s) (λ s. absurd (not_read Strict tells disk s.read d)) (λ f. absurd (d.calm f.side f.failed)) (λ t. refl)
      (λ r. refl) said h
  ship_due said h NoMemory d = absurd d
  ship_due said h Limit d = absurd d

-- ---- what is left where nothing was done

pub ship_unrun : (tells : Bool) (disk : Change DiskView) → Stays disk → NothingInFlight disk.after → LeavesShip tells disk
ship_unrun tells disk untouched rests = record {
  polls = untouched_polls tells disk untouched;
  no_journal = untouched_journal tells disk untouched rests;
}
