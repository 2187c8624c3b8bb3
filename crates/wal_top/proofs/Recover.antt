-- What `recover` says of a recovered store, and that it says what has to come.
use Rattle.std.proofs.Common.{◌≡◌, ℕ, Bool, List, ◌++◌, length, IsTrue, ap, ◌∙◌, subst}
use Rattle.batch_repr.specs.declared.batch.Batch.{Batch}
use Rattle.disk_face.specs.View.{DiskView, files, NothingInFlight}
use Rattle.disk_face.specs.Image.{IsRested}
use Rattle.text_lines.specs.Store.{IsStoreText}
use Rattle.text_lines.specs.Lines.{recovered_end}
use Rattle.wal_recovery.specs.declared.reports.Mode.TheVariants.{Strict}
use Rattle.wal_recovery.specs.Rows.{files_from}
use Rattle.wal_recovery.specs.Resting.{OnlySynced, AreSegmentsStable}
use Rattle.flush_table.specs.Stores.{wal_after}
use Rattle.wal_top.specs.declared.status.Status.{Status}
use Rattle.wal_top.specs.Call.{Change, Stays}
use Rattle.wal_top.specs.Recovery.{ReadsStore, next_of, SaysUnrecovered}
use Rattle.wal_top.specs.Recover.{ShowsStore, SaysRecover, RecoverIsDue, LeavesRecover}
use Rattle.wal_top.specs.Rightly.{IsOfCommand, IsTheDue}
use Rattle.wal_top.proofs.Recovery.{shows_unrecovered, shown_told, shown_due}
use Rattle.wal_top.proofs.Untouched.{untouched_polls, untouched_journal}

module _ (tells : Bool) (disk : Change DiskView) (text : List ℕ) where
  -- ---- what is said

  -- the store as recovery answers it and as it is printed
  pub says_store : (read' : ReadsStore Strict tells disk) (next : ℕ) → next ≡ next_of read' → (shown : List Batch) → shown ≡ read'.batches
      → (IsTrue tells → OnlySynced (files disk.before) (files disk.after))
      → (IsTrue tells → IsRested (files disk.before) → AreSegmentsStable (files_from (wal_after read'.seen) (files disk.after)))
      → (lines : List ℕ) × IsStoreText shown lines × (text ≡ lines ++ recovered_end (length shown) next) → ShowsStore tells disk text
  says_store read' next ends shown is only rested (lines, is_store, printed) = record {
    read = read';
    store = lines;
    store_is = subst (λ (bs : List Batch). IsStoreText bs lines) is is_store;
    text_is = printed ∙ ap (λ (bs : List Batch). lines ++ recovered_end (length bs) next) is
        ∙ ap (λ (n : ℕ). lines ++ recovered_end (length read'.batches) n) ends;
    only_synced = only;
    stable = rested;
  }

  pub says_no_store : (status : Status) → SaysUnrecovered Strict tells disk status text → SaysRecover tells disk status text
  says_no_store = shows_unrecovered Strict tells disk text (ShowsStore tells disk text)

  -- ---- what has to come

  pub recover_told : (said : Status) → SaysRecover tells disk said text → IsOfCommand said
  recover_told = shown_told Strict tells disk text (ShowsStore tells disk text)

  pub recover_due : (said : Status) → SaysRecover tells disk said text → IsTheDue (RecoverIsDue tells disk) said
  recover_due = shown_due Strict tells disk text (ShowsStore tells disk text) (λ h. h.read)

-- ---- what is left where nothing was done

pub recover_unrun : (tells : Bool) (disk : Change DiskView) → Stays disk → NothingInFlight disk.after → LeavesRecover tells disk
recover_unrun tells disk untouched rests = record {
  polls = untouched_polls tells disk untouched;
  no_journal = untouched_journal tells disk untouched rests;
}
