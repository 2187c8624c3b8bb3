-- The table of a store, and what happens while it is put (docs/formats/table.md, "Flushing").
use Rattle.std.specs.Prelude.{◌≡◌, ◌≢◌, ◌⊎◌, ℕ, ◌≤◌, Bool, true, List, [], ◌∷◌, length, Some, Result, Ok, Err, IsTrue}
use Rattle.batch_repr.specs.declared.limits.TheConstants.{NUMBER_MAX}
use Rattle.batch_repr.specs.declared.batch.Batch.{Batch}
use Rattle.text_lines.specs.Store.{IsStoreOf}
use Rattle.disk_face.specs.View.{Place, table, Files, DiskView, files, AtEachMoment, table_was_put, Makes}
use Rattle.disk_face.specs.Tables.{whole, IsBeingPut}
use Rattle.table_text.specs.Tables.{Table, IsTable, table_text}
use Rattle.wal_recovery.specs.declared.fault.RecoverFault.{RecoverFault}
use Rattle.wal_recovery.specs.Base.{AreWithinLimits}
use Rattle.flush_table.specs.declared.reports.TableSeen.{TableSeen}
use Rattle.flush_table.specs.Stores.{IsNumberedBefore}

-- The batches are numbered one after another, from the first number of all or above, and end before this number; their entries are
-- within the limits. So there is a table of what they leave.
pub record FitsTable (next : ℕ) (batches : List Batch) : Type 0 where
  pub numbered : IsNumberedBefore next batches
  pub most : next ≤ NUMBER_MAX
  pub within : AreWithinLimits batches

-- The table holds the live keys of the batches, and this number comes next in it.
pub record IsTableOf (next : ℕ) (batches : List Batch) (held : Table) : Type 0 where
  pub is : IsTable held
  pub next_is : held.next ≡ next
  pub store : IsStoreOf batches held.live

-- It is the text of that table, which has so many keys.
pub record IsTextOf (upto next : ℕ) (batches : List Batch) (text : List ℕ) (keys : ℕ) : Type 0 where
  pub held : Table
  pub of : IsTableOf next batches held
  pub text_is : text ≡ table_text upto held
  pub keys_is : keys ≡ length held.live

-- The table of that number is as it was, or one of what the batches leave is being put there, and no other file has changed.
pub record IsPutting (upto next : ℕ) (batches : List Batch) (old now : Files) : Type 0 where
  pub here : (now (table upto) ≡ old (table upto)) ⊎ ((held : Table) × IsTableOf next batches held × IsBeingPut (table_text upto held) (now (table upto)))
  pub others : (p : Place) → p ≢ table upto → now p ≡ old p

-- It is so at each moment.
abbrev pub PutsThroughout : Bool → ℕ → ℕ → List Batch → DiskView → DiskView → Type 0
PutsThroughout tells upto next batches old new = IsTrue tells → AtEachMoment old.clock new (IsPutting upto next batches (files old))

-- A table of what the batches leave stands whole, and this was told of it.
pub record HasPut (tells : Bool) (upto next : ℕ) (batches : List Batch) (old new : DiskView) (seen : TableSeen) : Type 0 where
  pub held : Table
  pub of : IsTableOf next batches held
  pub upto_is : seen.upto ≡ upto
  pub next_is : seen.next ≡ next
  pub keys_is : seen.keys ≡ length held.live
  pub stands : IsTrue tells → files new (table upto) ≡ Some (whole (table_text upto held))
  pub others : IsTrue tells → (p : Place) → p ≢ table upto → files new p ≡ files old p

-- No call was made since, or one that puts such a table, with this answer.
abbrev pub PutsOnce : Result TableSeen RecoverFault → ℕ → ℕ → List Batch → DiskView → DiskView → Type 0
PutsOnce (Ok seen) upto next batches old new =
    (text : List ℕ) × (keys : ℕ) × IsTextOf upto next batches text keys × Makes (table_was_put upto text true ∷ []) old new × (seen.upto ≡ upto)
PutsOnce (Err fault) upto next batches old new =
    Makes [] old new ⊎ ((text : List ℕ) × (keys : ℕ) × (ok : Bool) × IsTextOf upto next batches text keys × Makes (table_was_put upto text ok ∷ []) old new)
