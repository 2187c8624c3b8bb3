-- Directories that use a table and have no segment above it have its store.
use Rattle.std.proofs.Common.{◌≡◌, ℕ, ◌+◌, ◌≤◌, Bool, true, false, lt-ltb, List, [], Option, Some, None, sym, ◌∙◌, refl, arith, append-nil}
use Rattle.std.specs.Prelude.{nat_lt, if◌then◌else◌}
use Rattle.batch_repr.specs.declared.batch.Batch.{Batch}
use Rattle.disk_face.specs.View.{Place, Dirs}
use Rattle.table_text.specs.Tables.{Table, batches_of}
use Rattle.wal_recovery.specs.declared.reports.Mode.TheVariants.{Strict}
use Rattle.wal_recovery.specs.Listing.{Stored, StandsIn, place_in, from_wal}
use Rattle.wal_recovery.specs.Base.{RecoversOnto}
use Rattle.wal_recovery.proofs.Laws.{base_ends, none_recovered, recovers_none}
use Rattle.flush_table.specs.Stores.{UsesTable, Used, StoreOf, next_in}
use Rattle.flush_table.proofs.Starting.{table_base}

-- No segment of the directories is above this number.
abbrev pub StandUpTo : ℕ → Dirs → Type 0
StandUpTo upto dirs = (number : ℕ) (stored : Stored) → StandsIn dirs number stored → number ≤ upto

none_above : (dirs : Dirs) (upto : ℕ) → StandUpTo upto dirs → (number : ℕ) (stored : Stored) → StandsIn (from_wal (upto + 1) dirs) number stored → ⊥
none_above dirs upto below number stored (named, here) = go (nat_lt number (upto + 1)) refl here
  where
    p : Place
    p = place_in number stored.side stored.index

    go : (b : Bool) → nat_lt number (upto + 1) ≡ b → (if b then None else dirs p) ≡ Some stored.content → ⊥
    go true low is = cc
    go false high is =
        let up : number ≤ upto = below number stored (named, is) in
        let clash : true ≡ false = sym (lt-ltb number (upto + 1) (omega (arith, up))) ∙ high in
        cc

module _ (dirs : Dirs) (upto : ℕ) (held : Table) (uses : UsesTable dirs upto held) (below : StandUpTo upto dirs) where
  abbrev its : Option Used
  its = Some (record { upto = upto; table = held })

  pub only_table : StoreOf Strict dirs its (batches_of held)
  only_table = record {
    is_used = uses;
    recovers = record {
      merged = [];
      recovers = recovers_none held.next (from_wal (upto + 1) dirs) (none_above dirs upto below);
      behind = sym (append-nil (batches_of held));
    };
  }

  -- and no other one
  pub only_batches : (batches : List Batch) → StoreOf Strict dirs its batches → batches ≡ batches_of held
  only_batches batches store = go store.recovers
    where
      go : RecoversOnto held.next (batches_of held) (from_wal (upto + 1) dirs) batches → batches ≡ batches_of held
      go r =
          let none : r.merged ≡ [] = none_recovered held.next (from_wal (upto + 1) dirs) r.merged (none_above dirs upto below) r.recovers in
          r.behind ∙ rw none (append-nil (batches_of held))

  -- the number of the table comes next in it
  pub only_next : next_in its (batches_of held) ≡ held.next
  only_next = base_ends held.next (batches_of held) (table_base held uses.reads.is)
