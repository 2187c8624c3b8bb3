-- The versions that batches leave, and what a store answers as it was at a number (docs/formats/view.md, "What a view answers").
use Rattle.std.specs.Prelude.{ℕ, ◌+◌, nat_lt, List, [], ◌∷◌, Option, cond, filter, map}
use Rattle.std.specs.List.{flat_map}
use Rattle.wal_base.specs.declared.entry.Entry.{Entry}
use Rattle.batch_repr.specs.declared.batch.Batch.{Batch}
use Rattle.batch_repr.specs.Batches.{is_counted, last_value}

-- a counted entry under its number
pub record Version : Type 0 where
  pub entry : Entry
  pub number : ℕ

-- the versions of some entries: those that are counted, each under its number, of which the first is this one
unfoldable pub versions_from : ℕ → List Entry → List Version
versions_from number [] = []
versions_from number (entry ∷ entries) =
    cond (is_counted entry) (record { entry = entry; number = number } ∷ versions_from (number + 1) entries) (versions_from number entries)

abbrev pub versions_of : Batch → List Version
versions_of batch = versions_from batch.first batch.entries

-- the versions of all the batches
abbrev pub versions_in : List Batch → List Version
versions_in batches = flat_map versions_of batches

-- the entries of those versions that are numbered below
abbrev pub entries_below : ℕ → List Version → List Entry
entries_below at versions = map (λ (version : Version). version.entry) (filter (λ (version : Version). nat_lt version.number at) versions)

-- the value of a key at a number: the one that the last entry about it below that number leaves
unfoldable pub answer_at : List Batch → ℕ → List ℕ → Option (List ℕ)
answer_at batches at key = last_value key (entries_below at (versions_in batches))
