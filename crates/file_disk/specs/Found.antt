-- How a listing comes from the files that were found in a directory (docs/formats/disk.md, "The disk").
use Rattle.std.specs.Prelude.{◌≡◌, ◌⊎◌, ℕ, ◌+◌, ◌-◌, ◌<◌, List, [], ◌∷◌, ◌++◌, length, slice_index_or, All, Any, Contains}
use Rattle.disk_face.specs.declared.SegName.{SegName}
use Rattle.disk_face.specs.declared.Listed.{Listed}
use Rattle.disk_face.specs.declared.TableListed.{TableListed}
use Rattle.disk_face.specs.Listing.{IsBefore, IsTableNumber}
use Rattle.std.specs.BTreeMap.{BTreeMap, keys}

-- no segment stands before the one in front of it
abbrev pub NeverDescends : List Listed → Type 0
NeverDescends list = (k : ℕ) (d : Listed) → k + 1 < length list → IsBefore (slice_index_or list (k + 1) d).name (slice_index_or list k d).name → ⊥

-- the name stands after the last one of the list, or the list is empty
abbrev pub IsAfterLast : List Listed → SegName → Type 0
IsAfterLast list name = (d : Listed) → 0 < length list → IsBefore (slice_index_or list (length list - 1) d).name name

-- the segment is added at the end, if its name stands after the last one; else the list stays
abbrev pub AddsIfLater : List Listed → Listed → List Listed → Type 0
AddsIfLater old item new = (IsAfterLast old item.name × (new ≡ old ++ item ∷ [])) ⊎ ((IsAfterLast old item.name → ⊥) × (new ≡ old))

-- each segment of the list is one of those that were found
abbrev pub AreAmong : List Listed → List Listed → Type 0
AreAmong found = All (λ item. Contains found item)

-- each name that was found has a segment in the list
abbrev pub HasEachName : List Listed → List Listed → Type 0
HasEachName found list = All (λ item. Any (λ listed. listed.name ≡ item.name) list) found

-- the lengths that were found, by the numbers of tables
abbrev pub AreTablesFound : BTreeMap ℕ ℕ → Type 0
AreTablesFound found = All IsTableNumber (keys found)

-- the table that was found, by its number and its length
abbrev pub found_as : ℕ × ℕ → TableListed
found_as found = record { upto = found.0; len = found.1 }
