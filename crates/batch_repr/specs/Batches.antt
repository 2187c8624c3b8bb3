-- Batches, the numbers that they use, and what a store answers after some of them (docs/formats/log.md, "Batches and the store").
use Rattle.std.specs.Prelude.{◌≡◌, ℕ, ◌+◌, ◌<◌, Bool, true, false, ◌&&◌, List, [], ◌∷◌, Option, Some, None, count_by, filter, take, option_and_then}
use Rattle.std.specs.List.{flat_map, last_or}
use Rattle.std.specs.Str.{bytes_eq}
use Rattle.std.specs.Ordering.{is_le, is_lt, nat_cmp}
use Rattle.std.specs.Cmp.Lexicographic.{slice_cmp}
use Rattle.wal_base.specs.declared.entry.Entry.{Entry}
use Rattle.wal_base.specs.declared.entry.Entry.TheVariants.{Set, Delete, Note, RangeDelete}
use Rattle.batch_repr.specs.declared.batch.Batch.{Batch}

-- A note takes no number.
abbrev pub is_counted : Entry → Bool
is_counted (Set key value) = true
is_counted (Delete key) = true
is_counted (Note bytes) = false
is_counted (RangeDelete start end) = true

-- how many numbers the entries take
abbrev pub count_of : List Entry → ℕ
count_of entries = count_by is_counted entries

-- the number after a batch
abbrev pub end_of : Batch → ℕ
end_of batch = batch.first + count_of batch.entries

-- Each batch takes a number, the first begins here, and each other where the one before it ends.
unfoldable pub IsContiguous : ℕ → List Batch → Type 0
IsContiguous from [] = Unit {0}
IsContiguous from (batch ∷ batches) = (batch.first ≡ from) × (0 < count_of batch.entries) × IsContiguous (end_of batch) batches

-- the number after the last of them
unfoldable pub end_after : ℕ → List Batch → ℕ
end_after from [] = from
end_after from (batch ∷ batches) = end_after (end_of batch) batches

-- The key is within a range: at its start or behind it in the order of bytes, and before its end. Where the start is not before
-- the end, no key is.
abbrev pub is_within : List ℕ → List ℕ → List ℕ → Bool
is_within start end key = is_le (slice_cmp nat_cmp start key) && is_lt (slice_cmp nat_cmp key end)

-- The entry is a Set or a Delete of the key, or a RangeDelete of a range that it is within.
abbrev pub is_about : List ℕ → Entry → Bool
is_about key (Set k value) = bytes_eq k key
is_about key (Delete k) = bytes_eq k key
is_about key (Note bytes) = false
is_about key (RangeDelete start end) = is_within start end key

-- the value that an entry leaves its key with
abbrev pub value_left : Entry → Option (List ℕ)
value_left (Set key value) = Some value
value_left (Delete key) = None
value_left (Note bytes) = None
value_left (RangeDelete start end) = None

-- the entries of all the batches, in order
abbrev pub entries_in : List Batch → List Entry
entries_in batches = flat_map (λ (batch : Batch). batch.entries) batches

-- the value of a key that the last entry about it leaves
abbrev pub last_value : List ℕ → List Entry → Option (List ℕ)
last_value key entries = option_and_then value_left (last_or None (filter (is_about key) entries))

-- the value of a key after the first n batches: the one that the last entry about it leaves
unfoldable pub answer : List Batch → ℕ → List ℕ → Option (List ℕ)
answer batches n key = last_value key (entries_in (take n batches))
