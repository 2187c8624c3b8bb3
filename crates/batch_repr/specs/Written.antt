-- The one spelling of a batch that is written (docs/formats/log.md, "The batch text").
use Rattle.std.specs.Prelude.{ℕ, ◌+◌, ◌/◌, ◌%◌, zero, suc, List, [], ◌∷◌, ◌++◌, length, nat_lt, if◌then◌else◌}
use Rattle.std.specs.Int.{w32, w64, to_le_bytes}
use Rattle.std.specs.List.{flat_map}
use Rattle.wal_base.specs.declared.entry.Entry.{Entry}
use Rattle.wal_base.specs.declared.entry.Entry.TheVariants.{Set, Delete, Note, RangeDelete}
use Rattle.batch_repr.specs.declared.batch.Batch.{Batch}
use Rattle.batch_repr.specs.Batches.{count_of}

-- a number in at most k + 1 bytes
abbrev pub varint_within : ℕ → ℕ → List ℕ
varint_within zero n = n ∷ []
varint_within (suc k) n = if nat_lt n 128 then n ∷ [] else (n % 128 + 128) ∷ varint_within k (n / 128)

-- the shortest spelling of a number
unfoldable pub varint : ℕ → List ℕ
varint n = varint_within 4 n

-- the length of a byte string, then its bytes
abbrev pub byte_string : List ℕ → List ℕ
byte_string text = varint (length text) ++ text

-- the kind byte of an entry, then its byte strings
unfoldable pub written_entry : Entry → List ℕ
written_entry (Set key value) = 1 ∷ byte_string key ++ byte_string value
written_entry (Delete key) = 0 ∷ byte_string key
written_entry (Note bytes) = 3 ∷ byte_string bytes
written_entry (RangeDelete start end) = 15 ∷ byte_string start ++ byte_string end

unfoldable pub written_entries : List Entry → List ℕ
written_entries entries = flat_map written_entry entries

-- the bytes that are written for a batch: its first number, its count, and its entries
unfoldable pub written : Batch → List ℕ
written batch = to_le_bytes w64 batch.first ++ to_le_bytes w32 (count_of batch.entries) ++ written_entries batch.entries

-- the bytes that are written for the batch of one Set
abbrev pub written_set : ℕ → List ℕ → List ℕ → List ℕ
written_set first key value = written (record { first = first; entries = Set key value ∷ [] })

-- the length of a batch of these entries, as it is written
abbrev pub written_len : List Entry → ℕ
written_len entries = 12 + length (written_entries entries)
