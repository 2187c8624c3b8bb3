-- Reading a batch from left to right, and the fault that is met first (docs/formats/log.md, "Reading a batch").
use Rattle.std.specs.Prelude.{◌≡◌, ◌≢◌, ℕ, zero, suc, ◌+◌, ◌-◌, ◌*◌, ◌%◌, ◌^◌, ◌<◌, ◌≤◌, List, [], ◌∷◌, ◌++◌, length, get_or, take, drop, Result, Ok, Err, nat_lt, ◌==◌, if◌then◌else◌}
use Rattle.std.specs.Int.{w32, w64, from_le_bytes}
use Rattle.wal_base.specs.declared.entry.Entry.{Entry}
use Rattle.wal_base.specs.declared.entry.Entry.TheVariants.{Set, Delete, Note, RangeDelete}
use Rattle.batch_repr.specs.declared.batch.Batch.{Batch}
use Rattle.batch_repr.specs.declared.fault.BatchFault.{BatchFault}
use Rattle.batch_repr.specs.declared.fault.BatchFault.TheVariants as faults
use Rattle.batch_repr.specs.declared.fault.VarintFault.{VarintFault}
use Rattle.batch_repr.specs.declared.fault.VarintFault.TheVariants.{Ended, Wrong}
use Rattle.batch_repr.specs.Batches.{count_of}
use Rattle.batch_repr.specs.declared.limits.TheConstants.{KEY_MAX, VALUE_MAX, BATCH_MAX, NUMBER_MAX}

-- What was read is read on with; a fault stays.
infixl 10 ◌>>=◌
abbrev pub ◌>>=◌ : {A B E : Type 0} → Result A E → (A → Result B E) → Result B E
(Ok x) >>= f = f x
(Err e) >>= f = Err e

-- A number of at most k bytes at the front, and what follows it.
unfoldable pub varint_at : ℕ → List ℕ → Result (ℕ × List ℕ) VarintFault
varint_at zero bytes = Err Wrong
varint_at (suc k) [] = Err Ended
varint_at (suc k) (b ∷ bytes) = if nat_lt b 128 then Ok (b, bytes) else (varint_at k bytes >>= λ high. Ok (b % 128 + 128 * high.0, high.1))

-- A number at the front, in any spelling that is read, and what follows it.
unfoldable pub number_at : List ℕ → Result (ℕ × List ℕ) VarintFault
number_at bytes = varint_at 5 bytes >>= λ n. if nat_lt n.0 (2 ^ 32) then Ok n else Err Wrong

-- the place of what is left of so many bytes
abbrev pub offset_of : ℕ → List ℕ → ℕ
offset_of whole rest = whole - length rest

-- Each of them is a byte.
abbrev pub IsBytes : List ℕ → Type 0
IsBytes bytes = (i : ℕ) → get_or bytes i 0 < 256

-- The whole ends with this rest.
abbrev pub EndsWith : List ℕ → List ℕ → Type 0
EndsWith whole rest = (front : List ℕ) × (whole ≡ front ++ rest)

-- The bytes of a string, after its length. A fault is one of the entry at a place, or of the length at another.
abbrev pub text_from : ℕ → ℕ → ℕ → Result (ℕ × List ℕ) VarintFault → Result (List ℕ × List ℕ) BatchFault
text_from entry at limit (Err Ended) = Err (faults.ShortEntry entry)
text_from entry at limit (Err Wrong) = Err (faults.BadVarint at)
text_from entry at limit (Ok n) =
    if nat_lt limit n.0 then Err (faults.TooLong at)
    else if nat_lt (length n.1) n.0 then Err (faults.ShortEntry entry)
    else Ok (take n.0 n.1, drop n.0 n.1)

-- A string of the entry at a place, of at most so many bytes, and what follows it.
unfoldable pub string_at : ℕ → ℕ → ℕ → List ℕ → Result (List ℕ × List ℕ) BatchFault
string_at whole entry limit bytes = text_from entry (offset_of whole bytes) limit (number_at bytes)

-- What stands after the kind byte of a Set at a place: its key, then its value.
unfoldable pub set_at : ℕ → ℕ → List ℕ → Result (Entry × List ℕ) BatchFault
set_at whole entry bytes =
    string_at whole entry KEY_MAX bytes >>= λ key. string_at whole entry VALUE_MAX key.1 >>= λ value. Ok (Set key.0 value.0, value.1)

-- The same of a Delete: its key.
unfoldable pub delete_at : ℕ → ℕ → List ℕ → Result (Entry × List ℕ) BatchFault
delete_at whole entry bytes = string_at whole entry KEY_MAX bytes >>= λ key. Ok (Delete key.0, key.1)

-- The same of a Note: its bytes.
unfoldable pub note_at : ℕ → ℕ → List ℕ → Result (Entry × List ℕ) BatchFault
note_at whole entry bytes = string_at whole entry VALUE_MAX bytes >>= λ note. Ok (Note note.0, note.1)

-- The same of a RangeDelete: its start, then its end.
unfoldable pub range_delete_at : ℕ → ℕ → List ℕ → Result (Entry × List ℕ) BatchFault
range_delete_at whole entry bytes =
    string_at whole entry KEY_MAX bytes >>= λ start. string_at whole entry KEY_MAX start.1 >>= λ end. Ok (RangeDelete start.0 end.0, end.1)

-- The entry at the front of what is left, and what follows it.
unfoldable pub entry_at : ℕ → List ℕ → Result (Entry × List ℕ) BatchFault
entry_at whole [] = Err (faults.ShortEntry whole)
entry_at whole (kind ∷ bytes) =
    let at = offset_of whole (kind ∷ bytes) in
    if kind == 0 then delete_at whole at bytes
    else if kind == 1 then set_at whole at bytes
    else if kind == 3 then note_at whole at bytes
    else if kind == 15 then range_delete_at whole at bytes
    else Err (faults.UnknownKind at kind)

-- These entries stand at the front of what is left, one after another, and this follows them.
abbrev pub EntriesAt : ℕ → List ℕ → List Entry → List ℕ → Type 0
EntriesAt whole bytes [] rest = bytes ≡ rest
EntriesAt whole bytes (entry ∷ entries) rest = (after : List ℕ) × (entry_at whole bytes ≡ Ok (entry, after)) × EntriesAt whole after entries rest

-- The whole has a header, these entries, and this rest.
pub record Splits (bytes : List ℕ) (entries : List Entry) (rest : List ℕ) : Type 0 where
  pub size : length bytes ≤ BATCH_MAX
  pub header : 12 ≤ length bytes
  pub entries_are : EntriesAt (length bytes) (drop 12 bytes) entries rest

-- The entries before it are right, and the next has this fault.
pub record HasEntryFault (bytes : List ℕ) (fault : BatchFault) : Type 0 where
  pub before : List Entry
  pub rest : List ℕ
  pub splits : Splits bytes before rest
  pub some : rest ≢ []
  pub fault_is : entry_at (length bytes) rest ≡ Err fault

-- the first number of the header
abbrev pub first_said : List ℕ → ℕ
first_said bytes = from_le_bytes w64 (take 8 bytes)

-- the count of the header
abbrev pub count_said : List ℕ → ℕ
count_said bytes = from_le_bytes w32 (take 4 (drop 8 bytes))

-- The bytes read as the batch, to their end.
pub record ReadsAs (bytes : List ℕ) (batch : Batch) : Type 0 where
  pub splits : Splits bytes batch.entries []
  pub first : batch.first ≡ first_said bytes
  pub count : count_said bytes ≡ count_of batch.entries
  pub numbers : batch.first + count_of batch.entries ≤ NUMBER_MAX

-- The first fault of the bytes, from left to right.
pub data IsFirstFault (bytes : List ℕ) : BatchFault → Type 0 where
  too_long : BATCH_MAX < length bytes → IsFirstFault bytes (faults.TooLong 0)
  short_header : length bytes < 12 → IsFirstFault bytes faults.ShortHeader
  in_entry : (fault : BatchFault) → HasEntryFault bytes fault → IsFirstFault bytes fault
  other_count : (entries : List Entry)
      → Splits bytes entries [] → count_said bytes ≢ count_of entries
      → IsFirstFault bytes (faults.Count (count_said bytes) (count_of entries))
  past_numbers : (entries : List Entry)
      → Splits bytes entries [] → count_said bytes ≡ count_of entries → NUMBER_MAX < first_said bytes + count_of entries
      → IsFirstFault bytes (faults.SeqRange (first_said bytes))
