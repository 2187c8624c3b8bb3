-- The bytes that spell a batch, in any spelling that is read (docs/formats/log.md, "The batch text").
use Rattle.std.specs.Prelude.{◌≡◌, ℕ, ◌+◌, ◌*◌, ◌%◌, ◌^◌, ◌<◌, ◌≤◌, List, [], ◌∷◌, ◌++◌, length, All}
use Rattle.std.specs.Int.{w32, w64, to_le_bytes}
use Rattle.wal_base.specs.declared.entry.Entry.{Entry}
use Rattle.wal_base.specs.declared.entry.Entry.TheVariants.{Set, Delete, Note, RangeDelete}
use Rattle.batch_repr.specs.declared.batch.Batch.{Batch}
use Rattle.batch_repr.specs.declared.limits.TheConstants.{BATCH_MAX, NUMBER_MAX}
use Rattle.batch_repr.specs.Batches.{count_of}
use Rattle.batch_repr.specs.Limits.{IsWithinLimits}

-- Every byte but the last says that one follows, by its highest bit.
abbrev pub IsVarint : List ℕ → Type 0
IsVarint [] = ⊥
IsVarint (b ∷ []) = b < 128
IsVarint (b ∷ c ∷ bytes) = (128 ≤ b) × (b < 256) × IsVarint (c ∷ bytes)

-- what the bytes stand for, seven bits of each, lowest first
abbrev pub varint_value : List ℕ → ℕ
varint_value [] = 0
varint_value (b ∷ bytes) = b % 128 + 128 * varint_value bytes

-- One to five bytes spell a number below 2 ^ 32. The highest of them may be 0.
pub record SpellsNumber (bytes : List ℕ) (n : ℕ) : Type 0 where
  pub varint : IsVarint bytes
  pub short : length bytes ≤ 5
  pub value : varint_value bytes ≡ n
  pub fits : n < 2 ^ 32

-- The length in any spelling, then the bytes.
pub record SpellsString (bytes text : List ℕ) : Type 0 where
  pub len : List ℕ
  pub number : SpellsNumber len (length text)
  pub is : bytes ≡ len ++ text

-- A kind byte, then a byte string; a Set and a RangeDelete have a second one.
abbrev pub SpellsEntry : List ℕ → Entry → Type 0
SpellsEntry bytes (Set key value) = (k : List ℕ) × (v : List ℕ) × SpellsString k key × SpellsString v value × (bytes ≡ 1 ∷ k ++ v)
SpellsEntry bytes (Delete key) = (k : List ℕ) × SpellsString k key × (bytes ≡ 0 ∷ k)
SpellsEntry bytes (Note note) = (n : List ℕ) × SpellsString n note × (bytes ≡ 3 ∷ n)
SpellsEntry bytes (RangeDelete start end) = (s : List ℕ) × (e : List ℕ) × SpellsString s start × SpellsString e end × (bytes ≡ 15 ∷ s ++ e)

-- One entry after another.
abbrev pub SpellsEntries : List ℕ → List Entry → Type 0
SpellsEntries bytes [] = bytes ≡ []
SpellsEntries bytes (entry ∷ entries) = (front : List ℕ) × (rest : List ℕ) × SpellsEntry front entry × SpellsEntries rest entries × (bytes ≡ front ++ rest)

-- The bytes spell the batch: its first number, its count, and its entries.
pub record SpellsBatch (bytes : List ℕ) (batch : Batch) : Type 0 where
  pub body : List ℕ
  pub is : bytes ≡ to_le_bytes w64 batch.first ++ to_le_bytes w32 (count_of batch.entries) ++ body
  pub entries : SpellsEntries body batch.entries
  pub limits : All IsWithinLimits batch.entries
  pub size : length bytes ≤ BATCH_MAX
  pub numbers : batch.first + count_of batch.entries ≤ NUMBER_MAX
