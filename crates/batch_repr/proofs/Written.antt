-- What is written spells its batch.
use Rattle.std.proofs.Common.{◌≡◌, ℕ, zero, suc, ◌+◌, ◌*◌, ◌/◌, ◌%◌, ◌^◌, ◌<◌, ◌≤◌, List, [], ◌∷◌, ◌++◌, length, drop, refl, ap, ◌∙◌, arith, subst, inl, inr}
use Rattle.std.specs.Prelude.{replicate}
use Rattle.std.specs.Int.{w32, w64, to_le_bytes}
use Rattle.std.specs.List.{flat_map, AllByRecursion}
use Rattle.std.proofs.Math.Nat.{pow-suc}
use Rattle.std.proofs.lemmas.Bool.{lt-ltb, le-ltb, cases_lt}
use Rattle.std.proofs.lemmas.List.{length-append, drop_at}
use Rattle.std.proofs.lemmas.List.Elements.{recursion_from_All}
use Rattle.wal_base.specs.declared.entry.Entry.{Entry}
use Rattle.wal_base.specs.declared.entry.Entry.TheVariants.{Set, Delete, Note, RangeDelete}
use Rattle.batch_repr.specs.declared.batch.Batch.{Batch}
use Rattle.batch_repr.specs.Batches.{count_of, end_of}
use Rattle.batch_repr.specs.Spelling.{IsVarint, varint_value, SpellsNumber, SpellsString, SpellsEntry, SpellsEntries, SpellsBatch}
use Rattle.batch_repr.specs.Limits.{IsWithinLimits}
use Rattle.batch_repr.specs.declared.limits.TheConstants.{NUMBER_MAX}
use Rattle.batch_repr.specs.Written.{varint_within, varint, byte_string, written_entry, written_entries, written}
use Rattle.batch_repr.specs.Building.{FitsBatch}
use Rattle.batch_repr.specs.Draft.{IsDraft, IsWritten}

record Shape (bytes : List ℕ) (most n : ℕ) : Type 0 where
  varint_is : IsVarint bytes
  short : length bytes ≤ most
  value : varint_value bytes ≡ n

one : (n : ℕ) (most : ℕ) → n < 128 → 0 < most → Shape (n ∷ []) most n
one n most low some = record { varint_is = low; short = omega arith; value = omega arith }

longer : (b high most : ℕ) (bytes : List ℕ) → 128 ≤ b → b < 256 → Shape bytes most high → Shape (b ∷ bytes) (suc most) (b % 128 + 128 * high)
longer b high most [] h l s = absurd s.varint_is
longer b high most (x ∷ bytes) h l s = record {
  varint_is = (h, l, s.varint_is);
  short = omega (arith, s.short);
  value = ap (λ (m : ℕ). b % 128 + 128 * m) s.value;
}

shape : (k n : ℕ) → n < 128 * 128 ^ k → Shape (varint_within k n) (suc k) n
shape zero n h = one n 1 (omega arith) (omega arith)
shape (suc k) n h =
    elim (cases_lt n 128) [
      | inl low ↦ rw (lt-ltb n 128 low) (one n (suc (suc k)) low (omega arith))
      | inr high ↦
          let inner = shape k (n / 128) (omega (arith, rw pow-suc at h)) in
          let value : (n % 128 + 128) % 128 + 128 * (n / 128) ≡ n = omega arith in
          rw (le-ltb n 128 high) (subst (λ (m : ℕ). Shape ((n % 128 + 128) ∷ varint_within k (n / 128)) (suc (suc k)) m) value
          (longer (n % 128 + 128) (n / 128) (suc k) (varint_within k (n / 128)) (omega arith) (omega arith) inner))
    ]

pub varint_spells : (n : ℕ) → n < 2 ^ 32 → SpellsNumber (varint n) n
unfolding varint
varint_spells n h =
    let s = shape 4 n (omega arith) in
    record { varint = s.varint_is; short = s.short; value = s.value; fits = h }

byte_string_spells : (text : List ℕ) → length text < 2 ^ 32 → SpellsString (byte_string text) text
byte_string_spells text h = record { len = varint (length text); number = varint_spells (length text) h; is = refl }

entry_spells : (entry : Entry) → IsWithinLimits entry → SpellsEntry (written_entry entry) entry
unfolding written_entry
entry_spells (Set key value) h = (
  byte_string key,
  byte_string value,
  byte_string_spells key (omega (arith, h.0)),
  byte_string_spells value (omega (arith, h.1)),
  refl,
)
entry_spells (Delete key) h = (byte_string key, byte_string_spells key (omega arith), refl)
entry_spells (Note bytes) h = (byte_string bytes, byte_string_spells bytes (omega arith), refl)
entry_spells (RangeDelete start end) h = (
  byte_string start,
  byte_string end,
  byte_string_spells start (omega (arith, h.0)),
  byte_string_spells end (omega (arith, h.1)),
  refl,
)

pub entries_spell : (entries : List Entry) → AllByRecursion IsWithinLimits entries → SpellsEntries (written_entries entries) entries
unfolding written_entries
entries_spell [] h = refl
entries_spell (entry ∷ entries) h = (written_entry entry, flat_map written_entry entries, entry_spells entry h.0, entries_spell entries h.1, refl)

pub batch_spelled : (bytes : List ℕ) (batch : Batch) (count : ℕ) → IsWritten bytes batch count → SpellsBatch bytes batch
unfolding written
batch_spelled bytes batch count w = record {
  body = written_entries batch.entries;
  is = w.written_is;
  entries = entries_spell batch.entries (recursion_from_All IsWithinLimits batch.entries w.limits);
  limits = w.limits;
  size = w.size;
  numbers = omega (arith, w.numbers, w.count_is);
}

pub written_spells : (batch : Batch) → FitsBatch batch.entries → end_of batch ≤ NUMBER_MAX → SpellsBatch (written batch) batch
unfolding written
written_spells batch fits within = record {
  body = written_entries batch.entries;
  is = refl;
  entries = entries_spell batch.entries (recursion_from_All IsWithinLimits batch.entries fits.limits);
  limits = fits.limits;
  size = omega (arith, fits.size, length-append (to_le_bytes w64 batch.first ++ to_le_bytes w32 (count_of batch.entries)) (written_entries batch.entries));
  numbers = within;
}

-- ---- a draft

entry_some : (entry : Entry) → 0 < length (written_entry entry)
unfolding written_entry
entry_some (Set key value) = omega arith
entry_some (Delete key) = omega arith
entry_some (Note bytes) = omega arith
entry_some (RangeDelete start end) = omega arith

pub entries_few : (entries : List Entry) → length entries ≤ length (written_entries entries)
unfolding written_entries
entries_few [] = omega arith
entries_few (entry ∷ entries) = omega (arith, entry_some entry, entries_few entries, length-append (written_entry entry) (flat_map written_entry entries))

pub draft_few : (bytes : List ℕ) (entries : List Entry) → IsDraft bytes entries → length entries < 2 ^ 32
draft_few bytes entries d = omega (arith, d.size, ap length d.spelled, length-append (replicate 12 0) (written_entries entries), entries_few entries)

pub draft_none : (bytes : List ℕ) → bytes ≡ replicate 12 0 → IsDraft bytes []
unfolding written_entries
draft_none bytes e = record { spelled = e; limits = λ k d h. absurd (omega arith); size = omega (arith, ap length e) }

pub draft_written : (bytes bytes' : List ℕ) (entries : List Entry) (first count : ℕ) → IsDraft bytes entries → count ≡ count_of entries
    → 0 < count → first + count_of entries ≤ NUMBER_MAX
    → bytes' ≡ to_le_bytes w64 first ++ to_le_bytes w32 count ++ drop 12 bytes → IsWritten bytes' (record { first = first; entries = entries }) count
unfolding written
draft_written bytes bytes' entries first count d e some within f =
    let body : drop 12 bytes ≡ written_entries entries = ap (drop 12) d.spelled ∙ drop_at (replicate 12 0) (written_entries entries) 12 refl in
    let is : bytes' ≡ to_le_bytes w64 first ++ to_le_bytes w32 (count_of entries) ++ written_entries entries =
    f ∙ ap (λ (t : List ℕ). to_le_bytes w64 first ++ to_le_bytes w32 count ++ t) body
    ∙ ap (λ (n : ℕ). to_le_bytes w64 first ++ to_le_bytes w32 n ++ written_entries entries) e in
    record {
      written_is = is;
      count_is = e;
      some = some;
      numbers = omega arith;
      limits = d.limits;
      size = omega (
        arith,
        d.size,
        ap length d.spelled,
        ap length is,
        length-append (replicate 12 0) (written_entries entries),
        length-append (to_le_bytes w64 first ++ to_le_bytes w32 (count_of entries)) (written_entries entries),
      );
    }
