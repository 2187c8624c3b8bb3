-- The entries of a batch of a load make a batch, which takes one number or two.
use Rattle.std.proofs.Common.{◌≡◌, ℕ, zero, suc, ◌+◌, ◌-◌, ◌*◌, ◌/◌, ◌%◌, ◌<◌, ◌≤◌, ◌==◌, ◌≢◌, Bool, true, false, if◌then◌else◌, List, [], ◌∷◌, length, refl, arith}
use Rattle.std.specs.Prelude.{codes}
use Rattle.std.specs.Fmt.{digit_glyph}
use Rattle.std.specs.List.{flat_map, repeat}
use Rattle.std.proofs.lemmas.Bool.{lt-ltb, eqb-true, eqb-false}
use Rattle.std.proofs.lemmas.Nat.{mod_below}
use Rattle.std.proofs.lemmas.List.{length-append}
use Rattle.std.proofs.lemmas.List.Elements.{All-cons, All-nil}
use Rattle.wal_base.specs.declared.entry.Entry.{Entry}
use Rattle.wal_base.specs.declared.entry.Entry.TheVariants.{Set, Delete}
use Rattle.batch_repr.specs.declared.limits.TheConstants.{KEY_MAX, VALUE_MAX, BATCH_MAX}
use Rattle.batch_repr.specs.Batches.{count_of}
use Rattle.batch_repr.specs.Building.{MakesBatch}
use Rattle.batch_repr.specs.Limits.{IsWithinLimits}
use Rattle.batch_repr.specs.Written.{varint_within, varint, byte_string, written_entry, written_entries, written_len}
use Rattle.made_load.specs.Load.{last_digits, word_of_number, load_number, load_key, load_value, load_entries}

length-last_digits : (base k n : ℕ) → length (last_digits base k n) ≡ k
unfolding last_digits
length-last_digits base zero n = refl
length-last_digits base (suc k) n =
    omega (
      arith,
      length-append (last_digits base k (n / base)) (digit_glyph false (n % base) ∷ []),
      length-last_digits base k (n / base),
    )

length-repeat : (k : ℕ) (xs : List ℕ) → length (repeat k xs) ≡ k * length xs
length-repeat zero xs = omega arith
length-repeat (suc k) xs = omega (arith, length-append xs (repeat k xs), length-repeat k xs)

pub length-load_key : (i : ℕ) → length (load_key i) ≡ 5
unfolding load_key
length-load_key i = omega (arith, length-append (codes "k") (last_digits 10 4 (i % 1000)), length-last_digits 10 4 (i % 1000))

pub length-load_value : (seed i : ℕ) → length (load_value seed i) ≡ 64
unfolding load_value
length-load_value seed i =
    omega (
      arith,
      length-repeat 4 (word_of_number (load_number seed i)),
      length-last_digits 16 16 (load_number seed i),
    )

-- ---- as it is written

length-byte_string : (text : List ℕ) → length text < 128 → length (byte_string text) ≡ length text + 1
unfolding varint
length-byte_string text short =
    let one : length (varint_within 4 (length text)) ≡ 1 = rw (lt-ltb (length text) 128 short) refl in
    omega (arith, length-append (varint_within 4 (length text)) text, one)

length-set : (key value : List ℕ) → length key < 128 → length value < 128
    → length (written_entry (Set key value)) ≡ length key + length value + 3
unfolding written_entry
length-set key value short low =
    omega (
      arith,
      length-append (byte_string key) (byte_string value),
      length-byte_string key short,
      length-byte_string value low,
    )

length-delete : (key : List ℕ) → length key < 128 → length (written_entry (Delete key)) ≡ length key + 2
unfolding written_entry
length-delete key short = omega (arith, length-byte_string key short)

one_short : (set : Entry) → length (written_entry set) ≤ 1000 → written_len (set ∷ []) ≤ BATCH_MAX
unfolding written_entries
one_short set short = omega (arith, length-append (written_entry set) [])

two_short : (set delete : Entry) → length (written_entry set) ≤ 1000 → length (written_entry delete) ≤ 1000
    → written_len (set ∷ delete ∷ []) ≤ BATCH_MAX
unfolding written_entries
two_short set delete short low =
    omega (
      arith,
      length-append (written_entry set) (flat_map written_entry (delete ∷ [])),
      length-append (written_entry delete) [],
    )

-- ---- what they make

key_within : (i : ℕ) → length (load_key i) ≤ KEY_MAX
key_within i = omega (arith, length-load_key i)

value_within : (seed i : ℕ) → length (load_value seed i) ≤ VALUE_MAX
value_within seed i = omega (arith, length-load_value seed i)

set_short : (seed i : ℕ) → length (written_entry (Set (load_key i) (load_value seed i))) ≤ 1000
set_short seed i =
    let key = length-load_key i in
    let value = length-load_value seed i in
    omega (arith, length-set (load_key i) (load_value seed i) (omega arith) (omega arith))

delete_short : (i : ℕ) → length (written_entry (Delete (load_key i))) ≤ 1000
delete_short i = let key = length-load_key i in omega (arith, length-delete (load_key i) (omega arith))

-- the entries of batch i, which deletes the key of number j or none
abbrev entries_by : ℕ → ℕ → ℕ → Bool → List Entry
entries_by seed i j deletes = Set (load_key i) (load_value seed i) ∷ (if deletes then Delete (load_key j) ∷ [] else [])

makes : (seed i j : ℕ) (deletes : Bool) → MakesBatch (entries_by seed i j deletes)
makes seed i j true = record {
  fits =
      record {
        limits =
            All-cons IsWithinLimits (Set (load_key i) (load_value seed i)) (Delete (load_key j) ∷ []) (key_within i, value_within seed i)
            (All-cons IsWithinLimits (Delete (load_key j)) [] (key_within j) (All-nil IsWithinLimits));
        size = two_short (Set (load_key i) (load_value seed i)) (Delete (load_key j)) (set_short seed i) (delete_short j);
      };
  some = omega arith;
}
makes seed i j false = record {
  fits =
      record {
        limits =
            All-cons IsWithinLimits (Set (load_key i) (load_value seed i)) [] (key_within i, value_within seed i) (All-nil IsWithinLimits);
        size = one_short (Set (load_key i) (load_value seed i)) (set_short seed i);
      };
  some = omega arith;
}

pub makes_batch : (seed i : ℕ) → MakesBatch (load_entries seed i)
unfolding load_entries
makes_batch seed i = makes seed i (i - 4) (i % 8 == 7)

counts_by : (seed i : ℕ) (deletes : Bool) → (i % 8 == 7) ≡ deletes
    → i + i / 8 + count_of (entries_by seed i (i - 4) deletes) ≡ i + 1 + (i + 1) / 8
counts_by seed i true is = let last : i % 8 ≡ 7 = eqb-true (i % 8) 7 is in omega arith
counts_by seed i false is = let other : i % 8 ≢ 7 = eqb-false (i % 8) 7 is in omega (arith, mod_below i 8 (omega arith))

-- Each eighth batch takes one number more.
pub counts_of : (seed i : ℕ) → i + i / 8 + count_of (load_entries seed i) ≡ i + 1 + (i + 1) / 8
unfolding load_entries
counts_of seed i = counts_by seed i (i % 8 == 7) refl
