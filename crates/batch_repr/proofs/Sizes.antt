-- How many bytes a number and a batch take as they are written.
use Rattle.std.proofs.Common.{◌≡◌, ℕ, zero, suc, ◌+◌, ◌<◌, ◌≤◌, ◌^◌, ◌/◌, List, [], ◌∷◌, ◌++◌, length, take, drop, refl, sym, ap, ◌∙◌, arith, subst}
use Rattle.std.proofs.Math.ListN.{get_or}
use Rattle.std.proofs.lemmas.Bool.{lt-ltb, le-ltb}
use Rattle.std.proofs.lemmas.List.{length-append, take-append-drop, take_more}
use Rattle.std.proofs.lemmas.List.Elements.{All-push}
use Rattle.std.proofs.lemmas.Grind.{flat_map-append}
use Rattle.std.specs.List.{flat_map, All}
use Rattle.wal_base.specs.declared.entry.Entry.{Entry}
use Rattle.batch_repr.specs.Limits.{IsWithinLimits}
use Rattle.batch_repr.specs.Written.{varint_within, varint, written_entry, written_entries, written_len}
use Rattle.batch_repr.specs.Building.{FitsBatch}
use Rattle.batch_repr.proofs.Drafts.{written_entries-push}
use Rattle.batch_repr.proofs.Written.{entries_few}

last_is : (k n : ℕ) → n < 128 → length (varint_within k n) ≡ 1
last_is zero n low = refl
last_is (suc k) n low = rw (lt-ltb n 128 low) refl

step_is : (k n size : ℕ) → 128 ≤ n → length (varint_within k (n / 128)) ≡ size → length (varint_within (suc k) n) ≡ suc size
step_is k n size high e = rw (le-ltb n 128 high) (ap suc e)

pub one : (n : ℕ) → n < 128 → 1 ≡ length (varint n)
unfolding varint
one n low = sym (last_is 4 n low)

pub two : (n : ℕ) → 128 ≤ n → n < 16384 → 2 ≡ length (varint n)
unfolding varint
two n high low = sym (step_is 3 n 1 high (last_is 3 (n / 128) (omega arith)))

pub three : (n : ℕ) → 16384 ≤ n → n < 2097152 → 3 ≡ length (varint n)
unfolding varint
three n high low = sym (step_is 3 n 2 (omega arith) (step_is 2 (n / 128) 1 (omega arith) (last_is 2 (n / 128 / 128) (omega arith))))

pub four : (n : ℕ) → 2097152 ≤ n → n < 268435456 → 4 ≡ length (varint n)
unfolding varint
four n high low = sym (step_is 3 n 3 (omega arith) (step_is 2 (n / 128) 2 (omega arith) (step_is 1 (n / 128 / 128) 1 (omega arith)
    (last_is 1 (n / 128 / 128 / 128) (omega arith)))))

pub five : (n : ℕ) → 268435456 ≤ n → 5 ≡ length (varint n)
unfolding varint
five n high = sym (step_is 3 n 4 (omega arith) (step_is 2 (n / 128) 3 (omega arith) (step_is 1 (n / 128 / 128) 2 (omega arith)
    (step_is 0 (n / 128 / 128 / 128) 1 (omega arith) refl))))

-- ---- entries

pub entries_none : written_entries [] ≡ []
unfolding written_entries
entries_none = refl

pub none_sized : 12 ≡ written_len []
unfolding written_entries
none_sized = refl

front_more : (entries : List Entry) (i : ℕ) (entry : Entry) → i < length entries → entry ≡ get_or entries i entry
    → take (i + 1) entries ≡ take i entries ++ entry ∷ []
front_more entries i entry below is = take_more entries i entry below ∙ ap (λ (e : Entry). take i entries ++ e ∷ []) (sym is)

pub entries_more : (entries : List Entry) (i : ℕ) (entry : Entry) → i < length entries → entry ≡ get_or entries i entry
    → written_entries (take (i + 1) entries) ≡ written_entries (take i entries) ++ written_entry entry
entries_more entries i entry below is = ap written_entries (front_more entries i entry below is) ∙ written_entries-push (take i entries) entry

pub size_more : (entries : List Entry) (i : ℕ) (entry : Entry) → i < length entries → entry ≡ get_or entries i entry
    → written_len (take (i + 1) entries) ≡ written_len (take i entries) + length (written_entry entry)
size_more entries i entry below is = omega (
  arith,
  ap length (entries_more entries i entry below is),
  length-append (written_entries (take i entries)) (written_entry entry),
)

pub front_size : (entries : List Entry) (i : ℕ) → written_len (take i entries) ≤ written_len entries
unfolding written_entries
front_size entries i = omega (
  arith,
  ap (λ (es : List Entry). length (flat_map written_entry es)) (take-append-drop i entries),
  ap length (flat_map-append written_entry (take i entries) (drop i entries)),
  length-append (flat_map written_entry (take i entries)) (flat_map written_entry (drop i entries)),
)

pub fits_few : (entries : List Entry) → FitsBatch entries → length entries < 2 ^ 32
fits_few entries fits = omega (arith, fits.size, entries_few entries)

pub limits_more : (entries : List Entry) (i : ℕ) (entry : Entry) → i < length entries → entry ≡ get_or entries i entry
    → All IsWithinLimits (take i entries) → IsWithinLimits entry → All IsWithinLimits (take (i + 1) entries)
limits_more entries i entry below is all here = subst (All IsWithinLimits) (sym (front_more entries i entry below is))
    (All-push IsWithinLimits (take i entries) entry all here)
