-- The versions of batches in a row: each number is within the batches, and they ascend.
use Rattle.std.proofs.Common.{◌≡◌, inl, inr, ℕ, ◌+◌, ◌≤◌, ◌<◌, Bool, true, false, cond, List, [], ◌∷◌, ◌++◌, refl, sym, ap, ◌∙◌, subst, arith, append_assoc}
use Rattle.std.specs.Prelude.{Contains}
use Rattle.std.proofs.lemmas.List.Elements.{Contains-append_cases}
use Rattle.std.proofs.lemmas.List.Sums.{sum_by-append, sum_by-cons}
use Rattle.wal_base.proofs.Laws.{none_within, within_head, within_tail, within_cases}
use Rattle.wal_base.specs.declared.entry.Entry.{Entry}
use Rattle.batch_repr.specs.declared.batch.Batch.{Batch}
use Rattle.batch_repr.specs.Batches.{is_counted, count_of, end_of, IsContiguous, end_after}
use Rattle.batch_repr.specs.Versions.{Version, versions_from, versions_of, versions_in}
use Rattle.batch_repr.proofs.Laws.{end_up}

-- ---- how many numbers are taken

pub counted : (entry : Entry) (entries : List Entry) → count_of (entry ∷ entries) ≡ cond (is_counted entry) 1 0 + count_of entries
counted entry entries = sum_by-cons (λ (e : Entry). cond (is_counted e) 1 0) entry entries

pub count-append : (xs ys : List Entry) → count_of (xs ++ ys) ≡ count_of xs + count_of ys
count-append xs ys = sum_by-append (λ (e : Entry). cond (is_counted e) 1 0) xs ys

-- an entry that takes a number, and one that takes none
pub one_more : (entry : Entry) (entries : List Entry) → is_counted entry ≡ true → count_of (entry ∷ entries) ≡ count_of entries + 1
one_more entry entries e = counted entry entries ∙ ap (λ (b : Bool). cond b 1 0 + count_of entries) e ∙ omega arith

pub none_more : (entry : Entry) (entries : List Entry) → is_counted entry ≡ false → count_of (entry ∷ entries) ≡ count_of entries
none_more entry entries e = counted entry entries ∙ ap (λ (b : Bool). cond b 1 0 + count_of entries) e ∙ omega arith

-- ---- where they stand

abbrev version_under : Entry → ℕ → Version
version_under entry number = record { entry = entry; number = number }

abbrev IsWithin : ℕ → ℕ → Version → Type 0
IsWithin from to version = (from ≤ version.number) × (version.number < to)

pub number_within : (number : ℕ) (entries : List Entry) (version : Version) → Contains (versions_from number entries) version
    → (number ≤ version.number) × (version.number < number + count_of entries)
unfolding versions_from
number_within number [] version h = absurd (none_within version h)
number_within number (entry ∷ entries) version h =
    go (number_within (number + 1) entries version) (number_within number entries version) (is_counted entry) refl h
  where
    go : (Contains (versions_from (number + 1) entries) version → IsWithin (number + 1) (number + 1 + count_of entries) version)
        → (Contains (versions_from number entries) version → IsWithin number (number + count_of entries) version)
        → (b : Bool) → is_counted entry ≡ b
        → Contains (cond b (version_under entry number ∷ versions_from (number + 1) entries) (versions_from number entries)) version
        → IsWithin number (number + count_of (entry ∷ entries)) version
    go more same true e h = elim (within_cases (version_under entry number) (versions_from (number + 1) entries) version h) [
      | inl is ↦ let at = ap (λ (v : Version). v.number) is in (omega (arith, at), omega (arith, at, one_more entry entries e))
      | inr later ↦ let w = more later in (omega (arith, w.0), omega (arith, w.1, one_more entry entries e))
    ]
    go more same false e h = let w = same h in (w.0, omega (arith, w.1, none_more entry entries e))

pub version_within : (from : ℕ) (batches : List Batch) (version : Version) → IsContiguous from batches → Contains (versions_in batches) version
    → (from ≤ version.number) × (version.number < end_after from batches)
unfolding IsContiguous end_after
version_within from [] version row h = absurd (none_within version h)
version_within from (batch ∷ batches) version (first, some, rest) h =
    elim (Contains-append_cases (versions_of batch) (versions_in batches) version h) [
      | inl here ↦ let w = number_within batch.first batch.entries version here in
          (omega (arith, first, w.0), omega (arith, w.1, end_up (end_of batch) batches rest))
      | inr later ↦ let w = version_within (end_of batch) batches version rest later in (omega (arith, first, some, w.0), w.1)
    ]

-- ---- they ascend

-- Each version has a smaller number than those after it.
unfoldable pub AscendNumbers : List Version → Type 0
AscendNumbers [] = Unit {0}
AscendNumbers (version ∷ versions) = ((later : Version) → Contains versions later → version.number < later.number) × AscendNumbers versions

ascend_entries : (number : ℕ) (entries : List Entry) → AscendNumbers (versions_from number entries)
unfolding versions_from AscendNumbers
ascend_entries number [] = tt
ascend_entries number (entry ∷ entries) = go (ascend_entries (number + 1) entries) (ascend_entries number entries) (is_counted entry)
  where
    go : AscendNumbers (versions_from (number + 1) entries) → AscendNumbers (versions_from number entries) → (b : Bool)
        → AscendNumbers (cond b (version_under entry number ∷ versions_from (number + 1) entries) (versions_from number entries))
    go more same true = (λ later h. let w = number_within (number + 1) entries later h in omega (arith, w.0), more)
    go more same false = same

ascend_append : (xs ys : List Version) → AscendNumbers xs → AscendNumbers ys
    → ((x y : Version) → Contains xs x → Contains ys y → x.number < y.number) → AscendNumbers (xs ++ ys)
unfolding AscendNumbers
ascend_append [] ys a b apart = b
ascend_append (x ∷ xs) ys a b apart = (
  λ later h. elim (Contains-append_cases xs ys later h) [ inl here ↦ a.0 later here | inr there ↦ apart x later (within_head x xs) there ],
  ascend_append xs ys a.1 b (λ y z h. apart y z (within_tail x xs y h)),
)

pub ascend_batches : (from : ℕ) (batches : List Batch) → IsContiguous from batches → AscendNumbers (versions_in batches)
unfolding IsContiguous AscendNumbers
ascend_batches from [] row = tt
ascend_batches from (batch ∷ batches) (first, some, rest) = ascend_append (versions_of batch) (versions_in batches)
    (ascend_entries batch.first batch.entries) (ascend_batches (end_of batch) batches rest)
    (λ x y here there.
    let w = number_within batch.first batch.entries x here in
    let v = version_within (end_of batch) batches y rest there in
    omega (arith, w.1, v.0))

-- ---- in parts

pub versions_in-append : (xs ys : List Batch) → versions_in (xs ++ ys) ≡ versions_in xs ++ versions_in ys
versions_in-append [] ys = refl
versions_in-append (x ∷ xs) ys = ap (λ (t : List Version). versions_of x ++ t) (versions_in-append xs ys)
    ∙ sym (append_assoc (versions_of x) (versions_in xs) (versions_in ys))

pub versions-append : (number : ℕ) (xs ys : List Entry)
    → versions_from number (xs ++ ys) ≡ versions_from number xs ++ versions_from (number + count_of xs) ys
unfolding versions_from
versions-append number [] ys = ap (λ (n : ℕ). versions_from n ys) (omega arith)
versions-append number (entry ∷ xs) ys = go (versions-append (number + 1) xs ys) (versions-append number xs ys) (is_counted entry) refl
  where
    back : ℕ → List Version
    back n = versions_from n ys

    go : versions_from (number + 1) (xs ++ ys) ≡ versions_from (number + 1) xs ++ back (number + 1 + count_of xs)
        → versions_from number (xs ++ ys) ≡ versions_from number xs ++ back (number + count_of xs)
        → (b : Bool) → is_counted entry ≡ b
        → cond b (version_under entry number ∷ versions_from (number + 1) (xs ++ ys)) (versions_from number (xs ++ ys))
        ≡ cond b (version_under entry number ∷ versions_from (number + 1) xs) (versions_from number xs) ++ back (number + count_of (entry ∷ xs))
    go more same true e = ap (λ (t : List Version). version_under entry number ∷ t)
        (more ∙ ap (λ (n : ℕ). versions_from (number + 1) xs ++ back n) (omega (arith, one_more entry xs e)))
    go more same false e = same ∙ ap (λ (n : ℕ). versions_from number xs ++ back n) (omega (arith, none_more entry xs e))
