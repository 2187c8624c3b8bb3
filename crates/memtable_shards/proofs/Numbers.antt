-- The versions of batches that are numbered one after another are those of all their entries, numbered from the first on.
use Rattle.std.proofs.Common.{◌≡◌, ◌⊎◌, inl, inr, ℕ, ◌+◌, ◌≤◌, ◌<◌, cond, List, [], ◌∷◌, ◌++◌, length, refl, sym, ap, ◌∙◌, arith}
use Rattle.std.specs.Prelude.{Contains}
use Rattle.std.proofs.lemmas.List.Sums.{sum_by-append, sum_by-cons}
use Rattle.wal_base.proofs.Laws.{none_within, within_cases}
use Rattle.wal_base.specs.declared.entry.Entry.{Entry}
use Rattle.wal_base.specs.declared.entry.Entry.TheVariants.{Set, Delete, Note, RangeDelete}
use Rattle.batch_repr.specs.declared.batch.Batch.{Batch}
use Rattle.batch_repr.specs.Batches.{count_of, is_counted, end_of, IsContiguous, end_after, entries_in}
use Rattle.memtable_shards.specs.Versions.{Version}
use Rattle.memtable_shards.specs.Versions.{versions_from, versions_of, versions_in}

-- ---- numbers

-- one entry more
counted : (entry : Entry) (xs : List Entry) → count_of (entry ∷ xs) ≡ cond (is_counted entry) 1 0 + count_of xs
counted entry xs = sum_by-cons (λ (e : Entry). cond (is_counted e) 1 0) entry xs

-- so many versions as numbers
pub count_is_length : (number : ℕ) (entries : List Entry) → length (versions_from number entries) ≡ count_of entries
unfolding versions_from
count_is_length number [] = refl
count_is_length number (Set key value ∷ entries) = omega (arith, count_is_length (number + 1) entries, counted (Set key value) entries)
count_is_length number (Delete key ∷ entries) = omega (arith, count_is_length (number + 1) entries, counted (Delete key) entries)
count_is_length number (Note bytes ∷ entries) = omega (arith, count_is_length number entries, counted (Note bytes) entries)
count_is_length number (RangeDelete start end ∷ entries) =
    omega (arith, count_is_length (number + 1) entries, counted (RangeDelete start end) entries)

pub versions-append : (number : ℕ) (xs ys : List Entry) → versions_from number (xs ++ ys) ≡ versions_from number xs ++ versions_from (number + count_of xs) ys
unfolding versions_from
versions-append number [] ys = ap (λ (n : ℕ). versions_from n ys) (omega arith)
versions-append number (Set key value ∷ xs) ys = ap (λ (t : List Version). record { entry = Set key value; number = number } ∷ t)
    (versions-append (number + 1) xs ys ∙ ap (λ (n : ℕ). versions_from (number + 1) xs ++ versions_from n ys) (omega (arith, counted (Set key value) xs)))
versions-append number (Delete key ∷ xs) ys = ap (λ (t : List Version). record { entry = Delete key; number = number } ∷ t)
    (versions-append (number + 1) xs ys ∙ ap (λ (n : ℕ). versions_from (number + 1) xs ++ versions_from n ys) (omega (arith, counted (Delete key) xs)))
versions-append number (RangeDelete start end ∷ xs) ys = ap (λ (t : List Version). record { entry = RangeDelete start end; number = number } ∷ t)
    (versions-append (number + 1) xs ys ∙ ap (λ (n : ℕ). versions_from (number + 1) xs ++ versions_from n ys)
    (omega (arith, counted (RangeDelete start end) xs)))
versions-append number (Note bytes ∷ xs) ys = versions-append number xs ys
    ∙ ap (λ (n : ℕ). versions_from number xs ++ versions_from n ys) (omega (arith, counted (Note bytes) xs))

pub versions_together : (from : ℕ) (batches : List Batch) → IsContiguous from batches → versions_in batches ≡ versions_from from (entries_in batches)
unfolding IsContiguous versions_from
versions_together from [] h = refl
versions_together from (b ∷ batches) h =
    ap (λ (t : List Version). versions_of b ++ t) (versions_together (end_of b) batches h.2)
    ∙ ap (λ (n : ℕ). versions_from n b.entries ++ versions_from (n + count_of b.entries) (entries_in batches)) h.0
    ∙ sym (versions-append from b.entries (entries_in batches))

pub count-append : (xs ys : List Entry) → count_of (xs ++ ys) ≡ count_of xs + count_of ys
count-append xs ys = sum_by-append (λ (e : Entry). cond (is_counted e) 1 0) xs ys

pub end_together : (from : ℕ) (batches : List Batch) → IsContiguous from batches → end_after from batches ≡ from + count_of (entries_in batches)
unfolding IsContiguous end_after
end_together from [] h = omega arith
end_together from (b ∷ batches) h = omega (arith, h.0, end_together (end_of b) batches h.2, count-append b.entries (entries_in batches))

-- each version has a number from the first on
pub number_within : (number : ℕ) (entries : List Entry) (v : Version) → Contains (versions_from number entries) v
    → (number ≤ v.number) × (v.number < number + count_of entries)
unfolding versions_from
number_within number [] v h = absurd (none_within v h)
number_within number (Set key value ∷ entries) v h = elim
    (within_cases (record { entry = Set key value; number = number }) (versions_from (number + 1) entries) v h) [
      | inl e ↦ let is : number ≡ v.number = ap (λ (x : Version). x.number) e in (omega (arith, is), omega (arith, is, counted (Set key value) entries))
      | inr rest ↦ let r = number_within (number + 1) entries v rest in (omega (arith, r.0), omega (arith, r.1, counted (Set key value) entries))
    ]
number_within number (Delete key ∷ entries) v h = elim (within_cases (record { entry = Delete key; number = number })
    (versions_from (number + 1) entries) v h) [
      | inl e ↦ let is : number ≡ v.number = ap (λ (x : Version). x.number) e in (omega (arith, is), omega (arith, is, counted (Delete key) entries))
      | inr rest ↦ let r = number_within (number + 1) entries v rest in (omega (arith, r.0), omega (arith, r.1, counted (Delete key) entries))
    ]
number_within number (RangeDelete start end ∷ entries) v h = elim (within_cases (record { entry = RangeDelete start end; number = number })
    (versions_from (number + 1) entries) v h) [
      | inl e ↦ let is : number ≡ v.number = ap (λ (x : Version). x.number) e in (omega (arith, is), omega (arith, is, counted (RangeDelete start end) entries))
      | inr rest ↦ let r = number_within (number + 1) entries v rest in (omega (arith, r.0), omega (arith, r.1, counted (RangeDelete start end) entries))
    ]
number_within number (Note bytes ∷ entries) v h = let r =
    number_within number entries v h in (omega (arith, r.0), omega (arith, r.1, counted (Note bytes) entries))

-- no two versions have one number
pub one_number : (number : ℕ) (entries : List Entry) (v w : Version) → Contains (versions_from number entries) v
    → Contains (versions_from number entries) w → v.number ≡ w.number → v ≡ w
unfolding versions_from
one_number number [] v w h k e = absurd (none_within v h)
one_number number (Set key value ∷ entries) v w h k e = first (record { entry = Set key value; number = number }) refl
    (one_number (number + 1) entries v w) (within_cases _ (versions_from (number + 1) entries) v h) (within_cases _ (versions_from (number + 1) entries) w k)
  where
    first : (x : Version) → x.number ≡ number
        → (Contains (versions_from (number + 1) entries) v → Contains (versions_from (number + 1) entries) w → v.number ≡ w.number → v ≡ w)
        → (x ≡ v) ⊎ Contains (versions_from (number + 1) entries) v → (x ≡ w) ⊎ Contains (versions_from (number + 1) entries) w → v ≡ w
    first x is rest (inl a) (inl b) = sym a ∙ b
    first x is rest (inl a) (inr b) = absurd (omega (arith, e, is, ap (λ (y : Version). y.number) a, (number_within (number + 1) entries w b).0))
    first x is rest (inr a) (inl b) = absurd (omega (arith, e, is, ap (λ (y : Version). y.number) b, (number_within (number + 1) entries v a).0))
    first x is rest (inr a) (inr b) = rest a b e
one_number number (Delete key ∷ entries) v w h k e = first (record { entry = Delete key; number = number }) refl (one_number (number + 1) entries v w)
    (within_cases _ (versions_from (number + 1) entries) v h) (within_cases _ (versions_from (number + 1) entries) w k)
  where
    first : (x : Version) → x.number ≡ number
        → (Contains (versions_from (number + 1) entries) v → Contains (versions_from (number + 1) entries) w → v.number ≡ w.number → v ≡ w)
        → (x ≡ v) ⊎ Contains (versions_from (number + 1) entries) v → (x ≡ w) ⊎ Contains (versions_from (number + 1) entries) w → v ≡ w
    first x is rest (inl a) (inl b) = sym a ∙ b
    first x is rest (inl a) (inr b) = absurd (omega (arith, e, is, ap (λ (y : Version). y.number) a, (number_within (number + 1) entries w b).0))
    first x is rest (inr a) (inl b) = absurd (omega (arith, e, is, ap (λ (y : Version). y.number) b, (number_within (number + 1) entries v a).0))
    first x is rest (inr a) (inr b) = rest a b e
one_number number (RangeDelete start end ∷ entries) v w h k e = first (record { entry = RangeDelete start end; number = number }) refl (one_number (number + 1) entries v w)
    (within_cases _ (versions_from (number + 1) entries) v h) (within_cases _ (versions_from (number + 1) entries) w k)
  where
    first : (x : Version) → x.number ≡ number
        → (Contains (versions_from (number + 1) entries) v → Contains (versions_from (number + 1) entries) w → v.number ≡ w.number → v ≡ w)
        → (x ≡ v) ⊎ Contains (versions_from (number + 1) entries) v → (x ≡ w) ⊎ Contains (versions_from (number + 1) entries) w → v ≡ w
    first x is rest (inl a) (inl b) = sym a ∙ b
    first x is rest (inl a) (inr b) = absurd (omega (arith, e, is, ap (λ (y : Version). y.number) a, (number_within (number + 1) entries w b).0))
    first x is rest (inr a) (inl b) = absurd (omega (arith, e, is, ap (λ (y : Version). y.number) b, (number_within (number + 1) entries v a).0))
    first x is rest (inr a) (inr b) = rest a b e
one_number number (Note bytes ∷ entries) v w h k e = one_number number entries v w h k e
