-- The tables of a map from numbers to lengths are in the order of its keys.
use Rattle.std.proofs.Common.{◌≡◌, ℕ, zero, suc, ◌<◌, List, [], ◌∷◌, map, All, Less, arith}
use Rattle.std.specs.List.{AllByRecursion}
use Rattle.std.specs.List.Sorted.{IsStrictlySortedBy}
use Rattle.std.specs.Map.{keys_of}
use Rattle.std.specs.Ordering.{nat_cmp}
use Rattle.std.proofs.lemmas.Bool.Decides.{nat_tests}
use Rattle.std.proofs.lemmas.List.Kept.{AllPairs-cons}
use Rattle.disk_face.specs.declared.TableListed.{TableListed}
use Rattle.disk_face.specs.Listing.{IsTableNumber, AreTablesAscending, AreTableNumbers}
use Rattle.file_disk.specs.Found.{found_as}

below : (a b : ℕ) → nat_cmp a b ≡ Less → a < b
below a b less = grind (arith, nat_tests)

-- a number that is below all keys is below all tables
below_all : (n : ℕ) (es : List (ℕ × ℕ)) → AllByRecursion (λ key. nat_cmp n key ≡ Less) (keys_of es) → All (λ (t : TableListed). n < t.upto) (map found_as es)
below_all n [] less k d lt = absurd (omega (arith, lt))
below_all n (e ∷ es) less zero d lt = below n e.0 less.0
below_all n (e ∷ es) less (suc k) d lt = below_all n es less.1 k d (omega (arith, lt))

pub tables_ascend : (es : List (ℕ × ℕ)) → IsStrictlySortedBy nat_cmp (keys_of es) → AreTablesAscending (map found_as es)
unfolding IsStrictlySortedBy
tables_ascend [] sorted = λ i j d low high. absurd (omega (arith, high))
tables_ascend (e ∷ es) sorted =
    AllPairs-cons (λ (a b : TableListed). a.upto < b.upto) (found_as e) (map found_as es) (below_all e.0 es sorted.0) (tables_ascend es sorted.1)

pub tables_numbered : (es : List (ℕ × ℕ)) → All IsTableNumber (keys_of es) → AreTableNumbers (map found_as es)
tables_numbered [] all k d lt = absurd (omega (arith, lt))
tables_numbered (e ∷ es) all zero d lt = all zero 0 (omega arith)
tables_numbered (e ∷ es) all (suc k) d lt = tables_numbered es (λ j x l. all (suc j) x (omega (arith, l))) k d (omega (arith, lt))
