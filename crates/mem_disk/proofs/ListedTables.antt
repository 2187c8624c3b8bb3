-- A walk over files that stand in order lists each table once, in ascending order: by induction over the files.
use Rattle.wal_base.proofs.Laws.{within_cases, within_head}
use Rattle.std.proofs.Common.{◌≡◌, inl, inr, ◌<◌, ◌≤◌, ◌++◌, ℕ, Bool, true, false, List, [], ◌∷◌, length, ap, sym, subst, ◌∙◌, refl, arith, Some, None, All, Contains}
use Rattle.std.specs.Prelude.{nat_le, nat_lt}
use Rattle.std.proofs.lemmas.Bool.Decides.{nat_tests}
use Rattle.std.proofs.lemmas.List.Kept.{AllPairs-cons}
use Rattle.std.proofs.lemmas.List.Elements.{All-cons}
use Rattle.disk_face.specs.declared.TableListed.{TableListed}
use Rattle.disk_face.specs.declared.names.TheConstants.{WAL_MAX}
use Rattle.disk_face.specs.declared.FilePlace.TheVariants.{Segment, Table}
use Rattle.disk_face.specs.View.{Place, table, File}
use Rattle.disk_face.specs.Listing.{AreTablesAscending, AreTableNumbers, IsTableNumber, HasTable, IsTableListing}
use Rattle.mem_disk.specs.declared.parts.MemFile.{MemFile}
use Rattle.mem_disk.specs.Finite.{is_at_only}
use Rattle.mem_disk.specs.Mem.{is_at, is_table, table_of, file_of, files_held, precedes, AreInOrder, table_at, table_one, tables_of}
use Rattle.mem_disk.proofs.Orders.{IsBeforeAll, Ascend, ordered_open}
use Rattle.mem_disk.proofs.Held.{held_here, held_skip}
use Rattle.mem_disk.proofs.ListedFiles.{all_none, pairs_none, later_held, within_behind}

abbrev item_of : ℕ → MemFile → TableListed
item_of n m = record { upto = n; len = length (table_of m).reads }

in_range : (n : ℕ) → nat_le n WAL_MAX ≡ true → IsTableNumber n
in_range n e = grind (arith, nat_tests)

range_in : (n : ℕ) → IsTableNumber n → nat_le n WAL_MAX ≡ true
range_in n h = let le : n ≤ 999999999999 = h in grind (arith, nat_tests)

list_yes : (n : ℕ) (m : MemFile) → nat_le n WAL_MAX ≡ true → table_at (table n) m ≡ item_of n m ∷ []
list_yes n m e = rw e refl

list_no : (n : ℕ) (m : MemFile) → nat_le n WAL_MAX ≡ false → table_at (table n) m ≡ []
list_no n m e = rw e refl

table_is : (m : MemFile) (n : ℕ) → m.place ≡ table n → file_of m ≡ table_of m
table_is m n is = let kind : is_table m.place ≡ true = ap is_table is in rw kind refl

abbrev Has : List MemFile → TableListed → Type 0
Has fs item = IsTableNumber item.upto × HasTable (files_held fs) item.upto item.len

-- the listing of one file more, where the rest has its own
has_more : (m : MemFile) (ms : List MemFile) (item : TableListed) → IsBeforeAll m.place ms → Has ms item → Has (m ∷ ms) item
has_more m ms item before h = (h.0, (h.1.0, later_held m ms (table item.upto) h.1.0 before h.1.1, h.1.2))

has_first : (n : ℕ) (m : MemFile) (ms : List MemFile) (item : TableListed) → m.place ≡ table n → nat_le n WAL_MAX ≡ true → item_of n m ≡ item → Has (m ∷ ms) item
has_first n m ms item place e is =
    subst (Has (m ∷ ms)) is (in_range n e, (table_of m, held_here (table n) m ms place ∙ ap Some (table_is m n place), refl))

listed_has : (fs : List MemFile) → Ascend fs → (item : TableListed) → Contains (tables_of fs) item → Has fs item
listed_has [] up item at = absurd (let below = at.1 in omega (arith, below))
listed_has (m ∷ ms) up item at = on m.place refl at (listed_has ms up.1 item)
  where
    on : (p : Place) → m.place ≡ p → Contains (table_at p m ++ tables_of ms) item → (Contains (tables_of ms) item → Has ms item) → Has (m ∷ ms) item
    on (Segment s n) place at deeper = has_more m ms item up.0 (deeper at)
    on (Table n) place at deeper = go (nat_le n WAL_MAX) refl
      where
        go : (b : Bool) → nat_le n WAL_MAX ≡ b → Has (m ∷ ms) item
        go true e = elim (within_cases (item_of n m) (tables_of ms) item (subst (λ (l : List TableListed). Contains (l ++ tables_of ms) item) (list_yes n m e) at)) [
          | inl is ↦ has_first n m ms item place e is
          | inr more ↦ has_more m ms item up.0 (deeper more)
        ]
        go false e = has_more m ms item up.0 (deeper (subst (λ (l : List TableListed). Contains (l ++ tables_of ms) item) (list_no n m e) at))

-- a table at the place of the item is the one that it lists
first_listed : (m : MemFile) (item : TableListed) (f : File) → m.place ≡ table item.upto → file_of m ≡ f → length f.reads ≡ item.len
    → IsTableNumber item.upto → table_at (table item.upto) m ≡ item ∷ []
first_listed m item f place is len number =
    let same : table_of m ≡ f = sym (table_is m item.upto place) ∙ is in
    let long : length (table_of m).reads ≡ item.len = ap (λ (g : File). length g.reads) same ∙ len in
    list_yes item.upto m (range_in item.upto number) ∙ (λ i. record { upto = item.upto; len = long i } ∷ [])

has_listed : (fs : List MemFile) (item : TableListed) → Has fs item → Contains (tables_of fs) item
has_listed [] item h = let is : None ≡ Some h.1.0 = h.1.1 in cc
has_listed (m ∷ ms) item h = go (is_at m.place (table item.upto)) refl (has_listed ms item)
  where
    go : (b : Bool) → is_at m.place (table item.upto) ≡ b → (Has ms item → Contains (tables_of ms) item) → Contains (tables_of (m ∷ ms)) item
    go true at deeper =
        let place : m.place ≡ table item.upto = sym (is_at_only m.place (table item.upto) at) in
        let z : Some (file_of m) ≡ Some h.1.0 = rw at at h.1.1 in
        let is : file_of m ≡ h.1.0 = cc in
        subst (λ (p : Place). Contains (table_at p m ++ tables_of ms) item) (sym place)
        (subst (λ (l : List TableListed). Contains (l ++ tables_of ms) item) (sym (first_listed m item h.1.0 place is h.1.2 h.0))
        (within_head item (tables_of ms)))
    go false at deeper = within_behind (table_one m) (tables_of ms) item
        (deeper (h.0, (h.1.0, sym (held_skip m ms (table item.upto) at) ∙ h.1.1, h.1.2)))

pub listing_of : (fs : List MemFile) → AreInOrder fs → IsTableListing (files_held fs) (tables_of fs)
listing_of fs up item = (listed_has fs (ordered_open fs up) item, has_listed fs item)

-- the order of the listing
abbrev StandsBehind : ℕ → TableListed → Type 0
StandsBehind n item = n < item.upto

before_all_listed : (n : ℕ) (fs : List MemFile) → IsBeforeAll (table n) fs → All (StandsBehind n) (tables_of fs)
before_all_listed n [] h = all_none (StandsBehind n)
before_all_listed n (x ∷ xs) h = on x.place h.0 (before_all_listed n xs h.1)
  where
    on : (p : Place) → precedes (table n) p ≡ true → All (StandsBehind n) (tables_of xs) → All (StandsBehind n) (table_at p x ++ tables_of xs)
    on (Segment s k) before deeper = deeper
    on (Table k) before deeper = go (nat_le k WAL_MAX) refl
      where
        below : n < k
        below = let less : nat_lt n k ≡ true = before in grind (arith, nat_tests)

        go : (b : Bool) → nat_le k WAL_MAX ≡ b → All (StandsBehind n) (table_at (table k) x ++ tables_of xs)
        go true e = subst (λ (l : List TableListed). All (StandsBehind n) (l ++ tables_of xs)) (sym (list_yes k x e))
            (All-cons (StandsBehind n) (item_of k x) (tables_of xs) below deeper)
        go false e = subst (λ (l : List TableListed). All (StandsBehind n) (l ++ tables_of xs)) (sym (list_no k x e)) deeper

listing_ascends : (fs : List MemFile) → Ascend fs → AreTablesAscending (tables_of fs)
listing_ascends [] up = pairs_none (λ a b. a.upto < b.upto)
listing_ascends (m ∷ ms) up = on m.place up.0 (listing_ascends ms up.1)
  where
    on : (p : Place) → IsBeforeAll p ms → AreTablesAscending (tables_of ms) → AreTablesAscending (table_at p m ++ tables_of ms)
    on (Segment s k) before deeper = deeper
    on (Table k) before deeper = go (nat_le k WAL_MAX) refl
      where
        go : (b : Bool) → nat_le k WAL_MAX ≡ b → AreTablesAscending (table_at (table k) m ++ tables_of ms)
        go true e = subst (λ (l : List TableListed). AreTablesAscending (l ++ tables_of ms)) (sym (list_yes k m e))
            (AllPairs-cons (λ a b. a.upto < b.upto) (item_of k m) (tables_of ms) (before_all_listed k ms before) deeper)
        go false e = subst (λ (l : List TableListed). AreTablesAscending (l ++ tables_of ms)) (sym (list_no k m e)) deeper

pub listing_up : (fs : List MemFile) → AreInOrder fs → AreTablesAscending (tables_of fs)
listing_up fs up = listing_ascends fs (ordered_open fs up)

pub listing_numbers : (fs : List MemFile) → AreTableNumbers (tables_of fs)
listing_numbers [] = all_none (λ t. IsTableNumber t.upto)
listing_numbers (m ∷ ms) = on m.place (listing_numbers ms)
  where
    on : (p : Place) → AreTableNumbers (tables_of ms) → AreTableNumbers (table_at p m ++ tables_of ms)
    on (Segment s k) deeper = deeper
    on (Table k) deeper = go (nat_le k WAL_MAX) refl
      where
        go : (b : Bool) → nat_le k WAL_MAX ≡ b → AreTableNumbers (table_at (table k) m ++ tables_of ms)
        go true e = subst (λ (l : List TableListed). AreTableNumbers (l ++ tables_of ms)) (sym (list_yes k m e))
            (All-cons (λ t. IsTableNumber t.upto) (item_of k m) (tables_of ms) (in_range k e) deeper)
        go false e = subst (λ (l : List TableListed). AreTableNumbers (l ++ tables_of ms)) (sym (list_no k m e)) deeper
