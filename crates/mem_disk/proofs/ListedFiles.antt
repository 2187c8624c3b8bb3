-- A walk over files that stand in order lists each created one once, in ascending order: by induction over the files.
use Rattle.wal_base.proofs.Laws.{within_cases, within_head, within_tail}
use Rattle.std.proofs.Common.{◌≡◌, inl, inr, ◌≤◌, ◌&&◌, ◌++◌, Bool, true, false, List, [], ◌∷◌, length, ap, sym, subst, ◌∙◌, refl, arith, Some, None, length-take, All, AllPairs, Contains}
use Rattle.std.specs.Prelude.{Result, Ok, Err, IfOk}
use Rattle.std.proofs.lemmas.Bool.Decides.{nat_tests}
use Rattle.std.proofs.lemmas.List.Kept.{AllPairs-cons}
use Rattle.std.proofs.lemmas.List.Elements.{All-cons}
use Rattle.disk_face.specs.declared.Side.{Side}
use Rattle.disk_face.specs.declared.SegName.{SegName}
use Rattle.disk_face.specs.declared.Listed.{Listed}
use Rattle.disk_face.specs.declared.FilePlace.TheVariants.{Segment, Table}
use Rattle.disk_face.specs.View.{Place, segment, File}
use Rattle.disk_face.specs.Listing.{IsBefore, IsAscending, AreSegmentNames, IsSegmentName, HasLength, IsListing}
use Rattle.mem_disk.specs.declared.parts.MemFile.{MemFile}
use Rattle.disk_face.specs.Equal.{both_left, both_right, side_eq_only, side_eq_self}
use Rattle.mem_disk.specs.Finite.{is_at_only}
use Rattle.mem_disk.specs.Mem.{side_eq, is_at, is_table, segment_of, file_of, files_held, precedes, AreInOrder, is_named, listed_at, listed_one, listed_of}
use Rattle.mem_disk.proofs.Orders.{IsBeforeAll, Ascend, named_before, ordered_open}
use Rattle.mem_disk.proofs.Held.{held_here, held_skip, behind_absent}

-- whether the listing of the side has a segment of that name, on that side
abbrev is_listed : Side → Side → SegName → MemFile → Bool
is_listed side s n m = m.created && (side_eq s side && is_named n)

abbrev item_of : SegName → MemFile → Listed
item_of n m = record { name = n; len = m.done }

named_true : (name : SegName) → is_named name ≡ true → IsSegmentName name
named_true name e = (grind (arith, nat_tests), grind (arith, nat_tests))

true_named : (name : SegName) → IsSegmentName name → is_named name ≡ true
true_named name h = let w : name.wal ≤ 999999999999 = h.0 in let i : name.index ≤ 999 = h.1 in grind (arith, nat_tests)

list_yes : (side s : Side) (n : SegName) (m : MemFile) → is_listed side s n m ≡ true → listed_at side (segment s n) m ≡ item_of n m ∷ []
list_yes side s n m e = rw e refl

list_no : (side s : Side) (n : SegName) (m : MemFile) → is_listed side s n m ≡ false → listed_at side (segment s n) m ≡ []
list_no side s n m e = rw e refl

pub all_none : {X : Type 0} (P : X → Type 0) → All P []
all_none P k d below = absurd (omega arith)

pub pairs_none : {X : Type 0} (R : X → X → Type 0) → AllPairs R []
pairs_none R i j d before below = absurd (omega arith)

-- what a file that is listed holds
segment_is : (m : MemFile) (s : Side) (n : SegName) → m.place ≡ segment s n → file_of m ≡ segment_of m
segment_is m s n is = let kind : is_table m.place ≡ false = ap is_table is in rw kind refl

made_of : (m : MemFile) → m.created ≡ true → (segment_of m).created ≡ true
made_of m e = rw e refl

reads_of : (m : MemFile) → m.created ≡ true → length (segment_of m).reads ≡ m.done
reads_of m e = rw e (omega (arith, length-take m.done m.sent.items, m.within))

of_made : (m : MemFile) → (segment_of m).created ≡ true → m.created ≡ true
of_made m h = go m.created refl
  where
    go : (b : Bool) → m.created ≡ b → m.created ≡ true
    go true e = e
    go false e = let z : false ≡ true = rw e at h in cc

abbrev Has : List MemFile → Side → Listed → Type 0
Has fs side item = IsSegmentName item.name × HasLength (files_held fs) (segment side item.name) item.len

pub later_held : (m : MemFile) (ms : List MemFile) (q : Place) (f : File) → IsBeforeAll m.place ms → files_held ms q ≡ Some f → files_held (m ∷ ms) q ≡ Some f
later_held m ms q f before is = go (is_at m.place q) refl
  where
    go : (b : Bool) → is_at m.place q ≡ b → files_held (m ∷ ms) q ≡ Some f
    go true at =
        let none : files_held ms q ≡ None = ap (files_held ms) (is_at_only m.place q at) ∙ behind_absent m.place ms before in
        let clash : None ≡ Some f = sym none ∙ is in cc
    go false at = held_skip m ms q at ∙ is

-- the listing of one file more, where the rest has its own
has_more : (side : Side) (m : MemFile) (ms : List MemFile) (item : Listed) → IsBeforeAll m.place ms → Has ms side item → Has (m ∷ ms) side item
has_more side m ms item before h = (h.0, (h.1.0, later_held m ms (segment side item.name) h.1.0 before h.1.1, h.1.2, h.1.3))

has_first : (side s : Side) (n : SegName) (m : MemFile) (ms : List MemFile) (item : Listed) → m.place ≡ segment s n → is_listed side s n m ≡ true
    → item_of n m ≡ item → Has (m ∷ ms) side item
has_first side s n m ms item place e is =
    let made : m.created ≡ true = both_left _ _ e in
    let rest : (side_eq s side && is_named n) ≡ true = both_right m.created _ e in
    let s_is : s ≡ side = side_eq_only s side (both_left _ _ rest) in
    let there : m.place ≡ segment side n = place ∙ ap (λ (t : Side). segment t n) s_is in
    let here : files_held (m ∷ ms) (segment side n) ≡ Some (segment_of m) = held_here (segment side n) m ms there ∙ ap Some (segment_is m s n place) in
    subst (Has (m ∷ ms) side) is (named_true n (both_right (side_eq s side) _ rest), (segment_of m, here, made_of m made, reads_of m made))

listed_has : (side : Side) (fs : List MemFile) → Ascend fs → (item : Listed) → Contains (listed_of side fs) item → Has fs side item
listed_has side [] up item at = absurd (let below = at.1 in omega (arith, below))
listed_has side (m ∷ ms) up item at = on m.place refl at (listed_has side ms up.1 item)
  where
    on : (p : Place) → m.place ≡ p → Contains (listed_at side p m ++ listed_of side ms) item → (Contains (listed_of side ms) item → Has ms side item)
        → Has (m ∷ ms) side item
    on (Table upto) place at deeper = has_more side m ms item up.0 (deeper at)
    on (Segment s n) place at deeper = go (is_listed side s n m) refl
      where
        go : (b : Bool) → is_listed side s n m ≡ b → Has (m ∷ ms) side item
        go true e = elim (within_cases (item_of n m) (listed_of side ms) item
            (subst (λ (l : List Listed). Contains (l ++ listed_of side ms) item) (list_yes side s n m e) at)) [
              | inl is ↦ has_first side s n m ms item place e is
              | inr more ↦ has_more side m ms item up.0 (deeper more)
            ]
        go false e = has_more side m ms item up.0 (deeper
            (subst (λ (l : List Listed). Contains (l ++ listed_of side ms) item) (list_no side s n m e) at))

-- a file at the place of the item is the one that it lists
first_listed : (side : Side) (m : MemFile) (item : Listed) (f : File) → m.place ≡ segment side item.name → file_of m ≡ f
    → f.created ≡ true → length f.reads ≡ item.len → IsSegmentName item.name
    → listed_at side (segment side item.name) m ≡ item ∷ []
first_listed side m item f place is created len named =
    let same : segment_of m ≡ f = sym (segment_is m side item.name place) ∙ is in
    let made : m.created ≡ true = of_made m (ap (λ (g : File). g.created) same ∙ created) in
    let long : m.done ≡ item.len = sym (reads_of m made) ∙ ap (λ (g : File). length g.reads) same ∙ len in
    let name : is_named item.name ≡ true = true_named item.name named in
    list_yes side side item.name m (rw (made, side_eq_self side, name) refl) ∙ (λ i. record { name = item.name; len = long i } ∷ [])

pub within_behind : {X : Type 0} (front xs : List X) (item : X) → Contains xs item → Contains (front ++ xs) item
within_behind [] xs item at = at
within_behind (x ∷ front) xs item at = within_tail x (front ++ xs) item (within_behind front xs item at)

has_listed : (side : Side) (fs : List MemFile) (item : Listed) → Has fs side item → Contains (listed_of side fs) item
has_listed side [] item h = let is : None ≡ Some h.1.0 = h.1.1 in cc
has_listed side (m ∷ ms) item h = go (is_at m.place (segment side item.name)) refl (has_listed side ms item)
  where
    go : (b : Bool) → is_at m.place (segment side item.name) ≡ b → (Has ms side item → Contains (listed_of side ms) item)
        → Contains (listed_of side (m ∷ ms)) item
    go true at deeper =
        let place : m.place ≡ segment side item.name = sym (is_at_only m.place (segment side item.name) at) in
        let z : Some (file_of m) ≡ Some h.1.0 = rw at at h.1.1 in
        let is : file_of m ≡ h.1.0 = cc in
        subst (λ (p : Place). Contains (listed_at side p m ++ listed_of side ms) item) (sym place)
        (subst (λ (l : List Listed). Contains (l ++ listed_of side ms) item) (sym (first_listed side m item h.1.0 place is h.1.2 h.1.3 h.0))
        (within_head item (listed_of side ms)))
    go false at deeper = within_behind (listed_one side m) (listed_of side ms) item
        (deeper (h.0, (h.1.0, sym (held_skip m ms (segment side item.name) at) ∙ h.1.1, h.1.2, h.1.3)))

pub listing_of : (side : Side) (fs : List MemFile) → AreInOrder fs → IsListing (files_held fs) side (listed_of side fs)
listing_of side fs up item = (listed_has side fs (ordered_open fs up) item, has_listed side fs item)

-- the order of the listing
abbrev StandsBehind : SegName → Listed → Type 0
StandsBehind name item = IsBefore name item.name

before_all_listed : (side : Side) (name : SegName) (fs : List MemFile) → IsBeforeAll (segment side name) fs → All (λ b. IsBefore name b.name) (listed_of side fs)
before_all_listed side name [] h = all_none (λ b. IsBefore name b.name)
before_all_listed side name (x ∷ xs) h = on x.place h.0 (before_all_listed side name xs h.1)
  where
    on : (p : Place) → precedes (segment side name) p ≡ true → All (StandsBehind name) (listed_of side xs)
        → All (StandsBehind name) (listed_at side p x ++ listed_of side xs)
    on (Table upto) before deeper = deeper
    on (Segment s n) before deeper = go (is_listed side s n x) refl
      where
        go : (b : Bool) → is_listed side s n x ≡ b → All (StandsBehind name) (listed_at side (segment s n) x ++ listed_of side xs)
        go true e =
            let t : s ≡ side = side_eq_only s side (both_left _ _ (both_right x.created _ e)) in
            let named : IsBefore name n = named_before side name n (subst (λ (r : Side). precedes (segment side name) (segment r n) ≡ true) t before) in
            subst (λ (l : List Listed). All (StandsBehind name) (l ++ listed_of side xs)) (sym (list_yes side s n x e))
            (All-cons (StandsBehind name) (item_of n x) (listed_of side xs) named deeper)
        go false e = subst (λ (l : List Listed). All (StandsBehind name) (l ++ listed_of side xs)) (sym (list_no side s n x e)) deeper

listing_ascends : (side : Side) (fs : List MemFile) → Ascend fs → IsAscending (listed_of side fs)
listing_ascends side [] up = pairs_none (λ a b. IsBefore a.name b.name)
listing_ascends side (m ∷ ms) up = on m.place up.0 (listing_ascends side ms up.1)
  where
    on : (p : Place) → IsBeforeAll p ms → IsAscending (listed_of side ms) → IsAscending (listed_at side p m ++ listed_of side ms)
    on (Table upto) before deeper = deeper
    on (Segment s n) before deeper = go (is_listed side s n m) refl
      where
        go : (b : Bool) → is_listed side s n m ≡ b → IsAscending (listed_at side (segment s n) m ++ listed_of side ms)
        go true e =
            let t : s ≡ side = side_eq_only s side (both_left _ _ (both_right m.created _ e)) in
            subst (λ (l : List Listed). IsAscending (l ++ listed_of side ms)) (sym (list_yes side s n m e))
            (AllPairs-cons (λ a b. IsBefore a.name b.name) (item_of n m) (listed_of side ms)
            (before_all_listed side n ms (subst (λ (r : Side). IsBeforeAll (segment r n) ms) t before)) deeper)
        go false e = subst (λ (l : List Listed). IsAscending (l ++ listed_of side ms)) (sym (list_no side s n m e)) deeper

pub listing_up : (side : Side) (fs : List MemFile) → AreInOrder fs → IsAscending (listed_of side fs)
listing_up side fs up = listing_ascends side fs (ordered_open fs up)

pub listing_named : (side : Side) (fs : List MemFile) → AreSegmentNames (listed_of side fs)
listing_named side [] = all_none (λ item. IsSegmentName item.name)
listing_named side (m ∷ ms) = on m.place (listing_named side ms)
  where
    on : (p : Place) → AreSegmentNames (listed_of side ms) → AreSegmentNames (listed_at side p m ++ listed_of side ms)
    on (Table upto) deeper = deeper
    on (Segment s n) deeper = go (is_listed side s n m) refl
      where
        go : (b : Bool) → is_listed side s n m ≡ b → AreSegmentNames (listed_at side (segment s n) m ++ listed_of side ms)
        go true e =
            let n_is : is_named n ≡ true = both_right (side_eq s side) _ (both_right m.created _ e) in
            subst (λ (l : List Listed). AreSegmentNames (l ++ listed_of side ms)) (sym (list_yes side s n m e))
            (All-cons (λ item. IsSegmentName item.name) (item_of n m) (listed_of side ms) (named_true n n_is) deeper)
        go false e = subst (λ (l : List Listed). AreSegmentNames (l ++ listed_of side ms)) (sym (list_no side s n m e)) deeper

pub if_ok_more : {T E : Type 0} {P Q : T → Type 0} (r : Result T E) → IfOk r P → ((x : T) → P x → Q x) → IfOk r Q
if_ok_more (Ok x) h more = more x h
if_ok_more (Err e) h more = tt
