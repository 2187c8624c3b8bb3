-- The seats as they are kept.
use Rattle.std.proofs.Common.{◌≡◌, ℕ, Some, zero, suc, replicate, ◌<◌, ◌≤◌, List, [], ◌∷◌, ◌++◌, length, map, get_or, set, sym, ap, ◌∙◌, ⊎_elim, arith, get_or-set_other, get_or-set_same, length-set, length-append, reverse, vec_items, Vec, lt_of_not-le, refl}
use mathlib.Core.Logic.{dite}
use native.Mathlib.Decide.{dec_le}
use Rattle.std.specs.declared.alloc.Global.{Global}
use Rattle.std.proofs.Math.Seq.{get_or-append_seam}
use Rattle.std.proofs.lemmas.List.{get_or_append_left, get_or_past, length-map}
use Rattle.publish_core.specs.declared.seat.BatchShape.{BatchShape}
use lib.Seq.{map-set}
use Rattle.publish_core.specs.declared.seat.Kind.TheVariants.{Producer, Worker, Spent}
use Rattle.publish_core.specs.declared.seat.SeatState.{SeatState}
use Rattle.publish_core.specs.declared.state.KeptSeat.{KeptSeat}
use Rattle.publish_core.specs.Machine.{CoreState, updated, nobody, Acts}
use Rattle.publish_core.specs.Kept.{seat_of}
use Rattle.publish_core.proofs.Put.{at_put}

abbrev pub stored : List KeptSeat → ℕ → SeatState
stored l j = get_or (map seat_of l) j nobody

map_below : (l : List KeptSeat) (i : ℕ) → i < length l → i < length (map seat_of l)
map_below [] i h = absurd (omega arith)
map_below (y ∷ ys) zero h = omega arith
map_below (y ∷ ys) (suc i) h = let g = map_below ys i (omega arith) in omega arith

-- one seat is written
pub stored_set : (l : List KeptSeat) (i : ℕ) (x : KeptSeat) → i < length l → stored (set l i x) ≡ updated (stored l) i (seat_of x)
stored_set l i x h = λ k j. at_put (λ (q : ℕ) (y : SeatState). stored (set l i x) q ≡ y) (stored l) i (seat_of x) j
    (ap (λ (m : List SeatState). get_or m i nobody) (map-set seat_of l i x) ∙ get_or-set_same (map seat_of l) i (seat_of x) nobody (map_below l i h))
    (λ n. ap (λ (m : List SeatState). get_or m j nobody) (map-set seat_of l i x) ∙ get_or-set_other (map seat_of l) i j (seat_of x) nobody n) k

-- one seat is read
pub stored_at : (l : List KeptSeat) (i : ℕ) (x : KeptSeat) → i < length l → x ≡ get_or l i x → seat_of x ≡ stored l i
stored_at [] i x h e = absurd (omega arith)
stored_at (y ∷ ys) zero x h e = ap seat_of e
stored_at (y ∷ ys) (suc i) x h e = stored_at ys i x (omega arith) e

-- which default is given does not matter within a list
pub same_default : (l : List ℕ) (i x d : ℕ) → i < length l → x ≡ get_or l i x → x ≡ get_or l i d
same_default [] i x d h e = absurd (omega arith)
same_default (y ∷ ys) zero x d h e = e
same_default (y ∷ ys) (suc i) x d h e = same_default ys i x d (omega arith) e

-- a seat that acts is kept
pub acts_stored : (l : List KeptSeat) (i : ℕ) → Acts (stored l i) → i < length l
acts_stored [] i a = absurd (⊎_elim (λ (e : Spent ≡ Producer). cc) (λ (e : Spent ≡ Worker). cc) a)
acts_stored (y ∷ ys) zero a = omega arith
acts_stored (y ∷ ys) (suc i) a = let h : i < length ys = acts_stored ys i a in omega arith

-- the seat i is written, and becomes d
pub seat_written : (s : CoreState BatchShape) (l : List KeptSeat) (i : ℕ) (x : KeptSeat) (d : SeatState) → i < length l → seat_of x ≡ d
    → record s { made = length (set l i x); seats = stored (set l i x) } ≡ record s { made = length l; seats = updated (stored l) i d }
seat_written s l i x d h e = let made : length (set l i x) ≡ length l = length-set l i x in
    let q : stored (set l i x) ≡ updated (stored l) i d = stored_set l i x h ∙ ap (updated (stored l) i) e in λ k. record s { made = made k; seats = q k }

-- one element is written
pub one_set : {A : Type 0} (l : List A) (i : ℕ) (x d : A) → i < length l → (λ k. get_or (set l i x) k d) ≡ updated (λ k. get_or l k d) i x
one_set {A = A} l i x d h =
    λ k j. at_put (λ (q : ℕ) (y : A). get_or (set l i x) q d ≡ y) (λ q. get_or l q d) i x j (get_or-set_same l i x d h) (λ n. get_or-set_other l i j x d n) k

-- one element is added
pub one_pushed : {A : Type 0} (l : List A) (x d : A) → (λ k. get_or (l ++ x ∷ []) k d) ≡ updated (λ k. get_or l k d) (length l) x
one_pushed {A = A} l x d = λ k j. at_put (λ (q : ℕ) (y : A). get_or (l ++ x ∷ []) q d ≡ y) (λ q. get_or l q d) (length l) x j (get_or-append_seam l x [] d)
    (λ n. dite (dec_le (length l) j)
    (λ (b : length l ≤ j). get_or_past (l ++ x ∷ []) j d (let q = length-append l (x ∷ []) in omega arith) ∙ sym (get_or_past l j d b))
    (λ a. get_or_append_left l (x ∷ []) d j (lt_of_not-le a))) k

map_pushed : {A B : Type 0} (f : A → B) (l : List A) (x : A) → map f (l ++ x ∷ []) ≡ map f l ++ f x ∷ []
map_pushed f [] x = refl
map_pushed {B = B} f (y ∷ ys) x = ap (λ (zs : List B). f y ∷ zs) (map_pushed f ys x)

-- a seat is added
pub seat_pushed : (l : List KeptSeat) (x : KeptSeat) → stored (l ++ x ∷ []) ≡ updated (stored l) (length l) (seat_of x)
seat_pushed l x = (λ k j. get_or (map_pushed seat_of l x k) j nobody) ∙ one_pushed (map seat_of l) (seat_of x) nobody
    ∙ (λ k. updated (stored l) (length-map l seat_of k) (seat_of x))

-- what is done in each shard, newest first
abbrev pub done_in : List (Vec ℕ Global) → ℕ → List ℕ
done_in l k = reverse (get_or (map vec_items l) k [])

-- the list of one shard is written
pub done_set : (l : List (Vec ℕ Global)) (i : ℕ) (x : Vec ℕ Global) → i < length l → done_in (set l i x) ≡ updated (done_in l) i (reverse x.items)
done_set l i x h = λ k j. at_put (λ (q : ℕ) (y : List ℕ). done_in (set l i x) q ≡ y) (done_in l) i (reverse x.items) j
    (ap (λ (m : List (List ℕ)). reverse (get_or m i [])) (map-set vec_items l i x)
    ∙ ap reverse (get_or-set_same (map vec_items l) i x.items [] (let q = length-map l vec_items in omega arith)))
    (λ n. ap (λ (m : List (List ℕ)). reverse (get_or m j [])) (map-set vec_items l i x) ∙ ap reverse (get_or-set_other (map vec_items l) i j x.items [] n)) k

-- where all lists are empty, they are so with one more
pub empty_pushed : (l : List (Vec ℕ Global)) (x : Vec ℕ Global) → x.items ≡ [] → ((k : ℕ) → get_or (map vec_items l) k [] ≡ []) → (k : ℕ)
    → get_or (map vec_items (l ++ x ∷ [])) k [] ≡ []
empty_pushed [] x e h zero = e
empty_pushed [] x e h (suc k) = refl
empty_pushed (y ∷ ys) x e h zero = h 0
empty_pushed (y ∷ ys) x e h (suc k) = empty_pushed ys x e (λ j. h (suc j)) k

-- a row of equal elements reads as that element everywhere
pub all_same : {A : Type 0} (n : ℕ) (x : A) (k : ℕ) → get_or (replicate n x) k x ≡ x
all_same zero x k = refl
all_same (suc n) x zero = refl
all_same (suc n) x (suc k) = all_same n x k

-- a seat that holds a batch is kept
pub held_stored : (l : List KeptSeat) (i b : ℕ) → (stored l i).held ≡ Some b → i < length l
held_stored [] i b e = cc
held_stored (y ∷ ys) zero b e = omega arith
held_stored (y ∷ ys) (suc i) b e = let h : i < length ys = held_stored ys i b e in omega arith

-- a seat is written as it was
pub seat_kept : (s : CoreState BatchShape) (l : List KeptSeat) (i : ℕ) (x : KeptSeat) → i < length l → seat_of x ≡ stored l i
    → record s { made = length (set l i x); seats = stored (set l i x) } ≡ record s { made = length l; seats = stored l }
seat_kept s l i x h e = seat_written s l i x (stored l i) h e
    ∙ (λ k. record s { made = length l; seats = λ j. at_put (λ (q : ℕ) (y : SeatState). y ≡ stored l q) (stored l) i (stored l i) j refl (λ _. refl) k })
