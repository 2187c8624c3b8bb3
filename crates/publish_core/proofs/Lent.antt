-- The turns, what is done and what a seat knows, as they are kept.
use Rattle.std.proofs.Common.{◌≡◌, ◌≢◌, ℕ, zero, suc, ◌<◌, ◌==◌, Bool, true, false, cond, not, IsTrue, List, [], ◌∷◌, ◌++◌, length, get_or, set, reverse, Vec, Some, None, sym, refl, ap, ◌∙◌, subst, inl, inr, ⊎_elim, arith, eq-eqb, ne_eqb, eqb-true, length-set, ◌||◌, Result, Ok, Err, OnErr, OnOk}
use Rattle.std.specs.List.{list_any}
use Rattle.std.proofs.Math.Logic.{∥∥₁_elim}
use Rattle.std.proofs.Math.Bridge.{le_prop}
use Rattle.std.specs.declared.alloc.Global.{Global}
use Rattle.std.proofs.lemmas.List.{reverse-append}
use Rattle.publish_core.specs.declared.seat.BatchShape.{BatchShape}
use Rattle.publish_core.specs.declared.seat.Pair.{Pair}
use Rattle.publish_core.specs.declared.seat.SeatState.{SeatState}
use Rattle.publish_core.specs.declared.state.KeptSeat.{KeptSeat}
use Rattle.publish_core.specs.declared.state.TheConstants.{SHARDS}
use Rattle.publish_core.specs.Machine.{Among, CoreState, updated, turn_or, held_or, take_shard, give_shard, after, after_take, after_busy, after_give, after_apply}
use Rattle.publish_core.specs.Kept.{seat_of}
use Rattle.publish_core.specs.Parts.{shape_count, has_part, IsSoundCore}
use Rattle.publish_core.specs.Lent.{learned}
use Rattle.publish_core.specs.Sound.{Sound}
use Rattle.publish_core.proofs.Put.{put_here, put_else, at_put}
use Rattle.publish_core.proofs.Knows.{among_reverse, among_forward}
use Rattle.publish_core.proofs.Stored.{stored, stored_set, one_set, done_in, done_set}

module _ {A : Type 0} where
  -- what is written last stays
  pub put_again : (f : ℕ → A) (i : ℕ) (x y : A) → updated (updated f i x) i y ≡ updated f i y
  put_again f i x y = λ k j. at_put (λ (q : ℕ) (z : A). z ≡ updated f i y q) (updated f i x) i y j (sym (put_here f i y))
      (λ n. put_else f i x j n ∙ sym (put_else f i y j n)) k

  -- nothing changes where the same is written
  pub put_same : (f : ℕ → A) (i : ℕ) → updated f i (f i) ≡ f
  put_same f i = λ k j. at_put (λ (q : ℕ) (z : A). z ≡ f q) f i (f i) j refl (λ _. refl) k

  -- the list that is kept oldest first, once x is added
  pub newest_first : (xs : List A) (x : A) → reverse (xs ++ x ∷ []) ≡ x ∷ reverse xs
  newest_first xs x = reverse-append xs (x ∷ [])

-- what follows from either answer
pub either : {A E : Type 0} (r : Result A E) (P Q R : Type 0) → OnOk r P → OnErr r Q → (P → R) → (Q → R) → R
either (Ok x) P Q R p q f g = f p
either (Err e) P Q R p q f g = g q

pub not_so : (b : Bool) → (IsTrue b → ⊥) → IsTrue (not b)
not_so true h = absurd (h refl)
not_so false h = refl

pub so_not : (b : Bool) → IsTrue (not b) → IsTrue b → ⊥
so_not true h t = cc
so_not false h t = cc

any_among : (i : ℕ) (xs : List ℕ) → list_any (λ y. y == i) xs ≡ true → Among i xs
any_among i [] h = cc
any_among i (x ∷ xs) h = go (x == i) refl (any_among i xs) h
  where
    go : (b : Bool) → (x == i) ≡ b → (list_any (λ y. y == i) xs ≡ true → Among i xs) → (b || list_any (λ y. y == i) xs) ≡ true → Among i (x ∷ xs)
    go true e later h = inl (sym (eqb-true x i e))
    go false e later h = inr (later h)

among_any : (i : ℕ) (xs : List ℕ) → Among i xs → list_any (λ y. y == i) xs ≡ true
among_any i [] a = absurd a
among_any i (x ∷ xs) a = ⊎_elim (λ e. ap (λ (b : Bool). b || list_any (λ y. y == i) xs) (eq-eqb x i (sym e))) (λ m. go (x == i) (among_any i xs m)) a
  where
    go : (b : Bool) → list_any (λ y. y == i) xs ≡ true → (b || list_any (λ y. y == i) xs) ≡ true
    go true h = refl
    go false h = h

-- the list of one shard is read
pub done_at : (l : List (Vec ℕ Global)) (k : ℕ) (x : Vec ℕ Global) → k < length l → x ≡ get_or l k x → reverse x.items ≡ done_in l k
done_at [] k x h e = absurd (omega arith)
done_at (y ∷ ys) zero x h e = ap (λ (v : Vec ℕ Global). reverse v.items) e
done_at (y ∷ ys) (suc k) x h e = done_at ys k x (omega arith) e

-- whether a batch is found in the list of a shard
pub found : (l : List (Vec ℕ Global)) (k : ℕ) (x : Vec ℕ Global) (i : ℕ) (r : Bool) → k < length l → x ≡ get_or l k x → r ≡ list_any (λ y. y == i) x.items
    → (IsTrue r → Among i (done_in l k)) × (Among i (done_in l k) → IsTrue r)
found l k x i r h e q = (
  λ t. subst (Among i) (done_at l k x h e) (among_reverse i x.items (any_among i x.items (sym q ∙ t))),
  λ a. q ∙ among_any i x.items (among_forward i x.items (subst (Among i) (sym (done_at l k x h e)) a)),
)

-- a turn and a seat are written
pub turn_written : (s : CoreState BatchShape) (ts : List ℕ) (k v u : ℕ) (l : List KeptSeat) (i : ℕ) (x : KeptSeat) (d : SeatState) → k < length ts → v ≡ u
    → i < length l → seat_of x ≡ d
    → record s { turn = λ q. get_or (set ts k v) q 0; made = length (set l i x); seats = stored (set l i x) } ≡ record s {
      turn = updated (λ q. get_or ts q 0) k u;
      made = length l;
      seats = updated (stored l) i d;
    }
turn_written s ts k v u l i x d hk hv hi e =
    let made : length (set l i x) ≡ length l = length-set l i x in
    let q : stored (set l i x) ≡ updated (stored l) i d = stored_set l i x hi ∙ ap (updated (stored l) i) e in
    let t : (λ j. get_or (set ts k v) j 0) ≡ updated (λ j. get_or ts j 0) k u = one_set ts k v 0 hk ∙ ap (updated (λ j. get_or ts j 0) k) hv in
    λ j. record s { turn = t j; made = made j; seats = q j }

-- the list of a shard is written
pub done_written : (s : CoreState BatchShape) (l : List (Vec ℕ Global)) (k : ℕ) (x : Vec ℕ Global) (xs : List ℕ) → k < length l → reverse x.items ≡ xs
    → record s { done = done_in (set l k x) } ≡ record s { done = updated (done_in l) k xs }
done_written s l k x xs h e = let q : done_in (set l k x) ≡ updated (done_in l) k xs = done_set l k x h ∙ ap (updated (done_in l) k) e in
    λ j. record s { done = q j }

-- a shard that was free is taken
pub was_free : (s t : CoreState BatchShape) (j k : ℕ) → s.turn k ≡ 0 → t ≡ after_take shape_count has_part s j k
    → t ≡ after shape_count has_part s (take_shard j k)
was_free s t j k z e =
    subst (λ (b : Bool). t ≡ cond b (after_take shape_count has_part s j k) (after_busy shape_count has_part s j)) (sym (eq-eqb (s.turn k) 0 z)) e

-- one that was not is found taken
pub was_taken : (s t : CoreState BatchShape) (j k : ℕ) → s.turn k ≢ 0 → t ≡ after_busy shape_count has_part s j
    → t ≡ after shape_count has_part s (take_shard j k)
was_taken s t j k z e =
    subst (λ (b : Bool). t ≡ cond b (after_take shape_count has_part s j k) (after_busy shape_count has_part s j)) (sym (ne_eqb (s.turn k) 0 z)) e

-- the turn is given back, without the batch applied
pub gave : (s t : CoreState BatchShape) (j : ℕ) (a : Bool) → a ≡ false → t ≡ after_give shape_count has_part s j
    → t ≡ after shape_count has_part s (give_shard j a)
gave s t j a z e = subst (λ (b : Bool). t ≡ cond b (after_apply shape_count has_part s j) (after_give shape_count has_part s j)) (sym z) e

-- and with it
pub gave_applied : (s t : CoreState BatchShape) (j : ℕ) (a : Bool) → a ≡ true → t ≡ after_apply shape_count has_part s j
    → t ≡ after shape_count has_part s (give_shard j a)
gave_applied s t j a z e = subst (λ (b : Bool). t ≡ cond b (after_apply shape_count has_part s j) (after_give shape_count has_part s j)) (sym z) e

-- the parts of an application, put together
pub applied : (s s2 s3 s4 : CoreState BatchShape) (j i k : ℕ) → (s.seats j).turn ≡ Some k → (s.seats j).held ≡ Some i
    → s2 ≡ record s { done = updated s.done k (i ∷ s.done k) } → s3 ≡ learned s2 j (record { batch = i; shard = k }) → s4 ≡ after_give shape_count has_part s3 j
    → s4 ≡ after_apply shape_count has_part s j
applied s s2 s3 s4 j i k turn held e2 e3 e4 =
    let d : SeatState = s.seats j in let p : Pair = record { batch = i; shard = k } in
    let dd : SeatState = record d { knows = p ∷ d.knows } in
    let m2 : CoreState BatchShape = record s { done = updated s.done k (i ∷ s.done k) } in
    let m3 : CoreState BatchShape = learned m2 j p in
    let to : s4 ≡ after_give shape_count has_part m3 j =
    subst (λ (x : CoreState BatchShape). s4 ≡ after_give shape_count has_part (learned x j p) j) e2
    (subst (λ (x : CoreState BatchShape). s4 ≡ after_give shape_count has_part x j) e3 e4) in
    let here : updated s.seats j dd j ≡ dd = put_here s.seats j dd in
    let e0 : turn_or 0 (updated s.seats j dd j).turn ≡ turn_or 0 d.turn = ap (λ (x : SeatState). turn_or 0 x.turn) here in
    let e1 : updated (updated s.seats j dd) j (record (updated s.seats j dd j) { turn = None }) ≡ updated s.seats j (record dd { turn = None }) =
    ap (λ (x : SeatState). updated (updated s.seats j dd) j (record x { turn = None })) here ∙ put_again s.seats j dd (record dd { turn = None }) in
    let t : k ≡ turn_or 0 d.turn = sym (ap (turn_or 0) turn) in let h : i ≡ held_or 0 d.held = sym (ap (held_or 0) held) in
    to ∙ (λ q. record m2 { turn = updated s.turn (e0 q) 0; seats = e1 q }) ∙ (λ q. record s {
      turn = updated s.turn (turn_or 0 d.turn) 0;
      done = updated s.done (t q) (h q ∷ s.done (t q));
      seats = updated s.seats j (record d { turn = None; knows = record { batch = h q; shard = t q } ∷ d.knows });
    })

-- a turn is on one of the shards
pub turn_small : (s : CoreState BatchShape) → IsSoundCore s → (j k : ℕ) → (s.seats j).turn ≡ Some k → k < SHARDS
turn_small s sound j k e = ∥∥₁_elim sound le_prop (λ (h : Sound shape_count has_part s). ((h.each_seat j).turn k e).0)
