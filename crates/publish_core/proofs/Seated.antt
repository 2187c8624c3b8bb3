-- Seats that are made and joined, as they are kept.
use Rattle.std.proofs.Common.{◌≡◌, ◌≢◌, ℕ, zero, suc, ◌+◌, ◌<◌, ◌==◌, Bool, true, false, cond, List, [], ◌∷◌, ◌++◌, length, get_or, set, Option, Some, None, sym, refl, ap, ◌∙◌, subst, inl, inr, ⊎_elim, arith, eq-eqb, ne_eqb, length-append, lt_of_not-le}
use Rattle.std.proofs.lemmas.List.{get_or_past}
use Rattle.std.proofs.Math.Logic.{∥∥₁_elim}
use mathlib.Core.HLevel.{⊥_prop}
use mathlib.Core.Logic.{dite}
use native.Mathlib.Decide.{ℕ_discrete, dec_le}
use Rattle.publish_core.specs.declared.seat.BatchShape.{BatchShape}
use Rattle.publish_core.specs.declared.seat.SeatState.{SeatState}
use Rattle.publish_core.specs.declared.seat.Stage.{Stage}
use Rattle.publish_core.specs.declared.seat.Stage.TheVariants.{Held, Marked, Claimed, Cleared, Out}
use Rattle.publish_core.specs.declared.state.KeptSeat.{KeptSeat}
use Rattle.publish_core.specs.Machine.{Among, CoreState, updated, nobody, renamed, joined, after_join, join, Possible}
use Rattle.publish_core.specs.declared.state.KeptState.{KeptState}
use Rattle.publish_core.specs.Kept.{seat_of, kept_state}
use Rattle.publish_core.specs.Parts.{shape_count, has_part, IsSoundCore}
use Rattle.publish_core.specs.Seated.{renamed_owner, passed, passed_held, HandsOn}
use Rattle.publish_core.specs.Sound.{Sound, InStage, Owned}
use Rattle.publish_core.proofs.Put.{put_here, put_else, at_put, among_append, among_right, among_split}
use Rattle.publish_core.proofs.Kept.{can_join}
use Rattle.publish_core.proofs.Stored.{stored, stored_set, stored_at, seat_pushed, one_set}

module _ {A : Type 0} where
  -- two places are written in either order
  pub put_swap : (f : ℕ → A) (i j : ℕ) (x y : A) → i ≢ j → updated (updated f i x) j y ≡ updated (updated f j y) i x
  put_swap f i j x y n = λ k m. at_put (λ (q : ℕ) (z : A). z ≡ updated (updated f j y) i x q) (updated f i x) j y m
      (sym (put_else (updated f j y) i x j (λ e. n (sym e)) ∙ put_here f j y))
      (λ nj. at_put (λ (q : ℕ) (z : A). q ≢ j → z ≡ updated (updated f j y) i x q) f i x m (λ _. sym (put_here (updated f j y) i x))
      (λ ni other. sym (put_else (updated f j y) i x m ni ∙ put_else f j y m other)) nj) k

  -- which default is given does not matter within a list
  pub read_at : (l : List A) (i : ℕ) (x d : A) → i < length l → x ≡ get_or l i x → x ≡ get_or l i d
  read_at [] i x d h e = absurd (omega arith)
  read_at (y ∷ ys) zero x d h e = e
  read_at (y ∷ ys) (suc i) x d h e = read_at ys i x d (omega arith) e

-- a seat is added
pub seat_added : (s : CoreState BatchShape) (m l : List KeptSeat) (x : KeptSeat) (d : SeatState) → m ≡ l ++ x ∷ [] → seat_of x ≡ d
    → record s { made = length m; seats = stored m } ≡ record s { made = length l + 1; seats = updated (stored l) (length l) d }
seat_added s m l x d e p =
    let made : length m ≡ length l + 1 = ap (λ (y : List KeptSeat). length y) e ∙ length-append l (x ∷ []) in
    let q : stored m ≡ updated (stored l) (length l) d = ap stored e ∙ seat_pushed l x ∙ ap (updated (stored l) (length l)) p in
    λ k. record s { made = made k; seats = q k }

-- a seat is added, and the first gives its batch away
pub batch_given : (l m : List KeptSeat) (x cell : KeptSeat) (d : SeatState) → 0 < length l → m ≡ l ++ x ∷ [] → seat_of x ≡ d → cell ≡ get_or m 0 cell
    → stored (set m 0 (record cell { held = None })) ≡ updated (updated (stored l) 0 (record (stored l 0) { held = None })) (length l) d
batch_given l m x cell d h e p at =
    let n : length l ≢ 0 = λ z. omega arith in let z : 0 ≢ length l = λ z. omega arith in
    let long : length m ≡ length l + 1 = ap (λ (y : List KeptSeat). length y) e ∙ length-append l (x ∷ []) in
    let sm : stored m ≡ updated (stored l) (length l) d = ap stored e ∙ seat_pushed l x ∙ ap (updated (stored l) (length l)) p in
    let first : seat_of cell ≡ stored l 0 = stored_at m 0 cell (omega arith) at ∙ ap (λ (f : ℕ → SeatState). f 0) sm ∙ put_else (stored l) (length l) d 0 z in
    stored_set m 0 (record cell { held = None }) (omega arith) ∙ (λ k. updated (sm k) 0 (record (first k) { held = None }))
    ∙ put_swap (stored l) (length l) 0 d (record (stored l 0) { held = None }) n

-- a batch's stage and owner are written
pub pass_written : (s : CoreState BatchShape) (ss : List Stage) (os : List ℕ) (i : ℕ) (st st' : Stage) (o o' : ℕ) → i < length ss → i < length os
    → st ≡ st' → o ≡ o'
    → record s { stage = λ k. get_or (set ss i st) k Out; owner = λ k. get_or (set os i o) k 0 } ≡ record s {
      stage = updated (λ k. get_or ss k Out) i st';
      owner = updated (λ k. get_or os k 0) i o';
    }
pass_written s ss os i st st' o o' hs ho es eo =
    let a : (λ k. get_or (set ss i st) k Out) ≡ updated (λ k. get_or ss k Out) i st' = one_set ss i st Out hs ∙ ap (updated (λ k. get_or ss k Out) i) es in
    let b : (λ k. get_or (set os i o) k 0) ≡ updated (λ k. get_or os k 0) i o' = one_set os i o 0 ho ∙ ap (updated (λ k. get_or os k 0) i) eo in
    λ k. record s { stage = a k; owner = b k }

cond_same : (b : Bool) (x : ℕ) → cond b x x ≡ x
cond_same true x = refl
cond_same false x = refl

owner_else : (note into o : ℕ) → o ≢ note → renamed_owner note into o ≡ o
owner_else note into o n = ap (λ (b : Bool). cond b into o) (ne_eqb o note n)

owner_here : (note into o : ℕ) → o ≡ note → renamed_owner note into o ≡ into
owner_here note into o e = ap (λ (b : Bool). cond b into o) (eq-eqb o note e)

owner_twice : (note into o : ℕ) → renamed_owner note into (renamed_owner note into o) ≡ renamed_owner note into o
owner_twice note into o = dite (ℕ_discrete o note)
    (λ e. ap (renamed_owner note into) (owner_here note into o e) ∙ cond_same (into == note) into ∙ sym (owner_here note into o e))
    (λ n. ap (renamed_owner note into) (owner_else note into o n))

stage_twice : (note into : ℕ) (st : Stage) → renamed note into (renamed note into st) ≡ renamed note into st
stage_twice note into (Held j) = ap Held (owner_twice note into j)
stage_twice note into Marked = refl
stage_twice note into (Claimed j) = refl
stage_twice note into (Cleared j) = refl
stage_twice note into Out = refl

stage_else : (note into : ℕ) (st : Stage) → (st ≡ Held note → ⊥) → renamed note into st ≡ st
stage_else note into (Held j) n = ap Held (owner_else note into j (λ e. n (ap Held e)))
stage_else note into Marked n = refl
stage_else note into (Claimed j) n = refl
stage_else note into (Cleared j) n = refl
stage_else note into Out n = refl

pub passes_none : (note into : ℕ) (s : CoreState BatchShape) → HandsOn note into [] s s
passes_none note into s = record { rest = refl; each = λ i. inr (λ a. a, refl, refl) }

pub passes_more : (note into : ℕ) (xs : List ℕ) (x : ℕ) (s t u : CoreState BatchShape) → HandsOn note into xs s t → u ≡ passed t x note into
    → HandsOn note into (xs ++ x ∷ []) s u
passes_more note into xs x s t u p e =
    let st : ℕ → Stage = updated t.stage x (renamed note into (t.stage x)) in let ow : ℕ → ℕ = updated t.owner x (renamed_owner note into (t.owner x)) in
    let se : (i : ℕ) → u.stage i ≡ st i = λ i. ap (λ (v : CoreState BatchShape). v.stage i) e in
    let oe : (i : ℕ) → u.owner i ≡ ow i = λ i. ap (λ (v : CoreState BatchShape). v.owner i) e in
    let sh : (i : ℕ) → i ≡ x → st i ≡ renamed note into (t.stage i) =
    λ i z. subst (λ (j : ℕ). st j ≡ renamed note into (t.stage j)) (sym z) (put_here t.stage x (renamed note into (t.stage x))) in
    let oh : (i : ℕ) → i ≡ x → ow i ≡ renamed_owner note into (t.owner i) =
    λ i z. subst (λ (j : ℕ). ow j ≡ renamed_owner note into (t.owner j)) (sym z) (put_here t.owner x (renamed_owner note into (t.owner x))) in
    record {
      rest = e ∙ (λ q. record (p.rest q) { stage = st; owner = ow }) ∙ sym (ap (λ (v : CoreState BatchShape). record s { stage = v.stage; owner = v.owner }) e);
      each = λ i. dite (ℕ_discrete i x)
          (λ z. ⊎_elim
          (λ (a : (t.stage i ≡ renamed note into (s.stage i)) × (t.owner i ≡ renamed_owner note into (s.owner i))). inl (
            se i ∙ sh i z ∙ ap (renamed note into) a.0 ∙ stage_twice note into (s.stage i),
            oe i ∙ oh i z ∙ ap (renamed_owner note into) a.1 ∙ owner_twice note into (s.owner i),
          ))
          (λ (a : (Among i xs → ⊥) × (t.stage i ≡ s.stage i) × (t.owner i ≡ s.owner i)).
          inl (se i ∙ sh i z ∙ ap (renamed note into) a.1, oe i ∙ oh i z ∙ ap (renamed_owner note into) a.2)) (p.each i))
          (λ n. let sn : u.stage i ≡ t.stage i = se i ∙ put_else t.stage x (renamed note into (t.stage x)) i n in
          let on : u.owner i ≡ t.owner i = oe i ∙ put_else t.owner x (renamed_owner note into (t.owner x)) i n in
          ⊎_elim
          (λ (a : (t.stage i ≡ renamed note into (s.stage i)) × (t.owner i ≡ renamed_owner note into (s.owner i))). inl (sn ∙ a.0, on ∙ a.1))
          (λ (a : (Among i xs → ⊥) × (t.stage i ≡ s.stage i) × (t.owner i ≡ s.owner i)). inr (
            λ m. ⊎_elim (λ (b : Among i xs). a.0 b) (λ (b : Among i (x ∷ [])). ⊎_elim (λ (z : i ≡ x). n z) (λ (z : ⊥). z) b) (among_split i xs (x ∷ []) m),
            sn ∙ a.1,
            on ∙ a.2,
          )) (p.each i));
    }

-- all that could go over went over
whole : (note into : ℕ) (xs : List ℕ) (s u : CoreState BatchShape) → HandsOn note into xs s u
    → ((i : ℕ) → (Among i xs → ⊥) → (s.stage i ≡ Held note → ⊥) × (s.owner i ≢ note))
    → u ≡ record s { stage = λ i. renamed note into (s.stage i); owner = λ i. renamed_owner note into (s.owner i) }
whole note into xs s u p off =
    let se : (i : ℕ) → u.stage i ≡ renamed note into (s.stage i) = λ i. ⊎_elim
    (λ (a : (u.stage i ≡ renamed note into (s.stage i)) × (u.owner i ≡ renamed_owner note into (s.owner i))). a.0)
    (λ (a : (Among i xs → ⊥) × (u.stage i ≡ s.stage i) × (u.owner i ≡ s.owner i)). a.1 ∙ sym (stage_else note into (s.stage i) (off i a.0).0)) (p.each i) in
    let oe : (i : ℕ) → u.owner i ≡ renamed_owner note into (s.owner i) = λ i. ⊎_elim
    (λ (a : (u.stage i ≡ renamed note into (s.stage i)) × (u.owner i ≡ renamed_owner note into (s.owner i))). a.1)
    (λ (a : (Among i xs → ⊥) × (u.stage i ≡ s.stage i) × (u.owner i ≡ s.owner i)). a.2 ∙ sym (owner_else note into (s.owner i) (off i a.0).1)) (p.each i) in
    p.rest ∙ (λ q. record s { stage = λ i. se i q; owner = λ i. oe i q })

-- the own batches and then the one that is held went over: these are all
pub all_passed : (note into : ℕ) (xs : List ℕ) (held : Option ℕ) (s t u : CoreState BatchShape) → HandsOn note into xs s t → u ≡ passed_held t held note into
    → ((i : ℕ) → s.stage i ≡ Held note → (held ≡ Some i → ⊥) → ⊥) → ((i : ℕ) → s.owner i ≡ note → (Among i xs → ⊥) → (held ≡ Some i → ⊥) → ⊥)
    → u ≡ record s { stage = λ i. renamed note into (s.stage i); owner = λ i. renamed_owner note into (s.owner i) }
all_passed note into xs None s t u p e hs ho = e ∙ whole note into xs s t p (λ i n. (λ z. hs i z (λ q. cc), λ z. ho i z n (λ q. cc)))
all_passed note into xs (Some b) s t u p e hs ho =
    whole note into (xs ++ b ∷ []) s u (passes_more note into xs b s t u p e) (λ i n.
    let nx : Among i xs → ⊥ = λ a. n (left i a) in let nb : ◌≡◌ {A = Option ℕ} (Some b) (Some i) → ⊥ = λ q. let z : b ≡ i = cc in n (right i (sym z)) in
    (λ z. hs i z nb, λ z. ho i z nx nb))
  where
    left : (i : ℕ) → Among i xs → Among i (xs ++ b ∷ [])
    left i a = among_append i xs (b ∷ []) a

    right : (i : ℕ) → i ≡ b → Among i (xs ++ b ∷ [])
    right i z = among_right i xs (b ∷ []) (inl z)

-- the parts of a join, put together
pub joins : (s s1 t u : CoreState BatchShape) (into note : ℕ) (e : SeatState) → note ≢ into → e ≡ s.seats note
    → s1 ≡ record s { seats = updated s.seats note nobody }
    → t ≡ record s1 { stage = λ i. renamed note into (s1.stage i); owner = λ i. renamed_owner note into (s1.owner i) }
    → u ≡ record t { seats = updated t.seats into (joined (t.seats into) e) } → u ≡ after_join shape_count has_part s into note
joins s s1 t u into note e n ee e1 e2 e3 =
    let a1 : CoreState BatchShape = record s { seats = updated s.seats note nobody } in
    let a2 : CoreState BatchShape = record a1 { stage = λ i. renamed note into (s.stage i); owner = λ i. renamed_owner note into (s.owner i) } in
    let f2 : t ≡ a2 = e2
    ∙ ap (λ (x : CoreState BatchShape). record x { stage = λ i. renamed note into (x.stage i); owner = λ i. renamed_owner note into (x.owner i) }) e1 in
    let f3 : u ≡ record a2 { seats = updated a2.seats into (joined (a2.seats into) e) } =
    e3 ∙ ap (λ (x : CoreState BatchShape). record x { seats = updated x.seats into (joined (x.seats into) e) }) f2 in
    let pe : updated s.seats note nobody into ≡ s.seats into = put_else s.seats note nobody into (λ z. n (sym z)) in
    let q : updated a1.seats into (joined (a1.seats into) e) ≡ updated (updated s.seats into (joined (s.seats into) (s.seats note))) note nobody =
    (λ k. updated a1.seats into (joined (pe k) (ee k))) ∙ put_swap s.seats note into nobody (joined (s.seats into) (s.seats note)) n in
    f3 ∙ (λ k. record a2 { seats = q k })

-- a batch that a seat is said to hold is held by it
pub theirs_held : (s : CoreState BatchShape) → IsSoundCore s → (note i : ℕ) → i < length s.batches → s.stage i ≡ Held note
    → ((s.seats note).held ≡ Some i → ⊥) → ⊥
theirs_held s sound note i l st off =
    ∥∥₁_elim sound ⊥_prop (λ (h : Sound shape_count has_part s). off (subst (InStage shape_count has_part s i) st (h.each_batch i l).stands).1)

-- a batch that is a seat's own is held or was marked by it
pub theirs_owned : (s : CoreState BatchShape) → IsSoundCore s → (note i : ℕ) → i < length s.batches → s.owner i ≡ note → (Among i (s.seats note).own → ⊥)
    → ((s.seats note).held ≡ Some i → ⊥) → ⊥
theirs_owned s sound note i l ow na nh =
    ∥∥₁_elim sound ⊥_prop (λ (h : Sound shape_count has_part s). let b = h.each_batch i l in go (s.stage i) b.stands b.owned)
  where
    mine : Among i (s.seats (s.owner i)).own → ⊥
    mine a = na (subst (λ (j : ℕ). Among i (s.seats j).own) ow a)

    go : (st : Stage) → InStage shape_count has_part s i st → Owned shape_count has_part s i st → ⊥
    go (Held j) a o = nh (subst (λ (k : ℕ). (s.seats k).held ≡ Some i) (sym o ∙ ow) a.1)
    go Marked a o = mine o
    go (Claimed j) a o = mine o
    go (Cleared j) a o = mine o
    go Out a o = mine o

-- what a join asks of the two numbers
pub seats_apart : (s : CoreState BatchShape) → IsSoundCore s → (into note : ℕ) → Possible shape_count has_part s (join into note) → note ≢ into
seats_apart s sound into note p e = ∥∥₁_elim sound ⊥_prop (λ (h : Sound shape_count has_part s). (can_join shape_count has_part s h into note p).apart e)

pub note_away : (s : CoreState BatchShape) → IsSoundCore s → (into note : ℕ) → Possible shape_count has_part s (join into note) → note ≢ 0
note_away s sound into note p e = ∥∥₁_elim sound ⊥_prop (λ (h : Sound shape_count has_part s). (can_join shape_count has_part s h into note p).away e)

-- The same of any number: past the batches there is none
pub held_theirs : (k : KeptState) → IsSoundCore (kept_state k) → (note i : ℕ) → (kept_state k).stage i ≡ Held note
    → (((kept_state k).seats note).held ≡ Some i → ⊥) → ⊥
held_theirs k sound note i st off = let each : length k.stages.items ≡ length k.batches.items = k.stage_each in dite (dec_le (length k.batches.items) i)
    (λ b. let z : Out ≡ Held note = sym (get_or_past k.stages.items i Out (omega arith)) ∙ st in cc)
    (λ a. theirs_held (kept_state k) sound note i (lt_of_not-le a) st off)

pub owned_theirs : (k : KeptState) → IsSoundCore (kept_state k) → (note i : ℕ) → note ≢ 0 → (kept_state k).owner i ≡ note
    → (Among i ((kept_state k).seats note).own → ⊥) → (((kept_state k).seats note).held ≡ Some i → ⊥) → ⊥
owned_theirs k sound note i away ow na nh = let each : length k.owners.items ≡ length k.batches.items = k.owner_each in dite (dec_le (length k.batches.items) i)
    (λ b. away (sym ow ∙ get_or_past k.owners.items i 0 (omega arith)))
    (λ a. theirs_owned (kept_state k) sound note i (lt_of_not-le a) ow na nh)
