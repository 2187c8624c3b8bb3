-- The steps of a try to publish, in a row: what each asks, and what they come to.
use Rattle.std.proofs.Common.{◌≡◌, ◌≢◌, ◌⊎◌, ℕ, suc, ◌+◌, ◌-◌, ◌*◌, ◌/◌, ◌%◌, ◌<◌, ◌≤◌, List, length, Some, sym, refl, ap, ◌∙◌, subst, ap₂, inl, inr, ◌^◌, eqb, max, arith}
use mathlib.Core.Logic.{dite}
use mathlib.Core.Option.{none}
use native.Mathlib.Decide.{ℕ_discrete}
use prog.Atomic.{either}
use Rattle.atomic_table.specs.Table.{step, Allows}
use Rattle.batch_repr.specs.declared.batch.Batch.{Batch}
use Rattle.publish_core.specs.declared.seat.Claim.TheVariants.{Free, Taken, Emptied}
use Rattle.publish_core.specs.declared.seat.Reading.{Reading}
use Rattle.publish_core.specs.declared.state.TheConstants.{SLOTS}
use Rattle.publish_core.specs.Machine.{Acts, ends}
use Rattle.commit_queue.specs.declared.pipe_table.TableOpening.{TableOpening}
use Rattle.commit_queue.specs.declared.view.View.{View}
use Rattle.commit_queue.specs.declared.layout.TheConstants.{ENDS, VISIBLE, RING_FROM}
use Rattle.commit_queue.specs.Rule.{numbers, Linked}
use Rattle.commit_queue.specs.Views.{read_view, lost_view, won_view, emptied_view, raised_view}
use Rattle.commit_queue.specs.Tells.{Seated, high, low, Grew, TellsSlot, TellsEnds, TellsClaim, TellsEmptied, TellsRaised}
use Rattle.commit_queue.specs.Calls.{looked_view, TriesRaised, TriesRaced}
use Rattle.commit_queue.proofs.Publishes.{claims, empties, raises}

-- the view after the two loads
pub looked : (n : ℕ) (m m1 m2 : Seated) (r x at : ℕ) → at ≡ low r % SLOTS → TellsEnds (step n ENDS 0 0 none) m r m1
    → TellsSlot (step n (at + RING_FROM) 0 0 none) m1 x m2 → (m2.1 ≡ m.1) × (m2.0 ≡ looked_view m.0 (high r) (low r) x)
looked n m m1 m2 r x at is a b =
    (b.0 ∙ a.0, b.1 ∙ ap₂ (λ (v : View) (y : ℕ). read_view v y x) a.1 ((let g : at + RING_FROM - RING_FROM ≡ at = omega arith in g) ∙ is))

pub acts_looked : (v : View) (h t x : ℕ) (m : Seated) → m.0 ≡ looked_view v h t x → Acts v.seat → Acts m.0.seat
acts_looked v h t x m e acts = subst (λ (y : View). Acts y.seat) (sym e) acts

pub raised_chain : (n : ℕ) (m m2 m3 m4 m5 : Seated) (r x f y : ℕ) → (m2.1 ≡ m.1) × (m2.0 ≡ looked_view m.0 (high r) (low r) x) → x % 2 ≡ 1
    → TellsClaim (step n ENDS r (r + 1) none) m2 f m3 → f ≡ r
    → (m4.1 ≡ m3.1) × ((t : ℕ) → m3.0.seat.claim ≡ Taken t → m4.0 ≡ emptied_view m3.0 t)
    → (m5.1 ≡ m4.1) × ((k : ℕ) × (h : List Batch) × (m5.0 ≡ raised_view m4.0 k h) × Grew m4.0 h k × (m4.0.seat.published ≤ k) ×
    ((t : ℕ) → m4.0.seat.claim ≡ Emptied t → suc t ≤ k))
    → (m5.1 ≡ m.1) × TriesRaised m.0 (low r) (x / 2) m5.0
raised_chain n m m2 m3 m4 m5 r x f y a odd b hit c d =
    let i : ℕ = low r in let L : View = looked_view m.0 (high r) i x in let won = b.1 hit in let h : List Batch = won.0 in
    let fi : low f ≡ i = ap low hit in
    let at2 = subst (λ (z : View × ℕ). (m3.0 ≡ won_view z.0 z.1 h) × Grew z.0 h (suc z.1) ×
    ((q : Reading) → z.0.seat.reading ≡ Some q → q.word ≡ 2 * ends numbers z.0.base h (suc z.1) + 1)) (λ k. (a.1 k, fi k))
    (won.1, won.2, won.3) in
    let e3 : m3.0 ≡ won_view L i h = at2.0 in
    let e4 : m4.0 ≡ emptied_view (won_view L i h) i = c.1 i (ap (λ (v : View). v.seat.claim) e3) ∙ ap (λ (v : View). emptied_view v i) e3 in
    let k : ℕ = d.1.0 in let ys : List Batch = d.1.1 in
    let at4 = subst (λ (v : View). (m5.0 ≡ raised_view v k ys) × Grew v ys k × (v.seat.published ≤ k) ×
    ((t : ℕ) → v.seat.claim ≡ Emptied t → suc t ≤ k)) e4 (d.1.2, d.1.3, d.1.4, d.1.5) in
    let word : x ≡ 2 * ends numbers m.0.base h (suc i) + 1 = at2.2 _ refl in
    let half : x / 2 ≡ ends numbers m.0.base h (suc i) = omega arith in
    let whole : x ≡ 2 * (x / 2) + 1 = omega arith in (
      d.0 ∙ c.0 ∙ b.0 ∙ a.0,
      record {
        head = high r;
        claimed = h;
        count = k;
        history = ys;
        view = at4.0 ∙ ap (λ (z : ℕ). raised_view (emptied_view (won_view (looked_view m.0 (high r) i z) i h) i) k ys) whole;
        goes_on = at2.1.0;
        goes_further = at4.1.0;
        within = at2.1.1;
        end_is = half;
        past = at4.3 i refl;
        reached = at4.1.1;
        published = at4.2;
        whole = λ q. at4.1.2 q ∙ at2.1.2 q;
      },
    )

pub raced_chain : (n : ℕ) (m m2 m3 : Seated) (r x f : ℕ) → (m2.1 ≡ m.1) × (m2.0 ≡ looked_view m.0 (high r) (low r) x)
    → TellsClaim (step n ENDS r (r + 1) none) m2 f m3 → f ≢ r → x % 2 ≡ 1 → (m3.1 ≡ m.1) × TriesRaced m.0 (high f) (low f) m3.0
raced_chain n m m2 m3 r x f a b miss odd = (
  b.0 ∙ a.0,
  record {
    head = high r;
    tail = low r;
    word = x;
    odd = odd;
    other = differ;
    view = b.2 miss ∙ ap (λ (v : View). lost_view v (high f) (low f)) a.1;
  },
)
  where
    differ : (high r ≢ high f) ⊎ (low r ≢ low f)
    differ = dite (ℕ_discrete (high r) (high f)) (λ e. inr (λ q. miss (omega arith))) (λ ne. inl ne)

-- what the later steps ask
pub can_claim : (o : TableOpening) (n id : ℕ) (m m1 m2 : Seated) (r x : ℕ) → TellsEnds (step n ENDS 0 0 none) m r m1
    → TellsSlot (step n (low r % SLOTS + RING_FROM) 0 0 none) m1 x m2 → Acts m.0.seat → m.0.seat.claim ≡ Free → high r ≢ low r → x % 2 ≡ 1 → r < 2 ^ 64
    → Allows (Linked o) n id m2 ENDS (λ y. either (eqb y r) (r + 1) y) (TellsClaim (step n ENDS r (r + 1) none) m2)
can_claim o n id m m1 m2 r x a b acts free ne odd small =
    let e : m2.0 ≡ looked_view m.0 (high r) (low r) x = (looked n m m1 m2 r x (low r % SLOTS) refl a b).1 in let le : low r ≤ high r = a.2 in
    claims o n id m2 r (r + 1) (high r) (low r) x (omega arith) refl (omega arith) (omega arith)
    (acts_looked m.0 (high r) (low r) x m2 e acts) (ap (λ (v : View). v.seat.claim) e ∙ free) (ap (λ (v : View). v.seat.loaded) e)
    (omega arith) (ap (λ (v : View). v.seat.reading) e) odd

pub can_empty : (o : TableOpening) (n id : ℕ) (m2 m3 : Seated) (r x f : ℕ) → Acts m2.0.seat → TellsClaim (step n ENDS r (r + 1) none) m2 f m3
    → f ≡ r → Allows (Linked o) n id m3 (low r % SLOTS + RING_FROM) (λ _. 0) (λ _. TellsEmptied (step n (low r % SLOTS + RING_FROM) 0 0 none) m3 0)
can_empty o n id m2 m3 r x f acts b hit = let won = b.1 hit in
    empties o n id m3 (low r % SLOTS) (low r) refl (subst (λ (v : View). Acts v.seat) (sym won.1) acts)
    (ap (λ (v : View). v.seat.claim) won.1 ∙ ap (λ (y : ℕ). Taken (low y)) hit)

pub can_raise : (o : TableOpening) (n id : ℕ) (m2 m3 m4 : Seated) (r x f : ℕ)
    → Acts m2.0.seat → m2.0.seat.reading ≡ Some record {
      at = low r % SLOTS;
      word = x;
    } → TellsClaim (step n ENDS r (r + 1) none) m2 f m3 → f ≡ r → TellsEmptied (step n (low r % SLOTS + RING_FROM) 0 0 none) m3 0 m4
    → Allows (Linked o) n id m4 VISIBLE (λ y. max y (x / 2)) (TellsRaised (step n VISIBLE (x / 2) 0 none) m4)
can_raise o n id m2 m3 m4 r x f acts read b hit c = let won = b.1 hit in let t : ℕ = low f in let h : List Batch = won.0 in
    let e : m4.0 ≡ emptied_view (won_view m2.0 t h) t = c.1 t (ap (λ (v : View). v.seat.claim) won.1)
    ∙ ap (λ (v : View). emptied_view v t) won.1 in
    let word : x ≡ 2 * ends numbers m2.0.base h (suc t) + 1 = won.3 _ read in
    let half : x / 2 ≡ ends numbers m2.0.base h (suc t) = omega arith in
    raises o n id m4 (x / 2) t (half ∙ ap (λ (v : View). ends numbers v.base v.history (suc t)) (sym e))
    (subst (λ (v : View). suc t ≤ length v.history) (sym e) won.2.1) (subst (λ (v : View). Acts v.seat) (sym e) acts)
    (ap (λ (v : View). v.seat.claim) e)
