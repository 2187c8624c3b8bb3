-- A batch goes through the calls one after another: what each asks follows from what the ones before answered.
use Rattle.std.proofs.Common.{◌≡◌, Option, unwrap_or, Some, None, [], ◌∷◌, ◌++◌, Bool, IsTrue, ℕ, suc, ◌+◌, ◌%◌, ◌<◌, List, length, length-append, sym, refl, ap, ap₂, ◌∙◌, subst, arith}
use mathlib.Core.Option.{some}
use lib.ListN.{get_elem?}
use Rattle.wal_base.specs.declared.entry.Entry.{Entry}
use Rattle.wal_base.proofs.Laws.{at_prefix}
use Rattle.batch_repr.specs.declared.batch.Batch.{Batch}
use Rattle.batch_repr.specs.declared.limits.TheConstants.{BATCHES_MAX}
use Rattle.memtable_shards.specs.Versions.{Version}
use Rattle.memtable_shards.specs.Pieces.{PiecesLeft}
use Rattle.publish_core.specs.declared.seat.Kind.TheVariants.{Producer, Worker}
use Rattle.publish_core.specs.declared.seat.Reading.{Reading}
use Rattle.publish_core.specs.declared.state.TheConstants.{SLOTS}
use Rattle.publish_core.specs.Machine.{ends, both_held, held_or}
use Rattle.publish_core.proofs.Laws.{at_end, ends_snoc}
use Rattle.commit_queue.specs.declared.view.View.{View}
use Rattle.commit_queue.specs.Rule.{numbers}
use Rattle.commit_queue.specs.Views.{opened_view, placed_view, admitted_view, marked_view, without_batch, handed_view, telling_view}
use Rattle.commit_queue.specs.Calls.{ReadsHeadSlot, CanPlace, AwaitsBatch, HasPlaced, HoldsAdmitted, HoldsUnapplied, IsUnapplied, batch_cut, IsAppliedAll, CanMark, MarksHeld, TakesIn, ViewGoesOn}

-- on a new table the first batch is awaited
pub awaits_first : (v : View) (base : ℕ) (opening : List (List Version)) → v ≡ opened_view base opening → AwaitsBatch v base 0
awaits_first v base opening e = subst (λ (x : View). AwaitsBatch x base 0) (sym e) record {
  idle = refl;
  admitted = refl;
  placed_is = refl;
  next_is = refl;
}

pub awaits_read : (v v' : View) (free : Bool) (n p : ℕ) → AwaitsBatch v n p → ReadsHeadSlot v free v' → AwaitsBatch v' n p
awaits_read v v' free n p a r = subst (λ (x : View). AwaitsBatch x n p) (sym r.1) record {
  idle = a.idle;
  admitted = a.admitted;
  placed_is = a.placed_is;
  next_is = a.next_is;
}

-- the producer's seat publishes, or reads
pub awaits_goes_on : (v v' : View) (n p : ℕ) → v.seat.kind ≡ Producer → AwaitsBatch v n p → ViewGoesOn v v' → AwaitsBatch v' n p
awaits_goes_on v v' n p k a g = let hist : v'.history ≡ v.history = g.whole k in record {
  idle = g.held ∙ a.idle;
  admitted = g.head ∙ a.admitted;
  placed_is = ap length hist ∙ a.placed_is;
  next_is = a.next_is ∙ ap₂ (λ (b : ℕ) (l : List Batch). ends numbers b l (length l)) (sym g.base) (sym hist);
}

-- a slot that was found free may be placed in
pub can_place_next : (v v' : View) (free : Bool) (n p : ℕ) (b : Batch) → AwaitsBatch v n p → ReadsHeadSlot v free v' → IsTrue free
    → b.first ≡ n → p < BATCHES_MAX → CanPlace v' b
can_place_next v v' free n p b a r found first few = let empty : r.0 ≡ 0 = r.2.0 found in let l : length v.history ≡ p = a.placed_is in
    subst (λ (x : View). CanPlace x b) (sym r.1) record {
      empty = ap (λ (w : ℕ). Some (let x : Reading = record { at = v.head % SLOTS; word = w } in x)) empty;
      idle = a.idle;
      follows = first ∙ a.next_is;
      few = omega arith;
    }

pub placed_next : (v v' : View) (n p : ℕ) (b : Batch) → AwaitsBatch v n p → v' ≡ placed_view v b → HasPlaced v'
placed_next v v' n p b a e = let l : length v.history ≡ p = a.placed_is in let h : v.head ≡ p = a.admitted in
    subst HasPlaced (sym e) (length-append v.history (b ∷ []) ∙ (let g : length v.history + 1 ≡ v.head + 1 = omega arith in g))

pub holds_next : (v v1 v2 : View) (n p : ℕ) (b : Batch) → AwaitsBatch v n p → v1 ≡ placed_view v b → v2 ≡ admitted_view v1
    → HoldsAdmitted v2
holds_next v v1 v2 n p b a e1 e2 = let l : length v.history ≡ p = a.placed_is in let h : v.head ≡ p = a.admitted in
    subst HoldsAdmitted (sym (e2 ∙ ap admitted_view e1)) record { index = length v.history; holds = refl; admitted = λ _. omega arith }

-- the batch is admitted, and no longer with the producer's seat
admitted_next : (v : View) (n p e : ℕ) (b : Batch) (held : Option ℕ) → AwaitsBatch v n p → e ≡ n + numbers b → (w : View)
    → w.seat.held ≡ None → w.head ≡ v.head + 1 → w.history ≡ v.history ++ b ∷ [] → w.base ≡ v.base → AwaitsBatch w e (p + 1)
admitted_next v n p e b held a is w idle head hist base = let i : ℕ = length v.history in let l : i ≡ p = a.placed_is in
    let more : length w.history ≡ i + 1 = ap length hist ∙ length-append v.history (b ∷ []) in record {
      idle = idle;
      admitted = head ∙ ap (λ (x : ℕ). x + 1) a.admitted;
      placed_is = more ∙ ap (λ (x : ℕ). x + 1) l;
      next_is = is ∙ ap (λ (x : ℕ). x + numbers b) a.next_is ∙ sym (ends_snoc numbers v.base v.history b)
          ∙ ap₂ (λ (x : ℕ) (xs : List Batch). ends numbers x xs (suc i)) (sym base) (sym hist)
          ∙ ap (ends numbers w.base w.history) (let g : suc i ≡ length w.history = omega arith in g);
    }

pub awaits_handed : (v v1 v2 v3 : View) (n p e : ℕ) (b : Batch) → AwaitsBatch v n p → v1 ≡ placed_view v b → v2 ≡ admitted_view v1
    → v3 ≡ without_batch v2 → e ≡ n + numbers b → AwaitsBatch v3 e (p + 1)
awaits_handed v v1 v2 v3 n p e b a e1 e2 e3 is = subst (λ (x : View). AwaitsBatch x e (p + 1))
    (sym (e3 ∙ ap without_batch (e2 ∙ ap admitted_view e1)))
    (admitted_next v n p e b None a is (without_batch (admitted_view (placed_view v b))) refl refl refl refl)

-- what came between the admission and the mark left the history and the batch held as they were
pub awaits_marked : (v v1 v2 v3 v4 : View) (n p e : ℕ) (b : Batch) → AwaitsBatch v n p → v1 ≡ placed_view v b → v2 ≡ admitted_view v1
    → v3.seat.held ≡ v2.seat.held → v3.head ≡ v2.head → v3.history ≡ v2.history → v3.base ≡ v2.base → MarksHeld v3 v4 → e ≡ n + numbers b
    → AwaitsBatch v4 e (p + 1)
awaits_marked v v1 v2 v3 v4 n p e b a e1 e2 held head hist base m is = let at : v2 ≡ admitted_view (placed_view v b) = e2 ∙ ap admitted_view e1 in
    let i : ℕ = length v.history in
    let marked : v4 ≡ marked_view v3 i = m i (held ∙ ap (λ (x : View). x.seat.held) at) in
    subst (λ (x : View). AwaitsBatch x e (p + 1)) (sym marked)
    (admitted_next v n p e b None a is (marked_view v3 i) refl (head ∙ ap (λ (x : View). x.head) at)
    (hist ∙ ap (λ (x : View). x.history) at) (base ∙ ap (λ (x : View). x.base) at))

-- the producer's seat shows what it has seen
pub awaits_told : (v v' : View) (n p : ℕ) → AwaitsBatch v n p → v' ≡ telling_view v → AwaitsBatch v' n p
awaits_told v v' n p a e = subst (λ (x : View). AwaitsBatch x n p) (sym e) record {
  idle = a.idle;
  admitted = a.admitted;
  placed_is = a.placed_is;
  next_is = a.next_is;
}

-- ---- a batch's pieces

-- none is applied of a batch that was just placed and admitted
pub unapplied_next : (v v1 v2 : View) (b : Batch) (pieces : PiecesLeft) → v1 ≡ placed_view v b → v2 ≡ admitted_view v1
    → pieces.entries ≡ b.entries → pieces.first ≡ Some b.first → pieces.from ≡ 0 → HoldsUnapplied v2 pieces
unapplied_next v v1 v2 b pieces e1 e2 entries first all = subst (λ (x : View). HoldsUnapplied x pieces) (sym (e2 ∙ ap admitted_view e1)) record {
  index = length v.history;
  batch = b;
  holds = refl;
  at = at_end v.history b;
  entries = entries;
  first = first;
  all = all;
  none = refl;
}

pub unapplied_handed : (v w : View) (pieces : PiecesLeft) → HoldsUnapplied v pieces → w ≡ handed_view v → HoldsUnapplied w pieces
unapplied_handed v w pieces h e = subst (λ (x : View). HoldsUnapplied x pieces) (sym e) record {
  index = h.index;
  batch = h.batch;
  holds = h.holds;
  at = h.at;
  entries = h.entries;
  first = h.first;
  all = h.all;
  none = h.none;
}

pub unapplied_adopted : (v w v' : View) (pieces : PiecesLeft) → v.seat.held ≡ None → v.pieces ≡ [] → HoldsUnapplied w pieces
    → TakesIn v w v' → HoldsUnapplied v' pieces
unapplied_adopted v w v' pieces idle clean h t = record {
  index = h.index;
  batch = h.batch;
  holds = t.held ∙ ap (λ (x : Option ℕ). both_held x w.seat.held) idle ∙ h.holds;
  at = at_prefix w.history v'.history t.has_both h.index h.batch h.at;
  entries = h.entries;
  first = h.first;
  all = h.all;
  none = t.pieces ∙ ap₂ (λ (xs ys : List ℕ). xs ++ ys) clean h.none;
}

-- the fact that a ghost field can keep
pub kept_unapplied : (v : View) (pieces : PiecesLeft) → HoldsUnapplied v pieces → IsUnapplied v pieces
kept_unapplied v pieces h =
    let holds : v.seat.held ≡ Some (held_or 0 v.seat.held) = h.holds ∙ ap (λ (x : Option ℕ). Some (held_or 0 x)) (sym h.holds) in
    let cut : h.batch ≡ batch_cut pieces =
    ap₂ (λ (n : ℕ) (l : List Entry). let b : Batch = record { first = n; entries = l } in b)
    (sym (ap (λ (x : Option ℕ). unwrap_or x 0) h.first)) (sym h.entries) in record {
      holds = holds;
      at = subst (λ (x : Option ℕ). get_elem? v.history (held_or 0 x) ≡ some (batch_cut pieces)) (sym h.holds)
          (h.at ∙ ap (λ (b : Batch). some b) cut);
      first = h.first ∙ ap (λ (x : Option ℕ). Some (unwrap_or x 0)) (sym h.first);
      all = h.all;
      none = h.none;
    }

pub unapplied_again : (v : View) (pieces : PiecesLeft) → IsUnapplied v pieces → HoldsUnapplied v pieces
unapplied_again v pieces k = record {
  index = held_or 0 v.seat.held;
  batch = batch_cut pieces;
  holds = k.holds;
  at = k.at;
  entries = refl;
  first = k.first;
  all = k.all;
  none = k.none;
}

-- the batch was applied wherever it leaves a version
pub can_mark : (v v' : View) → HoldsAdmitted v → v'.seat.kind ≡ v.seat.kind → v'.seat.held ≡ v.seat.held → v'.head ≡ v.head
    → ((i : ℕ) → v.seat.held ≡ Some i → IsAppliedAll v' i) → CanMark v'
can_mark v v' h kind held head all = record {
  holds = record {
    index = h.index;
    holds = held ∙ h.holds;
    admitted = λ e. subst (λ (n : ℕ). h.index < n) (sym head) (h.admitted (sym kind ∙ e));
  };
  applied = all h.index h.holds;
}

-- ---- a session's seat

-- a session that adopted a note holds its batch, and holds none once it is marked
pub holds_adopted : (v w v' : View) (i : ℕ) → v.seat.held ≡ None → v.seat.kind ≡ Worker → w.seat.held ≡ Some i → TakesIn v w v'
    → HoldsAdmitted v'
holds_adopted v w v' i idle kind holds t = record {
  index = i;
  holds = t.held ∙ ap (λ (x : Option ℕ). both_held x w.seat.held) idle ∙ holds;
  admitted = λ e. let z : Worker ≡ Producer = sym kind ∙ sym t.kind ∙ e in cc;
}

pub idle_marked : (v v' : View) → HoldsAdmitted v → MarksHeld v v' → v'.seat.held ≡ None
idle_marked v v' h m = ap (λ (x : View). x.seat.held) (m h.index h.holds)

pub clean_marked : (v v' : View) → HoldsAdmitted v → MarksHeld v v' → v'.pieces ≡ []
clean_marked v v' h m = ap (λ (x : View). x.pieces) (m h.index h.holds)

pub turn_marked : (v v' : View) → HoldsAdmitted v → MarksHeld v v' → v'.seat.turn ≡ v.seat.turn
turn_marked v v' h m = ap (λ (x : View). x.seat.turn) (m h.index h.holds)

-- a seat that holds no batch takes in a note that holds none
pub idle_taken_in : (v w v' : View) → v.seat.held ≡ None → w.seat.held ≡ None → TakesIn v w v' → v'.seat.held ≡ None
idle_taken_in v w v' idle none t = t.held ∙ ap (λ (x : Option ℕ). both_held x w.seat.held) idle ∙ none

pub clean_taken_in : (v w v' : View) → v.pieces ≡ [] → w.pieces ≡ [] → TakesIn v w v' → v'.pieces ≡ []
clean_taken_in v w v' clean none t = t.pieces ∙ ap₂ (λ (xs ys : List ℕ). xs ++ ys) clean none
