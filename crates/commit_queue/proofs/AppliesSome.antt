-- The pieces of a batch are applied one after another: what each call asks, and that in the end all are applied.
use Rattle.std.proofs.Common.{◌≡◌, ⊎_elim, Some, None, IsTrue, true, ℕ, ◌+◌, ◌<◌, ◌≤◌, List, ◌∷◌, Option, Contains, sym, refl, ap, ◌∙◌, subst, arith}
use Rattle.std.proofs.lemmas.Bool.{cases_lt}
use mathlib.Core.Option.{some, some-injective}
use lib.ListN.{get_elem?}
use Rattle.wal_base.proofs.Laws.{none_within, within_cases, within_head, within_tail}
use Rattle.batch_repr.specs.declared.batch.Batch.{Batch}
use Rattle.memtable_shards.specs.Versions.{Version}
use Rattle.memtable_shards.specs.Pieces.{PiecesLeft, IsNextPiece, NoPieceIsLeft}
use Rattle.memtable_shards.specs.Versions.{touches, piece_in, Gains, HaveOtherNumbers}
use Rattle.memtable_shards.proofs.Laws.{next_is_piece, none_between, none_left}
use Rattle.commit_queue.specs.declared.view.View.{View}
use Rattle.commit_queue.specs.Views.{but_turns, taking_view, applied_view}
use Rattle.commit_queue.specs.Tells.{TakesShard}
use Rattle.commit_queue.specs.Calls.{HoldsUnapplied, IsAppliedAll, GivesApplied, EndsTurn}

-- Of all pieces of the batch that the seat of v holds, those that were handed out are applied, and no others.
pub record AppliesSome (v : View) (all : PiecesLeft) (v' : View) (left : PiecesLeft) : Type 0 where
  pub only : but_turns v' ≡ but_turns v
  pub no_turn : v'.seat.turn ≡ None
  pub entries : left.entries ≡ all.entries
  pub first : left.first ≡ all.first
  pub before : (k : ℕ) → Contains v'.pieces k → k < left.from
  pub done : (i k : ℕ) (b : Batch) → v.seat.held ≡ Some i → get_elem? v.history i ≡ some b → IsTrue (touches b k) → k < left.from
      → Contains v'.pieces k

pub none_applied : (v : View) (all : PiecesLeft) → HoldsUnapplied v all → v.seat.turn ≡ None → AppliesSome v all v all
none_applied v all h no_turn = record {
  only = refl;
  no_turn = no_turn;
  entries = refl;
  first = refl;
  before = λ k a. absurd (none_within k (subst (λ (l : List ℕ). Contains l k) h.none a));
  done = λ i k b holds at touch below. let from = h.all in absurd (omega arith);
}

-- the batch that a seat holds is one
same_batch : (v : View) (i j : ℕ) (a b : Batch) → v.seat.held ≡ Some i → get_elem? v.history i ≡ some a → v.seat.held ≡ Some j
    → get_elem? v.history j ≡ some b → b ≡ a
same_batch v i j a b one at other at' =
    let same : j ≡ i = (let z : ◌≡◌ {A = Option ℕ} (Some j) (Some i) = sym other ∙ one in cc) in
    some-injective b a (sym at' ∙ subst (λ (k : ℕ). get_elem? v.history k ≡ some a) (sym same) at)

module _ (v : View) (all : PiecesLeft) (h : HoldsUnapplied v all) (v' : View) (left : PiecesLeft) (a : AppliesSome v all v' left) where
  left_entries : left.entries ≡ h.batch.entries
  left_entries = a.entries ∙ h.entries

  left_first : left.first ≡ Some h.batch.first
  left_first = a.first ∙ h.first

  still_holds : v'.seat.held ≡ Some h.index
  still_holds = ap (λ (x : View). x.seat.held) a.only ∙ h.holds

  still_at : get_elem? v'.history h.index ≡ some h.batch
  still_at = subst (λ (x : View). get_elem? x.history h.index ≡ some h.batch) (sym a.only) h.at

  -- where no piece is left, all are applied
  pub all_applied : NoPieceIsLeft left → (i : ℕ) → v.seat.held ≡ Some i → IsAppliedAll v' i
  all_applied none i holds b k at touch =
      let at_first : get_elem? v.history i ≡ some b = subst (λ (x : View). get_elem? x.history i ≡ some b) a.only at in
      let same : b ≡ h.batch = same_batch v h.index i h.batch b h.holds h.at holds at_first in
      a.done i k b holds at_first touch
      (none_left left h.batch left_entries left_first none k (subst (λ (x : Batch). IsTrue (touches x k)) same touch))

  module _ (shard : ℕ) (piece : List Version) (next : IsNextPiece left shard piece) where
    is_piece : (piece ≡ piece_in shard h.batch) × IsTrue (touches h.batch shard)
    is_piece = next_is_piece left h.batch shard piece left_entries left_first next

    is_new : Contains v'.pieces shard → ⊥
    is_new m = let b = a.before shard m in let o = next.on in omega arith

    -- the next piece may be applied in its shard, as this is taken
    pub next_apart : (versions : List Version) (v1 : View) → TakesShard v' shard versions v1 → HaveOtherNumbers versions piece
    next_apart versions v1 t = subst (λ (p : List Version). HaveOtherNumbers versions p) (sym is_piece.0)
        (t.lacks h.index h.batch still_holds still_at is_new)

    -- the shard may be given back with the piece
    pub next_gives : (versions gained : List Version) (v1 : View) → TakesShard v' shard versions v1 → Gains versions piece gained
        → GivesApplied v1 gained
    next_gives versions gained v1 t gains = subst (λ (x : View). GivesApplied x gained) (sym t.view) record {
      shard = shard;
      turn = refl;
      index = h.index;
      batch = h.batch;
      holds = still_holds;
      at = still_at;
      has_piece = is_piece.1;
      new = is_new;
      gains = subst (λ (p : List Version). Gains versions p gained) is_piece.0 gains;
    }

    -- once the shard is back, one piece more is applied
    pub next_applied : (versions : List Version) (v1 v2 : View) → TakesShard v' shard versions v1 → EndsTurn v1 true v2
        → AppliesSome v all v2 (record left { from = shard + 1 })
    next_applied versions v1 v2 t ended = subst (λ (x : View). AppliesSome v all x (record left { from = shard + 1 })) (sym view) record {
      only = a.only;
      no_turn = refl;
      entries = a.entries;
      first = a.first;
      before = λ k m. ⊎_elim (λ (e : shard ≡ k). omega arith)
          (λ (o : Contains v'.pieces k). let l = a.before k o in let on = next.on in omega arith) (within_cases shard v'.pieces k m);
      done = λ i k b holds at touch below. ⊎_elim (λ (l : k < left.from). within_tail shard v'.pieces k (a.done i k b holds at touch l))
          (λ (on : left.from ≤ k). subst (λ (q : ℕ). Contains (shard ∷ v'.pieces) q) (sym (only_shard i k b holds at touch below on))
          (within_head shard v'.pieces)) (cases_lt k left.from);
    }
      where
        held : v1.seat.held ≡ Some h.index
        held = ap (λ (x : View). x.seat.held) t.view ∙ still_holds

        turn : v1.seat.turn ≡ Some shard
        turn = ap (λ (x : View). x.seat.turn) t.view

        view : v2 ≡ applied_view (taking_view v' shard versions) h.index shard
        view = ended h.index shard held turn ∙ ap (λ (x : View). applied_view x h.index shard) t.view

        only_shard : (i k : ℕ) (b : Batch) → v.seat.held ≡ Some i → get_elem? v.history i ≡ some b → IsTrue (touches b k) → k < shard + 1
            → left.from ≤ k → k ≡ shard
        only_shard i k b holds at touch below on =
            let same : b ≡ h.batch = same_batch v h.index i h.batch b h.holds h.at holds at in
            let least : shard ≤ k = none_between left h.batch shard piece left_entries left_first next k
            (subst (λ (x : Batch). IsTrue (touches x k)) same touch) on in omega arith
