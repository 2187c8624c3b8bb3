-- The pieces of a batch, applied one after the other: what is known amid them, and what of it after the last.
use Rattle.std.specs.Prelude.{Contains}
use Rattle.std.proofs.Common.{◌≡◌, ⊎_elim, ℕ, ◌+◌, ◌≤◌, ◌<◌, List, ◌∷◌, Some, IsTrue, refl, sym, ap, ◌∙◌, subst, arith}
use mathlib.Core.Option.{some-injective}
use lib.ListN.{get_elem?}
use Rattle.std.proofs.lemmas.Bool.{cases_lt}
use Rattle.wal_base.proofs.Laws.{none_within, within_cases, within_head, within_tail}
use Rattle.batch_repr.specs.declared.batch.Batch.{Batch}
use Rattle.memtable_shards.specs.Versions.{Version}
use Rattle.memtable_shards.specs.Pieces.{PiecesLeft, IsNextPiece, NoPieceIsLeft}
use Rattle.memtable_shards.specs.Versions.{touches, Gains, HaveOtherNumbers}
use Rattle.memtable_shards.proofs.Laws.{next_is_piece, none_between, none_left}
use Rattle.commit_queue.specs.declared.view.View.{View}
use Rattle.commit_queue.specs.Calls.{CanMark, GivesApplied, HoldsAdmitted, HoldsUnapplied, IsAppliedAll}
use Rattle.commit_queue.specs.Tells.{TakesShard}
use Rattle.shard_gate.specs.Gates.{AppliesAll, AppliesOne, HoldsPiece, IsAmidPieces, OnlyApplies}

-- ---- one piece

-- The piece may be applied in the versions that were taken.
pub lacks_piece : (v v' : View) (shard : ℕ) (piece versions : List Version) → HoldsPiece v shard piece
    → TakesShard v shard versions v' → HaveOtherNumbers versions piece
lacks_piece v v' shard piece versions can taken =
    subst (HaveOtherNumbers versions) (sym can.own) (taken.lacks can.index can.batch can.holds can.at can.new)

-- The versions with the piece may be given back.
pub gives_applied : (v v' : View) (shard : ℕ) (piece versions more : List Version) → HoldsPiece v shard piece
    → TakesShard v shard versions v' → Gains versions piece more → GivesApplied v' more
gives_applied v v' shard piece versions more can taken gains =
    subst (λ (w : View). GivesApplied w more) (sym taken.view) record {
      shard = shard;
      turn = refl;
      index = can.index;
      batch = can.batch;
      holds = can.holds;
      at = can.at;
      has_piece = can.has_piece;
      new = can.new;
      gains = subst (λ (l : List Version). Gains versions l more) can.own gains;
    }

-- ---- what stays of a view

pub only_same : (v : View) → OnlyApplies v v
only_same v = record {
  kind = refl;
  held = refl;
  own = refl;
  published = refl;
  acked = refl;
  claim = refl;
  turn = refl;
  base = refl;
  opening = refl;
  head = refl;
  history = refl;
  absorbed = refl;
  acked_known = refl;
}

pub only_both : (a b c : View) → OnlyApplies a b → OnlyApplies b c → OnlyApplies a c
only_both a b c f g = record {
  kind = g.kind ∙ f.kind;
  held = g.held ∙ f.held;
  own = g.own ∙ f.own;
  published = g.published ∙ f.published;
  acked = g.acked ∙ f.acked;
  claim = g.claim ∙ f.claim;
  turn = g.turn ∙ f.turn;
  base = g.base ∙ f.base;
  opening = g.opening ∙ f.opening;
  head = g.head ∙ f.head;
  history = g.history ∙ f.history;
  absorbed = g.absorbed ∙ f.absorbed;
  acked_known = g.acked_known ∙ f.acked_known;
}

-- ---- all pieces

pub amid_begins : (v : View) (pieces : PiecesLeft) → HoldsUnapplied v pieces → IsAmidPieces v pieces
amid_begins v pieces unapplied = record {
  index = unapplied.index;
  batch = unapplied.batch;
  holds = unapplied.holds;
  at = unapplied.at;
  entries = unapplied.entries;
  first = unapplied.first;
  below = λ k among. absurd (none_within k (subst (λ (l : List ℕ). Contains l k) unapplied.none among));
  done = λ k before touch. absurd (omega (arith, before, unapplied.all));
}

-- The next piece may be applied.
pub amid_next : (v : View) (pieces : PiecesLeft) (shard : ℕ) (piece : List Version) → IsAmidPieces v pieces
    → IsNextPiece pieces shard piece → HoldsPiece v shard piece
amid_next v pieces shard piece amid next =
    let is = next_is_piece pieces amid.batch shard piece amid.entries amid.first next in record {
      index = amid.index;
      batch = amid.batch;
      holds = amid.holds;
      at = amid.at;
      own = is.0;
      has_piece = is.1;
      new = λ among. let before = amid.below shard among in absurd (omega (arith, before, next.on));
    }

-- And once it is applied, one piece fewer is left.
pub amid_goes_on : (v v' : View) (pieces : PiecesLeft) (shard : ℕ) (piece : List Version) → IsAmidPieces v pieces
    → IsNextPiece pieces shard piece → AppliesOne v shard v' → IsAmidPieces v' (record pieces { from = shard + 1 })
amid_goes_on v v' pieces shard piece amid next (only, one) = record {
  index = amid.index;
  batch = amid.batch;
  holds = only.held ∙ amid.holds;
  at = ap (λ (l : List Batch). get_elem? l amid.index) only.history ∙ amid.at;
  entries = amid.entries;
  first = amid.first;
  below = λ k among. ⊎_elim
      (λ (is : shard ≡ k). omega (arith, is))
      (λ (old : Contains v.pieces k). let before = amid.below k old in omega (arith, before, next.on))
      (within_cases shard v.pieces k (subst (λ (l : List ℕ). Contains l k) one among));
  done = λ k before touch. subst (λ (l : List ℕ). Contains l k) (sym one) (later k before touch);
}
  where
    later : (k : ℕ) → k < shard + 1 → IsTrue (touches amid.batch k) → Contains (shard ∷ v.pieces) k
    later k before touch = ⊎_elim
        (λ (old : k < pieces.from). within_tail shard v.pieces k (amid.done k old touch))
        (λ (on : pieces.from ≤ k).
        let least = none_between pieces amid.batch shard piece amid.entries amid.first next k touch on in
        let is : shard ≡ k = omega (arith, least, before) in subst (λ (q : ℕ). Contains (shard ∷ v.pieces) q) is (within_head shard v.pieces))
        (cases_lt k pieces.from)

-- Where no piece is left, all are applied.
pub amid_ends : (v : View) (pieces : PiecesLeft) → IsAmidPieces v pieces → NoPieceIsLeft pieces
    → (index : ℕ) → v.seat.held ≡ Some index → IsAppliedAll v index
amid_ends v pieces amid none index held batch k at touch =
    let both : Some index ≡ Some amid.index = sym held ∙ amid.holds in
    let same_index : index ≡ amid.index = cc both in
    let same : batch ≡ amid.batch = some-injective batch amid.batch
    (sym at ∙ ap (get_elem? v.history) same_index ∙ amid.at) in
    let its : IsTrue (touches amid.batch k) = subst (λ (b : Batch). IsTrue (touches b k)) same touch in
    amid.done k (none_left pieces amid.batch amid.entries amid.first none k its) its

-- A batch that is admitted may be marked once it is applied.
pub can_mark : (v v' : View) → HoldsAdmitted v → AppliesAll v v' → CanMark v'
can_mark v v' held (only, applied) = record {
  holds = record {
    index = held.index;
    holds = only.held ∙ held.holds;
    admitted = λ producer. subst (λ (head : ℕ). held.index < head) (sym only.head) (held.admitted (sym only.kind ∙ producer));
  };
  applied = applied held.index held.holds;
}
