use Rattle.std.proofs.Common.{◌≡◌, ℕ, ◌+◌, ◌∙◌, Some, None, List, refl, sym, ap, subst}
use Rattle.memtable_shards.specs.Versions.{Version}
use Rattle.memtable_shards.specs.Pieces.{PiecesLeft, IsNextPiece, NoPieceIsLeft}
use Rattle.commit_queue.specs.declared.view.View.{View}
use Rattle.commit_queue.specs.Calls.{CanMark, HoldsUnapplied}
use Rattle.commit_queue.specs.Seats.{session_view}
use Rattle.commit_queue.specs.Shown.{IsOfSession}
use Rattle.commit_queue.proofs.Laws.{turn_marked, session_holds}
use Rattle.shard_gate.specs.Gates.{AppliesOne, AppliesPiece}
use Rattle.shard_gate.proofs.AppliesAll.{amid_begins, amid_next, amid_goes_on, amid_ends}
use Rattle.shard_gate.proofs.tests.apply_and_mark.Goals as goal

applies_one : (v v' : View) (shard index : ℕ) → v.seat.turn ≡ None → v.seat.held ≡ Some index → AppliesPiece v shard v' → AppliesOne v shard v'
applies_one v v' shard index idle held applies =
    subst (AppliesOne v shard) (sym (applies index held).1) (
      record {
        kind = refl;
        held = refl;
        own = refl;
        published = refl;
        acked = refl;
        claim = refl;
        turn = sym idle;
        base = refl;
        opening = refl;
        head = refl;
        history = refl;
        absorbed = refl;
        acked_known = refl;
      },
      refl,
    )

-- The batch may be marked once its one piece is applied.
can_mark_one : (v v' : View) (pieces left : PiecesLeft) (shard : ℕ) (piece : List Version) → v.seat.turn ≡ None → HoldsUnapplied v pieces
    → IsNextPiece pieces shard piece → AppliesPiece v shard v' → left ≡ record pieces { from = shard + 1 } → NoPieceIsLeft left
    → IsOfSession v' → CanMark v'
can_mark_one v v' pieces left shard piece idle holds next applies is none kind =
    let amid = amid_begins v pieces holds in
    let one = applies_one v v' shard amid.index idle amid.holds applies in
    let held = one.0.held ∙ amid.holds in
    let past : PiecesLeft = record pieces { from = shard + 1 } in
    let its = session_holds v' amid.index kind held in
    record {
      holds = its;
      applied = amid_ends v' past (amid_goes_on v v' pieces shard piece amid next one) (subst NoPieceIsLeft is none) its.index its.holds;
    }

pub try_apply-requires-clause-piece : goal.try_apply-requires-clause-piece
try_apply-requires-clause-piece g c = let v : View = session_view c.args.session.now in
    amid_next v c.args.pieces c.in-Some.shard c.in-Some.piece (amid_begins v c.args.pieces c.requires.holds) c.in-Some.ensures.next

pub mark-requires-clause-applied : goal.mark-requires-clause-applied
mark-requires-clause-applied g c = can_mark_one (session_view c.args.session.now) (session_view c.try_apply.new.h) c.args.pieces
    c.take.new.self c.in-Some.shard c.in-Some.piece c.requires.no_turn c.requires.holds c.in-Some.ensures.next
    c.in-Ok.ensures.applied c.in-Some.ensures.handed c.in-None.ensures.none c.try_apply.new.h.stands.kind

pub returns-clause-no_turn : goal.returns-clause-no_turn
returns-clause-no_turn g c = let v : View = session_view c.args.session.now in let v' : View = session_view c.try_apply.new.h in
    let can = can_mark_one v v' c.args.pieces c.take.new.self c.in-Some.shard c.in-Some.piece c.requires.no_turn c.requires.holds
    c.in-Some.ensures.next c.in-Ok.ensures.applied c.in-Some.ensures.handed c.in-None.ensures.none c.try_apply.new.h.stands.kind in
    turn_marked v' (session_view c.mark.new.h) can.holds c.mark.ensures.marked
    ∙ ap (λ (x : View). x.seat.turn) (c.in-Ok.ensures.applied c.requires.holds.index c.requires.holds.holds).1
