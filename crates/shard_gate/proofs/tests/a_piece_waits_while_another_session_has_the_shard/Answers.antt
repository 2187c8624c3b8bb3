use Rattle.std.proofs.Common.{◌≡◌, ℕ, List, sym, subst}
use Rattle.memtable_shards.specs.Versions.{Version}
use Rattle.commit_queue.specs.declared.view.View.{View}
use Rattle.commit_queue.specs.Views.{busy_view}
use Rattle.commit_queue.specs.Seats.{session_view}
use Rattle.shard_gate.specs.Gates.{HoldsPiece}
use Rattle.shard_gate.proofs.AppliesAll.{amid_begins, amid_next}
use Rattle.shard_gate.proofs.ReadsNewest.{gives_same}
use Rattle.shard_gate.proofs.tests.a_piece_waits_while_another_session_has_the_shard.Goals as goal

-- A shard that was found taken changes nothing of the piece that is held.
still_holds : (v v' : View) (shard : ℕ) (piece back : List Version) → v' ≡ busy_view v → back ≡ piece → HoldsPiece v shard piece
    → HoldsPiece v' shard back
still_holds v v' shard piece back busy same holds =
    subst (λ (x : View). HoldsPiece x shard back) (sym busy) (subst (HoldsPiece (busy_view v) shard) (sym same) record {
      index = holds.index;
      batch = holds.batch;
      holds = holds.holds;
      at = holds.at;
      own = holds.own;
      has_piece = holds.has_piece;
      new = holds.new;
    })

pub try_apply-requires-clause-piece : goal.try_apply-requires-clause-piece
try_apply-requires-clause-piece g c = let v : View = session_view c.send-pieces.new.self.one in
    amid_next v c.send-pieces.result c.in-Some.shard c.in-Some.piece (amid_begins v c.send-pieces.result c.send-pieces.ensures.holds) c.in-Some.ensures.next

pub give_shard-requires-clause-gives : goal.give_shard-requires-clause-gives
give_shard-requires-clause-gives g c = gives_same _ (session_view c.take_shard.new.h) _ c.in-Some-take_shard.taken c.in-Some-take_shard.taken c.in-Some-take_shard.ensures.taken
    (λ version. (λ held. held, λ held. held))

pub try_apply-requires-2-clause-piece : goal.try_apply-requires-2-clause-piece
try_apply-requires-2-clause-piece g c = let v : View = session_view c.send-pieces.new.self.one in
    still_holds v (session_view c.try_apply.new.h) c.in-Some.shard c.in-Some.piece c.in-Err.field-0.piece c.in-Err.ensures.busy
    c.in-Err.ensures.back
    (amid_next v c.send-pieces.result c.in-Some.shard c.in-Some.piece (amid_begins v c.send-pieces.result c.send-pieces.ensures.holds) c.in-Some.ensures.next)
