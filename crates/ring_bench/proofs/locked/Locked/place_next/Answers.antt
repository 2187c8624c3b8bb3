use Rattle.std.proofs.Common.{◌∙◌, ◌+◌, ap, sym, Some}
use Rattle.batch_repr.specs.declared.batch.Batch.{Batch}
use Rattle.commit_queue.specs.declared.view.View.{View}
use Rattle.commit_queue.specs.Rule.{numbers}
use Rattle.memtable_shards.specs.Pieces.{PiecesLeft}
use Rattle.commit_queue.specs.Seats.{producer_view, session_view, note_view}
use Rattle.commit_queue.proofs.Laws.{awaits_read, awaits_handed, holds_adopted, unapplied_adopted, unapplied_handed, unapplied_next}
use Rattle.ring_bench.proofs.locked.Locked.place_next.Goals as goal

pub invariant_of-self-2 : goal.invariant_of-self-2
invariant_of-self-2 g c = let r = c.args.self.now in let b : Batch = c.number-numbered.result in let v0 : View = producer_view r.producer in
    let v : View = producer_view c.slot_free.new.p in let v1 : View = producer_view c.place.new.p in
    let v2 : View = producer_view c.admit.new.p in let v3 : View = producer_view c.hand_over-note.new.p in record {
      named = c.hand_over-note.ensures.same ∙ c.admit.ensures.same ∙ c.place.ensures.same ∙ c.slot_free.ensures.same ∙ r.named;
      awaits = awaits_handed v v1 v2 v3 r.next r.placed _ b (awaits_read v0 v _ r.next r.placed r.awaits c.slot_free.ensures.read)
          c.place.ensures.placed c.admit.ensures.admitted c.hand_over-note.ensures.given.left
          (c.end-self.ensures.end ∙ ap (λ (x : Batch). x.first + numbers b) c.number-numbered.ensures);
    }

pub returns-clause-placed : goal.returns-clause-placed
returns-clause-placed g c = let b : Batch = c.number-numbered.result in let pieces : PiecesLeft = c.number.new.self in
    let v : View = producer_view c.slot_free.new.p in let v1 : View = producer_view c.place.new.p in
    let v2 : View = producer_view c.admit.new.p in let w : View = note_view c.hand_over-note.result in
    let old : View = session_view c.args.seat.now in let new : View = session_view c.adopt.new.s in
    let numbered = c.number.ensures in let whole = c.requires.pieces in let is = c.number-numbered.ensures in
    let placed = unapplied_next v v1 v2 b pieces c.place.ensures.placed c.admit.ensures.admitted
    (ap (λ (x : PiecesLeft). x.entries) numbered ∙ ap (λ (x : PiecesLeft). x.entries) whole ∙ sym (ap (λ (x : Batch). x.entries) is))
    (ap (λ (x : PiecesLeft). x.first) numbered ∙ ap (λ (x : Batch). Some x.first) (sym is))
    (ap (λ (x : PiecesLeft). x.from) numbered ∙ ap (λ (x : PiecesLeft). x.from) whole) in
    let handed = unapplied_handed v2 w pieces placed c.hand_over-note.ensures.given.note in
    let idle = c.requires.idle in let adopted = c.adopt.ensures.adopted in (
      holds_adopted old w new handed.index idle.0.0 c.args.seat.now.stands.kind handed.holds adopted,
      unapplied_adopted old w new pieces idle.0.0 idle.1 handed adopted,
      adopted.turn ∙ idle.0.1,
    )
