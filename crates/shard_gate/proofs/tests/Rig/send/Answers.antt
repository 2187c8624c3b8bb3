use Rattle.std.proofs.Common.{◌∙◌, ◌+◌, ap, sym, Some}
use Rattle.batch_repr.specs.declared.batch.Batch.{Batch}
use Rattle.commit_queue.specs.declared.view.View.{View}
use Rattle.commit_queue.specs.Rule.{numbers}
use Rattle.memtable_shards.specs.Pieces.{PiecesLeft}
use Rattle.commit_queue.specs.Seats.{producer_view, session_view, note_view}
use Rattle.commit_queue.proofs.Laws.{awaits_read, awaits_handed, unapplied_adopted, unapplied_handed, unapplied_next}
use Rattle.shard_gate.proofs.tests.Rig.send.Goals as goal

pub invariant_of-self : goal.invariant_of-self
invariant_of-self g c = let r = c.args.self.now in let b : Batch = c.number-numbered.result in let v0 : View = producer_view r.producer in
    let v : View = producer_view c.slot_free.new.p in let v1 : View = producer_view c.place.new.p in
    let v2 : View = producer_view c.admit.new.p in let v3 : View = producer_view c.hand_over-note.new.p in record {
      producer_of = c.hand_over-note.ensures.same ∙ c.admit.ensures.same ∙ c.place.ensures.same ∙ c.slot_free.ensures.same ∙ r.producer_of;
      one_of = c.adopt.ensures.same ∙ r.one_of;
      other_of = r.other_of;
      awaits = awaits_handed v v1 v2 v3 r.next r.placed _ b (awaits_read v0 v _ r.next r.placed r.awaits c.slot_free.ensures.read)
          c.place.ensures.placed c.admit.ensures.admitted c.hand_over-note.ensures.given.left
          (c.end-self.ensures.end ∙ ap (λ (x : Batch). x.first + numbers b) c.number-numbered.ensures);
      other_idle = r.other_idle;
    }

pub returns-clause-holds : goal.returns-clause-holds
returns-clause-holds g c = let b : Batch = c.number-numbered.result in let pieces : PiecesLeft = c.number.new.self in
    let v : View = producer_view c.slot_free.new.p in let v1 : View = producer_view c.place.new.p in
    let v2 : View = producer_view c.admit.new.p in let w : View = note_view c.hand_over-note.result in
    let numbered = c.number.ensures in let whole = c.args.ready.whole in let is = c.number-numbered.ensures in
    let placed = unapplied_next v v1 v2 b pieces c.place.ensures.placed c.admit.ensures.admitted
    (ap (λ (x : PiecesLeft). x.entries) numbered ∙ ap (λ (x : PiecesLeft). x.entries) whole ∙ sym (ap (λ (x : Batch). x.entries) is))
    (ap (λ (x : PiecesLeft). x.first) numbered ∙ ap (λ (x : Batch). Some x.first) (sym is))
    (ap (λ (x : PiecesLeft). x.from) numbered ∙ ap (λ (x : PiecesLeft). x.from) whole) in
    let handed = unapplied_handed v2 w pieces placed c.hand_over-note.ensures.given.note in
    unapplied_adopted (session_view c.args.self.now.one) w (session_view c.adopt.new.s) pieces c.requires.idle.0 c.requires.none handed
    c.adopt.ensures.adopted
