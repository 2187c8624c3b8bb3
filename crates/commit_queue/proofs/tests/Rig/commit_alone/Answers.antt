use Rattle.std.proofs.Common.{◌∙◌, ◌+◌, ap, ℕ}
use Rattle.batch_repr.specs.declared.batch.Batch.{Batch}
use Rattle.memtable_shards.specs.Pieces.{PiecesLeft}
use Rattle.commit_queue.specs.declared.view.View.{View}
use Rattle.commit_queue.specs.Rule.{numbers}
use Rattle.commit_queue.specs.Seats.{producer_view}
use Rattle.commit_queue.proofs.AwaitsBatch.{awaits_read, awaits_marked, awaits_goes_on, can_mark, holds_next, turn_marked, unapplied_next}
use Rattle.commit_queue.proofs.GoesOn.{tries_goes_on}
use Rattle.commit_queue.proofs.tests.Rig.commit_alone.Goals as goal

pub apply_all-requires-clause-unapplied : goal.apply_all-requires-clause-unapplied
apply_all-requires-clause-unapplied g c = let b : Batch = c.next_batch-batch.result.0 in let cut = c.next_batch-batch.ensures.pieces in
    unapplied_next (producer_view c.slot_free.new.p) (producer_view c.place.new.p) _ b _ c.place.ensures.placed c.admit-self.ensures.admitted
    (ap (λ (p : PiecesLeft). p.entries) cut) (ap (λ (p : PiecesLeft). p.first) cut) (ap (λ (p : PiecesLeft). p.from) cut)

pub mark-requires-clause-applied : goal.mark-requires-clause-applied
mark-requires-clause-applied g c = let r = c.args.self.now in let b : Batch = c.next_batch-batch.result.0 in
    let v : View = producer_view c.slot_free.new.p in let v1 : View = producer_view c.place.new.p in
    let v2 : View = producer_view c.admit-self.new.p in let only = c.apply_all.ensures.only in
    can_mark v2 _ (holds_next v v1 v2 r.next r.placed b (awaits_read (producer_view r.producer) v _ r.next r.placed r.awaits c.slot_free.ensures.read)
    c.place.ensures.placed c.admit-self.ensures.admitted)
    (ap (λ (x : View). x.seat.kind) only) (ap (λ (x : View). x.seat.held) only) (ap (λ (x : View). x.head) only) c.apply_all.ensures.applied

pub invariant_of-self-2 : goal.invariant_of-self-2
invariant_of-self-2 g c = let r = c.args.self.now in let b : Batch = c.next_batch-batch.result.0 in let v0 : View = producer_view r.producer in
    let v : View = producer_view c.slot_free.new.p in let v1 : View = producer_view c.place.new.p in
    let v2 : View = producer_view c.admit-self.new.p in let v3 : View = producer_view c.apply_all.new.h in
    let v4 : View = producer_view c.mark.new.h in let v5 : View = producer_view c.try_publish.new.h in
    let only = c.apply_all.ensures.only in
    let awaits = awaits_read v0 v _ r.next r.placed r.awaits c.slot_free.ensures.read in
    let can = can_mark v2 v3 (holds_next v v1 v2 r.next r.placed b awaits c.place.ensures.placed c.admit-self.ensures.admitted)
    (ap (λ (x : View). x.seat.kind) only) (ap (λ (x : View). x.seat.held) only) (ap (λ (x : View). x.head) only) c.apply_all.ensures.applied in
    let on = tries_goes_on v4 v5 c.try_publish.result c.try_publish.ensures.tried in record {
      producer_of = c.try_publish.ensures.same ∙ c.mark.ensures.same ∙ c.apply_all.ensures.same ∙ c.admit-self.ensures.same
          ∙ c.place.ensures.same ∙ c.slot_free.ensures.same ∙ r.producer_of;
      flush_of = r.flush_of;
      one_of = r.one_of;
      other_of = r.other_of;
      parcels_of = r.parcels_of;
      awaits = awaits_goes_on v4 v5 _ _ c.mark.new.h.stands.kind
          (awaits_marked v v1 v2 v3 v4 r.next r.placed _ b awaits
          c.place.ensures.placed c.admit-self.ensures.admitted (ap (λ (x : View). x.seat.held) only) (ap (λ (x : View). x.head) only)
          (ap (λ (x : View). x.history) only) (ap (λ (x : View). x.base) only) c.mark.ensures.marked
          (c.end-self.ensures.end ∙ ap (λ (x : ℕ). x + numbers b) c.next_batch-batch.ensures.first))
          on;
      no_turn = on.turn ∙ turn_marked v3 v4 can.holds c.mark.ensures.marked ∙ c.apply_all.ensures.no_turn;
      one_idle = r.one_idle;
      one_clean = r.one_clean;
      other_idle = r.other_idle;
      other_clean = r.other_clean;
    }
