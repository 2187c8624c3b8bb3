use Rattle.std.proofs.Common.{◌∙◌, ◌+◌, ◌++◌, ◌∷◌, [], List, All, Bool, true, false, if◌then◌else◌, ap, ℕ}
use Rattle.std.proofs.lemmas.List.Elements.{All-push, All-same}
use Rattle.batch_repr.specs.declared.batch.Batch.{Batch}
use Rattle.memtable_shards.specs.Pieces.{PiecesLeft}
use Rattle.commit_queue.specs.declared.tests.Parcel.{Parcel}
use Rattle.commit_queue.specs.declared.view.View.{View}
use Rattle.commit_queue.specs.Rule.{numbers}
use Rattle.commit_queue.specs.Tables.{IsOfTable}
use Rattle.commit_queue.specs.Seats.{producer_view, note_table, note_view}
use Rattle.commit_queue.proofs.AwaitsBatch.{awaits_read, awaits_handed, kept_unapplied, unapplied_handed, unapplied_next}
use Rattle.commit_queue.proofs.tests.Rig.send_next.Goals as goal

-- a list to which a value was added, or not
added : {X : Type 0} (P : X → Type 0) (b : Bool) (xs : List X) (x : X) → All P xs → P x → All P (if b then (xs ++ x ∷ []) else xs)
added P true xs x all here = All-push P xs x all here
added P false xs x all here = all

pub invariant_of-parcel : goal.invariant_of-parcel
invariant_of-parcel g c = let b : Batch = c.next_batch-batch.result.0 in let cut = c.next_batch-batch.ensures.pieces in
    let v2 : View = producer_view c.admit-index.new.p in let w : View = note_view c.in-Ok.note in record {
      unapplied = kept_unapplied w _ (unapplied_handed v2 w _
          (unapplied_next (producer_view c.slot_free.new.p) (producer_view c.place.new.p) v2 b c.next_batch-batch.result.1
          c.place.ensures.placed c.admit-index.ensures.admitted
          (ap (λ (p : PiecesLeft). p.entries) cut) (ap (λ (p : PiecesLeft). p.first) cut) (ap (λ (p : PiecesLeft). p.from) cut))
          c.in-Ok.ensures.given.note);
    }

pub invariant_of-self-2 : goal.invariant_of-self-2
invariant_of-self-2 g c = let r = c.args.self.now in let b : Batch = c.next_batch-batch.result.0 in let v0 : View = producer_view r.producer in
    let v : View = producer_view c.slot_free.new.p in let v1 : View = producer_view c.place.new.p in
    let v2 : View = producer_view c.admit-index.new.p in let v3 : View = producer_view c.hand.new.p in
    let of_table : Parcel → Type 0 = λ parcel. IsOfTable r.table (note_table parcel.note) in
    let here = c.admit-index.ensures.same ∙ c.place.ensures.same ∙ c.slot_free.ensures.same ∙ r.producer_of in record {
      producer_of = c.hand.ensures.same ∙ here;
      flush_of = r.flush_of;
      one_of = r.one_of;
      other_of = r.other_of;
      parcels_of = All-same of_table c.push.new.self.items _ c.push.ensures.items
          (added of_table _ r.parcels.items _ r.parcels_of (c.in-Ok.ensures.given.table ∙ here));
      awaits = awaits_handed v v1 v2 v3 r.next r.placed _ b (awaits_read v0 v _ r.next r.placed r.awaits c.slot_free.ensures.read)
          c.place.ensures.placed c.admit-index.ensures.admitted c.in-Ok.ensures.given.left
          (c.end-self.ensures.end ∙ ap (λ (x : ℕ). x + numbers b) c.next_batch-batch.ensures.first);
      no_turn = ap (λ (x : View). x.seat.turn) c.in-Ok.ensures.given.left ∙ ap (λ (x : View). x.seat.turn) c.admit-index.ensures.admitted
          ∙ ap (λ (x : View). x.seat.turn) c.place.ensures.placed ∙ ap (λ (x : View). x.seat.turn) c.slot_free.ensures.read.1 ∙ r.no_turn;
      one_idle = r.one_idle;
      one_clean = r.one_clean;
      other_idle = r.other_idle;
      other_clean = r.other_clean;
    }
