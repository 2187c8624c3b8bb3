use Rattle.std.proofs.Common.{[], ap, Some}
use Rattle.std.proofs.lemmas.List.Elements.{All-nil, All-pop, All-same}
use Rattle.commit_queue.specs.declared.view.View.{View}
use Rattle.commit_queue.specs.declared.tests.Parcel.{Parcel}
use Rattle.commit_queue.specs.Tables.{IsOfTable}
use Rattle.commit_queue.specs.Seats.{IsNewSession, note_table}
use Rattle.commit_queue.proofs.AwaitsBatch.{awaits_first}
use Rattle.commit_queue.proofs.tests.Rig.open.Goals as goal

pub invariant_of-result : goal.invariant_of-result
invariant_of-result g c = let made = c.in-Ok.ensures in let new = IsNewSession c.in-Ok.table 10 c.eight.result in
    let of_table : Parcel → Type 0 = λ parcel. IsOfTable c.in-Ok.table (note_table parcel.note) in
    let last = All-pop new c.in-Ok.sessions _ (Some c.in-Some-Some.other) c.in-Some-Some.ensures.some made.sessions.each in
    let first = All-pop new _ _ (Some c.in-Some-Some.one) c.in-Some-Some.ensures'.some last.0 in record {
      producer_of = made.producer.0;
      flush_of = made.flush.0;
      one_of = first.1.0;
      other_of = last.1.0;
      parcels_of = All-same of_table c.new.result.items [] c.new.ensures.items (All-nil of_table);
      awaits = awaits_first _ 10 c.eight.result made.producer.1;
      no_turn = ap (λ (v : View). v.seat.turn) made.producer.1;
      one_idle = (ap (λ (v : View). v.seat.held) first.1.1, ap (λ (v : View). v.seat.turn) first.1.1);
      one_clean = ap (λ (v : View). v.pieces) first.1.1;
      other_idle = (ap (λ (v : View). v.seat.held) last.1.1, ap (λ (v : View). v.seat.turn) last.1.1);
      other_clean = ap (λ (v : View). v.pieces) last.1.1;
    }
