use Rattle.std.proofs.Common.{ap, Some}
use Rattle.std.proofs.lemmas.List.Elements.{All-pop}
use Rattle.commit_queue.specs.declared.view.View.{View}
use Rattle.commit_queue.specs.Seats.{IsNewSession}
use Rattle.commit_queue.proofs.Laws.{awaits_first}
use Rattle.shard_gate.proofs.tests.Rig.open.Goals as goal

pub invariant_of-result : goal.invariant_of-result
invariant_of-result g c = let made = c.in-Ok.ensures in let new = IsNewSession c.in-Ok.table 10 c.eight.result in
    let last = All-pop new c.in-Ok.sessions _ (Some c.in-Some-Some.other) c.in-Some-Some.ensures.some made.sessions.each in
    let first = All-pop new _ _ (Some c.in-Some-Some.one) c.in-Some-Some.ensures'.some last.0 in record {
      producer_of = made.producer.0;
      one_of = first.1.0;
      other_of = last.1.0;
      awaits = awaits_first _ 10 c.eight.result made.producer.1;
      other_idle = (ap (λ (v : View). v.seat.held) last.1.1, ap (λ (v : View). v.seat.turn) last.1.1);
    }
