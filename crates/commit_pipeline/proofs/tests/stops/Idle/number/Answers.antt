-- The seat holds the batch, of which no piece is applied.
use Rattle.std.proofs.Common.{rules, ap, ◌∙◌}
use Rattle.std.specs.declared.sync.ledger.Share.{Share}
use Rattle.commit_queue.specs.Calls.{HoldsUnapplied}
use Rattle.commit_queue.specs.Seats.{session_view}
use Rattle.commit_pipeline.proofs.PublishesHeld.{numbered_end}
use Rattle.commit_pipeline.proofs.tests.stops.Idle.number.Goals as goal

pub invariant_of-result : goal.invariant_of-result
invariant_of-result g c =
    let i = c.self.invariant in
    let e = c.take_number.ensures in
    let taken = c.in-Ok.ensures.taken in
    let holds : HoldsUnapplied (session_view c.take_number.new.desk.seat) c.number.new.self = record {
      index = c.in-Ok.index;
      batch = record { first = c.in-Ok.first; entries = c.into_parts-batch.result.0 };
      holds = taken.held;
      at = taken.at;
      entries = search rules;
      first = search rules;
      all = search rules;
      none = taken.goes_on.pieces ∙ i.none;
    } in (
      e.same ∙ i.of_table,
      taken.goes_on.base ∙ i.base,
      taken.goes_on.turn ∙ i.idle.1,
      holds,
      numbered_end _ c.in-Ok.first c.from.result c.in-Ok.index (session_view c.self.inside.desk.seat)
          (session_view c.take_number.new.desk.seat) taken (c.from.ensures ∙ c.count-count.ensures.count),
      e.own.0 ∙ i.own_part,
      ap (λ (x : Share _). x.parts) e.dead ∙ i.dead_part,
      ap (λ (x : Share _). x.parts) e.met ∙ i.told_part,
    )
