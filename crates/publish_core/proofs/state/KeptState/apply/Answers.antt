use Rattle.std.proofs.Common.{◌≡◌, ℕ, ap, ◌∙◌, ◌∷◌}
use Rattle.publish_core.specs.declared.seat.BatchShape.{BatchShape}
use Rattle.publish_core.specs.declared.seat.SeatState.{SeatState}
use Rattle.publish_core.specs.Machine.{CoreState, updated}
use Rattle.publish_core.specs.Kept.{kept_state}
use Rattle.publish_core.proofs.Put.{put_here}
use Rattle.publish_core.proofs.Lent.{applied}
use Rattle.publish_core.proofs.state.KeptState.apply.Goals as goal

pub end_turn-requires-clause-turn : goal.end_turn-requires-clause-turn
end_turn-requires-clause-turn c =
    let s : CoreState BatchShape = kept_state c.args.self.now in let j : ℕ = c.args.seat in
    let s2 : CoreState BatchShape = kept_state c.note_done.new.self in
    let e1 : kept_state c.make_room.new.self ≡ s = c.make_room.ensures.same in
    let e2 : s2 ≡ record (kept_state c.make_room.new.self) {
      done = updated (kept_state c.make_room.new.self).done c.args.shard (c.args.batch ∷ (kept_state c.make_room.new.self).done c.args.shard);
    } =
    c.in_ok-note_done.ensures.ok in
    ap (λ (x : CoreState BatchShape). (x.seats j).turn) c.learn.ensures ∙ ap (λ (x : SeatState). x.turn) (put_here s2.seats j _)
    ∙ ap (λ (x : CoreState BatchShape). (x.seats j).turn) e2 ∙ ap (λ (x : CoreState BatchShape). (x.seats j).turn) e1 ∙ c.requires.turn

pub returns-clause-ok : goal.returns-clause-ok
returns-clause-ok c =
    let s : CoreState BatchShape = kept_state c.args.self.now in let k : ℕ = c.args.shard in
    let e1 : kept_state c.make_room.new.self ≡ s = c.make_room.ensures.same in
    let e2 : kept_state c.note_done.new.self ≡ record s { done = updated s.done k (c.args.batch ∷ s.done k) } =
    c.in_ok-note_done.ensures.ok ∙ ap (λ (x : CoreState BatchShape). record x { done = updated x.done k (c.args.batch ∷ x.done k) }) e1 in
    applied s (kept_state c.note_done.new.self)
    (kept_state c.learn.new.self) _ c.args.seat c.args.batch k c.requires.turn c.requires.held e2 c.learn.ensures c.end_turn.ensures
