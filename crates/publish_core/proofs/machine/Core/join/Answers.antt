use Rattle.std.proofs.Common.{sym, subst}
use Rattle.publish_core.specs.Machine.{join}
use Rattle.publish_core.specs.Parts.{IsSoundCore}
use Rattle.publish_core.specs.Answers.{state_of}
use Rattle.publish_core.proofs.Answered.{stays}
use Rattle.publish_core.proofs.Lent.{either}
use Rattle.publish_core.proofs.Seated.{seats_apart, note_away, held_theirs, owned_theirs}
use Rattle.publish_core.proofs.machine.Core.join.Goals as goal

pub take_in-requires-clause-apart : goal.take_in-requires-clause-apart
take_in-requires-clause-apart c =
    let s = c.args.self.now in seats_apart (state_of s) s.sound c.args.into c.args.note (c.can_join.ensures.possible.0 c.if-not-can_join.false)

pub take_in-requires-clause-away : goal.take_in-requires-clause-away
take_in-requires-clause-away c =
    let s = c.args.self.now in note_away (state_of s) s.sound c.args.into c.args.note (c.can_join.ensures.possible.0 c.if-not-can_join.false)

pub take_in-requires-clause-held : goal.take_in-requires-clause-held
take_in-requires-clause-held c = λ i. held_theirs c.args.self.now.kept c.args.self.now.sound c.args.note i

pub take_in-requires-clause-owned : goal.take_in-requires-clause-owned
take_in-requires-clause-owned c = let s = c.args.self.now in
    λ i. owned_theirs s.kept s.sound c.args.note i
    (note_away (state_of s) s.sound c.args.into c.args.note (c.can_join.ensures.possible.0 c.if-not-can_join.false))

pub invariant_of-self : goal.invariant_of-self
invariant_of-self c = let s = c.args.self.now in
    record {
      sound = either c.take_in.result _ _ _ c.take_in.ensures.ok c.take_in.ensures.err
          (λ e. stays (state_of s) (join c.args.into c.args.note) _ s.sound (c.can_join.ensures.possible.0 c.if-not-can_join.false) e)
          (λ e. subst IsSoundCore (sym e) s.sound);
    }
