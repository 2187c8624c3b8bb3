-- The operation that is polled is the one that the writer's phase names.
use Rattle.std.proofs.Common.{◌≡◌, ap, sym, subst, ◌∙◌}
use Rattle.log_writer.specs.declared.phase.Phase.TheVariants.{InFlight}
use Rattle.log_writer.specs.Writer.{Writer}
use Rattle.disk_face.specs.declared.OpId.{OpId}
use Rattle.log_writer.specs.Steps.{TakesPoll}
use Rattle.log_writer.specs.Fits.{Fits}
use Rattle.log_writer.proofs.Fits.{fits_kept}
use Rattle.log_writer.proofs.Polls.{polled_fits, polled_moments, polled_others, polled_other_moments, takes_poll}
use Rattle.log_writer.proofs.writer.LogWriter.poll.Goals as goal

in_flight : (g : _) (c : goal.After-take_answer g) → c.args.self.now.phase ≡ InFlight c.in-InFlight.operation c.in-InFlight.id
in_flight g c = ap (λ (w : Writer). w.phase) (sym c.self.view_is) ∙ c.in-InFlight.is

pub returns-clause-fits : goal.returns-clause-fits
returns-clause-fits g c records fits =
    subst (λ (w : Writer). Fits g.D.Disk.tells records w (g.D.Disk.view c.poll-answer.new.self)) (sym c.take_answer.ensures)
    (polled_fits g.D.Disk.tells c.args.self.now (g.D.Disk.view c.args.disk.now) (g.D.Disk.view c.poll-answer.new.self) c.in-InFlight.operation c.in-InFlight.id (in_flight g c) records c.poll-answer.result fits
    c.poll-answer.ensures.polled)

pub returns-clause-each_moment : goal.returns-clause-each_moment
returns-clause-each_moment g c records fits told =
    polled_moments g.D.Disk.tells c.args.self.now (g.D.Disk.view c.args.disk.now) (g.D.Disk.view c.poll-answer.new.self) c.in-InFlight.operation c.in-InFlight.id (in_flight g c) records c.poll-answer.result
    c.poll-answer.ensures.goes_on fits c.poll-answer.ensures.polled told

pub returns-clause-kept : goal.returns-clause-kept
returns-clause-kept g c records fits told =
    fits_kept g.D.Disk.tells records c.take_answer.new.self (g.D.Disk.view c.poll-answer.new.self) (returns-clause-fits g c records fits) told

pub returns-clause-others : goal.returns-clause-others
returns-clause-others g c =
    polled_others g.D.Disk.tells c.args.self.now (g.D.Disk.view c.args.disk.now) (g.D.Disk.view c.poll-answer.new.self) c.in-InFlight.operation c.in-InFlight.id (in_flight g c) c.requires.fits.0 c.poll-answer.result
    c.requires.fits.1 c.poll-answer.ensures.polled

pub returns-clause-other_moments : goal.returns-clause-other_moments
returns-clause-other_moments g c told =
    polled_other_moments g.D.Disk.tells c.args.self.now (g.D.Disk.view c.args.disk.now) (g.D.Disk.view c.poll-answer.new.self) c.in-InFlight.operation c.in-InFlight.id (in_flight g c) c.requires.fits.0
    c.poll-answer.result c.poll-answer.ensures.goes_on c.requires.fits.1 c.poll-answer.ensures.polled told

pub returns-clause-takes : goal.returns-clause-takes
returns-clause-takes g c operation id phase =
    let same : InFlight c.in-InFlight.operation c.in-InFlight.id ≡ InFlight operation id = sym (in_flight g c) ∙ phase in
    let is : c.in-InFlight.id ≡ id = cc in
    subst (λ (i : OpId). TakesPoll i c.poll-answer.result (g.D.Disk.view c.args.disk.now) (g.D.Disk.view c.poll-answer.new.self)) is
    (takes_poll g.D.Disk.tells c.in-InFlight.id c.poll-answer.result (g.D.Disk.view c.args.disk.now) (g.D.Disk.view c.poll-answer.new.self) c.poll-answer.ensures.stalls c.poll-answer.ensures.polled)
