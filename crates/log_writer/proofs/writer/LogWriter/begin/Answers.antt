-- Where nothing is started the one moment is that of before. Else the writer is as it was with the operation in flight.
use Rattle.std.proofs.Common.{sym, ap, subst, Option, ◌∙◌, ℕ, ◌<◌, ◌^◌}
use Rattle.disk_face.specs.View.{DiskView, AtEachMoment}
use Rattle.disk_face.proofs.Laws.{moments_from}
use Rattle.log_writer.specs.declared.phase.Phase.TheVariants.{InFlight}
use Rattle.log_writer.specs.declared.phase.Operation.{Operation}
use Rattle.log_writer.specs.Promises.{SendsJust}
use Rattle.log_writer.specs.Writer.{Writer}
use Rattle.log_writer.specs.Fits.{Fits, place_of_writer}
use Rattle.log_writer.specs.Kept.{SegmentKept}
use Rattle.log_writer.proofs.Fits.{fits_kept}
use Rattle.log_writer.proofs.StartsOn.{begun_fits, begun_moments}
use Rattle.log_writer.proofs.writer.LogWriter.begin.Goals as goal

pub returns-in_default-clause-each_moment : goal.returns-in_default-clause-each_moment
returns-in_default-clause-each_moment g c records fits queue told =
    let w = c.args.self.now in
    moments_from (g.D.Disk.view c.args.disk.now) (SegmentKept (place_of_writer w) w.log w.from w.synced records) (fits_kept g.D.Disk.tells records w (g.D.Disk.view c.args.disk.now) fits told)

pub returns-in_err-id-clause-each_moment : goal.returns-in_err-id-clause-each_moment
returns-in_err-id-clause-each_moment g c records fits queue told =
    let w = c.args.self.now in
    subst (λ (v : DiskView). AtEachMoment (g.D.Disk.view c.args.disk.now).clock v (SegmentKept (place_of_writer w) w.log w.from w.synced records)) (sym c.in_err-id.ensures.err.1)
    (moments_from (g.D.Disk.view c.args.disk.now) (SegmentKept (place_of_writer w) w.log w.from w.synced records) (fits_kept g.D.Disk.tells records w (g.D.Disk.view c.args.disk.now) fits told))

pub returns-clause-fits : goal.returns-clause-fits
returns-clause-fits g c records fits queue =
    subst (λ (w : Writer). Fits g.D.Disk.tells records (record w { waiting = 0; phase = InFlight c.in-Some.operation c.in_ok-id.id }) (g.D.Disk.view c.start.new.disk))
    (sym (c.self.view_is ∙ c.in_ok-id.ensures.sent))
    (begun_fits g.D.Disk.tells c.args.self.now c.args.queue.now c.args.goal.now (g.D.Disk.view c.args.disk.now) (g.D.Disk.view c.start.new.disk) c.in_ok-id.id records fits queue c.requires.held
    (subst (λ (n : ℕ). n < 2 ^ 64) (ap (λ (w : Writer). w.synced_bytes) (c.self.view_is ∙ c.in_ok-id.ensures.sent)) c.self.invariant.1)
    c.in-Some.operation (sym c.next.ensures ∙ c.in-Some.is) c.in_ok-id.ensures.starts c.in_ok-id.ensures.file)

pub returns-clause-each_moment : goal.returns-clause-each_moment
returns-clause-each_moment g c records fits queue told =
    begun_moments g.D.Disk.tells c.args.self.now c.args.queue.now c.args.goal.now (g.D.Disk.view c.args.disk.now) (g.D.Disk.view c.start.new.disk) c.in_ok-id.id records fits queue c.requires.held
    (subst (λ (n : ℕ). n < 2 ^ 64) (ap (λ (w : Writer). w.synced_bytes) (c.self.view_is ∙ c.in_ok-id.ensures.sent)) c.self.invariant.1)
    c.in-Some.operation c.start.ensures.goes_on (sym c.next.ensures ∙ c.in-Some.is) c.in_ok-id.ensures.starts c.in_ok-id.ensures.file told

pub returns-clause-sends : goal.returns-clause-sends
returns-clause-sends g c =
    subst (λ (o : Option Operation). SendsJust o g.D.Disk.tells c.args.queue.now c.args.goal.now.len c.args.self.now (g.D.Disk.view c.args.disk.now) (g.D.Disk.view c.start.new.disk))
    (sym c.in-Some.is ∙ c.next.ensures) c.in_ok-id.ensures.file

pub returns-in_default-clause-sends : goal.returns-in_default-clause-sends
returns-in_default-clause-sends g c =
    subst (λ (o : Option Operation). SendsJust o g.D.Disk.tells c.args.queue.now c.args.goal.now.len c.args.self.now (g.D.Disk.view c.args.disk.now) (g.D.Disk.view c.args.disk.now))
    (sym c.in_default.is ∙ c.next.ensures) tt
