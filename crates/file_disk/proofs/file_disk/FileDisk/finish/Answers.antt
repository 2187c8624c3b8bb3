use Rattle.std.proofs.Common.{sym, subst, ap, ◌∙◌}
use Rattle.disk_face.specs.View.{DiskView}
use Rattle.disk_face.specs.Calls.{GoesOn, Ends}
use Rattle.file_disk.specs.Flights.{file_view}
use Rattle.file_disk.proofs.file_disk.FileDisk.finish.Goals as goal

pub returns-in-Some-clause-goes_on : goal.returns-in-Some-clause-goes_on
returns-in-Some-clause-goes_on g c = subst (λ (v : DiskView). GoesOn
    (file_view c.args.self.now.primary c.args.self.now.secondary c.args.self.now.log.calls) v) (sym c.run.ensures) c.end.ensures.goes_on

pub returns-in-Some-clause-ends : goal.returns-in-Some-clause-ends
returns-in-Some-clause-ends g c = subst (λ (v : DiskView). Ends c.args.id
    (file_view c.args.self.now.primary c.args.self.now.secondary c.args.self.now.log.calls) v) (sym c.run.ensures) c.end.ensures.ends

pub returns-in-Some-clause-steady : goal.returns-in-Some-clause-steady
returns-in-Some-clause-steady g c s = ap (λ (v : DiskView). v.faults s) c.run.ensures ∙ c.end.ensures.steady s
