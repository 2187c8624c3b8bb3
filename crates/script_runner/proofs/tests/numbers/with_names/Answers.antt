-- The opening allows stalls.
use Rattle.std.proofs.Common.{IsTrue, refl, ap, sym, subst}
use Rattle.commit_pipeline.specs.Openings.{Opening}
use Rattle.script_runner.specs.Works.{work_rounds}
use Rattle.script_runner.proofs.AllowsStalls.{allowed}
use Rattle.script_runner.proofs.tests.numbers.with_names.Goals as goal

pub perform-requires-clause-may : goal.perform-requires-clause-may
perform-requires-clause-may g c κs within =
    allowed g.N.PipeName.opening (work_rounds c.args.work) (λ some. subst IsTrue (sym (ap (λ (o : Opening). o.start.may_stall) c.requires.opening)) refl)
