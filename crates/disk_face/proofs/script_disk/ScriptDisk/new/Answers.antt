use Rattle.std.proofs.Common.{◌≡◌, refl, sym, subst, arith}
use Rattle.disk_face.specs.declared.Side.{Side}
use Rattle.disk_face.specs.declared.Side.TheVariants.{Primary, Secondary}
use Rattle.disk_face.specs.View.{by_side}
use Rattle.disk_face.specs.Script.{ArePassedOn}
use Rattle.disk_face.proofs.PassedOn.{passed_all}
use Rattle.disk_face.proofs.script_disk.ScriptDisk.new.Goals as goal

none_own : (side : Side) → by_side 0 0 side ≡ 0
none_own Primary = refl
none_own Secondary = refl

pub invariant_of-result : goal.invariant_of-result
invariant_of-result g c =
    let calls = (g.D.Disk.view c.args.inner).calls in
    subst (ArePassedOn calls) (sym c.of-log.ensures) (passed_all calls)

pub returns-clause-begins : goal.returns-clause-begins
returns-clause-begins g c =
    let calls = (g.D.Disk.view c.args.inner).calls in
    record {
      tells = record {
        faults = refl;
        in_flight = refl;
        clock = refl;
        history = refl;
        polls = λ side. omega arith;
        calls = subst (ArePassedOn calls) (sym c.of-log.ensures) (passed_all calls);
      };
      polls = λ side. omega (arith, none_own side);
      calls = c.of-log.ensures;
    }
