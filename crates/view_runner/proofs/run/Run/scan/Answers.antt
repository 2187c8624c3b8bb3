use Rattle.std.proofs.Common.{◌≡◌, List, Option, Some, subst}
use Rattle.std.specs.Prelude.{slice_get}
use Rattle.std.proofs.lemmas.Result.{on_ok_weaker}
use Rattle.snapshot_view.specs.declared.view.SnapId.{SnapId}
use Rattle.view_runner.proofs.Answering.{is_held, scans, scans_none}
use Rattle.view_runner.proofs.run.Run.scan.Goals as goal

pub put_scan-requires : goal.put_scan-requires
put_scan-requires c = is_held c.args.self.now c.args.hold c.in-Some.id c.requires
    (subst (λ (l : List (Option SnapId)). slice_get l c.args.hold ≡ Some (Some c.in-Some.id)) c.deref.ensures.value c.in-Some.ensures.some)

pub returns-in-Some : goal.returns-in-Some
returns-in-Some c = on_ok_weaker c.put_scan.result (λ written. scans c.args.self.now c.put_scan.new.out c.args.hold c.args.from.now c.in-Some.id
    (subst (λ (l : List (Option SnapId)). slice_get l c.args.hold ≡ Some (Some c.in-Some.id)) c.deref.ensures.value c.in-Some.ensures.some) written)
    c.put_scan.ensures

pub returns-in-None : goal.returns-in-None
returns-in-None c = on_ok_weaker c.put_not_held.result (λ written. scans_none c.args.self.now c.put_not_held.new.out c.args.hold
    (subst (λ (l : List (Option SnapId)). (id : SnapId) → slice_get l c.args.hold ≡ Some (Some id) → ⊥) c.deref.ensures.value c.in-None.ensures.none)
    written c.args.from.now) c.put_not_held.ensures
