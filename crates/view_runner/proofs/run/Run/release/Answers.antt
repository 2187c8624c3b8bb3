use Rattle.std.proofs.Common.{◌≡◌, List, Option, Some, None, refl, subst, arith}
use Rattle.std.specs.Prelude.{slice_get}
use Rattle.std.specs.Vec.{with_item}
use Rattle.std.proofs.lemmas.Option.{slice_get_within}
use Rattle.std.proofs.lemmas.Result.{on_ok_weaker}
use Rattle.snapshot_view.specs.declared.view.SnapId.{SnapId}
use Rattle.view_runner.proofs.Answering.{is_held, releases, releases_none}
use Rattle.view_runner.proofs.run.Run.release.Goals as goal

pub release-requires : goal.release-requires
release-requires c = is_held c.args.self.now c.args.hold c.in-Some.id c.requires
    (subst (λ (l : List (Option SnapId)). slice_get l c.args.hold ≡ Some (Some c.in-Some.id)) c.deref.ensures.value c.in-Some.ensures.some)

pub index_mut-requires : goal.index_mut-requires
index_mut-requires c =
    omega (arith, slice_get_within c.deref.result.now c.args.hold (Some c.in-Some.id) c.in-Some.ensures.some, c.deref.ensures.len)

pub returns-in-Some : goal.returns-in-Some
returns-in-Some c = on_ok_weaker c.put_release.result (λ written. releases c.args.self.now
    (record { view = c.release.new.self; holds = with_item c.args.self.now.holds c.args.hold None; text = c.put_release.new.out })
    c.args.hold c.in-Some.id
    (subst (λ (l : List (Option SnapId)). slice_get l c.args.hold ≡ Some (Some c.in-Some.id)) c.deref.ensures.value c.in-Some.ensures.some)
    c.release.ensures refl written) c.put_release.ensures

pub returns-in-None : goal.returns-in-None
returns-in-None c = on_ok_weaker c.put_not_held.result (λ written. releases_none c.args.self.now c.put_not_held.new.out c.args.hold
    (subst (λ (l : List (Option SnapId)). (id : SnapId) → slice_get l c.args.hold ≡ Some (Some id) → ⊥) c.deref.ensures.value c.in-None.ensures.none)
    written) c.put_not_held.ensures
