use Rattle.std.proofs.Common.{Err, Option, List, ◌++◌, length, ◌∙◌, ap}
use Rattle.view_runner.specs.Texts.{hold_line}
use Rattle.snapshot_view.specs.declared.view.SnapId.{SnapId}
use Rattle.snapshot_view.specs.declared.fault.HoldFault.{HoldFault}
use Rattle.std.proofs.lemmas.Result.{on_ok_weaker}
use Rattle.view_runner.proofs.Answering.{holds_at, refuses_above, refuses_gone}
use Rattle.view_runner.proofs.run.Run.hold.Goals as goal

pub returns-in_ok-put_hold-in-Ok : goal.returns-in_ok-put_hold-in-Ok
returns-in_ok-put_hold-in-Ok c = on_ok_weaker c.add_hold.result (λ added. holds_at c.args.self.now
    (record { view = c.hold.new.self; holds = c.add_hold.new.holds; text = c.put_hold.new.out })
    c.args.at c.in-Ok.id c.in-Ok.ensures.held c.in-Ok.ensures.id c.in-Ok.ensures.taken
    (c.in_ok-put_hold-in-Ok.ensures ∙ ap (λ (l : List (Option SnapId)). c.args.self.now.text ++ hold_line (length l) c.args.at) c.as_slice.ensures.value)
    added) c.add_hold.ensures

pub returns-in_ok-put_above-in-Err-Above : goal.returns-in_ok-put_above-in-Err-Above
returns-in_ok-put_above-in-Err-Above c = on_ok_weaker c.add_hold-in-Err-Above.result (λ added. refuses_above c.args.self.now
    (record { view = c.hold.new.self; holds = c.add_hold-in-Err-Above.new.holds; text = c.put_above.new.out })
    c.args.at c.in-Err-Above.next c.in-Err-Above.ensures.same (c.in-Err-Above.ensures.above c.in-Err-Above.next (ap (λ (f : HoldFault). Err f) c.in-Err-Above.field-0-is)) c.in_ok-put_above-in-Err-Above.ensures added)
    c.add_hold-in-Err-Above.ensures

pub returns-in_ok-put_gone-in-Err-Gone : goal.returns-in_ok-put_gone-in-Err-Gone
returns-in_ok-put_gone-in-Err-Gone c = on_ok_weaker c.add_hold-in-Err-Gone.result (λ added. refuses_gone c.args.self.now
    (record { view = c.hold.new.self; holds = c.add_hold-in-Err-Gone.new.holds; text = c.put_gone.new.out })
    c.args.at c.in-Err-Gone.floor c.in-Err-Gone.ensures.same (c.in-Err-Gone.ensures.gone c.in-Err-Gone.floor (ap (λ (f : HoldFault). Err f) c.in-Err-Gone.field-0-is)) c.in_ok-put_gone-in-Err-Gone.ensures added)
    c.add_hold-in-Err-Gone.ensures
