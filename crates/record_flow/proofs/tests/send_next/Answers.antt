use Rattle.std.proofs.Common.{true}
use Rattle.record_queue.specs.declared.node.Filled.{Filled}
use Rattle.record_flow.specs.Passes.{send_view}
use Rattle.record_flow.proofs.ComesNext.{one_more_is_next, one_more_is_counted}
use Rattle.record_flow.proofs.tests.send_next.Goals as goal

pub invariant_of-sender : goal.invariant_of-sender
invariant_of-sender g c =
    let f : Filled = record { rec = c.numbered.result; sync = true } in
    let sent = c.in-Ok.ensures.sent f c.fill.ensures in
    record {
      next_is = one_more_is_next c.args.sender.now.next (send_view c.args.sender.now.pass) (send_view c.send.new.pass) f sent c.numbered.ensures.first c.numbered.ensures.count;
      count = one_more_is_counted c.args.sender.now.sent (send_view c.args.sender.now.pass) (send_view c.send.new.pass) f sent c.args.sender.now.count;
    }
