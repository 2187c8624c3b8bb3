-- While the queue is full, the node comes back, and nothing is sent.
use Rattle.std.proofs.Common.{◌≡◌}
use Rattle.record_flow.specs.Passes.{send_queue, send_view}
use Rattle.commit_pipeline.proofs.log_side.LogSide.send.Given as goal

abbrev pub invariant-loop : goal.invariant-loop
invariant-loop g l = record {
  queue : send_queue l.sends ≡ send_queue l.initial.sends;
  same : send_view l.sends ≡ send_view l.initial.sends;
  back : l.node ≡ l.initial.node;
}
