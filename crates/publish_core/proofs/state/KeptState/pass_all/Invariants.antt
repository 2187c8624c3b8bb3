use Rattle.std.proofs.Common.{◌≡◌, take}
use Rattle.publish_core.specs.Kept.{kept_state}
use Rattle.publish_core.specs.Seated.{HandsOn}
use Rattle.publish_core.proofs.state.KeptState.pass_all.Given as goal

abbrev pub invariant-loop-batch : goal.invariant-loop-batch
invariant-loop-batch l = record {
  seats : l.self.seats.items ≡ l.initial.self.seats.items;
  passed : HandsOn l.note l.into (take l.batch-index l.batches.items) (kept_state l.initial.self) (kept_state l.self);
}
