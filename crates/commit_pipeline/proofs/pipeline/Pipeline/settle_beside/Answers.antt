-- The threads share the pipeline and the handle.
use mir.Syntax.{Lifetime}
use base.Fml.{Lft}
use denote.Param.{param}
use denote.Param.Send.{IsSync, sendable, given_sync}
use Rattle.std.proofs.Crossing.{crosses}
use Rattle.commit_pipeline.specs.contracts.pipeline.Pipeline as pipeline
use Rattle.commit_pipeline.proofs.IsShared.{pipeline_shared}
use Rattle.commit_pipeline.proofs.pipeline.Pipeline.settle_beside.Goals as goal

pub for_each_mut-requires-sync-F : goal.for_each_mut-requires-sync-F
for_each_mut-requires-sync-F g c κs within =
    let shared : (ℓ : Lifetime) (κ : Lft) → IsSync (pipeline.the_row (record { mir = ℓ; lft = κ }) (param 0 g.row.D) (param 1 g.row.G)
    (param 2 g.row.N) (param 3 g.row.M) g.D.Disk g.N.PipeName g.N.Ledger g.M.Ledger) =
    λ ℓ κ. pipeline_shared (record { mir = ℓ; lft = κ }) (param 0 g.row.D) (param 1 g.row.G) (param 2 g.row.N) (param 3 g.row.M) g.D.Disk
    g.N.PipeName g.N.Ledger g.M.Ledger c.type_bounds.send-D c.type_bounds.sync-G in
    let handle : IsSync g.row.R = given_sync 4 g.row.R c.type_bounds.sync-R in
    search (sendable, crosses, shared) depth 30 fits 100000
