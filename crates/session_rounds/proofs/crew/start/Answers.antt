-- The threads share the pipeline.
use mir.Syntax.{Lifetime}
use base.Fml.{Lft}
use denote.Param.{param}
use denote.Param.Send.{IsSync, sendable, given_sync}
use Rattle.std.proofs.Crossing.{crosses}
use Rattle.commit_pipeline.specs.contracts.pipeline.Pipeline as pipeline
use Rattle.commit_pipeline.proofs.Laws.{pipeline_shared}
use Rattle.lent_work.proofs.desk.Desk.TheSendSync as desk
use Rattle.lent_work.proofs.ends.Worker.TheSendSync as worker
use Rattle.session_rounds.proofs.turns.Turn.TheSendSync as turn
use Rattle.session_rounds.proofs.crew.start.Goals as goal

pub spawn_scoped_with-requires-send-F : goal.spawn_scoped_with-requires-send-F
spawn_scoped_with-requires-send-F g c κs within =
    let shared : (ℓ : Lifetime) (κ : Lft) → IsSync (pipeline.the_row (record { mir = ℓ; lft = κ }) (param 1 g.row.D) (param 2 g.row.G)
    (param 3 g.row.N) (param 4 g.row.M) g.D.Disk g.N.PipeName g.N.Ledger g.M.Ledger) =
    λ ℓ κ. pipeline_shared (record { mir = ℓ; lft = κ }) (param 1 g.row.D) (param 2 g.row.G) (param 3 g.row.N) (param 4 g.row.M) g.D.Disk
    g.N.PipeName g.N.Ledger g.M.Ledger c.type_bounds.send-D c.type_bounds.sync-G in
    let handle : IsSync g.row.R = given_sync 5 g.row.R c.type_bounds.sync-R in
    search (sendable, crosses, shared, desk.the_send, desk.the_sync, worker.the_send, turn.the_send) depth 30 fits 100000
