-- The pass that sends goes to the other thread and comes back, and the queue is shared.
use mathlib.Core.List.{[], ◌∷◌}
use mir.Syntax.{Lifetime}
use base.Fml.{Lft}
use denote.Ref.{ShrRef}
use denote.Param.{param}
use denote.Param.Send.{IsSync, AllSend, sendable, given_sync, param_sync, shr_send}
use Rattle.std.proofs.Crossing.{send}
use Rattle.std_heap.specs.contracts.Global as Heap
use Rattle.record_flow.specs.contracts.flow.RecordFlow as flow
use Rattle.record_flow.specs.contracts.passes.SendPass as sends
use Rattle.record_flow.proofs.Laws.{send_pass_sent, flow_shared}
use Rattle.record_flow.proofs.tests.between_threads.Goals as goal

pub join-sends-requires-send-F : goal.join-sends-requires-send-F
join-sends-requires-send-F g c κs within =
    let handle : IsSync (param 0 g.row.R) = param_sync 0 g.row.R (given_sync 0 g.row.R c.type_bounds.sync-R) in
    let captured : (ℓ ℓ' : Lifetime) (κ κ' : Lft)
    → AllSend (ShrRef ℓ κ (param 0 g.row.R) ∷ ShrRef ℓ' κ' flow.the_row ∷ Heap.the_row ∷ sends.the_row ∷ []) =
    λ ℓ ℓ' κ κ'. (shr_send ℓ κ _ handle, (shr_send ℓ' κ' _ flow_shared, (send, (send_pass_sent, tt)))) in
    search (sendable, captured) depth 10

pub join-sends-requires-send-A : goal.join-sends-requires-send-A
join-sends-requires-send-A g c κs within = search (sendable, send_pass_sent) depth 20
