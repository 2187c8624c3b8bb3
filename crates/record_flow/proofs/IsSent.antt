-- A node may go from thread to thread, so a pass may, and the queue may be shared.
use denote.RattleType.{RattleType}
use denote.Struct.Declared.{shape}
use denote.Param.Send.{IsSend, IsSync, sendable, recorded_send, recorded_sync, struct_send, struct_sync}
use Rattle.std.specs.contracts.option.Option as option
use Rattle.std.proofs.option.Option.TheSendSync as option_law
use Rattle.std.proofs.Crossing.{crosses, send, sync, frees}
use Rattle.std_heap.specs.contracts.Global as Heap
use Rattle.std_heap.specs.contracts.GlobalAllocator.TheImpl.{ghosts}
use Rattle.std_collections.specs.contracts.linked_list.nodes.Nodes as Nodes
use Rattle.std_collections.proofs.ListMemory.Crosses.{Nodes-send}
use Rattle.atomic_blocks.specs.declared.web.BlockRule.{Ghosts}
use Rattle.atomic_blocks.specs.contracts.web.Seat as seat
use Rattle.atomic_blocks.proofs.web.Seat.TheSendSync as seat_law
use Rattle.crossbeam_queue.specs.contracts.seg_queue.Ends as ends
use Rattle.crossbeam_queue.proofs.seg_queue.Ends.TheSendSync as ends_law
use Rattle.crossbeam_queue.specs.contracts.seg_queue.Going as going
use Rattle.crossbeam_queue.specs.contracts.seg_queue.Laps as laps
use Rattle.crossbeam_queue.specs.contracts.seg_queue.LapsBlockRuleOptionGoingEndsOption.TheImpl as laps_rule
use Rattle.crossbeam_queue.proofs.seg_queue.Chained.TheSendSync as queue_law
use Rattle.record_queue.specs.contracts.node.RecordNode as node
use Rattle.record_flow.specs.contracts.rule.FlowView as flow_view
use Rattle.record_flow.specs.contracts.rule.InOrder as in_order
use Rattle.record_flow.specs.contracts.rule.InOrderProtocolRecordNodeFlowView.TheImpl as in_order_rule
use Rattle.record_flow.specs.contracts.flow.RecordFlow as flow
use Rattle.record_flow.specs.contracts.passes.SendPass as sends
use Rattle.record_flow.specs.contracts.passes.FlushPass as takes

-- The nodes of a linked list may go from thread to thread where what they hold may.
pub nodes_sent : (T : RattleType) → IsSend T → IsSend (Nodes.the_row T Heap.the_row ghosts)
nodes_sent T sent = Nodes-send T Heap.the_row ghosts sent send frees

pub node_sent : IsSend node.the_row
node_sent = search (sendable, crosses, nodes_sent) depth 60 fits 200000

-- what a place of the queue holds
abbrev place : RattleType
place = option.the_row node.the_row

-- what a seat at the queue's web knows
abbrev known : RattleType
known = going.the_row node.the_row flow_view.the_row

place_sent : IsSend place
place_sent = option_law.the_send node.the_row node_sent

seat_sent : IsSend (seat.the_row place known Heap.the_row ghosts)
seat_sent = seat_law.the_send place known Heap.the_row ghosts place_sent send frees

-- A pass, as a field of another type and alone.
pub send_pass_field_sent : IsSend sends.the_field.row
send_pass_field_sent = struct_send (shape sends.the_type) (seat_sent, tt)

pub send_pass_sent : IsSend sends.the_row
send_pass_sent = recorded_send _ _ _ sends.the_type.to_one send_pass_field_sent

pub flush_pass_field_sent : IsSend takes.the_field.row
flush_pass_field_sent = struct_send (shape takes.the_type) (seat_sent, tt)

pub flush_pass_sent : IsSend takes.the_row
flush_pass_sent = recorded_send _ _ _ takes.the_type.to_one flush_pass_field_sent

-- the queue's two ends, as its web knows them
abbrev both_ends : RattleType
both_ends = ends.the_row place

both_ends_sent : IsSend both_ends
both_ends_sent = search (sendable, crosses, ends_law.the_send) depth 20

both_ends_shared : IsSync both_ends
both_ends_shared = search (sendable, crosses, ends_law.the_sync) depth 20

-- the rule of the queue's web
abbrev web : RattleType
web = laps.the_row in_order.the_row

abbrev rule : Ghosts web.Denot place.Denot known.Denot both_ends.Denot
rule = laps_rule.ghosts node.the_row flow_view.the_row in_order.the_row in_order_rule.ghosts laps_rule.no_dict

-- The queue, in the same way.
pub flow_field_sent : IsSend flow.the_field.row
flow_field_sent =
    let nodes = queue_law.the_send place known both_ends web Heap.the_row rule ghosts place_sent both_ends_sent send frees in
    struct_send (shape flow.the_type) (nodes, tt)

pub flow_sent : IsSend flow.the_row
flow_sent = recorded_send _ _ _ flow.the_type.to_one flow_field_sent

pub flow_field_shared : IsSync flow.the_field.row
flow_field_shared =
    let nodes = queue_law.the_sync place known both_ends web Heap.the_row rule ghosts place_sent send both_ends_shared sync frees in
    struct_sync (shape flow.the_type) (nodes, tt)

pub flow_shared : IsSync flow.the_row
flow_shared = recorded_sync _ _ _ flow.the_type.to_one flow_field_shared
