-- Which queue a pass is of, and what it knows (docs/formats/ring.md, "The commit").
use Rattle.std.specs.Prelude.{◌≡◌, ℕ, List}
use Rattle.atomic_blocks.specs.Laid.{WebId}
use Rattle.record_flow.specs.declared.rule.FlowView.{FlowView}
use Rattle.record_flow.specs.declared.flow.RecordFlow.{RecordFlow}
use Rattle.record_flow.specs.declared.passes.SendPass.{SendPass}
use Rattle.record_flow.specs.declared.passes.FlushPass.{FlushPass}
use Rattle.record_flow.specs.Views.{first_numbers, send_opened, flush_opened}

-- how a queue is told from all others
abbrev pub FlowId : Type 0
FlowId = WebId

-- which queue it is
abbrev pub flow_id : RecordFlow → FlowId
flow_id flow = flow.nodes.web

-- the queue that the pass sends into
abbrev pub send_queue : SendPass → FlowId
send_queue s = s.pass.web

-- the queue that the pass takes out of
abbrev pub flush_queue : FlushPass → FlowId
flush_queue p = p.pass.web

-- what the pass that sends knows
abbrev pub send_view : SendPass → FlowView
send_view s = s.pass.me.view.client

-- what the pass that takes knows
abbrev pub take_view : FlushPass → FlowView
take_view p = p.pass.me.view.client

-- the first numbers of the records taken with the pass, in their order
abbrev pub taken_numbers : FlushPass → List ℕ
taken_numbers p = first_numbers (take_view p).taken

-- A new queue for the records from this number on, with its two passes, with which nothing was moved.
pub record OpensFlow (first : ℕ) (flow : RecordFlow) (s : SendPass) (p : FlushPass) : Type 0 where
  pub sends_into : send_queue s ≡ flow_id flow
  pub sender : send_view s ≡ send_opened first
  pub takes_from : flush_queue p ≡ flow_id flow
  pub taker : take_view p ≡ flush_opened first
