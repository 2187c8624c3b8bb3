-- What the crates above cite of these proofs, and all that they may.
pub use Rattle.record_flow.proofs.ComesNext.{end_is_next, first_is_next, one_more, records_append}
pub use Rattle.record_flow.proofs.IsSent.{nodes_sent, node_sent}
pub use Rattle.record_flow.proofs.IsSent.{send_pass_sent, send_pass_field_sent, flush_pass_sent, flush_pass_field_sent}
pub use Rattle.record_flow.proofs.IsSent.{flow_sent, flow_field_sent, flow_shared, flow_field_shared}
pub use Rattle.record_flow.proofs.OnTheWay.{taken_is_prefix}
