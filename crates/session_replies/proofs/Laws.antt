-- What the crates above cite of these proofs, and all that they may.
pub use Rattle.session_replies.proofs.Exhausted.{limited_exactly}
pub use Rattle.session_replies.proofs.InOrder.{legal_in_order}
pub use Rattle.session_replies.proofs.OneReplies.{one_reply}
