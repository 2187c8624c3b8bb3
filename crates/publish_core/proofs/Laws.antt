-- What the crates above cite of these proofs, and all that they may.
pub use Rattle.publish_core.proofs.Alone.{kept_load_slot, kept_load_ends, kept_load_visible, kept_load_acked, kept_claim_lost}
pub use Rattle.publish_core.proofs.Both.{CanJoin, kept_join}
pub use Rattle.publish_core.proofs.Front.{kept_claim_won, emptied_state, emptying, raised_state, raising}
pub use Rattle.publish_core.proofs.Joining.{kept_tell, kept_hand}
pub use Rattle.publish_core.proofs.Kept.{can_join, kept, opens}
pub use Rattle.publish_core.proofs.Marking.{kept_admit, kept_raise_acked, marked_state, marking}
pub use Rattle.publish_core.proofs.Put.{put_here, put_else, at_put, append_at, at_below, at_end, ends_append, ends_snoc, ends_mono, ends_less}
pub use Rattle.publish_core.proofs.Steps.{all_admitted, kept_place, word_at, at_stage}
pub use Rattle.publish_core.proofs.Turns.{kept_take, kept_busy, given_state, giving, applied_state, applying}
pub use Rattle.publish_core.proofs.Whose.{has_all}
