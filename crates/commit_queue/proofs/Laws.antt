-- What the crates above cite of these proofs, and all that they may.
pub use Rattle.commit_queue.proofs.AppliesSome.{AppliesSome, all_applied, next_applied, next_apart, next_gives, none_applied}
pub use Rattle.commit_queue.proofs.AwaitsBatch.{awaits_first, awaits_goes_on, awaits_handed, awaits_marked, awaits_read, awaits_told, can_mark, can_place_next, clean_marked, clean_taken_in, holds_adopted, holds_next, idle_marked, idle_taken_in, kept_unapplied, placed_next, turn_marked, unapplied_adopted, unapplied_again, unapplied_handed, unapplied_next}
pub use Rattle.commit_queue.proofs.GivesSame.{gives_same, same_versions}
pub use Rattle.commit_queue.proofs.GoesOn.{acked_goes_on, goes_on_both, goes_on_same, past_all, seen_few, seen_within, sees_goes_on, tries_goes_on, visible_no_less}
pub use Rattle.commit_queue.proofs.Publishes.{at_end_of}
pub use Rattle.commit_queue.proofs.Shown.{holds_taken_in, looked_then, looks_to_raise, session_holds}
pub use Rattle.commit_queue.proofs.Versioned.{ends_next}
pub use Rattle.publish_core.proofs.Laws.{at_below, at_end, ends_mono}
