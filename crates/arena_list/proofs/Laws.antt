-- What the crates above cite of these proofs, and all that they may.
pub use Rattle.arena_list.proofs.Held.{marks_keep, newest_is_one}
pub use Rattle.arena_list.proofs.Orders.{never_before_itself, before_along, before_cases, same_key_before, keys_equal, keys_tied}
pub use Rattle.arena_list.proofs.Chains.{split_at, amid_cases}
pub use Rattle.arena_list.proofs.Sweeping.{greater_first}
