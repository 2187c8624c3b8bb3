-- What the crates above cite of these proofs, and all that they may.
pub use Rattle.block_record.proofs.ReadsPrefix.{first_are_read}
pub use Rattle.block_record.proofs.Chains.{LeftToRead, all_read, left_first, left_next, not_before}
pub use Rattle.block_record.proofs.Laid.{framed_in_block, laid-append, one_more}
pub use Rattle.block_record.proofs.OneReading.{one_read}
pub use Rattle.block_record.proofs.Readable.{Reading, readable}
pub use Rattle.block_record.proofs.Replay.{laid_is_read}
