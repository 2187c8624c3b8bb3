-- What the crates above cite of these proofs, and all that they may.
pub use Rattle.batch_repr.proofs.Agreement.{one_fault, reads_no_fault, same_batch, spelled_reads}
pub use Rattle.batch_repr.proofs.Contiguous.{StandsWithin, contiguous_append, contiguous_back, contiguous_front, contiguous_push, end_append, end_push, end_up, place_within}
pub use Rattle.batch_repr.proofs.FitsBatch.{fits_where_not_refused}
pub use Rattle.batch_repr.proofs.Fitting.{fits_few_numbers, has_spelling, set_fits, spelled_fits}
pub use Rattle.batch_repr.proofs.Tools.{ok_of}
pub use Rattle.batch_repr.proofs.Written.{written_spells}
