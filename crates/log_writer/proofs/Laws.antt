-- What the crates above cite of these proofs, and all that they may.
pub use Rattle.log_writer.proofs.Beside.{fits_beside, same_disk}
pub use Rattle.log_writer.proofs.Fits.{fits_grown, fits_kept}
pub use Rattle.log_writer.proofs.Parts.{bytes_front, bytes_split}
