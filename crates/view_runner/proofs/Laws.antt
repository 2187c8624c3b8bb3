-- What the crates above cite of these proofs, and all that they may.
pub use Rattle.view_runner.proofs.OneText.{one_text}
