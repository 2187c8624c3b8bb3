-- What the crates above cite of these proofs, and all that they may.
pub use Rattle.commit_pipeline.proofs.EndsBefore.{ends_before, no_base}
pub use Rattle.commit_pipeline.proofs.IsShared.{pipeline_shared}
