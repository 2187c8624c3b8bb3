-- What the crates above cite of these proofs, and all that they may.
pub use Rattle.view_script.proofs.FirstBad.{none_bad, one_bad}
pub use Rattle.view_script.proofs.OneAsked.{one_asked, one_view}
