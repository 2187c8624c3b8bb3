-- What the crates above cite of these proofs, and all that they may.
pub use Rattle.session_script.proofs.Counting.{few_numbers}
pub use Rattle.session_script.proofs.Naming.{names_its_sessions}
pub use Rattle.session_script.proofs.OneScript.{lines_say_one, one_script}
pub use Rattle.session_script.proofs.Prefixes.{none_bad, one_bad}
