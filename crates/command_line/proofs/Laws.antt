-- What the crates above cite of these proofs, and all that they may.
pub use Rattle.command_line.proofs.OneCommand.{one_command}
