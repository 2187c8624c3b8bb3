-- What the crates above cite of these proofs, and all that they may.
pub use Rattle.made_load.proofs.LoadRounds.{commits_all, takes_few, load_names, load_names_four, stalls_nothing}
