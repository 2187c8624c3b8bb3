mod Examples
mod Begins
mod Runs
mod Changing
mod Keeping
