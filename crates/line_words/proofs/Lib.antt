pub mod Laws
mod Cuts
mod Numerals
mod WordTests
