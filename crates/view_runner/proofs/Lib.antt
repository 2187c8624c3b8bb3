pub mod Laws
mod Holding
mod Answering
mod Scanned
mod Chains
mod OneText
mod Rows
