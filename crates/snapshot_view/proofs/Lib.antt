pub mod Laws
mod Numbers
mod Newest
mod Answers
mod Showing
mod Holding
mod Keeping
mod Taking
mod Rows
mod Scanned
mod Hiding
mod Left
mod Newer
mod Rigs
