pub mod Laws
mod AppliesAll
mod ReadsNewest
