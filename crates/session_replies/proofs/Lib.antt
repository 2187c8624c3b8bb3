pub mod Laws
mod Examples
mod Exhausted
mod InOrder
mod Lasting
mod OneAnswer
mod OneReplies
mod Refused
mod SessionSums
