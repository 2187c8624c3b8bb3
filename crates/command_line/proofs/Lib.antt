pub mod Laws
mod Limits
mod Meaning
mod OneCommand
mod Enters
mod Alone
mod Turns
mod Walks
mod ReplayWords
mod LoadWords
mod NoWords
mod Names
mod Entered
mod Forms
mod Taken
mod Parsed
mod LongWords
