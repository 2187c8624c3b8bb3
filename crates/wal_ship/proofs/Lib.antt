pub mod Laws
mod Frames
mod Pinned
mod Cutting
mod Rows
mod Streams
mod Tails
mod Greetings
mod Outcomes
mod Union
mod WholeFrames
mod Judging
mod Runs
mod Portions
mod Keeping
