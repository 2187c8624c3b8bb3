pub mod Laws
mod Comparing
mod Counting
mod Drafting
mod EntriesSoFar
mod Limits
mod LinesSoFar
mod Naming
mod OneScript
mod Parts
mod Prefixes
mod ScriptExamples
mod Taking
