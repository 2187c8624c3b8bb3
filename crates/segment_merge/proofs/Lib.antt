pub mod Laws
mod Members
mod Contiguous
mod Ascending
mod Search
mod Unique
mod Cover
mod Pass
mod Places
mod IsFirstWrong
mod OneRefusal
mod KeepsMerged
mod OneLenient
mod LenientPass
mod LenientRefusals
mod LenientRows
mod Whole
