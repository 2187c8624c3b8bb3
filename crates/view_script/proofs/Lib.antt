pub mod Laws
mod AskedSoFar
mod EmptyEnd
mod FirstBad
mod OneAsked
