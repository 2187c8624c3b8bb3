mod ComesNext
mod Flows
mod OnTheWay
mod IsSent
pub mod Laws
