pub mod Laws
mod Moments
mod Places
mod Listings
mod Images
mod Spelling
mod Polled
mod PassedOn
mod LastStart
mod Asked
mod Fieldless
mod Limits
