mod LeftBy
mod Live
mod Prefixes
mod Numbers
mod Written
mod OneTable
mod PartOrWhole
mod Laid
mod Rows
pub mod Laws
mod ReadBack
mod SetRows
mod RecordRows
mod LiveRows
mod WithinLimits
