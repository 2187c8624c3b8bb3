mod Keys
mod Tops
mod Telling
mod Raised
mod Held
mod Fewer
mod Scan
