pub mod Bytes
pub mod Crc
pub mod Zeros
pub mod Chunk
