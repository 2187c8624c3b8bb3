-- What the crates above cite of these proofs, and all that they may.
pub use Rattle.crc_chunk.proofs.Chunks.{FieldsAt, byte_read, bytes_len, chunk_moved, chunk_within, fields_of, header_bounds, one_chunk, one_size, payload_at, same_in_whole, within_segment}
pub use Rattle.crc_chunk.proofs.Places.{stands_back, stands_from, stands_within}
