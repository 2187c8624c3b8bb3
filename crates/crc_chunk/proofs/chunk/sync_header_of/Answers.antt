use Rattle.std.proofs.Common.{◌∙◌, ap}
use Rattle.crc_chunk.specs.Crc.{masked_of}
use Rattle.crc_chunk.specs.Chunk.{sync_chunk}
use Rattle.crc_chunk.proofs.Chunks.{covered_sum, header_bytes}
use Rattle.crc_chunk.proofs.chunk.sync_header_of.Goals as goal

pub returns-clause-bytes : goal.returns-clause-bytes
returns-clause-bytes c =
    rw (c.to_le_bytes-crc.ensures, c.to_le_bytes-len.ensures, c.to_le_bytes-log.ensures, c.to_le_bytes-at.ensures)
    (header_bytes c.args.log (sync_chunk c.args.kind c.args.offset c.args.payload.now) c.masked.result c.byte_of-kind.result c.byte_of-kind.ensures
    (c.masked.ensures ∙ ap masked_of (rw (c.extended.ensures, c.extended-head.ensures, c.to_le_bytes-log.ensures, c.to_le_bytes-at.ensures, c.byte_of-kind.ensures) (covered_sum c.args.log (sync_chunk c.args.kind c.args.offset c.args.payload.now)))))
