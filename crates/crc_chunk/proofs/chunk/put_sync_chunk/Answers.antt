use Rattle.crc_chunk.specs.declared.chunk.TheConstants.{SYNC_HEADER}
use Rattle.std.proofs.Common.{arith, ap, drop, ◌++◌, ◌+◌, length, ◌∙◌}
use Rattle.crc_chunk.proofs.Chunks.{put_is}
use Rattle.crc_chunk.proofs.chunk.put_sync_chunk.Goals as goal

pub returns-clause-written : goal.returns-clause-written
returns-clause-written c =
    rw (c.copy_from_slice.ensures.after, c.copy_from_slice-2.ensures.after)
    (put_is SYNC_HEADER c.sync_header_of-header.result c.args.payload.now c.args.out.now _ (c.sync_header_of-header.ensures.len) (omega arith)
    ∙ ap (λ h. h ++ drop (SYNC_HEADER + length c.args.payload.now) c.args.out.now) c.sync_header_of-header.ensures.bytes)
