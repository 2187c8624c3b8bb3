use Rattle.std.proofs.Common.{arith, ◌-◌}
use Rattle.block_record.specs.Framing.{room_at}
use Rattle.std.proofs.lemmas.Result.{on_ok_weaker}
use Rattle.block_record.proofs.Fragments.{in_blocks}
use Rattle.block_record.proofs.framer.append_chunks.Goals as goal

pub returns-clause-ok : goal.returns-clause-ok
returns-clause-ok c =
    on_ok_weaker _ (in_blocks c.args.log c.args.place c.args.offset (room_at 0 - c.args.place) c.args.out.now c.append_chunk-2.new.out c.append_later.new.out c.args.bytes.now _ _ (omega arith) c.if-bytes-room.false c.split_at.ensures.front c.split_at.ensures.back c.in_ok-append_chunk.ensures.ok) c.append_later.ensures.ok
