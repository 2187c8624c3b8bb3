use Rattle.std.proofs.Common.{◌+◌, ◌-◌, length, arith, ap}
use Rattle.std.proofs.lemmas.List.{take-replicate}
use Rattle.std.proofs.lemmas.Result.{on_ok_weaker}
use Rattle.block_record.proofs.Fragments.{with_zeros}
use Rattle.block_record.proofs.framer.append_framed.Goals as goal

pub returns-clause-ok : goal.returns-clause-ok
returns-clause-ok c =
    on_ok_weaker _ (with_zeros c.args.log c.args.place c.args.offset (c.args.place + (length c.as_slice.result.now - length c.as_slice-before.result.now)) c.padding_len.result c.args.out.now c.append_chunks.new.out c.append.new.self c.args.bytes.now _ c.in_ok-append_chunks.ensures.ok (omega (arith, ap length c.as_slice.ensures, ap length c.as_slice-before.ensures)) c.padding_len.ensures.zeros (take-replicate c.padding_len.result 18 0 c.padding_len.ensures.few)) c.append.ensures.ok
