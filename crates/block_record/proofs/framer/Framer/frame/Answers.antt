use Rattle.std.proofs.Common.{length, ap, arith}
use Rattle.block_record.proofs.Fragments.{room_after}
use Rattle.block_record.proofs.framer.Framer.frame.Goals as goal

pub invariant_of-self : goal.invariant_of-self
invariant_of-self c =
    omega (
      arith,
      ap length c.as_slice.ensures,
      ap length c.as_slice-kept.ensures,
      c.self.invariant,
      room_after _ c.self.inside.place c.args.offset c.args.out.now c.append_framed.new.out c.args.bytes.now c.in-Ok.ensures.ok,
    )
