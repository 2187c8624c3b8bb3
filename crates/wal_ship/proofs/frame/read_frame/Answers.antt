use Rattle.std.proofs.Common.{◌<◌, ◌++◌, arith, sym, subst}
use Rattle.batch_repr.specs.declared.limits.TheConstants.{BATCH_MAX}
use Rattle.wal_ship.specs.declared.fault.FollowFault.TheVariants as faults
use Rattle.wal_ship.specs.Following.{ShowsFault, len_said}
use Rattle.wal_ship.specs.Following.ShowsFault.{too_long}
use Rattle.wal_ship.proofs.WholeFrames.{four_bytes}
use Rattle.wal_ship.proofs.frame.read_frame.Goals as goal

pub returns-then-len-gt-BATCH_MAX : goal.returns-then-len-gt-BATCH_MAX
returns-then-len-gt-BATCH_MAX c =
    let frame = c.args.frame.now in
    let said = c.in-Some.ensures.some in
    let past : BATCH_MAX < len_said frame = omega (arith, said.1, c.if-len-gt-BATCH_MAX.true) in
    subst (λ len. ShowsFault (c.args.local.now.batches ++ c.args.taken.now.batches) c.args.at frame (faults.Length c.args.at len)) (sym said.1)
    (too_long frame (four_bytes frame c.in-Some.len said.0 said.1 c.if-len-gt-BATCH_MAX.true c.requires.whole) past)
