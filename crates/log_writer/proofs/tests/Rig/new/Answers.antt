use Rattle.std.proofs.Common.{None, arith, sym, subst}
use Rattle.log_writer.specs.Fits.{IsUnsent}
use Rattle.log_writer.proofs.tests.Rig.new.Goals as goal

no_file : IsUnsent None
no_file = (tt, λ g is. absurd cc)

pub invariant_of-result : goal.invariant_of-result
invariant_of-result g c =
    let fits = rw c.expect-writer.ensures at c.new.ensures.fits in (
      fits g.D.Disk.tells c.args.queue.records (g.D.Disk.view c.args.disk) (omega arith) c.requires.free
          (λ told. subst IsUnsent (sym (c.requires.absent told)) no_file),
      c.requires.whole,
    )
