use Rattle.std.proofs.Common.{◌<◌, ◌^◌, length, subst}
use Rattle.batch_repr.proofs.Sizes.{fits_few}
use Rattle.batch_repr.proofs.unwritten.Unwritten.of.Goals as goal

pub count-requires : goal.count-requires
count-requires c = rw c.as_slice-2.ensures (subst (λ es. length es < 2 ^ 32) c.as_slice.ensures (fits_few c.as_slice.result.now c.in_ok-size.ensures.some.fits))
