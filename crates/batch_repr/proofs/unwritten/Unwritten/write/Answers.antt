use Rattle.batch_repr.proofs.Sizes.{fits_few}
use Rattle.batch_repr.proofs.unwritten.Unwritten.write.Goals as goal

pub count-count-requires : goal.count-count-requires
count-count-requires c = rw c.as_slice-2.ensures (fits_few c.self.inside.entries c.self.invariant.0.fits)
