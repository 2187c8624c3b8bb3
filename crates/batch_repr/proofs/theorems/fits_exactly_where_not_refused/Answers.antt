use Rattle.batch_repr.proofs.FitsBatch.{fits_where_not_refused}
use Rattle.batch_repr.proofs.theorems.fits_exactly_where_not_refused.Goals as goal

pub returns : goal.returns
returns c = fits_where_not_refused
