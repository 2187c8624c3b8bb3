use Rattle.log_writer.proofs.Beside.{fits_beside}
use Rattle.log_writer.proofs.theorems.fits_beside_other_operations.Goals as goal

pub returns : goal.returns
returns c = fits_beside
