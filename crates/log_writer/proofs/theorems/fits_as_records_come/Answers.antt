use Rattle.log_writer.proofs.Fits.{fits_grown}
use Rattle.log_writer.proofs.theorems.fits_as_records_come.Goals as goal

pub returns : goal.returns
returns c = fits_grown
