use Rattle.log_writer.proofs.Fits.{fits_file}
use Rattle.log_writer.proofs.theorems.a_fitting_writer_has_its_file.Goals as goal

pub returns : goal.returns
returns c = fits_file
