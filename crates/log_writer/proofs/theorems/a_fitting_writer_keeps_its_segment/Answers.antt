use Rattle.log_writer.proofs.Fits.{fits_kept}
use Rattle.log_writer.proofs.theorems.a_fitting_writer_keeps_its_segment.Goals as goal

pub returns : goal.returns
returns c = fits_kept
