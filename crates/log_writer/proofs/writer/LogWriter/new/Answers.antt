use Rattle.std.proofs.Common.{sym, subst}
use Rattle.block_record.specs.Framing.{Standing}
use Rattle.log_writer.specs.Fits.{Fits}
use Rattle.log_writer.proofs.Fits.{new_fits}
use Rattle.log_writer.proofs.writer.LogWriter.new.Goals as goal
use Rattle.log_writer.specs.Promises.{unstarted}

pub returns-clause-fits : goal.returns-clause-fits
returns-clause-fits c tells records v within free absent =
    let side = c.args.side in
    let name = c.args.name in
    let from = c.args.from in
    subst (λ (f : Standing). Fits tells records (record (unstarted side name f.log from) { place = f.place }) v)
    (sym c.new.ensures) (new_fits side name c.args.log from c.requires.log tells records v within free absent)
