use Rattle.std.proofs.Common.{sym}
use Rattle.crc_chunk.proofs.Words.{after_words}
use Rattle.crc_chunk.proofs.crc.after_sixteen.Goals as goal

pub returns : goal.returns
returns c =
    rw (c.folded.ensures, c.folded-2.ensures, c.with_register.ensures.sum)
    (sym (after_words c.args.first.now c.args.second.now c.args.register c.told-first c.told-second c.fits-first c.fits-second))
