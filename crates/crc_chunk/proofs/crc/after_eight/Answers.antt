use Rattle.std.proofs.Common.{◌∙◌, ap, sym}
use Rattle.crc_chunk.specs.Zeros.{over_zeros}
use Rattle.crc_chunk.proofs.Words.{after_word}
use Rattle.crc_chunk.proofs.crc.after_eight.Goals as goal

pub returns : goal.returns
returns c = c.folded.ensures ∙ ap (over_zeros 64) c.with_register.ensures.sum ∙ sym (after_word c.args.bytes.now c.args.register c.told-bytes c.fits-bytes)
