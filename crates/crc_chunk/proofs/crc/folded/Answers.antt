use Rattle.crc_chunk.proofs.Words.{folds}
use Rattle.crc_chunk.proofs.crc.folded.Goals as goal

pub returns : goal.returns
returns c =
    folds c.args.behind c.args.bytes.now _ _ _ _ _ _ _ _ c.fits-bytes
    c.entry.ensures c.entry-2.ensures c.entry-3.ensures c.entry-4.ensures c.entry-5.ensures c.entry-6.ensures c.entry-7.ensures c.entry-8.ensures
