use Rattle.std.proofs.Common.{◌≡◌, ◌+◌, ◌*◌, ◌∙◌, length, replicate, sym, ap, arith, ℕ}
use Rattle.crc_chunk.specs.declared.chunk.TheConstants.{SYNC_HEADER}
use Rattle.block_record.specs.Framing.{fragments, chunks, padding}
use Rattle.block_record.proofs.Fragments.{framed_len_is, chunks_len}
use Rattle.block_record.proofs.framer.Framer.framed_len.Goals as goal

pub returns : goal.returns
returns c = λ offset bytes e.
    let len : length (chunks c.self.inside.log offset (fragments c.self.inside.place bytes)) ≡ SYNC_HEADER * (1 + c.div_ceil-chunks.result) + c.args.record_len =
    chunks_len c.self.inside.log c.self.inside.place offset bytes ∙ omega arith in
    let zeros : padding (c.self.inside.place + length (chunks c.self.inside.log offset (fragments c.self.inside.place bytes))) ≡ replicate c.padding_len.result 0 =
    ap (λ (n : ℕ). padding (c.self.inside.place + n)) len ∙ c.padding_len.ensures.zeros in
    rw (← c.self.view_is) (ap (λ (n : ℕ). n + c.padding_len.result) (sym len) ∙ sym (framed_len_is c.self.inside.log c.self.inside.place offset c.padding_len.result bytes zeros))
