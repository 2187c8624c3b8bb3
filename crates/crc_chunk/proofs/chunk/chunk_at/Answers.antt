use Rattle.std.proofs.Common.{◌≡◌, ◌+◌, ◌^◌, is_some, arith, length, sym, ◌∙◌, ap, subst, ℕ}
use Rattle.std.specs.List.{slice_range}
use Rattle.std.specs.Int.{w32, to_le_bytes}
use Rattle.std.proofs.lemmas.Nat.{mod_below}
use Rattle.crc_chunk.specs.Bytes.{StandsAt}
use Rattle.crc_chunk.specs.Crc.{checksum, masked_of}
use Rattle.crc_chunk.specs.Chunk.{covered, header_with, type_byte, ChunkAt}
use Rattle.crc_chunk.proofs.Chunks.{fields_of, same_16, same_32, byte_read, covered_is, chunk_from, same_type, header_bounds}
use Rattle.crc_chunk.proofs.chunk.chunk_at.Goals as goal

pub returns-then-saturating_sub-lt-HEADER-clause-none : goal.returns-then-saturating_sub-lt-HEADER-clause-none
returns-then-saturating_sub-lt-HEADER-clause-none c = λ it h.
    let f = fields_of h.stands in omega (arith, f.fits, (header_bounds it).0)

pub returns-in_default-clause-none : goal.returns-in_default-clause-none
returns-in_default-clause-none c = λ it h.
    let f = fields_of h.stands in
    c.in_default.ensures.none it.kind (is_some it.offset) (sym (byte_read f.type_is))

pub returns-then-block-to-clause-none : goal.returns-then-block-to-clause-none
returns-then-block-to-clause-none c = λ it h.
    let f = fields_of h.stands in
    let same : length it.payload ≡ c.u16_at.result = same_16 (omega (arith, h.within)) (omega arith) f.len c.u16_at.ensures in
    let form : is_some it.offset ≡ c.in-Some.form.is_sync = (same_type it.kind c.in-Some.form.kind (is_some it.offset) c.in-Some.form.is_sync
    (sym (byte_read f.type_is) ∙ sym c.in-Some.ensures.found)).1 in
    omega (arith, f.fits, same, c.header_size.ensures.is it.offset form)

pub returns-then-u32_at-log-clause-none : goal.returns-then-u32_at-log-clause-none
returns-then-u32_at-log-clause-none c = λ it h.
    let f = fields_of h.stands in
    c.if-u32_at-log.true (same_32 (omega arith) (omega arith) c.u32_at.ensures f.log_is)

pub returns-then-masked-u32_at-clause-none : goal.returns-then-masked-u32_at-clause-none
returns-then-masked-u32_at-clause-none c = λ it h.
    let f = fields_of h.stands in
    let same : length it.payload ≡ c.u16_at.result = same_16 (omega (arith, h.within)) (omega arith) f.len c.u16_at.ensures in
    let form : is_some it.offset ≡ c.in-Some.form.is_sync = (same_type it.kind c.in-Some.form.kind (is_some it.offset) c.in-Some.form.is_sync
    (sym (byte_read f.type_is) ∙ sym c.in-Some.ensures.found)).1 in
    let to : ℕ = c.args.at + c.header_size.result + c.from.result in
    let cut : slice_range c.args.block.now (c.args.at + 6) to ≡ covered c.args.log it =
    covered_is c.args.block.now c.args.at to c.args.log it f.body (omega (arith, same, c.header_size.ensures.is it.offset form)) (omega arith) in
    let said : masked_of (checksum (covered c.args.log it)) ≡ c.u32_at-2.result = same_32 (mod_below _ (2 ^ 32) (omega arith))
    (omega arith) f.crc c.u32_at-2.ensures in
    c.if-masked-u32_at.true (c.masked.ensures ∙ ap masked_of (c.crc32c.ensures ∙ ap checksum cut) ∙ said)

pub returns-clause-found : goal.returns-clause-found
returns-clause-found c =
    let o = c.offset_at-offset.result in
    let size : c.header_size.result ≡ header_with o = c.header_size.ensures.is o c.offset_at-offset.ensures.form in
    let to : ℕ = c.args.at + c.header_size.result + c.from.result in
    let byte = sym c.in-Some.ensures.found ∙ ap (type_byte c.in-Some.form.kind) (sym c.offset_at-offset.ensures.form) in
    subst (λ (n : ℕ). ChunkAt c.args.block.now c.args.at c.args.log
    (record { kind = c.in-Some.form.kind; offset = o; payload = slice_range c.args.block.now (c.args.at + n) to })) (sym size)
    (chunk_from c.args.block.now c.args.at to c.args.log c.in-Some.form.kind o c.u32_at-2.result c.u16_at.result
    c.requires (omega (arith, size)) (omega arith) c.offset_at-offset.ensures.fits c.u16_at.ensures (subst
    (λ (n : ℕ). StandsAt c.args.block.now (c.args.at + 7) (to_le_bytes w32 n)) c.if-u32_at-log.false c.u32_at.ensures)
    c.offset_at-offset.ensures.stands byte c.u32_at-2.ensures (ap masked_of (sym c.crc32c.ensures) ∙ sym c.masked.ensures ∙ c.if-masked-u32_at.false))
