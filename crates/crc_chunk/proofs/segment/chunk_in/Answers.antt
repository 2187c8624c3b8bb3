use Rattle.std.proofs.Common.{◌≡◌, ℕ, List, ◌-◌, ◌%◌, ◌∙◌, arith, length, ap, subst, min}
use Rattle.std.proofs.lemmas.List.{length-drop, take_rest}
use Rattle.crc_chunk.specs.declared.chunk.TheConstants.{BLOCK}
use Rattle.crc_chunk.specs.Chunk.{ChunkAt}
use Rattle.crc_chunk.proofs.Blocks.{block_is, in_segment, in_block, part_in_segment, ends_in_segment}
use Rattle.crc_chunk.proofs.Chunks.{form_bounds}
use Rattle.crc_chunk.proofs.segment.chunk_in.Goals as goal

pub returns-clause-found : goal.returns-clause-found
returns-clause-found c =
    let len : c.min-2.result ≡ min (length c.args.segment.now - c.min.result) BLOCK = c.min-2.ensures
    ∙ ap (λ (n : ℕ). min n BLOCK) (ap length (take_rest c.args.segment.now c.min.result) ∙ length-drop c.min.result c.args.segment.now) in
    let block = block_is c.args.segment.now (c.args.at - c.args.at % BLOCK) c.min.result c.min-2.result c.min.ensures len in
    subst (λ (payload : List ℕ). ChunkAt c.args.segment.now c.args.at c.args.log
    (record { kind = c.in-Some.span.kind; offset = c.in-Some.span.offset; payload = payload }))
    (part_in_segment c.args.segment.now _ c.args.at block c.in-Some.span.from c.in-Some.span.to c.in-Some.ensures.place.1 c.in-Some.ensures.place.2)
    (in_segment c.args.segment.now _ c.args.at block c.args.log _ c.in-Some.ensures.found)

pub returns-clause-place : goal.returns-clause-place
returns-clause-place c =
    let len : c.min-2.result ≡ min (length c.args.segment.now - c.min.result) BLOCK = c.min-2.ensures
    ∙ ap (λ (n : ℕ). min n BLOCK) (ap length (take_rest c.args.segment.now c.min.result) ∙ length-drop c.min.result c.args.segment.now) in
    let block = block_is c.args.segment.now (c.args.at - c.args.at % BLOCK) c.min.result c.min-2.result c.min.ensures len in
    let place = c.in-Some.ensures.place in (
      omega (arith, place.0),
      omega (arith, place.1),
      ends_in_segment c.args.segment.now _ c.args.at block c.in-Some.span.to (omega (arith, place.0, place.1, (form_bounds c.in-Some.span.offset).0)) place.2,
    )

pub returns-in_default-clause-none : goal.returns-in_default-clause-none
returns-in_default-clause-none c = λ it h.
    let len : c.min-2.result ≡ min (length c.args.segment.now - c.min.result) BLOCK = c.min-2.ensures
    ∙ ap (λ (n : ℕ). min n BLOCK) (ap length (take_rest c.args.segment.now c.min.result) ∙ length-drop c.min.result c.args.segment.now) in
    c.in_default.ensures.none it (in_block c.args.segment.now _ c.args.at
    (block_is c.args.segment.now (c.args.at - c.args.at % BLOCK) c.min.result c.min-2.result c.min.ensures len) c.args.log it h)
