use Rattle.std.proofs.Common.{◌∷◌, [], drop, get_or}
use Rattle.crc_chunk.proofs.Turns.{goes_on, cut_at, cut_one, cut_twice, is_done}
use Rattle.crc_chunk.proofs.crc.extended.Goals as goal

pub loop-first-preserved-in-Some-split_first_chunk : goal.loop-first-preserved-in-Some-split_first_chunk
loop-first-preserved-in-Some-split_first_chunk c =
    let one = cut_at 8 c.loop-first.rest.now c.in-Some.first.now c.in-Some.behind.now c.in-Some.ensures.cases.0 c.in-Some.ensures.cases.1 in
    let two = cut_at 8 c.in-Some.behind.now c.in-Some-split_first_chunk.second.now c.in-Some-split_first_chunk.behind.now
    c.in-Some-split_first_chunk.ensures.cases.0 c.in-Some-split_first_chunk.ensures.cases.1 in
    goes_on c.loop-first.rest.now _ _ c.loop-first.register _ _ (cut_twice _ _ _ _ _ one two) c.after_sixteen-register.ensures c.loop-first.invariant

pub loop-first-preserved : goal.loop-first-preserved
loop-first-preserved c =
    goes_on c.loop-first.rest.now _ _ c.loop-first.register _ _
    (cut_at 8 c.loop-first.rest.now c.in-Some.first.now c.in-Some.behind.now c.in-Some.ensures.cases.0 c.in-Some.ensures.cases.1)
    c.after_eight-register.ensures c.loop-first.invariant

pub loop-byte-preserved : goal.loop-byte-preserved
loop-byte-preserved c =
    goes_on (drop c.loop-byte.byte-index c.loop-first.rest.now) (get_or c.loop-first.rest.now c.loop-byte.byte-index 0 ∷ []) _ c.loop-byte.register _ _
    (cut_one c.loop-first.rest.now c.loop-byte.byte-index c.loop-byte-test.true) c.after_byte-register.ensures c.loop-byte.invariant

pub returns : goal.returns
returns c = is_done c.loop-first.rest.now c.loop-byte.byte-index c.loop-byte.register _ c.loop-byte-test.false c.loop-byte.invariant
