use Rattle.std.proofs.Common.{ap, ◌∙◌, drop, ◌||◌, ℕ, List}
use Rattle.std.specs.Prelude.{not, ◌==◌}
use Rattle.std.specs.List.{list_any}
use Rattle.std.proofs.lemmas.List.{take_rest}
use Rattle.block_record.proofs.Walked.{walked_more, walked_all, handed_out}
use Rattle.block_record.proofs.reading.read_out_shared.Goals as goal

pub loop-chunk-preserved : goal.loop-chunk-preserved
loop-chunk-preserved c =
    walked_more c.take.new.self c.in-Some.chunk c.opens-is_open.result c.loop-chunk.invariant
    c.bytes.ensures c.in-Some.ensures.follows c.in-Some.ensures.found c.in-Some.ensures.place
    c.in_ok-take.ensures.bytes c.in_ok-take.ensures.reach c.in_ok-take.ensures.spelled c.opens-is_open.ensures c.place_after-at.ensures

pub returns : goal.returns
returns c =
    handed_out c.loop-chunk.joining.spelled c.is_torn-torn.result c.find_shown-shown.result c.into_read_out.result
    (walked_all c.is_torn-torn.result c.find_shown-shown.result c.loop-chunk.invariant c.bytes.ensures c.bytes-3.ensures c.in_default.ensures.none
    (c.is_torn-torn.ensures ∙ ap (λ (t : List ℕ). c.loop-chunk.is_open || list_any (λ (b : ℕ). not (b == 0)) t)
    (take_rest c.bytes-2.result.now c.loop-chunk.end ∙ ap (drop c.loop-chunk.end) c.bytes-2.ensures)) c.find_shown-shown.ensures)
    c.into_read_out.ensures.records c.into_read_out.ensures.ends_at c.into_read_out.ensures.torn c.into_read_out.ensures.shown
