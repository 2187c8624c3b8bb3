use Rattle.std.proofs.Common.{◌<◌, length, subst, arith, rules}
use Rattle.std.proofs.lemmas.List.{take_all}
use Rattle.std.specs.Prelude.{All}
use Rattle.segment_merge.specs.Rows.{IsNumberedSegment}
use Rattle.segment_merge.proofs.Members.{all_more}
use Rattle.segment_merge.proofs.tests.see_row.Goals as goal

pub loop-segment-preserved : goal.loop-segment-preserved
loop-segment-preserved g c =
    let below : c.loop-segment.segment-index < length c.args.segments.now = search rules in
    all_more IsNumberedSegment c.args.segments.now c.loop-segment.segment-index c.segment-item.result below c.segment-item.is
    c.loop-segment.invariant (search rules)

pub returns : goal.returns
returns g c = record {
  indexes = λ k d lt. c.loop-k.invariant k d (omega (arith, lt, c.loop-k-test.false));
  numbered = subst (All IsNumberedSegment) (take_all c.loop-segment.segment-index c.args.segments.now (search rules)) c.loop-segment.invariant;
}
