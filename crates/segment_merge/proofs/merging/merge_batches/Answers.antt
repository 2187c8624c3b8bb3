use Rattle.std.proofs.Common.{◌≡◌, ◌+◌, [], Err, true, false, length, subst, sym, rules, take}
use Rattle.std.proofs.lemmas.List.{length_push}
use Rattle.std.proofs.lemmas.Iterator.Consumers.{YieldsList-turn}
use Rattle.std.proofs.lemmas.Iterator.Adapters.{YieldsList-from_vec}
use Rattle.segment_merge.specs.Rows.{IsNumbered, batches_in}
use Rattle.segment_merge.specs.Steps.{SegmentAnswers}
use Rattle.segment_merge.proofs.KeepsMerged.{IsUpTo, up_to_none, up_to_more, up_to_refused}
use Rattle.segment_merge.proofs.merging.merge_batches.Goals as goal

pub loop-batch-init : goal.loop-batch-init
loop-batch-init c = λ first before m. subst (λ n. IsUpTo first (batches_in before) [] c.args.kept.now n true) (sym c.next-expected.ensures) (up_to_none first (batches_in before) c.args.kept.now m)

pub returns-in_err-step : goal.returns-in_err-step
returns-in_err-step c = λ first before m.
    let segment = c.args.segment in
    let i = length c.loop-batch.yielded in
    let turn = YieldsList-turn (YieldsList-from_vec {s = c.into_iter-batch-iterator.result} segment.batches (search rules) (search rules))
    c.loop-batch.yielded c.loop-batch.batch-iterator c.loop-batch.yielded_by c.next.result c.next.new.self c.in-Some.batch c.in-Some.is c.next.ensures.steps in
    let numbered : IsNumbered c.in-Some.batch = subst IsNumbered (sym turn.1) (c.requires i c.in-Some.batch turn.0) in
    let is : c.from_residual.result ≡ Err c.in_err-step.field-0.0 = search rules in
    subst (SegmentAnswers first before segment c.step.new.kept) (sym is)
    (up_to_refused first before segment c.loop-batch.kept c.loop-batch.expected c.loop-batch.is_first i c.in-Some.batch (c.loop-batch.invariant first before m) turn.0 turn.1 numbered
    c.step.new.kept c.in_err-step.field-0.0 c.in_err-step.ensures)

pub loop-batch-preserved : goal.loop-batch-preserved
loop-batch-preserved c = λ first before m.
    let segment = c.args.segment in
    let i = length c.loop-batch.yielded in
    let turn = YieldsList-turn (YieldsList-from_vec {s = c.into_iter-batch-iterator.result} segment.batches (search rules) (search rules))
    c.loop-batch.yielded c.loop-batch.batch-iterator c.loop-batch.yielded_by c.next.result c.next.new.self c.in-Some.batch c.in-Some.is c.next.ensures.steps in
    let numbered : IsNumbered c.in-Some.batch = subst IsNumbered (sym turn.1) (c.requires i c.in-Some.batch turn.0) in
    subst (λ k. IsUpTo first (batches_in before) (take k segment.batches) c.step.new.kept c.end-behind.result false) (sym (length_push c.loop-batch.yielded c.in-Some.batch))
    (subst (λ n. IsUpTo first (batches_in before) (take (i + 1) segment.batches) c.step.new.kept n false) (sym c.end-behind.ensures)
    (up_to_more first before segment c.loop-batch.kept c.loop-batch.expected c.loop-batch.is_first i c.in-Some.batch (c.loop-batch.invariant first before m) turn.0 turn.1 numbered
    c.step.new.kept c.in_ok-step.field-0 c.in_ok-step.ensures))
