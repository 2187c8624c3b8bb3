use Rattle.std.proofs.Common.{◌≡◌, ◌++◌, Err, arith, length, subst, sym, rules, take}
use Rattle.std.proofs.lemmas.List.{length_push, take_all}
use Rattle.std.proofs.lemmas.Iterator.Consumers.{YieldsList-turn, YieldsList-end}
use Rattle.std.proofs.lemmas.Iterator.Adapters.{YieldsList-from_vec}
use Rattle.segment_merge.specs.Rows.{IsNumbered, batches_in}
use Rattle.segment_merge.specs.Merging.{all_of}
use Rattle.segment_merge.specs.Steps.{KeepsLenient, LenientAnswers}
use Rattle.segment_merge.proofs.LenientPass.{begun, keeps_more, keeps_refused, keeps_all}
use Rattle.segment_merge.proofs.lenient.merge_batches.Goals as goal

pub loop-batch-init : goal.loop-batch-init
loop-batch-init c = λ before k. begun before c.args.kept.now k

pub returns-in_err-step : goal.returns-in_err-step
returns-in_err-step c = λ before k.
    let segment = c.args.segment in
    let i = length c.loop-batch.yielded in
    let turn = YieldsList-turn (YieldsList-from_vec {s = c.into_iter-batch-iterator.result} segment.batches (search rules) (search rules))
    c.loop-batch.yielded c.loop-batch.batch-iterator c.loop-batch.yielded_by c.next.result c.next.new.self c.in-Some.batch c.in-Some.is c.next.ensures.steps in
    let numbered : IsNumbered c.in-Some.batch = subst IsNumbered (sym turn.1) (c.requires i c.in-Some.batch turn.0) in
    let is : c.from_residual.result ≡ Err c.in_err-step.field-0.0 = search rules in
    subst (LenientAnswers before segment c.step.new.kept) (sym is)
    (keeps_refused before segment c.loop-batch.kept i c.in-Some.batch (c.loop-batch.invariant before k) turn.0 turn.1 numbered
    c.step.new.kept c.in_err-step.field-0.0 c.in_err-step.ensures)

pub loop-batch-preserved : goal.loop-batch-preserved
loop-batch-preserved c = λ before k.
    let segment = c.args.segment in
    let i = length c.loop-batch.yielded in
    let turn = YieldsList-turn (YieldsList-from_vec {s = c.into_iter-batch-iterator.result} segment.batches (search rules) (search rules))
    c.loop-batch.yielded c.loop-batch.batch-iterator c.loop-batch.yielded_by c.next.result c.next.new.self c.in-Some.batch c.in-Some.is c.next.ensures.steps in
    let numbered : IsNumbered c.in-Some.batch = subst IsNumbered (sym turn.1) (c.requires i c.in-Some.batch turn.0) in
    subst (λ n. KeepsLenient (all_of (batches_in before) ++ take n segment.batches) c.step.new.kept) (sym (length_push c.loop-batch.yielded c.in-Some.batch))
    (keeps_more before segment c.loop-batch.kept i c.in-Some.batch (c.loop-batch.invariant before k) turn.0 turn.1 numbered c.step.new.kept
    c.in_ok-step.field-0 c.in_ok-step.ensures)

pub returns : goal.returns
returns c = λ before k.
    let segment = c.args.segment in
    let ends = YieldsList-end (YieldsList-from_vec {s = c.into_iter-batch-iterator.result} segment.batches (search rules) (search rules))
    c.loop-batch.yielded c.loop-batch.batch-iterator c.loop-batch.yielded_by c.next.result c.next.new.self c.in-None.is c.next.ensures.steps in
    let whole : take (length c.loop-batch.yielded) segment.batches ≡ segment.batches = take_all
    (length c.loop-batch.yielded) segment.batches (omega (arith, ends.1)) in
    keeps_all before segment c.loop-batch.kept (subst (λ xs. KeepsLenient (all_of (batches_in before) ++ xs) c.loop-batch.kept) whole
    (c.loop-batch.invariant before k))
