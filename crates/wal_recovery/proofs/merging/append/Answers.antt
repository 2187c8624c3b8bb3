use Rattle.std.proofs.Common.{◌≡◌, ◌∷◌, ◌++◌, [], List, length, take, sym, ap, ◌∙◌, arith, rules}
use Rattle.std.proofs.lemmas.List.{take_all}
use Rattle.std.proofs.lemmas.Iterator.Consumers.{YieldsList-turn, YieldsList-end}
use Rattle.std.proofs.lemmas.Iterator.Adapters.{YieldsList-from_vec}
use Rattle.batch_repr.specs.declared.batch.Batch.{Batch}
use Rattle.batch_repr.proofs.Laws.{ok_of}
use Rattle.wal_recovery.proofs.LastItem.{taken_more}
use Rattle.wal_recovery.proofs.merging.append.Goals as goal

pub loop-batch-preserved : goal.loop-batch-preserved
loop-batch-preserved c =
    let turn = YieldsList-turn (YieldsList-from_vec {s = c.into_iter-batch-iterator.result} c.args.more (search rules) (search rules))
    c.loop-batch.yielded c.loop-batch.batch-iterator c.loop-batch.yielded_by c.next.result c.next.new.self c.in-Some.batch c.in-Some.is c.next.ensures.steps in
    let pushed : c.push.new.self ≡ c.loop-batch.batches ++ c.in-Some.batch ∷ [] = ok_of c.push.result _ (sym c.if-is_err.ensures.value) c.push.ensures.ok in
    pushed ∙ ap (λ (l : List Batch). l ++ c.in-Some.batch ∷ []) c.loop-batch.invariant
    ∙ taken_more c.args.batches.now c.loop-batch.yielded c.args.more c.in-Some.batch turn.0 turn.1

pub returns-clause-added : goal.returns-clause-added
returns-clause-added c =
    let ends = YieldsList-end (YieldsList-from_vec {s = c.into_iter-batch-iterator.result} c.args.more (search rules) (search rules))
    c.loop-batch.yielded c.loop-batch.batch-iterator c.loop-batch.yielded_by c.next.result c.next.new.self c.in-None.is c.next.ensures.steps in
    let whole : take (length c.loop-batch.yielded) c.args.more ≡ c.args.more = take_all (length c.loop-batch.yielded) c.args.more (omega (arith, ends.1)) in
    c.loop-batch.invariant ∙ ap (λ (l : List Batch). c.args.batches.now ++ l) whole
