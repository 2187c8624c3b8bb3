use Rattle.std.proofs.Common.{◌≡◌, ◌++◌, ◌∙◌, ap, List, ℕ, length, take, rules, append_assoc, arith}
use Rattle.std.specs.List.{flat_map}
use Rattle.std.proofs.lemmas.List.{take_all}
use Rattle.std.proofs.lemmas.Iterator.Consumers.{YieldsList-turn, YieldsList-end}
use Rattle.std.proofs.lemmas.Iterator.Adapters.{YieldsList-from_vec}
use Rattle.batch_repr.specs.declared.batch.Batch.{Batch}
use Rattle.text_lines.specs.Lines.{batch_lines, segment_line}
use Rattle.wal_top.proofs.Letting.{lines_more}
use Rattle.wal_top.proofs.commands.dump.put_report.Goals as goal

pub loop-batch-preserved : goal.loop-batch-preserved
loop-batch-preserved c =
    let turn = YieldsList-turn (YieldsList-from_vec {s = c.into_iter-batch-iterator.result} c.args.report.batches (search rules) (search rules))
    c.loop-batch.yielded c.loop-batch.batch-iterator c.loop-batch.yielded_by c.next.result c.next.new.self c.in-Some.batch c.in-Some.is c.next.ensures.steps in
    c.in_ok-put_batch.ensures.ok ∙ lines_more batch_lines c.put_segment.new.out c.loop-batch.text c.loop-batch.yielded c.args.report.batches c.in-Some.batch turn.0 turn.1 c.loop-batch.invariant

pub returns : goal.returns
returns c =
    let r = c.args.report in
    let ends = YieldsList-end (YieldsList-from_vec {s = c.into_iter-batch-iterator.result} r.batches (search rules) (search rules))
    c.loop-batch.yielded c.loop-batch.batch-iterator c.loop-batch.yielded_by c.next.result c.next.new.self c.in-None.is c.next.ensures.steps in
    let whole : take (length c.loop-batch.yielded) r.batches ≡ r.batches = take_all (length c.loop-batch.yielded) r.batches (omega (arith, ends.1)) in
    let line : ℕ → List ℕ = λ count. segment_line (record { side = r.side; name = r.name; len = r.len; ends_at = r.ends_at; torn = r.torn }) count in
    let told : c.put_segment.new.out ≡ c.args.text.now ++ line (length r.batches) = c.in_ok-put_segment.ensures.ok ∙ ap (λ (n : ℕ). c.args.text.now ++ line n) c.len.ensures in
    c.loop-batch.invariant ∙ ap (λ (l : List Batch). c.put_segment.new.out ++ flat_map batch_lines l) whole
    ∙ ap (λ (t : List ℕ). t ++ flat_map batch_lines r.batches) told ∙ append_assoc c.args.text.now (line (length r.batches)) (flat_map batch_lines r.batches)
