use Rattle.std.proofs.Common.{◌≡◌, ◌++◌, ◌∷◌, [], ◌+◌, List, take, sym, ap, ◌∙◌, subst}
use Rattle.std.proofs.lemmas.List.{take_more}
use Rattle.view_script.specs.declared.view_line.ViewLine.{ViewLine}
use Rattle.view_runner.specs.Running.{HasAnswered}
use Rattle.view_runner.proofs.Chains.{none_answered, answered_more}
use Rattle.view_runner.proofs.run.view_text.Goals as goal

pub loop-line-init : goal.loop-line-init
loop-line-init c =
    let view = c.in_ok-view.ensures in
    none_answered c.args.batches.now c.args.floor (record { view = c.in_ok-view.view; holds = c.new-2.result; text = c.in_ok-text.text })
    c.requires view.batches view.floor view.next view.holds view.versions view.ascend c.new-2.ensures.items c.in_ok-text.ensures

pub loop-line-preserved : goal.loop-line-preserved
loop-line-preserved c =
    let items = c.as_slice-line-items.result.now in
    let i = c.loop-line.line-index in
    let line = c.line-item.result in
    let more : take (i + 1) items ≡ take i items ++ line ∷ [] =
    take_more items i line c.loop-line-test.true ∙ ap (λ (x : ViewLine). take i items ++ x ∷ []) (sym c.line-item.is) in
    subst (λ (lines : List ViewLine). HasAnswered c.args.batches.now c.args.floor lines c.answer.new.self) (sym more)
    (answered_more c.args.batches.now c.args.floor (take i items) c.loop-line.run c.answer.new.self line c.loop-line.invariant c.in_ok-answer.ensures)
