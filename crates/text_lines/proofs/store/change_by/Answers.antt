use Rattle.text_lines.proofs.Changing.{held_set, held_delete, held_range}
use Rattle.text_lines.proofs.store.change_by.Goals as goal

pub returns-in_ok-insert-in-Set-clause-same : goal.returns-in_ok-insert-in-Set-clause-same
returns-in_ok-insert-in-Set-clause-same c =
    held_set c.as_slice.result.now c.in-Set.key c.in-Set.value c.as_slice-in-Set.result c.args.entry.now c.args.holding.now c.insert.new.self c.in_ok-insert-in-Set.ensures.updates c.as_slice.ensures c.as_slice-in-Set.ensures c.in-Set.is

pub returns-in-Delete-clause-same : goal.returns-in-Delete-clause-same
returns-in-Delete-clause-same c =
    held_delete c.as_slice-in-Delete.result.now c.in-Delete.key c.args.entry.now c.args.holding.now c.remove.new.self c.remove.ensures.updates c.as_slice-in-Delete.ensures c.in-Delete.is

pub returns-in-RangeDelete-clause-same : goal.returns-in-RangeDelete-clause-same
returns-in-RangeDelete-clause-same c =
    held_range c.in-RangeDelete.start c.in-RangeDelete.end c.args.entry.now c.args.holding.now c.let_go_of.new.holding
    (λ key. rw (c.as_slice-in-RangeDelete.ensures, c.as_slice-in-RangeDelete-2.ensures) at (c.let_go_of.ensures.same key)) c.in-RangeDelete.is
