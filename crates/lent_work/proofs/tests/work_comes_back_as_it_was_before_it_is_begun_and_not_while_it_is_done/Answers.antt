use Rattle.std.proofs.Common.{rules, ◌∙◌}
use Rattle.lent_work.proofs.tests.work_comes_back_as_it_was_before_it_is_begun_and_not_while_it_is_done.Goals as goal

pub give_back-requires-clause-done : goal.give_back-requires-clause-done
give_back-requires-clause-done g c = (c.in-Some.list, c.await_work.ensures.work ∙ c.in-Some.is, search rules)
