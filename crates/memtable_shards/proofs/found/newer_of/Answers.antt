-- The greater number tells which of two is newer.
use Rattle.std.proofs.Common.{sym, ◌∙◌, arith}
use Rattle.memtable_shards.specs.Newest.{told}
use Rattle.memtable_shards.proofs.Newer.{second_alone, first_alone, second_newer, first_newer}
use Rattle.memtable_shards.proofs.found.newer_of.Goals as goal

pub returns-in-None-default : goal.returns-in-None-default
returns-in-None-default c xs ys key below one two =
    second_alone xs ys key below (told c.args.one) (told c.args.other) (sym c.in-None-default.is-0 ∙ c.number_of.ensures) one two

pub returns-in_default-None : goal.returns-in_default-None
returns-in_default-None c xs ys key below one two =
    first_alone xs ys key below (told c.args.one) (told c.args.other) (sym c.in_default-None.is-1 ∙ c.number_of-2.ensures) one two

pub returns-then-ones-others : goal.returns-then-ones-others
returns-then-ones-others c xs ys key below one two =
    second_newer xs ys key below (told c.args.one) (told c.args.other) c.in-Some-Some.ones c.in-Some-Some.others
    (sym c.in-Some-Some.is-0 ∙ c.number_of.ensures) (sym c.in-Some-Some.is-1 ∙ c.number_of-2.ensures) (omega (arith, c.if-ones-others.true)) one two

pub returns-else-ones-others : goal.returns-else-ones-others
returns-else-ones-others c xs ys key below one two =
    first_newer xs ys key below (told c.args.one) (told c.args.other) c.in-Some-Some.ones c.in-Some-Some.others
    (sym c.in-Some-Some.is-0 ∙ c.number_of.ensures) (sym c.in-Some-Some.is-1 ∙ c.number_of-2.ensures) (omega (arith, c.if-ones-others.false)) one two
