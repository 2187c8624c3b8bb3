use Rattle.std.proofs.Common.{◌≡◌, [], subst, arith}
use Rattle.std.specs.List.{All}
use Rattle.std.specs.Map.Iter.{deref_pair}
use Rattle.std.proofs.lemmas.Map.Iter.{rest_more, rest_all}
use Rattle.table_text.specs.Tables.{IsHeldWithin}
use Rattle.table_text.proofs.LiveRows.{all_gone, gone_on, within_push}
use Rattle.table_text.proofs.tests.are_within.Goals as goal

pub loop-key-preserved : goal.loop-key-preserved
loop-key-preserved c =
    let next = rest_more deref_pair c.loop-key.key-iterator c.next.new.self c.next.result (c.in-Some.key, c.in-Some.value) c.in-Some.is c.next.ensures.steps in
    record {
      within = within_push c.loop-key.yielded (c.in-Some.key, c.in-Some.value) c.loop-key.invariant.within (omega arith, omega arith);
      left = gone_on c.loop-key.yielded (c.in-Some.key, c.in-Some.value) c.loop-key.key-iterator c.next.new.self c.args.live.now.entries c.loop-key.invariant.left next;
    }

pub returns : goal.returns
returns c holds =
    let none : c.loop-key.key-iterator ≡ [] = rest_all deref_pair c.loop-key.key-iterator c.next.new.self c.next.result c.in-None.is c.next.ensures.steps in
    subst (All IsHeldWithin) (all_gone c.loop-key.yielded c.loop-key.key-iterator c.args.live.now.entries c.loop-key.invariant.left none) c.loop-key.invariant.within
