use Rattle.std.proofs.Common.{◌≡◌, ◌++◌, map}
use Rattle.std.specs.List.{All}
use Rattle.std.specs.Map.Iter.{deref_pair}
use Rattle.table_text.specs.Tables.{IsHeldWithin}
use Rattle.table_text.proofs.LiveRows.{gone_over}
use Rattle.table_text.proofs.tests.are_within.Given as goal

abbrev pub invariant-loop-key : goal.invariant-loop-key
invariant-loop-key l = record {
  within : All IsHeldWithin (gone_over l.yielded);
  left : map deref_pair l.yielded ++ l.key-iterator ≡ l.live.entries;
}
