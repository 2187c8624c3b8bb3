use Rattle.file_disk.specs.Found.{AreTablesFound}
use Rattle.file_disk.proofs.system.tables.Given as goal

abbrev pub invariant-loop-entry : goal.invariant-loop-entry
invariant-loop-entry g l = record {
  goes : (goal.iterator-loop-entry g).can_next l.entry-iterator;
  ends : (goal.iterator-loop-entry g).is_finite l.entry-iterator;
  numbers : AreTablesFound l.found;
}
