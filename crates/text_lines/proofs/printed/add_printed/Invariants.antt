use Rattle.std.proofs.Common.{◌≡◌, ◌≤◌, ◌++◌, length, take, drop}
use Rattle.std.specs.List.{flat_map}
use Rattle.text_lines.specs.Printed.{printed_byte}
use Rattle.text_lines.proofs.printed.add_printed.Given as goal

-- what waits and what was added are together what was seen, as it is printed
abbrev pub invariant-loop-at : goal.invariant-loop-at
invariant-loop-at l = record {
  behind : l.start ≤ l.at;
  begins : take (length l.fn.out) l.out ≡ l.fn.out;
  seen : l.out ++ drop l.start (take l.at l.bytes) ≡ l.fn.out ++ flat_map printed_byte (take l.at l.bytes);
}
