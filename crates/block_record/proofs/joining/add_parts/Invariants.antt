use Rattle.std.proofs.Common.{◌≡◌, ◌++◌, map, take}
use Rattle.block_record.specs.Joined.{rec_after}
use Rattle.block_record.proofs.joining.add_parts.Given as goal

abbrev pub invariant-loop-place : goal.invariant-loop-place
invariant-loop-place l = l.records ≡ l.initial.records ++ map (rec_after l.cut l.piece) (take l.place-index l.places)
