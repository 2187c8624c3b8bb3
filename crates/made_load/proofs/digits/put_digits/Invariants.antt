use Rattle.std.proofs.Common.{◌≡◌, ◌++◌, length, drop}
use Rattle.made_load.specs.Load.{last_digits}
use Rattle.made_load.proofs.digits.put_digits.Given as goal

abbrev pub invariant-loop-place : goal.invariant-loop-place
invariant-loop-place l =
    (length l.out ≡ length l.fn.out)
    × (last_digits l.base (length l.fn.out) l.number ≡ last_digits l.base l.place l.rest ++ drop l.place l.out)
