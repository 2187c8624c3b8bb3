-- What holds of a result that is an error, and of two options that are the same.
use Rattle.std.proofs.Common.{◌≡◌, Some, Result, Ok, Err}
use Rattle.std.specs.Prelude.{OnErr}

pub some_is : {X : Type 0} (x y : X) → Some x ≡ Some y → x ≡ y
some_is x y e = cc

pub always_err : {A E : Type 0} (P : Type 0) (r : Result A E) → P → OnErr r P
always_err P (Ok x) p = tt
always_err P (Err e) p = p
