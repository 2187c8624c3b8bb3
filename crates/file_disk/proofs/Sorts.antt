-- What is in the order of its names, as a sort has it, has no name before the one in front of it.
use Rattle.std.proofs.Common.{◌≡◌, false, inl, inr, arith}
use Rattle.std.specs.Ordering.{nat_cmp, ordering_then, is_lt}
use Rattle.std.proofs.lemmas.Bool.Decides.{nat_tests}
use Rattle.disk_face.specs.declared.SegName.{SegName}
use Rattle.disk_face.specs.Listing.{IsBefore}

pub not_before : (a b : SegName) → is_lt (ordering_then (nat_cmp a.wal b.wal) (nat_cmp a.index b.index)) ≡ false → IsBefore a b → ⊥
not_before a b not_less (inl wal) = grind (arith, nat_tests)
not_before a b not_less (inr both) = grind (arith, nat_tests)
