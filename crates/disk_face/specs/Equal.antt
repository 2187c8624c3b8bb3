-- Sides, numbers and names are equal exactly where their tests say so (docs/formats/log.md, "Segment names").
use Rattle.std.proofs.Common.{◌≡◌, ◌==◌, ◌&&◌, ℕ, Bool, true, false, refl, arith}
use Rattle.std.proofs.lemmas.Bool.Decides.{nat_tests}
use Rattle.disk_face.specs.declared.Side.{Side}
use Rattle.disk_face.specs.declared.Side.TheVariants.{Primary, Secondary}
use Rattle.disk_face.specs.View.{side_eq}

pub side_eq_self : (s : Side) → side_eq s s ≡ true
side_eq_self Primary = refl
side_eq_self Secondary = refl

pub side_eq_only : (s t : Side) → side_eq s t ≡ true → s ≡ t
side_eq_only Primary Primary e = refl
side_eq_only Primary Secondary e = cc
side_eq_only Secondary Primary e = cc
side_eq_only Secondary Secondary e = refl

pub nat_eq_self : (n : ℕ) → (n == n) ≡ true
nat_eq_self n = grind (arith, nat_tests)

pub nat_eq_only : (n m : ℕ) → (n == m) ≡ true → n ≡ m
nat_eq_only n m e = grind (arith, nat_tests)

pub both_left : (a b : Bool) → (a && b) ≡ true → a ≡ true
both_left true b e = refl
both_left false b e = e

pub both_right : (a b : Bool) → (a && b) ≡ true → b ≡ true
both_right true b e = e
both_right false b e = cc
