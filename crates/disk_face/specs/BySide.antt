-- A number for each side (docs/formats/disk.md, "The disk").
use Rattle.std.specs.Prelude.{◌≡◌, ℕ, ◌+◌, ◌<◌, Bool, MatchBool}
use Rattle.disk_face.specs.declared.Side.{Side}
use Rattle.disk_face.specs.View.{by_side}
use Rattle.disk_face.specs.declared.by_side.BySide.{BySide}

-- the number of that side
abbrev pub on_side : BySide → Side → ℕ
on_side n = by_side n.primary n.secondary

-- where one was taken the number of the side fell, and else nothing changed
abbrev pub FallsIf : Bool → Side → BySide → BySide → Type 0
FallsIf taken side old new = MatchBool taken (on_side new side < on_side old side) (new ≡ old)

-- where one was taken it is one less, and else nothing changed
abbrev pub FallsByOneIf : Bool → Side → BySide → BySide → Type 0
FallsByOneIf taken side old new = MatchBool taken (on_side new side + 1 ≡ on_side old side) (new ≡ old)
