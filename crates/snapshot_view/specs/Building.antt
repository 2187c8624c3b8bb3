-- What is taken of batches when a view is built. Nothing of it is seen from outside.
use Rattle.std.specs.Prelude.{◌⊎◌, ◌↔◌, ℕ, ◌<◌, List, Contains}
use Rattle.batch_repr.specs.Versions.{Version}
use Rattle.arena_list.specs.Versions.{KeyVersion}
use Rattle.range_cover.specs.declared.mark.RangeMark.{RangeMark}
use Rattle.snapshot_view.specs.Views.{version_left, range_left}

-- Each version has a number below this one.
abbrev pub AreBelow : List KeyVersion → ℕ → Type 0
AreBelow versions number = (version : KeyVersion) → Contains versions version → version.number < number

-- There are the versions of keys more that some changes leave, and no other ones.
abbrev pub TakesVersions : List KeyVersion → List Version → List KeyVersion → Type 0
TakesVersions old changes new = (version : KeyVersion) → Contains new version ↔ (Contains old version ⊎ Contains changes (version_left version))

-- There are the range deletes more among some changes, and no other ones.
abbrev pub TakesRanges : List RangeMark → List Version → List RangeMark → Type 0
TakesRanges old changes new = (mark : RangeMark) → Contains new mark ↔ (Contains old mark ⊎ Contains changes (range_left mark))
