-- Laws of versions and marks, each as one statement (docs/formats/ring.md, "The shards").
use Rattle.std.specs.Prelude.{◌≡◌, ℕ, List, Option, Contains}
use Rattle.arena_list.specs.Versions.{KeyVersion, AscendVersions}
use Rattle.arena_list.specs.Newest.{IsNewestOf}
use Rattle.arena_list.specs.Marks.{KeepsMarked}

-- What is the newest version of a key below a mark, or that there is none, stays so where versions are kept for the marks.
abbrev pub MarksKeepAnswers : Type 0
MarksKeepAnswers = (old new : List KeyVersion) (marks : List ℕ) (mark : ℕ) (key : List ℕ) (newest : Option KeyVersion) → KeepsMarked old marks new
    → Contains marks mark → IsNewestOf old key mark newest → IsNewestOf new key mark newest

-- There is one newest version of a key below a number at most.
abbrev pub NewestIsOne : Type 0
NewestIsOne = (versions : List KeyVersion) (key : List ℕ) (below : ℕ) (one other : Option KeyVersion) → AscendVersions versions
    → IsNewestOf versions key below one → IsNewestOf versions key below other → one ≡ other
