-- Range deletes, and the newest one over a key (docs/formats/ring.md, "The shards").
use Rattle.std.specs.Prelude.{◌≡◌, ℕ, ◌<◌, ◌≤◌, List, Option, Some, None, Contains, IsTrue}
use Rattle.std.specs.List.Sorted.{IsNonDecreasingBy, IsPartitionPoint}
use Rattle.std.specs.declared.cmp.Ordering.TheVariants.{Less}
use Rattle.std.specs.Ordering.{nat_cmp}
use Rattle.std.specs.Cmp.Lexicographic.{slice_cmp}
use Rattle.batch_repr.specs.Batches.{is_within}
use Rattle.range_cover.specs.declared.mark.RangeMark.{RangeMark}

-- One key stands before another one in the order of bytes.
abbrev pub StandsBefore : List ℕ → List ℕ → Type 0
StandsBefore one other = slice_cmp nat_cmp one other ≡ Less

-- The key is within the range.
abbrev pub HasKey : RangeMark → List ℕ → Type 0
HasKey mark key = IsTrue (is_within mark.start mark.end key)

-- The number is the greatest one below a bound that a range delete has which the key is within.
pub record IsNewestOver (marks : List RangeMark) (key : List ℕ) (below number : ℕ) : Type 0 where
  pub stands : (mark : RangeMark) × Contains marks mark × HasKey mark key × (mark.number ≡ number)
  pub under : number < below
  pub last : (other : RangeMark) → Contains marks other → HasKey other key → other.number < below → other.number ≤ number

-- The newest range delete over a key below a bound is told by its number, and none exactly where there is none.
abbrev pub TellsNewestOver : List RangeMark → List ℕ → ℕ → Option ℕ → Type 0
TellsNewestOver marks key below None = (other : RangeMark) → Contains marks other → HasKey other key → below ≤ other.number
TellsNewestOver marks key below (Some number) = IsNewestOver marks key below number

-- Each number is at most those of the range deletes behind it.
abbrev pub AreInNumberOrder : List RangeMark → Type 0
AreInNumberOrder marks = IsNonDecreasingBy (λ (mark : RangeMark). mark.number) marks

-- The range deletes before the place have numbers below the bound, and those from there on have not.
abbrev pub IsBoundary : List RangeMark → ℕ → ℕ → Type 0
IsBoundary marks below place = IsPartitionPoint (λ (mark : RangeMark). mark.number < below) (λ (mark : RangeMark). below ≤ mark.number) marks place
