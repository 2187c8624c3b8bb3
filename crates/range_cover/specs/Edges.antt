-- The edges of range deletes: the keys where the newest one over a key changes, and what each tells. Nothing of it is seen from outside.
use Rattle.std.specs.Prelude.{◌≡◌, ◌⊎◌, ℕ, ◌+◌, ◌-◌, ◌^◌, ◌≤◌, min, List, Contains}
use Rattle.arena_list.specs.Versions.{KeyVersion}
use Rattle.range_cover.specs.declared.mark.RangeMark.{RangeMark}
use Rattle.range_cover.specs.Marks.{StandsBefore, HasKey}

-- One key stands before another one, or is the same.
abbrev pub IsUpTo : List ℕ → List ℕ → Type 0
IsUpTo one other = StandsBefore other one → ⊥

-- ---- what is to be told

-- what is told of a range delete: 2 more than its number, as far as numbers reach
abbrev pub top_of : ℕ → ℕ
top_of number = min (number + 2) (2 ^ 64 - 1)

-- This is to be told of a key: of the newest of the range deletes that it is within, and 1 where it is within none.
pub record IsTopOver (marks : List RangeMark) (key : List ℕ) (top : ℕ) : Type 0 where
  pub is : (top ≡ 1) ⊎ ((mark : RangeMark) × Contains marks mark × HasKey mark key × (top ≡ top_of mark.number))
  pub some : 1 ≤ top
  pub most : (mark : RangeMark) → Contains marks mark → HasKey mark key → top_of mark.number ≤ top

-- ---- the edges

-- The edge is the last one at a key or before it.
pub record IsEdgeOf (edges : List KeyVersion) (key : List ℕ) (edge : KeyVersion) : Type 0 where
  pub stands : Contains edges edge
  pub reaches : IsUpTo edge.key key
  pub last : (other : KeyVersion) → Contains edges other → IsUpTo other.key key → IsUpTo other.key edge.key

-- No edge is at the key or before it.
abbrev pub HasNoEdgeOf : List KeyVersion → List ℕ → Type 0
HasNoEdgeOf edges key = (edge : KeyVersion) → Contains edges edge → StandsBefore key edge.key

-- An edge stands at the key.
abbrev pub HasEdge : List KeyVersion → List ℕ → Type 0
HasEdge edges key = (edge : KeyVersion) × Contains edges edge × (edge.key ≡ key)

-- No two edges have one key.
abbrev pub HaveOwnKeys : List KeyVersion → Type 0
HaveOwnKeys edges = (one other : KeyVersion) → Contains edges one → Contains edges other → one.key ≡ other.key → one ≡ other

-- Each edge tells something, and a number.
abbrev pub AreTops : List KeyVersion → Type 0
AreTops edges = (edge : KeyVersion) → Contains edges edge → (1 ≤ edge.number) × (edge.number ≤ 2 ^ 64 - 1)

-- For each key the last edge at it or before it tells the newest of the range deletes that the key is within, and there is none
-- where no edge is.
pub record IsCover (edges : List KeyVersion) (marks : List RangeMark) : Type 0 where
  pub alone : HaveOwnKeys edges
  pub told : (key : List ℕ) (edge : KeyVersion) → IsEdgeOf edges key edge → IsTopOver marks key edge.number
  pub none : (key : List ℕ) → HasNoEdgeOf edges key → IsTopOver marks key 1
