-- What each step does to the edges. Nothing of it is seen from outside.
use Rattle.std.specs.Prelude.{◌≡◌, ◌⊎◌, ℕ, ◌≤◌, List, ◌∷◌, None, Contains, count_by}
use Rattle.std.specs.Ordering.{nat_cmp, is_lt}
use Rattle.std.specs.Cmp.Lexicographic.{slice_cmp}
use Rattle.arena_list.specs.Versions.{KeyVersion, version_with, HoldsVersion, LeavesOut}
use Rattle.range_cover.specs.declared.mark.RangeMark.{RangeMark}
use Rattle.range_cover.specs.Marks.{StandsBefore}
use Rattle.range_cover.specs.Edges.{IsUpTo, IsTopOver, IsEdgeOf, HasNoEdgeOf, HasEdge, HaveOwnKeys, AreTops, IsCover}

-- The edges tell this of the key.
abbrev pub Tells : List KeyVersion → List ℕ → ℕ → Type 0
Tells edges key top = ((edge : KeyVersion) × IsEdgeOf edges key edge × (edge.number ≡ top)) ⊎ (HasNoEdgeOf edges key × (top ≡ 1))

-- The edges are those of some range deletes.
abbrev pub CoverSome : List KeyVersion → Type 0
CoverSome edges = (marks : List RangeMark) × IsCover edges marks

-- What the edges told they tell, whatever it is.
abbrev pub TellsTheSame : List KeyVersion → List KeyVersion → Type 0
TellsTheSame old new = (marks : List RangeMark) → IsCover old marks → IsCover new marks

-- They tell one range delete more.
abbrev pub TellsOneMore : List KeyVersion → RangeMark → List KeyVersion → Type 0
TellsOneMore old mark new = (marks : List RangeMark) → IsCover old marks → IsCover new (mark ∷ marks)

-- An edge is taken out.
pub record HandsEdgeOver (old : List KeyVersion) (key : List ℕ) (top : ℕ) (new : List KeyVersion) : Type 0 where
  pub held : HoldsVersion old key top
  pub left : LeavesOut old key top new

-- The first edge behind a key is taken out, which stands before the end.
pub record HandsNext (old : List KeyVersion) (from end key : List ℕ) (top : ℕ) (new : List KeyVersion) : Type 0 where
  pub taken : HandsEdgeOver old key top new
  pub behind : StandsBefore from key
  pub before : StandsBefore key end
  pub first : (other : KeyVersion) → Contains old other → StandsBefore from other.key → IsUpTo key other.key

-- Amid a raise, the edges at some keys tell the new range delete too, and the others do not yet.
pub record IsAmid (edges : List KeyVersion) (done : List ℕ → Type 0) (mark : RangeMark) (marks : List RangeMark) : Type 0 where
  pub alone : HaveOwnKeys edges
  pub told : (key : List ℕ) (edge : KeyVersion) → IsEdgeOf edges key edge → done edge.key → IsTopOver (mark ∷ marks) key edge.number
  pub left : (key : List ℕ) (edge : KeyVersion) → IsEdgeOf edges key edge → (done edge.key → ⊥) → IsTopOver marks key edge.number
  pub none : (key : List ℕ) → HasNoEdgeOf edges key → IsTopOver (mark ∷ marks) key 1

-- Amid a raise one edge is in hand, the last one that tells the new range delete.
pub record IsMarkHeld (first edges : List KeyVersion) (key : List ℕ) (top : ℕ) (mark : RangeMark) : Type 0 where
  pub amid : (marks : List RangeMark) → IsCover first marks → IsAmid (version_with key top None ∷ edges) (λ at. IsUpTo at key) mark marks
  pub tops : AreTops edges
  pub some : 1 ≤ top
  pub apart : HasEdge edges key → ⊥
  pub start : IsUpTo mark.start key
  pub before : StandsBefore key mark.end
  pub end : HasEdge edges mark.end

-- how many of the edges are behind a key
abbrev pub count_behind : List ℕ → List KeyVersion → ℕ
count_behind key edges = count_by (λ (edge : KeyVersion). is_lt (slice_cmp nat_cmp key edge.key)) edges
