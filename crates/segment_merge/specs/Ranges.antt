-- Segments that hold parts of one list of records, and which parts a crash leaves (docs/formats/journal.md, "Merging").
use Rattle.std.specs.Prelude.{ℕ, ◌-◌, ◌≤◌, max, List, [], ◌∷◌, take, drop}
use Rattle.batch_repr.specs.declared.batch.Batch.{Batch}

-- the elements from one place up to another
abbrev pub between : {X : Type 0} → ℕ → ℕ → List X → List X
between from to xs = take (to - from) (drop from xs)

-- A segment that begins at one record: those below `synced` are synced, and those below `to` are read.
pub record Range : Type 0 where
  pub from : ℕ
  pub synced : ℕ
  pub to : ℕ

-- the records of a range
abbrev pub records_in : List Batch → Range → List Batch
records_in records range = between range.from range.to records

-- Each begins at or below the greatest synced of those before it. (The number is that greatest so far.)
unfoldable pub AreRanges : ℕ → ℕ → List Range → Type 0
AreRanges len acked [] = Unit {0}
AreRanges len acked (range ∷ ranges) =
    (range.from ≤ acked) × (range.from ≤ range.synced) × (range.synced ≤ range.to) × (range.to ≤ len) × AreRanges len (max acked range.synced) ranges

-- the greatest synced
unfoldable pub greatest_synced : ℕ → List Range → ℕ
greatest_synced acked [] = acked
greatest_synced acked (range ∷ ranges) = greatest_synced (max acked range.synced) ranges

-- how far the ranges reach
unfoldable pub reach : ℕ → List Range → ℕ
reach e [] = e
reach e (range ∷ ranges) = reach (max e range.to) ranges
