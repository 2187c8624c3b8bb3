-- Counts of faults, and what may be answered by them (docs/formats/disk.md, "Counts of faults").
use Rattle.std.specs.Prelude.{◌≡◌, ℕ, ◌+◌, ◌-◌, ◌^◌, ◌≤◌, min}

-- where a count stops
abbrev pub COUNT_END : ℕ
COUNT_END = 2 ^ 64 - 1

-- a count with one more
abbrev pub counted : ℕ → ℕ
counted before = min (before + 1) COUNT_END

-- The count is higher than before, or stands at its end.
abbrev pub Rose : ℕ → ℕ → Type 0
Rose before now = counted before ≤ now

-- The count never falls, and it rose where this was answered.
pub record HasCause (answered : Type 0) (before now : ℕ) : Type 0 where
  pub later : before ≤ now
  pub rose : answered → Rose before now

-- The count stays where this was not answered.
abbrev pub StaysUnless : Type 0 → ℕ → ℕ → Type 0
StaysUnless answered before now = (answered → ⊥) → now ≡ before
