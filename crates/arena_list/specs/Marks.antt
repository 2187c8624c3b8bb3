-- Numbers that versions are kept for, and what is kept for them (docs/formats/ring.md, "The shards"; Pebble's internal/compact/snapshots.go).
use Rattle.std.specs.Prelude.{◌≡◌, ◌↔◌, ℕ, ◌<◌, ◌≤◌, List, Contains, length, slice_index}
use Rattle.std.specs.List.{insert, remove}
use Rattle.arena_list.specs.Versions.{KeyVersion}
use Rattle.arena_list.specs.Newest.{IsNewestOfKey}

-- the place of the first mark that is greater, and the length where there is none
pub record IsFirstAbove (marks : List ℕ) (number place : ℕ) : Type 0 where
  pub within : place ≤ length marks
  pub below : (k : ℕ) → k < place → slice_index marks k ≤ number
  pub above : place < length marks → number < slice_index marks place

-- the place of a mark
abbrev pub IsPlaceOf : List ℕ → ℕ → ℕ → Type 0
IsPlaceOf marks number place = (place < length marks) × (slice_index marks place ≡ number)

-- A number is put in before the first greater one, or at the end where there is none.
abbrev pub PutsMark : List ℕ → ℕ → List ℕ → Type 0
PutsMark old number new = (place : ℕ) × IsFirstAbove old number place × (new ≡ insert old place number)

-- One such number is taken out.
abbrev pub TakesMark : List ℕ → ℕ → List ℕ → Type 0
TakesMark old number new = (place : ℕ) × IsPlaceOf old number place × (new ≡ remove old place)

-- The version is its key's newest below one of the marks.
abbrev pub IsKeptFor : List KeyVersion → List ℕ → KeyVersion → Type 0
IsKeptFor versions marks version = (mark : ℕ) × Contains marks mark × IsNewestOfKey versions mark version

-- The versions that are their key's newest below some mark are kept, and no other one.
abbrev pub KeepsMarked : List KeyVersion → List ℕ → List KeyVersion → Type 0
KeepsMarked old marks new = (version : KeyVersion) → Contains new version ↔ IsKeptFor old marks version
