-- What a scan gives: of each key the newest version below a number, where it has a value that no range delete hides
-- (docs/formats/view.md, "Scans"; Pebble's iterator.go).
use Rattle.std.specs.Prelude.{◌≡◌, ◌↔◌, ℕ, ◌<◌, nat_lt, not, ◌&&◌, ◌||◌, Bool, false, List, [], ◌∷◌, Option, Some, None, Contains, cond, ⊤}
use Rattle.std.specs.Str.{bytes_eq}
use Rattle.batch_repr.specs.Batches.{is_within}
use Rattle.arena_list.specs.Versions.{KeyVersion}
use Rattle.arena_list.specs.Newest.{IsNewestOfKey}
use Rattle.range_cover.specs.declared.mark.RangeMark.{RangeMark}
use Rattle.range_cover.specs.Marks.{HasKey, StandsBefore}
use Rattle.snapshot_view.specs.declared.scan.Pair.{Pair}

-- a key with its value
pub record KeyValue : Type 0 where
  pub key : List ℕ
  pub value : List ℕ

-- what an item shows
abbrev pub pair_shown : Pair → KeyValue
pair_shown pair = record { key = pair.key.now; value = pair.value.now }

-- Each key stands before all later ones.
unfoldable pub AscendByKey : List KeyValue → Type 0
AscendByKey [] = ⊤
AscendByKey (pair ∷ later) = ((other : KeyValue) → Contains later other → StandsBefore pair.key other.key) × AscendByKey later

-- A range delete below the number hides the version: its key is within the range, and it is newer.
pub record HidesVersion (mark : RangeMark) (at : ℕ) (version : KeyVersion) : Type 0 where
  pub about : HasKey mark version.key
  pub under : mark.number < at
  pub newer : version.number < mark.number

-- No range delete below the number hides the version.
abbrev pub IsUnhidden : List RangeMark → ℕ → KeyVersion → Type 0
IsUnhidden ranges at version = (mark : RangeMark) → Contains ranges mark → HidesVersion mark at version → ⊥

-- The key's newest version below the number has this value, and no range delete hides it.
abbrev pub ShowsValue : List KeyVersion → List RangeMark → ℕ → List ℕ → List ℕ → Type 0
ShowsValue versions ranges at key value =
    (version : KeyVersion) × IsNewestOfKey versions at version × (version.key ≡ key) × (version.value ≡ Some value) × IsUnhidden ranges at version

-- These are the keys from one on that have a value below a number, each with it, in order of bytes.
pub record IsScan (versions : List KeyVersion) (ranges : List RangeMark) (from : List ℕ) (at : ℕ) (pairs : List KeyValue) : Type 0 where
  pub ascend : AscendByKey pairs
  pub same : (key value : List ℕ) → Contains pairs (record { key = key; value = value })
      ↔ ((StandsBefore key from → ⊥) × ShowsValue versions ranges at key value)

-- ---- inside

-- whether it is the key that was met
abbrev pub is_met : Option (List ℕ) → List ℕ → Bool
is_met None key = false
is_met (Some met) key = bytes_eq met key

-- whether a version is passed over: it is not below the number, or an older one of the key that was met
abbrev pub is_passed : ℕ → Option (List ℕ) → KeyVersion → Bool
is_passed at met version = not (nat_lt version.number at) || is_met met version.key

-- whether a range delete below the number hides the version
abbrev pub hides : RangeMark → ℕ → KeyVersion → Bool
hides mark at version = is_within mark.start mark.end version.key && (nat_lt mark.number at && nat_lt version.number mark.number)

-- whether one of the range deletes does
unfoldable pub is_hidden : List RangeMark → ℕ → KeyVersion → Bool
is_hidden [] at version = false
is_hidden (mark ∷ ranges) at version = hides mark at version || is_hidden ranges at version

-- a key with its value, where it has one, before these
abbrev pub with_pair : List ℕ → Option (List ℕ) → List KeyValue → List KeyValue
with_pair key None pairs = pairs
with_pair key (Some value) pairs = record { key = key; value = value } ∷ pairs

-- the value of a version that is not hidden
abbrev pub open_value : List RangeMark → ℕ → KeyVersion → Option (List ℕ)
open_value ranges at version = cond (is_hidden ranges at version) None version.value

-- what is left to give of the versions, where this key was met last
unfoldable pub pairs_left : ℕ → List RangeMark → Option (List ℕ) → List KeyVersion → List KeyValue
pairs_left at ranges met [] = []
pairs_left at ranges met (version ∷ versions) =
    cond (is_passed at met version) (pairs_left at ranges met versions)
    (with_pair version.key (open_value ranges at version) (pairs_left at ranges (Some version.key) versions))
