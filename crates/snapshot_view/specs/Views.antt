-- A view, what stands in it, and what it keeps (docs/formats/view.md, "What a view answers" and "Holding and purging").
use Rattle.std.specs.Prelude.{◌≡◌, ◌↔◌, ◌⊎◌, ℕ, ◌<◌, ◌≤◌, ◌^◌, List, [], ◌∷◌, Option, Some, None, Contains, length, slice_get, cond, nat_lt, count_by, ◌==◌}
use Rattle.std.specs.List.{flat_map}
use Rattle.std.specs.List.Sorted.{IsNonDecreasing}
use Rattle.wal_base.specs.declared.entry.Entry.{Entry}
use Rattle.wal_base.specs.declared.entry.Entry.TheVariants.{Set, Delete, RangeDelete}
use Rattle.batch_repr.specs.declared.batch.Batch.{Batch}
use Rattle.batch_repr.specs.declared.limits.TheConstants.{NUMBER_MAX}
use Rattle.batch_repr.specs.Batches.{IsContiguous, end_after}
use Rattle.batch_repr.specs.Versions.{Version, versions_in, answer_at}
use Rattle.arena_list.specs.Versions.{KeyVersion, AscendVersions}
use Rattle.arena_list.specs.Newest.{IsNewestOfKey}
use Rattle.range_cover.specs.declared.mark.RangeMark.{RangeMark}
use Rattle.range_cover.specs.Marks.{StandsBefore}
use Rattle.snapshot_view.specs.Scans.{KeyValue, AscendByKey}

-- a view: its batches, the floor, the number that comes next, the number of each hold, and its versions of keys
pub record View : Type 0 where
  pub batches : List Batch
  pub floor : ℕ
  pub next : ℕ
  pub holds : List (Option ℕ)
  pub versions : List KeyVersion

-- the Set or Delete that left a key with a value, or with none
abbrev pub change_of : List ℕ → Option (List ℕ) → Entry
change_of key None = Delete key
change_of key (Some value) = Set key value

-- that change, under the version's number
abbrev pub version_left : KeyVersion → Version
version_left version = record { entry = change_of version.key version.value; number = version.number }

-- the RangeDelete, under its number
abbrev pub range_left : RangeMark → Version
range_left mark = record { entry = RangeDelete mark.start mark.end; number = mark.number }

-- The batches leave this version of a key.
abbrev pub LeaveVersion : List Batch → KeyVersion → Type 0
LeaveVersion batches version = Contains (versions_in batches) (version_left version)

-- The batches leave this range delete.
abbrev pub LeaveRange : List Batch → RangeMark → Type 0
LeaveRange batches mark = Contains (versions_in batches) (range_left mark)

-- Batches can be viewed from a floor: they are in a row, the floor is within them, and where there are any they end in range.
pub record CanBeViewed (batches : List Batch) (floor : ℕ) : Type 0 where
  pub start : ℕ
  pub row : IsContiguous start batches
  pub from : start ≤ floor
  pub to : floor ≤ end_after start batches
  pub small : 0 < length batches → end_after start batches ≤ NUMBER_MAX

-- The hold of this number stands at a number.
abbrev pub HoldsAt : List (Option ℕ) → ℕ → ℕ → Type 0
HoldsAt holds number at = slice_get holds number ≡ Some (Some at)

-- The hold of this number stands.
abbrev pub HoldStands : List (Option ℕ) → ℕ → Type 0
HoldStands holds number = (at : ℕ) × HoldsAt holds number at

-- the numbers that are held
abbrev pub held_number : Option ℕ → List ℕ
held_number None = []
held_number (Some at) = at ∷ []

abbrev pub held_numbers : List (Option ℕ) → List ℕ
held_numbers holds = flat_map held_number holds

-- what a purge keeps versions for: the next number, and each that is held
abbrev pub numbers_shown : View → List ℕ
numbers_shown view = view.next ∷ held_numbers view.holds

-- These are the keys from one on that have a value at a number by the batches, each with it, in order of bytes.
pub record IsScanOf (batches : List Batch) (from : List ℕ) (at : ℕ) (pairs : List KeyValue) : Type 0 where
  pub ascend : AscendByKey pairs
  pub same : (key value : List ℕ) → Contains pairs (record { key = key; value = value })
      ↔ ((StandsBefore key from → ⊥) × (answer_at batches at key ≡ Some value))

-- ---- inside

-- The version is the newest one of its key below a number among those that the batches leave.
pub record IsNewestLeft (batches : List Batch) (at : ℕ) (version : KeyVersion) : Type 0 where
  pub stands : LeaveVersion batches version
  pub under : version.number < at
  pub last : (other : KeyVersion) → LeaveVersion batches other → other.key ≡ version.key → other.number < at → other.number ≤ version.number

-- what is shown of the newest version of a key, and of the number of the newest range delete over it
abbrev pub value_shown : Option KeyVersion → Option ℕ → Option (List ℕ)
value_shown None range = None
value_shown (Some version) None = version.value
value_shown (Some version) (Some number) = cond (nat_lt version.number number) None version.value

-- The numbers at which a view is read: those held, and those from the floor to the next one.
abbrev pub IsReadAt : View → ℕ → Type 0
IsReadAt view at = ((view.floor ≤ at) × (at ≤ view.next)) ⊎ Contains view.holds (Some at)

-- how often a number is among others
abbrev pub times_in : ℕ → List ℕ → ℕ
times_in number numbers = count_by (λ other. other == number) numbers

-- What a view keeps: its versions and ranges are some of those that the batches leave, all ranges among them, and at each number
-- where it is read each key's newest version; and the marks ascend, and have each number as often as it is shown.
pub record IsView (view : View) (ranges : List RangeMark) (marks : List ℕ) : Type 0 where
  pub viewed : CanBeViewed view.batches view.floor
  pub next : view.next ≡ end_after view.floor view.batches
  pub some : (version : KeyVersion) → Contains view.versions version → LeaveVersion view.batches version
  pub kept : (at : ℕ) → IsReadAt view at → (version : KeyVersion) → IsNewestLeft view.batches at version → Contains view.versions version
  pub covers : (mark : RangeMark) → Contains ranges mark ↔ LeaveRange view.batches mark
  pub held : (at : ℕ) → Contains view.holds (Some at) → at ≤ view.next
  pub ascends : IsNonDecreasing marks
  pub marked : (number : ℕ) → times_in number marks ≡ times_in number (numbers_shown view)
