-- Files that are removed one after another (docs/formats/table.md, "Flushing").
use Rattle.std.specs.Prelude.{◌≡◌, ◌⊎◌, ℕ, ◌<◌, ◌≤◌, Bool, List, [], ◌∷◌, ◌++◌, map, take, drop, None, Contains, IsSome, IsTrue}
use Rattle.std.specs.List.{AllByRecursion}
use Rattle.disk_face.specs.declared.Side.{Side}
use Rattle.disk_face.specs.declared.Side.TheVariants.{Primary, Secondary}
use Rattle.disk_face.specs.declared.Listed.{Listed}
use Rattle.disk_face.specs.declared.TableListed.{TableListed}
use Rattle.disk_face.specs.declared.FilePlace.TheVariants.{Segment, Table}
use Rattle.disk_face.specs.View.{Place, segment, table, Files, DiskView, files, AtEachMoment, Call, was_listed, was_read, tables_were_listed, table_was_read, table_was_put, was_removed, was_started, was_polled, Makes}
use Rattle.disk_face.specs.Tables.{IsBeingRemoved, Removes}
use Rattle.wal_recovery.specs.declared.listing.Sides.{Sides}

-- where the listed segments of a side stand
abbrev pub segment_places : Side → List Listed → List Place
segment_places side names = map (λ (item : Listed). segment side item.name) names

-- where listed tables stand
abbrev pub table_places : List TableListed → List Place
table_places tables = map (λ (item : TableListed). table item.upto) tables

-- where what a table covers stands: the segments of both sides, and these tables
abbrev pub covered_places : Sides → List TableListed → List Place
covered_places sides tables = segment_places Primary sides.primary ++ segment_places Secondary sides.secondary ++ table_places tables

-- The place is one of these.
abbrev pub IsAmong : List Place → Place → Type 0
IsAmong places p = Contains places p

-- The place is of a segment of a WAL up to this number, or of a table below it.
abbrev pub IsCoveredBy : ℕ → Place → Type 0
IsCoveredBy upto (Segment side name) = name.wal ≤ upto
IsCoveredBy upto (Table other) = other < upto

-- Each file is as it was, or it is one of these and is being removed.
abbrev pub IsThinned : (Place → Type 0) → Files → Files → Type 0
IsThinned P old now = (p : Place) → (now p ≡ old p) ⊎ (P p × IsBeingRemoved (old p) (now p))

-- It is so at each moment.
abbrev pub ThinsThroughout : Bool → List Place → DiskView → DiskView → Type 0
ThinsThroughout tells places old new = IsTrue tells → AtEachMoment old.clock new (IsThinned (Contains places) (files old))

-- Each of these places has a file.
abbrev pub AreThere : Bool → List Place → DiskView → Type 0
AreThere tells places v = IsTrue tells → (p : Place) → Contains places p → IsSome (files v p)

-- None of them has one.
abbrev pub AreGone : Bool → List Place → DiskView → Type 0
AreGone tells places v = IsTrue tells → (p : Place) → Contains places p → files v p ≡ None

-- ---- on the way

-- where the disk tells its files, the call removes this one
abbrev pub RemovesOne : Bool → Place → DiskView → DiskView → Type 0
RemovesOne tells place old new = IsTrue tells → Removes place old new

-- where the disk tells its files, this one is gone
abbrev pub IsNone : Bool → Place → DiskView → Type 0
IsNone tells place v = IsTrue tells → files v place ≡ None

-- So many of these files are removed, and the others stand.
pub record AreRemoved (places : List Place) (count : ℕ) (old now : DiskView) : Type 0 where
  pub moments : AtEachMoment old.clock now (IsThinned (Contains places) (files old))
  pub gone : (p : Place) → Contains (take count places) p → files now p ≡ None
  pub kept : (p : Place) → Contains (drop count places) p → files now p ≡ files old p

-- ---- the calls

-- the call removes a file at one of these places
abbrev pub IsRemovalOf : (Place → Type 0) → Call → Type 0
IsRemovalOf P (was_listed side names) = ⊥
IsRemovalOf P (was_read side name len) = ⊥
IsRemovalOf P (tables_were_listed tables) = ⊥
IsRemovalOf P (table_was_read upto len) = ⊥
IsRemovalOf P (table_was_put upto bytes ok) = ⊥
IsRemovalOf P (was_removed place ok) = P place
IsRemovalOf P (was_started id flight) = ⊥
IsRemovalOf P (was_polled id answer) = ⊥

-- The calls made since remove files at such places, and do nothing else.
pub record OnlyRemoves (P : Place → Type 0) (old new : DiskView) : Type 0 where
  pub made : List Call
  pub makes : Makes made old new
  pub removals : AllByRecursion (IsRemovalOf P) made

-- The one call made since removes the file at this place, or is answered that it could not be.
abbrev pub RemovesOnce : Place → DiskView → DiskView → Type 0
RemovesOnce place old new = (ok : Bool) × Makes (was_removed place ok ∷ []) old new
