-- How what waits moves to where it is to stand. Nothing of it is seen from outside.
use Rattle.std.specs.Prelude.{◌≡◌, Bool, true, false, List, [], ◌∷◌, Result, Ok, Err}
use Rattle.wal_base.specs.declared.entry.Entry.{Entry}
use Rattle.wal_base.specs.declared.entry.Entry.TheVariants.{Set, Delete, Note, RangeDelete}
use Rattle.wal_base.specs.declared.error.NoMemory.{NoMemory}
use Rattle.arena_list.specs.Versions.{KeyVersion}
use Rattle.range_cover.specs.declared.mark.RangeMark.{RangeMark}
use Rattle.memtable_shards.specs.Versions.{Version}
use Rattle.memtable_shards.specs.Parts.{settled_in, HasOneMore}

-- whether an entry is of a range
abbrev pub is_range : Entry → Bool
is_range (Set key value) = false
is_range (Delete key) = false
is_range (Note bytes) = false
is_range (RangeDelete start end) = true

-- A version of a range is one range deletion more, and one of a key is none.
abbrev pub PutsRange : List RangeMark → Version → List RangeMark → Bool → Type 0
PutsRange old version new true =
    (is_range version.entry ≡ true) × ((index : List KeyVersion) → HasOneMore (settled_in index old) version (settled_in index new))
PutsRange old version new false = (is_range version.entry ≡ false) × (new ≡ old)

-- The index has one version more, whatever stands beside it.
abbrev pub PutsKey : List KeyVersion → Version → List KeyVersion → Type 0
PutsKey old version new = (ranges : List RangeMark) → HasOneMore (settled_in old ranges) version (settled_in new ranges)

-- The first of those that waited has moved to those that are settled.
pub record MovesFirst (old waiting new rest : List Version) : Type 0 where
  pub version : Version
  pub first : waiting ≡ version ∷ rest
  pub added : HasOneMore old version new

-- The first one has moved; or none waited; or all is as it was.
abbrev pub SettlesFirst : List Version → List Version → Result Bool NoMemory → List Version → List Version → Type 0
SettlesFirst old waiting (Ok true) new rest = MovesFirst old waiting new rest
SettlesFirst old waiting (Ok false) new rest = (rest ≡ []) × (rest ≡ waiting) × (new ≡ old)
SettlesFirst old waiting (Err fault) new rest = (rest ≡ waiting) × (new ≡ old)
