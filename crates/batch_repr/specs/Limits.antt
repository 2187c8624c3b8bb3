-- The limits of keys, values and notes (docs/formats/log.md, "Limits").
use Rattle.std.specs.Prelude.{◌≤◌, length}
use Rattle.wal_base.specs.declared.entry.Entry.{Entry}
use Rattle.wal_base.specs.declared.entry.Entry.TheVariants.{Set, Delete, Note, RangeDelete}
use Rattle.batch_repr.specs.declared.limits.TheConstants.{KEY_MAX, VALUE_MAX}

-- a key, a value or a note within its limit; start and end of a range have that of a key
abbrev pub IsWithinLimits : Entry → Type 0
IsWithinLimits (Set key value) = (length key ≤ KEY_MAX) × (length value ≤ VALUE_MAX)
IsWithinLimits (Delete key) = length key ≤ KEY_MAX
IsWithinLimits (Note bytes) = length bytes ≤ VALUE_MAX
IsWithinLimits (RangeDelete start end) = (length start ≤ KEY_MAX) × (length end ≤ KEY_MAX)
