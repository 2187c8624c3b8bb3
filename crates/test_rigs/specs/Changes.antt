-- The entries of a batch that a test builds (docs/formats/log.md, "Batches and the store").
use Rattle.std.specs.Prelude.{List, map}
use Rattle.wal_base.specs.declared.entry.Entry.{Entry}
use Rattle.wal_base.specs.declared.entry.Entry.TheVariants as entries
use Rattle.test_rigs.specs.declared.batches.Change.{Change}
use Rattle.test_rigs.specs.declared.batches.Change.TheVariants as changes

-- the entry that a change adds
abbrev pub added_entry : Change → Entry
added_entry (changes.Set key value) = entries.Set key.now value.now
added_entry (changes.Delete key) = entries.Delete key.now
added_entry (changes.Note bytes) = entries.Note bytes.now
added_entry (changes.RangeDelete start end) = entries.RangeDelete start.now end.now

abbrev pub added_entries : List Change → List Entry
added_entries list = map added_entry list
