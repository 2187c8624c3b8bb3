-- Worked examples of the definitions, as the checker computes them.
use Rattle.std.proofs.Common.{◌≡◌, [], ◌∷◌, refl, Ok, Err, Some, None, arith}
use Rattle.std.specs.Prelude.{codes}
use Rattle.wal_base.specs.declared.entry.Entry.TheVariants.{Set, Delete, Note}
use Rattle.batch_repr.specs.declared.batch.Batch.{Batch}
use Rattle.batch_repr.specs.declared.fault.BatchFault.TheVariants as faults
use Rattle.batch_repr.specs.Batches.{answer, end_after}
use Rattle.batch_repr.specs.Spelling.{SpellsNumber}
use Rattle.batch_repr.specs.Written.{varint, written, written_entries, written_entry}
use Rattle.batch_repr.specs.Reading.{varint_at, number_at, string_at, delete_at, set_at, entry_at}

-- key `a` to `1`
abbrev one_set : Batch
one_set = record { first = 10; entries = Set (codes "a") (codes "1") ∷ [] }

-- a note, and `a` deleted
abbrev one_delete : Batch
one_delete = record { first = 11; entries = Note (codes "t7") ∷ Delete (codes "a") ∷ [] }

one_set_is_written_so : written one_set ≡ 0x0a ∷ 0 ∷ 0 ∷ 0 ∷ 0 ∷ 0 ∷ 0 ∷ 0 ∷ 1 ∷ 0 ∷ 0 ∷ 0 ∷ 1 ∷ 1 ∷ 0x61 ∷ 1 ∷ 0x31 ∷ []
unfolding written written_entries written_entry varint
one_set_is_written_so = refl

varint_of_300 : varint 300 ≡ 0xAC ∷ 0x02 ∷ []
unfolding varint
varint_of_300 = refl

varint_of_the_largest : varint 0xFFFFFFFF ≡ 0xFF ∷ 0xFF ∷ 0xFF ∷ 0xFF ∷ 0x0F ∷ []
unfolding varint
varint_of_the_largest = refl

-- a length spelled in two bytes where one would do
longer_spelling : SpellsNumber (0x81 ∷ 0 ∷ []) 1
longer_spelling = record { varint = (omega arith, omega arith, omega arith); short = omega arith; value = refl; fits = omega arith }

it_is_read : entry_at 18 (1 ∷ 0x81 ∷ 0 ∷ 0x61 ∷ 1 ∷ 0x31 ∷ []) ≡ Ok (Set (codes "a") (codes "1"), [])
unfolding varint_at number_at string_at set_at entry_at
it_is_read = refl

a_kind_is_unknown : entry_at 17 (2 ∷ 1 ∷ 0x61 ∷ 1 ∷ 0x31 ∷ []) ≡ Err (faults.UnknownKind 12 2)
unfolding entry_at
a_kind_is_unknown = refl

an_entry_is_short : entry_at 16 (1 ∷ 1 ∷ 0x61 ∷ 1 ∷ []) ≡ Err (faults.ShortEntry 12)
unfolding varint_at number_at string_at set_at entry_at
an_entry_is_short = refl

a_varint_is_bad : entry_at 18 (0 ∷ 0x80 ∷ 0x80 ∷ 0x80 ∷ 0x80 ∷ 0x10 ∷ []) ≡ Err (faults.BadVarint 13)
unfolding varint_at number_at string_at delete_at entry_at
a_varint_is_bad = refl

a_key_is_too_long : entry_at 16 (0 ∷ 0x80 ∷ 0x80 ∷ 4 ∷ []) ≡ Err (faults.TooLong 13)
unfolding varint_at number_at string_at delete_at entry_at
a_key_is_too_long = refl

a_deleted_key_has_no_value : answer (one_set ∷ one_delete ∷ []) 2 (codes "a") ≡ None
unfolding answer
a_deleted_key_has_no_value = refl

it_had_one_before : answer (one_set ∷ one_delete ∷ []) 1 (codes "a") ≡ Some (codes "1")
unfolding answer
it_had_one_before = refl

a_note_takes_no_number : end_after 10 (one_set ∷ one_delete ∷ []) ≡ 12
unfolding end_after
a_note_takes_no_number = refl
