-- A batch that some bytes spell fits one: as it is written it is no longer than these bytes. So does one Set within its limits.
use Rattle.std.proofs.Common.{ℕ, ◌+◌, ◌<◌, ◌≤◌, ◌^◌, List, [], ◌∷◌, ◌++◌, length, ap, arith}
use Rattle.std.specs.Prelude.{◌↔◌}
use Rattle.std.specs.Int.{w32, w64, to_le_bytes}
use Rattle.std.specs.List.{flat_map}
use Rattle.std.proofs.lemmas.List.{length-append}
use Rattle.std.proofs.lemmas.List.Elements.{All-cons, All-nil}
use Rattle.std.proofs.lemmas.List.Sums.{count_by-le-length}
use Rattle.wal_base.specs.declared.entry.Entry.{Entry}
use Rattle.wal_base.specs.declared.entry.Entry.TheVariants.{Set, Delete, Note, RangeDelete}
use Rattle.batch_repr.specs.declared.batch.Batch.{Batch}
use Rattle.batch_repr.specs.Batches.{count_of, is_counted}
use Rattle.batch_repr.specs.Limits.{IsWithinLimits}
use Rattle.batch_repr.specs.Spelling.{SpellsString, SpellsEntry, SpellsEntries, SpellsBatch}
use Rattle.batch_repr.specs.Written.{varint, byte_string, written, written_entry, written_entries}
use Rattle.batch_repr.specs.Building.{FitsBatch, HasSpelling}
use Rattle.batch_repr.proofs.Shortest.{varint_shortest}
use Rattle.batch_repr.proofs.Sizes.{fits_few}
use Rattle.batch_repr.proofs.Written.{varint_spells, written_spells}

string_short : (bytes text : List ℕ) → SpellsString bytes text → length (byte_string text) ≤ length bytes
string_short bytes text s =
    omega (arith, varint_shortest s.len (length text) s.number, ap length s.is, length-append s.len text, length-append (varint (length text)) text)

entry_short : (bytes : List ℕ) (entry : Entry) → SpellsEntry bytes entry → length (written_entry entry) ≤ length bytes
unfolding written_entry
entry_short bytes (Set key value) s =
    omega (arith, string_short s.0 key s.2, string_short s.1 value s.3, ap length s.4, length-append s.0 s.1, length-append (byte_string key) (byte_string value))
entry_short bytes (Delete key) s = omega (arith, string_short s.0 key s.1, ap length s.2)
entry_short bytes (Note note) s = omega (arith, string_short s.0 note s.1, ap length s.2)
entry_short bytes (RangeDelete start end) s =
    omega (arith, string_short s.0 start s.2, string_short s.1 end s.3, ap length s.4, length-append s.0 s.1, length-append (byte_string start) (byte_string end))

entries_short : (bytes : List ℕ) (entries : List Entry) → SpellsEntries bytes entries → length (written_entries entries) ≤ length bytes
unfolding written_entries
entries_short bytes [] s = omega arith
entries_short bytes (entry ∷ entries) s =
    omega (
      arith,
      entry_short s.0 entry s.2,
      entries_short s.1 entries s.3,
      ap length s.4,
      length-append s.0 s.1,
      length-append (written_entry entry) (flat_map written_entry entries),
    )

pub spelled_fits : (bytes : List ℕ) (batch : Batch) → SpellsBatch bytes batch → FitsBatch batch.entries
spelled_fits bytes batch s =
    let header : List ℕ = to_le_bytes w64 batch.first ++ to_le_bytes w32 (count_of batch.entries) in
    record { limits = s.limits; size = omega (arith, s.size, ap length s.is, length-append header s.body, entries_short s.body batch.entries s.entries) }

-- a batch has a spelling exactly where some bytes spell it
pub has_spelling : (batch : Batch) → HasSpelling batch ↔ ((bytes : List ℕ) × SpellsBatch bytes batch)
has_spelling batch = (
  λ h. (written batch, written_spells batch h.fits h.numbers),
  λ s. record { fits = spelled_fits s.0 batch s.1; numbers = s.1.numbers },
)

-- its numbers are few
pub fits_few_numbers : (entries : List Entry) → FitsBatch entries → count_of entries < 2 ^ 32
fits_few_numbers entries fits = omega (arith, fits_few entries fits, count_by-le-length is_counted entries)

string_within : (text : List ℕ) → length text < 2 ^ 32 → length (byte_string text) ≤ 5 + length text
string_within text h = omega (arith, (varint_spells (length text) h).short, length-append (varint (length text)) text)

-- one Set within its limits
pub set_fits : (key value : List ℕ) → IsWithinLimits (Set key value) → FitsBatch (Set key value ∷ [])
unfolding written_entries written_entry
set_fits key value within = record {
  limits = All-cons IsWithinLimits (Set key value) [] within (All-nil IsWithinLimits);
  size = omega (
    arith,
    within.0,
    within.1,
    string_within key (omega (arith, within.0)),
    string_within value (omega (arith, within.1)),
    length-append (byte_string key) (byte_string value),
    length-append (written_entry (Set key value)) [],
  );
}
