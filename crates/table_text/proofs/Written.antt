-- What is written for the batches of a table is read back, and no record of a table is too long.
use Rattle.std.proofs.Common.{◌≡◌, ℕ, zero, suc, ◌+◌, ◌-◌, ◌≤◌, ◌/◌, Bool, true, false, List, [], ◌∷◌, length, nat_lt, refl, arith, length-append}
use Rattle.std.specs.List.{All}
use Rattle.std.proofs.lemmas.List.Elements.{All-nil, All-cons, All-head, All-tail}
use Rattle.batch_repr.specs.declared.limits.TheConstants.{KEY_MAX, VALUE_MAX, NUMBER_MAX}
use Rattle.batch_repr.specs.Limits.{IsWithinLimits}
use Rattle.batch_repr.specs.Written.{varint_within, varint, byte_string, written_entry, written_entries, written}
use Rattle.text_lines.specs.Store.{Held}
use Rattle.table_text.specs.Tables.{Table, IsTable, IsHeldWithin, set_of, set_batch, set_batches, batches_of}
use Rattle.table_text.specs.Reading.{IsReadBack}

short_more : (k n : ℕ) (b : Bool) → nat_lt n 128 ≡ b → length (varint_within k (n / 128)) ≤ suc k → length (varint_within (suc k) n) ≤ suc (suc k)
short_more k n true e rest = rw e (omega arith)
short_more k n false e rest = rw e (omega (arith, rest))

short : (k n : ℕ) → length (varint_within k n) ≤ suc k
short zero n = omega arith
short (suc k) n = short_more k n (nat_lt n 128) refl (short k (n / 128))

varint_short : (n : ℕ) → length (varint n) ≤ 5
unfolding varint
varint_short n = short 4 n

string_short : (text : List ℕ) → length (byte_string text) ≤ 5 + length text
string_short text = omega (arith, varint_short (length text), length-append (varint (length text)) text)

entry_short : (held : Held) → IsHeldWithin held → length (written_entry (set_of held)) ≤ 11 + KEY_MAX + VALUE_MAX
unfolding written_entry
entry_short held within =
    omega (arith, within.0, within.1, string_short held.key, string_short held.value, length-append (byte_string held.key) (byte_string held.value))

entries_short : (held : Held) → IsHeldWithin held → length (written_entries (set_of held ∷ [])) ≤ 11 + KEY_MAX + VALUE_MAX
unfolding written_entries
entries_short held within = omega (arith, entry_short held within, length-append (written_entry (set_of held)) [])

-- a record of a table is no longer than its key and its value may be, and what stands beside them
pub record_short : (number : ℕ) (held : Held) → IsHeldWithin held → length (written (set_batch number held)) ≤ 23 + KEY_MAX + VALUE_MAX
unfolding written
record_short number held within = omega (arith, entries_short held within)

-- its batch is read back
pub set_is_read : (number : ℕ) (held : Held) → IsHeldWithin held → suc number ≤ NUMBER_MAX → IsReadBack (set_batch number held)
set_is_read number held within below = record {
  fits = record { limits = All-cons IsWithinLimits (set_of held) [] within (All-nil IsWithinLimits); size = omega (arith, entries_short held within) };
  ends = omega arith;
}

sets_are_read : (number : ℕ) (live : List Held) → All IsHeldWithin live → number + length live ≤ NUMBER_MAX → All IsReadBack (set_batches number live)
unfolding set_batches
sets_are_read number [] within below = All-nil IsReadBack
sets_are_read number (held ∷ live) within below =
    All-cons IsReadBack (set_batch number held) (set_batches (suc number) live)
    (set_is_read number held (All-head IsHeldWithin held live within) (omega arith))
    (sets_are_read (suc number) live (All-tail IsHeldWithin held live within) (omega arith))

-- and so are all batches of a table
pub table_is_read : (table : Table) → IsTable table → All IsReadBack (batches_of table)
table_is_read table is = sets_are_read (table.next - length table.live) table.live is.within (omega (arith, is.least, is.most))
