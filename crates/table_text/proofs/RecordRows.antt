-- Records that are those of a table: the first one, and the others.
use Rattle.std.proofs.Common.{◌≡◌, ℕ, ◌-◌, ◌<◌, ◌^◌, List, ◌∷◌, length, map, take, Option, Some, None, refl, sym, ap, subst, ◌∙◌, arith}
use Rattle.std.specs.Prelude.{IsSomeAnd}
use Rattle.std.specs.Int.{w64, from_le_bytes}
use Rattle.std.specs.List.{All}
use Rattle.std.proofs.lemmas.List.{length-map}
use Rattle.batch_repr.specs.declared.batch.Batch.{Batch}
use Rattle.batch_repr.specs.Written.{written}
use Rattle.block_record.specs.declared.records.ReadOut.{ReadOut}
use Rattle.block_record.specs.declared.records.Rec.{Rec}
use Rattle.block_record.specs.ReadOut.{ReadsOut, bytes_of}
use Rattle.block_record.proofs.Laws.{one_read}
use Rattle.disk_face.specs.Image.{log_number}
use Rattle.table_text.specs.declared.reading.TableRead.{TableRead}
use Rattle.text_lines.specs.Store.{Held}
use Rattle.table_text.specs.Tables.{Table, IsTable, ReadsTable, set_batches, batches_of, head_bytes, table_head, table_records, table_text}
use Rattle.table_text.specs.Reading.{IsHead, IsReadBack, ReadsBack, AreSets, AreRecordsOf, TellsOfTable, TellsRecords, TellsTable}
use Rattle.table_text.proofs.Prefixes.{as_many, front_of, rest_of}
use Rattle.table_text.proofs.OneTable.{next_said, one_table, written_is_read}
use Rattle.table_text.proofs.Written.{table_is_read}

-- The bytes are the first record of a table, and the other records are its own.
record IsSplit (bytes : List ℕ) (sets : List Rec) (table : Table) : Type 0 where
  head_is : IsHead bytes (length sets) table.next
  sets_are : bytes_of sets ≡ map written (batches_of table)
  count : length sets ≡ length table.live

many : (sets : List Rec) (number : ℕ) (live : List Held) → bytes_of sets ≡ map written (set_batches number live) → length sets ≡ length live
many sets number live e =
    sym (length-map sets (λ (r : Rec). r.bytes)) ∙ ap length e ∙ length-map (set_batches number live) written ∙ as_many number live

split_of : (records : List Rec) (head : Rec) (sets : List Rec) (bytes : List ℕ) → records ≡ head ∷ sets → bytes ≡ head.bytes
    → (table : Table) → IsTable table → bytes_of records ≡ table_records table → IsSplit bytes sets table
split_of records head sets bytes whole front table is e =
    let both : head.bytes ∷ bytes_of sets ≡ table_records table = sym (ap bytes_of whole) ∙ e in
    let texts : bytes_of sets ≡ map written (batches_of table) = rest_of head.bytes (table_head table) (bytes_of sets) (map written (batches_of table)) both in
    let count : length sets ≡ length table.live = many sets (table.next - length table.live) table.live texts in
    record {
      head_is = record {
        bytes_are = front ∙ front_of head.bytes (table_head table) (bytes_of sets) (map written (batches_of table)) both
            ∙ ap (λ (n : ℕ). head_bytes table.next n) (sym count);
        least = omega (arith, count, is.least);
        most = is.most;
      };
      sets_are = texts;
      count = count;
    }

-- Where the first record says no `next`, the records are those of no table,
pub no_head : (records : List Rec) (head : Rec) (sets : List Rec) (bytes : List ℕ) → records ≡ head ∷ sets → bytes ≡ head.bytes
    → ((next : ℕ) → ¬ IsHead bytes (length sets) next) → (table : Table) → IsTable table → ¬ (bytes_of records ≡ table_records table)
no_head records head sets bytes whole front none table is e = none table.next (split_of records head sets bytes whole front table is e).head_is

-- and where the others are not what is written for batches,
pub no_batches : (records : List Rec) (head : Rec) (sets : List Rec) (bytes : List ℕ) → records ≡ head ∷ sets → bytes ≡ head.bytes
    → ((others : List Batch) → All IsReadBack others → ¬ (bytes_of sets ≡ map written others))
    → (table : Table) → IsTable table → ¬ (bytes_of records ≡ table_records table)
no_batches records head sets bytes whole front none table is e =
    none (batches_of table) (table_is_read table is) (split_of records head sets bytes whole front table is e).sets_are

one_next : (bytes : List ℕ) (keys next other : ℕ) → IsHead bytes keys next → IsHead bytes keys other → next ≡ other
one_next bytes keys next other a b =
    let low : next < 2 ^ 64 = omega (arith, a.most) in
    let short : other < 2 ^ 64 = omega (arith, b.most) in
    sym (next_said next keys low) ∙ ap (λ (t : List ℕ). from_le_bytes w64 (take 8 t)) (sym a.bytes_are ∙ b.bytes_are) ∙ next_said other keys short

-- and where the batches that were read of them are not those of keys.
pub no_sets : (records : List Rec) (head : Rec) (sets : List Rec) (bytes : List ℕ) (next : ℕ) (batches : List Batch) → records ≡ head ∷ sets → bytes ≡ head.bytes
    → IsHead bytes (length sets) next → ReadsBack (bytes_of sets) batches → ¬ AreSets (next - length sets) batches (bytes_of sets)
    → (table : Table) → IsTable table → ¬ (bytes_of records ≡ table_records table)
no_sets records head sets bytes next batches whole front says read wrong table is e =
    let split = split_of records head sets bytes whole front table is e in
    let same : table.next ≡ next = one_next bytes (length sets) table.next next split.head_is says in
    let start : table.next - length table.live ≡ next - length sets = (λ i. same i - sym split.count i) in
    wrong (record {
      live = table.live;
      ascends = is.ascends;
      within = is.within;
      batches_are = read.only (batches_of table) (table_is_read table is) split.sets_are ∙ ap (λ (n : ℕ). set_batches n table.live) start;
      records_are = split.sets_are ∙ ap (λ (n : ℕ). map written (set_batches n table.live)) start;
    })

-- Else they are those of the table of these keys.
pub of_table : (records : List Rec) (head : Rec) (sets : List Rec) (bytes : List ℕ) (next : ℕ) (batches : List Batch) → records ≡ head ∷ sets → bytes ≡ head.bytes
    → IsHead bytes (length sets) next → AreSets (next - length sets) batches (bytes_of sets)
    → AreRecordsOf (bytes_of records) (record { next = next; keys = length sets; batches = batches })
of_table records head sets bytes next batches whole front says are =
    let count : length sets ≡ length are.live = many sets (next - length sets) are.live are.records_are in
    let start : next - length sets ≡ next - length are.live = ap (λ (n : ℕ). next - n) count in
    record {
      table = record { next = next; live = are.live };
      is = record { ascends = are.ascends; within = are.within; least = omega (arith, says.least, count); most = says.most };
      same = ap bytes_of whole ∙ ap (λ (t : List ℕ). t ∷ bytes_of sets) (sym front ∙ says.bytes_are ∙ ap (λ (n : ℕ). head_bytes next n) count)
          ∙ ap (λ (ts : List (List ℕ)). head_bytes next (length are.live) ∷ ts) (are.records_are ∙ ap (λ (n : ℕ). map written (set_batches n are.live)) start);
      tells = record {
        next_is = refl;
        keys_is = count;
        batches_are = are.batches_are ∙ ap (λ (n : ℕ). set_batches n are.live) start;
      };
    }

-- what the records tell of the bytes that they are read from
pub tells : (upto : ℕ) (bytes : List ℕ) (read : ReadOut) → ReadsOut bytes (log_number upto) read → (found : Option TableRead)
    → TellsRecords (bytes_of read.records) found → TellsTable upto bytes found
tells upto bytes read reads None none = λ whole. none whole.0 whole.1.is
    (ap (λ (r : ReadOut). bytes_of r.records) (one_read bytes (log_number upto) read whole.1.read reads whole.1.reads) ∙ whole.1.same)
tells upto bytes read reads (Some found) are = record {
  table = are.table;
  reads = record { is = are.is; read = read; reads = reads; same = are.same };
  tells = are.tells;
}

-- what is written for a table is told of it
pub tells_written : (upto : ℕ) (bytes : List ℕ) (read : ReadOut) → ReadsOut bytes (log_number upto) read → (found : Option TableRead) → TellsTable upto bytes found
    → (table : Table) → IsTable table → bytes ≡ table_text upto table → IsSomeAnd found (TellsOfTable table)
tells_written upto bytes read reads found tells table is text = go found tells
  where
    whole : ReadsTable upto bytes table
    whole = subst (λ (t : List ℕ). ReadsTable upto t table) (sym text)
        (written_is_read upto table read is (subst (λ (t : List ℕ). ReadsOut t (log_number upto) read) text reads))

    go : (found : Option TableRead) → TellsTable upto bytes found → IsSomeAnd found (TellsOfTable table)
    go None none = absurd (none (table, whole))
    go (Some it) as_one = subst (λ (t : Table). TellsOfTable t it) (one_table upto bytes as_one.table table as_one.reads whole) as_one.tells
