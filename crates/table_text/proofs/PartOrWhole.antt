-- Of a file in which each chunk stands where the text of a table has it a first part of the records is read: all, or too few for a table.
use Rattle.std.proofs.Common.{◌≡◌, ◌⊎◌, inl, inr, ℕ, ◌≤◌, List, length, map, take, refl, sym, ap, ◌∙◌, arith, take_all, length-take}
use Rattle.std.proofs.lemmas.List.Elements.{All-map}
use native.Mathlib.Decide.{dec_le}
use Rattle.block_record.specs.declared.records.ReadOut.{ReadOut}
use Rattle.block_record.specs.Framing.{Marked}
use Rattle.block_record.specs.ReadOut.{bytes_of, ChunksStandIn, ReadsPrefix}
use Rattle.block_record.proofs.Laws.{Reading, first_are_read, one_read, readable}
use Rattle.disk_face.specs.Image.{log_number}
use Rattle.table_text.specs.Tables.{Table, IsTable, IsWhole, ReadsTable, table_records, table_text, unsynced}
use Rattle.table_text.proofs.OneTable.{marked_is, no_part, offsets_fit}

-- a table whose records are a first part of these has as many
as_many : (table other : Table) (n : ℕ) → IsTable table → IsTable other → take n (table_records table) ≡ table_records other
    → length (table_records table) ≤ n
as_many table other n a b part =
    let same : other ≡ table = no_part table other n a b part in
    omega (arith, ap length part, ap (λ (t : Table). length (table_records t)) same, length-take n (table_records table))

pub part_or_whole : (upto : ℕ) (table : Table) (bytes : List ℕ) → IsTable table → ChunksStandIn (table_text upto table) (log_number upto) bytes
    → ReadsTable upto bytes table ⊎ (IsWhole upto bytes → ⊥)
part_or_whole upto table bytes is chunks = elim (dec_le (length (table_records table)) first.count) [
  | yes all ↦ inl (record {
    is = is;
    read = out.read;
    reads = out.reads;
    same = first_is ∙ take_all first.count (table_records table) all;
  })
  | no few ↦ inr (λ whole. few (as_many table whole.0 first.count is whole.1.is
      (sym first_is ∙ ap (λ (r : ReadOut). bytes_of r.records) (one_read bytes (log_number upto) out.read whole.1.read out.reads whole.1.reads) ∙ whole.1.same)))
]
  where
    out : Reading bytes (log_number upto)
    out = readable bytes (log_number upto)

    records : List Marked
    records = map unsynced (table_records table)

    first : ReadsPrefix (log_number upto) 0 records (bytes_of out.read.records)
    first = (first_are_read (log_number upto) 0 records bytes out.read (offsets_fit (table_records table)) (omega arith) refl chunks (record {
      count = 0;
      among = omega arith;
      whole = omega arith;
      below = All-map (λ (r : Marked). r.offset ≤ 0) unsynced (table_records table) (λ k d below. omega arith);
    }) out.reads).0

    first_is : bytes_of out.read.records ≡ take first.count (table_records table)
    first_is = first.first ∙ ap (take first.count) (marked_is (table_records table))
