-- Bytes read as one table at most, and what is written for a table reads as that one.
use Rattle.std.proofs.Common.{◌≡◌, ℕ, suc, ◌-◌, ◌<◌, ◌^◌, List, [], ◌∷◌, length, map, take, refl, sym, ap, subst, ◌∙◌, arith, append-nil}
use Rattle.std.specs.Int.{w64, from_le_bytes}
use Rattle.std.specs.List.{All}
use Rattle.std.proofs.lemmas.Nat.{from_le_bytes-to_le_bytes_8}
use Rattle.std.proofs.lemmas.List.Elements.{All-head, All-tail, All-map}
use Rattle.batch_repr.specs.declared.batch.Batch.{Batch}
use Rattle.batch_repr.specs.Batches.{IsContiguous, end_after}
use Rattle.batch_repr.specs.Spelling.{SpellsBatch}
use Rattle.batch_repr.specs.Written.{written}
use Rattle.batch_repr.proofs.Laws.{same_batch, spelled_reads, written_spells}
use Rattle.crc_chunk.proofs.Laws.{within_segment, header_bounds}
use Rattle.block_record.specs.declared.records.ReadOut.{ReadOut}
use Rattle.block_record.specs.Framing.{Marked, OffsetsFit}
use Rattle.block_record.specs.ReadOut.{ReadsOut, bytes_of, bytes_marked, NoChunkAt}
use Rattle.block_record.proofs.Laws.{laid_is_read, one_read}
use Rattle.disk_face.specs.Image.{log_number}
use Rattle.text_lines.specs.Store.{Held}
use Rattle.table_text.specs.Tables.{Table, IsTable, ReadsTable, set_of, set_batch, set_batches, batches_of, head_bytes, table_head, table_records, table_text, unsynced}
use Rattle.table_text.specs.Reading.{IsReadBack}
use Rattle.table_text.proofs.Prefixes.{front_of, no_other_table, rest_of}
use Rattle.table_text.proofs.Rows.{sets_contiguous, sets_end}
use Rattle.table_text.proofs.Written.{table_is_read}

-- a table has few keys, and a small `next`
pub few : (table : Table) → IsTable table → length table.live < 2 ^ 64
few table is = omega (arith, is.least, is.most)

pub small : (table : Table) → IsTable table → table.next < 2 ^ 64
small table is = omega (arith, is.most)

-- a first record says one `next`
pub next_said : (next keys : ℕ) → next < 2 ^ 64 → from_le_bytes w64 (take 8 (head_bytes next keys)) ≡ next
next_said next keys small = from_le_bytes-to_le_bytes_8 next small

-- what is written for batches that are read back is written for no others
written_one : (batch other : Batch) → IsReadBack batch → IsReadBack other → written batch ≡ written other → batch ≡ other
written_one batch other a b e =
    let one : SpellsBatch (written batch) batch = written_spells batch a.fits a.ends in
    let two : SpellsBatch (written batch) other = subst (λ (t : List ℕ). SpellsBatch t other) (sym e) (written_spells other b.fits b.ends) in
    same_batch (written batch) batch other (spelled_reads (written batch) batch one) (spelled_reads (written batch) other two)

pub written_once : (batches others : List Batch) → All IsReadBack batches → All IsReadBack others → map written batches ≡ map written others → batches ≡ others
written_once [] [] a b e = refl
written_once [] (y ∷ others) a b e = absurd cc
written_once (x ∷ batches) [] a b e = absurd cc
written_once (x ∷ batches) (y ∷ others) a b e =
    let here : x ≡ y = written_one x y (All-head IsReadBack x batches a) (All-head IsReadBack y others b) (front_of (written x) (written y) _ _ e) in
    let rest : batches ≡ others =
    written_once batches others (All-tail IsReadBack x batches a) (All-tail IsReadBack y others b) (rest_of (written x) (written y) _ _ e) in
    λ i. here i ∷ rest i

-- one batch of a key says the key
pub same_held : (number other : ℕ) (x y : Held) → set_batch number x ≡ set_batch other y → x ≡ y
same_held number other x y e = go (ap (λ (b : Batch). b.entries) e)
  where
    go : set_of x ∷ [] ≡ set_of y ∷ [] → x ≡ y
    go both =
        let one : set_of x ≡ set_of y = cc in
        let key : x.key ≡ y.key = cc in
        let value : x.value ≡ y.value = cc in
        λ i. record { key = key i; value = value i }

pub same_live : (number other : ℕ) (live others : List Held) → set_batches number live ≡ set_batches other others → live ≡ others
unfolding set_batches
same_live number other [] [] e = refl
same_live number other [] (y ∷ others) e = absurd cc
same_live number other (x ∷ live) [] e = absurd cc
same_live number other (x ∷ live) (y ∷ others) e =
    let here : set_batch number x ≡ set_batch other y = front_of (set_batch number x) (set_batch other y) _ _ e in
    let rest : set_batches (suc number) live ≡ set_batches (suc other) others = rest_of (set_batch number x) (set_batch other y) _ _ e in
    λ i. same_held number other x y here i ∷ same_live (suc number) (suc other) live others rest i

-- the records of a table are those of no other
pub same_table : (table other : Table) → IsTable table → IsTable other → table_records table ≡ table_records other → table ≡ other
same_table table other a b records =
    let heads : table_head table ≡ table_head other = front_of (table_head table) (table_head other) _ _ records in
    let texts : map written (batches_of table) ≡ map written (batches_of other) = rest_of (table_head table) (table_head other) _ _ records in
    let next : table.next ≡ other.next =
    sym (next_said table.next (length table.live) (small table a)) ∙ ap (λ (t : List ℕ). from_le_bytes w64 (take 8 t)) heads
    ∙ next_said other.next (length other.live) (small other b) in
    let sets : batches_of table ≡ batches_of other =
    written_once (batches_of table) (batches_of other) (table_is_read table a) (table_is_read other b) texts in
    let live : table.live ≡ other.live = same_live (table.next - length table.live) (other.next - length other.live) table.live other.live sets in
    λ i. record { next = next i; live = live i }

pub one_table : (upto : ℕ) (bytes : List ℕ) (table other : Table) → ReadsTable upto bytes table → ReadsTable upto bytes other → table ≡ other
one_table upto bytes table other a b =
    same_table table other a.is b.is
    (sym a.same ∙ ap (λ (r : ReadOut). bytes_of r.records) (one_read bytes (log_number upto) a.read b.read a.reads b.reads) ∙ b.same)

-- and neither are some first ones
pub no_part : (table other : Table) (n : ℕ) → IsTable table → IsTable other → take n (table_records table) ≡ table_records other → other ≡ table
no_part table other n a b part = same_table other table b a (no_other_table table other n (few table a) (few other b) part)

-- no chunk stands right after all bytes
none_behind : (bytes : List ℕ) (log : ℕ) → NoChunkAt bytes (length bytes) log
none_behind bytes log c stands = omega (arith, within_segment stands, header_bounds c)

pub offsets_fit : (records : List (List ℕ)) → OffsetsFit (map unsynced records)
offsets_fit records = All-map (λ (r : Marked). r.offset < 2 ^ 64) unsynced records (λ k d below. omega arith)

pub marked_is : (records : List (List ℕ)) → bytes_marked (map unsynced records) ≡ records
marked_is [] = refl
marked_is (bytes ∷ records) = ap (λ (rs : List (List ℕ)). bytes ∷ rs) (marked_is records)

pub written_is_read : (upto : ℕ) (table : Table) (read : ReadOut) → IsTable table → ReadsOut (table_text upto table) (log_number upto) read
    → ReadsTable upto (table_text upto table) table
written_is_read upto table read is reads =
    let log : ℕ = log_number upto in
    let records : List Marked = map unsynced (table_records table) in
    let text : List ℕ = table_text upto table in
    record {
      is = is;
      read = read;
      reads = reads;
      same = laid_is_read log records text [] read (offsets_fit (table_records table)) (sym (append-nil text)) (none_behind text log) reads
          ∙ marked_is (table_records table);
    }

-- The batches of a table are contiguous, and the last one ends at `next`.
pub ends_at_next : (table : Table) → IsTable table
    → IsContiguous (table.next - length table.live) (batches_of table) × (end_after (table.next - length table.live) (batches_of table) ≡ table.next)
ends_at_next table is = (
  sets_contiguous (table.next - length table.live) table.live,
  sets_end (table.next - length table.live) table.live ∙ omega (arith, is.least),
)
