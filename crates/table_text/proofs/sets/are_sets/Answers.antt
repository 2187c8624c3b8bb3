use Rattle.std.proofs.Common.{◌≡◌, ℕ, ◌-◌, ◌<◌, true, false, List, length, get_or, sym, ◌∙◌, arith}
use Rattle.std.proofs.lemmas.List.{length-map, get_or-map}
use Rattle.block_record.specs.declared.records.Rec.{Rec}
use Rattle.block_record.specs.ReadOut.{bytes_of}
use Rattle.table_text.proofs.SetRows.{sets_none, sets_more, no_key, not_before}
use Rattle.table_text.proofs.sets.are_sets.Goals as goal

-- the bytes of a record, among those of all
bytes_at : (records : List Rec) (at : ℕ) (item : Rec) (bytes : List ℕ) → at < length records → bytes ≡ (get_or records at item).bytes
    → bytes ≡ get_or (bytes_of records) at bytes
bytes_at records at item bytes below is = is ∙ sym (get_or-map (λ (r : Rec). r.bytes) records at item bytes below)

pub loop-at-init : goal.loop-at-init
loop-at-init c = record {
  below = omega arith;
  sets = sets_none c.args.number c.args.batches.now (bytes_of c.args.records.now)
      (c.requires.same ∙ sym (length-map c.args.records.now (λ (r : Rec). r.bytes)));
}

pub returns-in_default : goal.returns-in_default
returns-in_default c =
    let records = c.args.records.now in
    let low : c.loop-at.at - 1 < length c.args.batches.now = omega arith in
    let long = length-map records (λ (r : Rec). r.bytes) in
    no_key c.args.number (c.loop-at.at - 1) c.args.batches.now (bytes_of records) c.index-batches-at.result c.as_slice-bytes.result.now low
    (omega arith) c.index-batches-at.is
    (bytes_at records (c.loop-at.at - 1) c.index-records-at.result c.as_slice-bytes.result.now (omega arith) c.as_slice-bytes.ensures)
    (rw c.in_default.is at c.in_ok-key.ensures)

pub returns-then-not-is_before : goal.returns-then-not-is_before
returns-then-not-is_before c =
    let records = c.args.records.now in
    let long = length-map records (λ (r : Rec). r.bytes) in
    not_before c.args.number (c.loop-at.at - 1) c.loop-at.at c.args.batches.now (bytes_of records) c.index-batches-at.result c.as_slice-bytes.result.now c.in-Some.key c.loop-at.later
    (omega arith) (omega arith) c.index-batches-at.is
    (bytes_at records (c.loop-at.at - 1) c.index-records-at.result c.as_slice-bytes.result.now (omega arith) c.as_slice-bytes.ensures)
    (omega arith) c.loop-at.invariant.sets (rw c.in-Some.is at c.in_ok-key.ensures)
    (λ before. let yes : c.is_before.result ≡ true = c.is_before.ensures.1 before in let clash : true ≡ false = sym yes ∙ c.if-not-is_before.true in cc)

pub loop-at-preserved : goal.loop-at-preserved
loop-at-preserved c =
    let records = c.args.records.now in
    let long = length-map records (λ (r : Rec). r.bytes) in
    record {
      below = omega arith;
      sets = sets_more c.args.number (c.loop-at.at - 1) c.loop-at.at c.args.batches.now (bytes_of records) c.index-batches-at.result c.as_slice-bytes.result.now c.in-Some.key c.loop-at.later
          (omega arith) (omega arith) c.index-batches-at.is
          (bytes_at records (c.loop-at.at - 1) c.index-records-at.result c.as_slice-bytes.result.now (omega arith) c.as_slice-bytes.ensures)
          (omega arith) c.loop-at.invariant.sets (rw c.in-Some.is at c.in_ok-key.ensures) (c.is_before.ensures.0 c.if-not-is_before.false);
    }
