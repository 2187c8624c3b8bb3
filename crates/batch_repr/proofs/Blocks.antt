-- Batches over a block of entries, one batch more, and what a reader of batches answers.
use Rattle.std.proofs.Common.{◌≡◌, ℕ, ◌+◌, ◌-◌, ◌<◌, ◌≤◌, List, [], ◌∷◌, ◌++◌, length, take, drop, get_or, slice_range, append_assoc, Result, Ok, Err, refl, sym, ap, ◌∙◌, arith, subst}
use Rattle.std.proofs.lemmas.List.{take-append-le, drop-append-le, drop_at, take_all, drop_more, length-append, length-drop}
use Rattle.std.specs.Prelude.{MatchResult, IfOk, OnOk}
use Rattle.wal_base.specs.declared.entry.Entry.{Entry}
use Rattle.batch_repr.specs.declared.batch.Batch.{Batch}
use Rattle.batch_repr.specs.declared.fault.BatchFault.{BatchFault}
use Rattle.batch_repr.specs.declared.fault.BatchFault.TheVariants as faults
use Rattle.batch_repr.specs.declared.reader.Head.{Head}
use Rattle.batch_repr.specs.Spelling.{SpellsBatch}
use Rattle.batch_repr.specs.Reading.{IsBytes, IsFirstFault}
use Rattle.batch_repr.specs.Returned.{MemoryOr, OkOrMemory, ErrOrMemory}
use Rattle.batch_repr.specs.Blocks.{AddsSpelled, AddsRead, batches_over, Divide}
use Rattle.batch_repr.proofs.Agreement.{reads_spell, same_batch, spelled_reads, reads_no_fault, one_fault}

-- ---- a block

pub divide_up : (from : ℕ) (heads : List Head) (end : ℕ) → Divide from heads end → from ≤ end
divide_up from [] end d = omega (arith, d)
divide_up from (head ∷ heads) end d = omega (arith, d.0, divide_up head.end heads end d.1)

pub divide_push : (from : ℕ) (heads : List Head) (end : ℕ) (head : Head) → Divide from heads end → end ≤ head.end
    → Divide from (heads ++ head ∷ []) head.end
divide_push from [] end head d up = (omega (arith, d, up), refl)
divide_push from (h ∷ heads) end head d up = (d.0, divide_push h.end heads end head d.1 up)

-- what stands in a block stands there with more behind it
range_front : (block more : List Entry) (from to : ℕ) → from ≤ to → to ≤ length block
    → slice_range (block ++ more) from to ≡ slice_range block from to
range_front block more from to order within =
    ap (take (to - from)) (drop-append-le from block more (omega (arith, order, within)))
    ∙ take-append-le (to - from) (drop from block) more (omega (arith, order, within, length-drop from block))

range_back : (block more : List Entry) (from to : ℕ) → from ≡ length block → to ≡ length (block ++ more)
    → slice_range (block ++ more) from to ≡ more
range_back block more from to begins ends =
    ap (take (to - from)) (drop_at block more from (sym begins))
    ∙ take_all (to - from) more (omega (arith, begins, ends, length-append block more))

-- one batch more
pub over_push : (from : ℕ) (heads : List Head) (block more : List Entry) (head : Head) → Divide from heads (length block)
    → head.end ≡ length (block ++ more)
    → batches_over from (heads ++ head ∷ []) (block ++ more) ≡ batches_over from heads block ++ record { first = head.first; entries = more } ∷ []
over_push from [] block more head d ends =
    ap (λ (xs : List Entry). record { first = head.first; entries = xs } ∷ []) (range_back block more from head.end d ends)
over_push from (h ∷ heads) block more head d ends =
    let up = divide_up h.end heads (length block) d.1 in
    ap (λ (xs : List Entry). record { first = h.first; entries = xs } ∷ batches_over h.end (heads ++ head ∷ []) (block ++ more))
    (range_front block more from h.end d.0 up)
    ∙ ap (λ (bs : List Batch). record { first = h.first; entries = slice_range block from h.end } ∷ bs)
    (over_push h.end heads block more head d.1 ends)

-- ---- the loop through the heads

module _ (block : List Entry) (heads : List Head) (i : ℕ) (d : Head) (below : i < length heads) where
  next_head : drop i heads ≡ get_or heads i d ∷ drop (i + 1) heads
  next_head = drop_more heads i d below

  -- the next batch is added, and the others are left
  pub over_more : (from : ℕ) (batches whole : List Batch) (batch : Batch)
      → batch ≡ record { first = (get_or heads i d).first; entries = slice_range block from (get_or heads i d).end }
      → batches ++ batches_over from (drop i heads) block ≡ whole
      → (batches ++ batch ∷ []) ++ batches_over (get_or heads i d).end (drop (i + 1) heads) block ≡ whole
  over_more from batches whole batch it left =
      append_assoc batches (batch ∷ []) (batches_over (get_or heads i d).end (drop (i + 1) heads) block)
      ∙ ap (λ (b : Batch). batches ++ (b ∷ batches_over (get_or heads i d).end (drop (i + 1) heads) block)) it
      ∙ sym (ap (λ (hs : List Head). batches ++ batches_over from hs block) next_head) ∙ left

  pub divide_more : (from end : ℕ) → Divide from (drop i heads) end
      → (from ≤ (get_or heads i d).end) × Divide (get_or heads i d).end (drop (i + 1) heads) end
  divide_more from end all = subst (λ (hs : List Head). Divide from hs end) next_head all

-- ---- what is answered

pub adds_found : (bytes : List ℕ) (old : List Batch) (r : Result (List Batch) BatchFault) → OnOk r (IsBytes bytes)
    → MatchResult r (AddsRead bytes old) (MemoryOr (IsFirstFault bytes)) → IfOk r (AddsSpelled bytes old)
adds_found bytes old (Ok new) fits h = record { batch = h.batch; spelled = reads_spell bytes h.batch fits h.reads; added = h.added }
adds_found bytes old (Err fault) fits h = tt

pub adds_only : (bytes : List ℕ) (old : List Batch) (r : Result (List Batch) BatchFault) (batch : Batch)
    → MatchResult r (AddsRead bytes old) (MemoryOr (IsFirstFault bytes)) → SpellsBatch bytes batch → OkOrMemory r (old ++ batch ∷ [])
adds_only bytes old (Ok new) batch h s =
    h.added ∙ ap (λ (b : Batch). old ++ b ∷ []) (same_batch bytes h.batch batch h.reads (spelled_reads bytes batch s))
adds_only bytes old (Err faults.NoMemory) batch h s = tt
adds_only bytes old (Err faults.ShortHeader) batch h s = reads_no_fault bytes batch _ (spelled_reads bytes batch s) h
adds_only bytes old (Err (faults.ShortEntry at)) batch h s = reads_no_fault bytes batch _ (spelled_reads bytes batch s) h
adds_only bytes old (Err (faults.BadVarint at)) batch h s = reads_no_fault bytes batch _ (spelled_reads bytes batch s) h
adds_only bytes old (Err (faults.TooLong at)) batch h s = reads_no_fault bytes batch _ (spelled_reads bytes batch s) h
adds_only bytes old (Err (faults.UnknownKind at kind)) batch h s = reads_no_fault bytes batch _ (spelled_reads bytes batch s) h
adds_only bytes old (Err (faults.Count said found)) batch h s = reads_no_fault bytes batch _ (spelled_reads bytes batch s) h
adds_only bytes old (Err (faults.SeqRange first)) batch h s = reads_no_fault bytes batch _ (spelled_reads bytes batch s) h

pub adds_first : (bytes : List ℕ) (old : List Batch) (r : Result (List Batch) BatchFault) (fault : BatchFault)
    → MatchResult r (AddsRead bytes old) (MemoryOr (IsFirstFault bytes)) → IsFirstFault bytes fault → ErrOrMemory r fault
adds_first bytes old (Ok new) fault h f = reads_no_fault bytes h.batch fault h.reads f
adds_first bytes old (Err faults.NoMemory) fault h f = tt
adds_first bytes old (Err faults.ShortHeader) fault h f = one_fault bytes _ fault h f
adds_first bytes old (Err (faults.ShortEntry at)) fault h f = one_fault bytes _ fault h f
adds_first bytes old (Err (faults.BadVarint at)) fault h f = one_fault bytes _ fault h f
adds_first bytes old (Err (faults.TooLong at)) fault h f = one_fault bytes _ fault h f
adds_first bytes old (Err (faults.UnknownKind at kind)) fault h f = one_fault bytes _ fault h f
adds_first bytes old (Err (faults.Count said found)) fault h f = one_fault bytes _ fault h f
adds_first bytes old (Err (faults.SeqRange first)) fault h f = one_fault bytes _ fault h f
