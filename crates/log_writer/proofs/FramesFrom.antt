-- One record more is framed after those of a queue that are framed.
use Rattle.crc_chunk.specs.declared.chunk.TheConstants.{BLOCK}
use Rattle.std.proofs.Common.{◌≡◌, ℕ, suc, ◌+◌, ◌-◌, ◌%◌, ◌<◌, ◌≤◌, List, [], ◌∷◌, ◌++◌, length, take, drop, get_or, sym, ap, ◌∙◌, arith}
use Rattle.std.proofs.lemmas.List.{length-drop, get_or-drop, append-nil, map-append, drop-drop}
use Rattle.std.proofs.Math.Seq.{take-suc}
use Rattle.batch_repr.specs.declared.batch.Batch.{Batch}
use Rattle.batch_repr.specs.Written.{written}
use Rattle.block_record.specs.Framing.{Standing, Marked, framed, laid}
use Rattle.block_record.proofs.Laws.{framed_in_block, laid-append}
use Rattle.std.proofs.lemmas.Option.{slice_get_within, get_or_from_slice_get}
use Rattle.record_queue.specs.Queue.{Queue, IsRecordOf}
use Rattle.log_writer.specs.Writer.{Writer}
use Rattle.log_writer.specs.Parts.{part, marked, marked_all, segment_bytes}
use Rattle.log_writer.specs.Steps.{IsQueueOf}
use Rattle.log_writer.specs.Sending.{queue_part, frames_from, frames_of}
use Rattle.log_writer.proofs.Parts.{offsets_from, laid_in_block, bytes_split, bytes_before, marked_behind}

one_more : (queue : Queue) (from number : ℕ) (rec : Batch) → queue.start ≤ from → from ≤ number → IsRecordOf queue number rec
    → queue_part queue from (number + 1) ≡ queue_part queue from number ++ rec ∷ []
one_more queue from number rec low le found =
    let n : ℕ = number - from in
    let rest : List Batch = drop (from - queue.start) queue.records in
    let more : number + 1 - queue.start - (from - queue.start) ≡ suc n = omega (arith, low, le) in
    let same : number - queue.start - (from - queue.start) ≡ n = omega (arith, low, le) in
    let place : from - queue.start + n ≡ number - queue.start = omega (arith, low, le) in
    let within : n < length rest = omega (
      arith,
      slice_get_within queue.records (number - queue.start) rec found.1,
      length-drop (from - queue.start) queue.records,
      low,
      le,
    ) in
    let here : get_or rest n rec ≡ rec =
    get_or-drop (from - queue.start) queue.records n rec ∙ ap (λ (i : ℕ). get_or queue.records i rec) place
    ∙ get_or_from_slice_get queue.records (number - queue.start) rec rec found.1 in
    ap (λ (i : ℕ). take i rest) more ∙ take-suc rest n rec within
    ∙ ap (λ (b : Batch). take n rest ++ b ∷ []) here
    ∙ ap (λ (i : ℕ). take i rest ++ rec ∷ []) (sym same)

-- The next record of the queue is framed after the others.
pub framed_more : (queue : Queue) (standing : Standing) (offset from number : ℕ) (rec : Batch) → queue.start ≤ from → from ≤ number → IsRecordOf queue number rec
    → frames_from queue standing.log offset standing.place from (number + 1)
    ≡ frames_from queue standing.log offset standing.place from number ++ framed standing.log
    ((standing.place + length (frames_from queue standing.log offset standing.place from number)) % BLOCK) offset (written rec)
framed_more queue standing offset from number rec low le found =
    let mark : Batch → Marked = (λ (b : Batch). record { offset = offset; bytes = written b }) in
    ap (λ (t : List Batch). laid standing.log standing.place (marked_all offset t)) (one_more queue from number rec low le found)
    ∙ ap (laid standing.log standing.place) (map-append mark (queue_part queue from number) (rec ∷ []))
    ∙ laid-append standing.log standing.place (marked_all offset (queue_part queue from number)) (mark rec ∷ [])
    ∙ ap (λ (t : List ℕ). frames_from queue standing.log offset standing.place from number ++ t)
    (append-nil (framed standing.log (standing.place + length (frames_from queue standing.log offset standing.place from number)) offset (written rec))
    ∙ sym (framed_in_block standing.log (standing.place + length (frames_from queue standing.log offset standing.place from number)) offset
    (written rec)))

-- The part of a queue is the part of the records that it holds.
queue_part_is : (records : List Batch) (queue : Queue) (from to : ℕ) → IsQueueOf records queue → queue.start ≤ from → from ≤ to
    → queue_part queue from to ≡ part from to records
queue_part_is records queue from to is low le =
    let count : (to - queue.start) - (from - queue.start) ≡ to - from = omega (arith, low, le) in
    let place : queue.start + (from - queue.start) ≡ from = omega (arith, low) in
    ap (λ (n : ℕ). take n (drop (from - queue.start) queue.records)) count
    ∙ ap (λ (t : List Batch). take (to - from) (drop (from - queue.start) t)) is.holds
    ∙ ap (take (to - from)) (drop-drop (from - queue.start) queue.start records ∙ ap (λ (n : ℕ). drop n records) place)

-- What a write sends completes the bytes of the segment.
pub frames_complete : (offsets : ℕ → ℕ) (records : List Batch) (queue : Queue) (w : Writer) (len : ℕ) → IsQueueOf records queue → queue.start ≤ w.sent
    → w.from ≤ w.sent → w.sent ≤ len → w.sent ≤ length records
    → w.place ≡ length (segment_bytes w.log offsets w.from w.sent records) % BLOCK
    → segment_bytes w.log (offsets_from w.sent offsets w.synced_bytes) w.from len records
    ≡ segment_bytes w.log offsets w.from w.sent records ++ frames_of queue w len
frames_complete offsets records queue w len is low begins le within place =
    let with_more : ℕ → ℕ = offsets_from w.sent offsets w.synced_bytes in
    let before : List ℕ = segment_bytes w.log offsets w.from w.sent records in
    let same : segment_bytes w.log with_more w.from w.sent records ≡ before = bytes_before w.log offsets w.synced_bytes w.from w.sent w.sent records (omega arith) in
    bytes_split w.log with_more w.from w.sent len records begins le within
    ∙ ap (λ (t : List ℕ). t ++ laid w.log (length t) (marked with_more w.sent (part w.sent len records))) same
    ∙ ap (λ (t : List ℕ). before ++ t)
    (ap (laid w.log (length before)) (marked_behind offsets w.synced_bytes w.sent (part w.sent len records))
    ∙ sym (laid_in_block w.log (length before) (marked_all w.synced_bytes (part w.sent len records)))
    ∙ ap (λ (n : ℕ). laid w.log n (marked_all w.synced_bytes (part w.sent len records))) (sym place)
    ∙ ap (λ (t : List Batch). laid w.log w.place (marked_all w.synced_bytes t)) (sym (queue_part_is records queue w.sent len is low le)))

-- Where there is none from one number to below another, none is framed.
pub nothing_framed : (queue : Queue) (log offset place from to : ℕ) → to ≤ from → frames_from queue log offset place from to ≡ []
nothing_framed queue log offset place from to le = let none : to - queue.start - (from - queue.start) ≡ 0 = omega (arith, le) in ap
    (λ (n : ℕ). laid log place (marked_all offset (take n (drop (from - queue.start) queue.records)))) none
