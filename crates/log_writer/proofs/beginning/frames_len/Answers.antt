-- Each turn passes over the next record of the queue.
use Rattle.crc_chunk.specs.declared.chunk.TheConstants.{BLOCK}
use Rattle.std.proofs.Common.{◌≡◌, ◌+◌, ◌%◌, ◌≤◌, ℕ, List, length, refl, ap, sym, subst, ◌∙◌, arith, max}
use native.Mathlib.Decide.{dec_le}
use Rattle.std.proofs.lemmas.List.{length-append}
use Rattle.batch_repr.specs.declared.batch.Batch.{Batch}
use Rattle.batch_repr.specs.Written.{written}
use Rattle.block_record.specs.Framing.{Standing, framed}
use Rattle.block_record.specs.Promises.{FramesTo}
use Rattle.record_queue.specs.Queue.{Queue, IsRecordOf}
use Rattle.log_writer.specs.Sending.{frames_from, HasFrames}
use Rattle.log_writer.proofs.FramesFrom.{framed_more, nothing_framed}
use Rattle.log_writer.proofs.beginning.frames_len.Goals as goal

none_has : (queue : Queue) (standing : Standing) (from to : ℕ) → to ≤ from → HasFrames queue standing from to 0
none_has queue standing from to le offset = sym (ap length (nothing_framed queue standing.log offset standing.place from to le))

-- With one record more.
more_has : (queue : Queue) (standing : Standing) (from number len size : ℕ) (rec : Batch) → queue.start ≤ from → from ≤ number → IsRecordOf queue number rec
    → HasFrames queue standing from number len → FramesTo (record standing { place = (standing.place + len) % BLOCK }) (length (written rec)) size
    → HasFrames queue standing from (number + 1) (len + size)
more_has queue standing from number len size rec low le found has sized offset =
    let frames : List ℕ = frames_from queue standing.log offset standing.place from number in
    let next : ℕ → List ℕ = (λ (n : ℕ). framed standing.log ((standing.place + n) % BLOCK) offset (written rec)) in
    let size_is : size ≡ length (next (length frames)) = sized offset (written rec) refl ∙ ap (λ (n : ℕ). length (next n)) (has offset) in
    sym (ap length (framed_more queue standing offset from number rec low le found) ∙ length-append frames (next (length frames))
    ∙ omega (arith, has offset, size_is))

pub loop-number-init : goal.loop-number-init
loop-number-init c = record {
  within = omega arith;
  framed = none_has c.args.queue.now c.args.framer.now c.args.from c.args.from (omega arith);
  moved = ap (λ (n : ℕ). record c.args.framer.now { place = n }) (omega (arith, c.requires.in_block));
}

pub loop-number-preserved : goal.loop-number-preserved
loop-number-preserved c =
    let standing : Standing = c.args.framer.now in
    let rec : Batch = c.in-Some.record.now in
    let number : ℕ = c.loop-number.number in
    let was = c.loop-number.invariant in
    let low : c.args.queue.now.start ≤ c.args.from = omega (arith, c.requires.held.start) in
    let le : c.args.from ≤ number = omega (arith, c.loop-number.auto.number) in
    let passed = c.pass_over-framed.ensures in
    let size : ℕ = c.pass_over-framed.result in
    let sum : c.in-Some-checked_add.more ≡ c.loop-number.len + size = c.in-Some-checked_add.ensures.1 in
    let here : Standing = record standing { place = (standing.place + c.loop-number.len) % BLOCK } in
    let place : ((standing.place + c.loop-number.len) % BLOCK + size) % BLOCK ≡ (standing.place + c.in-Some-checked_add.more) % BLOCK =
    omega (arith, sum) in
    record {
      within = omega (arith, c.loop-number-test.true);
      framed = subst (HasFrames c.args.queue.now standing c.args.from (number + 1)) (sym sum)
          (more_has c.args.queue.now standing c.args.from number c.loop-number.len size rec low le c.in-Some.ensures.found was.framed
          (subst (λ (b : List ℕ). FramesTo here (length b) size) c.bytes.ensures.written
          (subst (λ (s : Standing). FramesTo s (length c.bytes.result.now) size) was.moved passed.len)));
      moved = passed.moved ∙ ap (λ (s : Standing). record s { place = (s.place + size) % BLOCK }) was.moved
          ∙ ap (λ (n : ℕ). record standing { place = n }) place;
    }

-- What is counted at the end is what is framed up to `to`.
at_end : (queue : Queue) (standing : Standing) (from number to len : ℕ) → from ≤ number → number ≤ max from to → to ≤ number
    → HasFrames queue standing from number len → HasFrames queue standing from to len
at_end queue standing from number to len low high end has = elim (dec_le from to) [
  | yes le ↦ let same : number ≡ to = omega (arith, low, high, end, le) in subst (λ (n : ℕ). HasFrames queue standing from n len) same has
  | no h ↦ λ offset.
      has offset ∙ ap length (nothing_framed queue standing.log offset standing.place from number (omega (arith, low, high, h))
      ∙ sym (nothing_framed queue standing.log offset standing.place from to (omega (arith, h))))
]

pub returns : goal.returns
returns c = at_end c.args.queue.now c.args.framer.now c.args.from c.loop-number.number c.args.to c.loop-number.len
    c.loop-number.auto.number c.loop-number.invariant.within c.loop-number-test.false c.loop-number.invariant.framed
