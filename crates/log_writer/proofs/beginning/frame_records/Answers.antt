-- Each turn frames the next record of the queue.
use Rattle.crc_chunk.specs.declared.chunk.TheConstants.{BLOCK}
use Rattle.std.proofs.Common.{◌≡◌, ◌<◌, ◌++◌, ◌+◌, ◌%◌, ◌≤◌, ℕ, List, [], length, ap, sym, ◌∙◌, arith, append_assoc, max}
use native.Mathlib.Decide.{dec_le}
use Rattle.std.proofs.lemmas.List.{length-append, append-nil}
use Rattle.batch_repr.specs.declared.batch.Batch.{Batch}
use Rattle.batch_repr.specs.Written.{written}
use Rattle.block_record.specs.Framing.{Standing, framed, standing_after}
use Rattle.record_queue.specs.Queue.{Queue, IsRecordOf}
use Rattle.log_writer.specs.Sending.{frames_from}
use Rattle.log_writer.proofs.FramesFrom.{framed_more, nothing_framed}
use Rattle.log_writer.proofs.beginning.frame_records.Goals as goal

stays : (standing : Standing) → standing.place < BLOCK → standing_after standing [] ≡ standing
stays standing low = let same : (standing.place + 0) % BLOCK ≡ standing.place = omega (arith, low) in ap (λ (n : ℕ). record standing { place = n }) same

moves : (standing : Standing) (first more : List ℕ) → standing_after (standing_after standing first) more ≡ standing_after standing (first ++ more)
moves standing first more =
    let same : ((standing.place + length first) % BLOCK + length more) % BLOCK ≡ (standing.place + length (first ++ more)) % BLOCK = omega
    (arith, length-append first more) in
    ap (λ (n : ℕ). record standing { place = n }) same

module _ (queue : Queue) (standing : Standing) (offset from number : ℕ) (rec : Batch) (low : queue.start ≤ from) (le : from ≤ number)
    (found : IsRecordOf queue number rec) where
  abbrev frames : ℕ → List ℕ
  frames to = frames_from queue standing.log offset standing.place from to

  abbrev next : List ℕ
  next = framed standing.log ((standing.place + length (frames number)) % BLOCK) offset (written rec)

  out_more : (before out after : List ℕ) → out ≡ before ++ frames number → after ≡ out ++ next → after ≡ before ++ frames (number + 1)
  out_more before out after is more =
      more ∙ ap (λ (t : List ℕ). t ++ next) is ∙ append_assoc before (frames number) next
      ∙ ap (λ (t : List ℕ). before ++ t) (sym (framed_more queue standing offset from number rec low le found))

  standing_more : standing_after (standing_after standing (frames number)) next ≡ standing_after standing (frames (number + 1))
  standing_more = moves standing (frames number) next ∙ ap (standing_after standing) (sym (framed_more queue standing offset from number rec low le found))

none : (queue : Queue) (standing : Standing) (offset from to : ℕ) → to ≤ from → frames_from queue standing.log offset standing.place from to ≡ []
none queue standing offset from to le = nothing_framed queue standing.log offset standing.place from to le

pub loop-number-init : goal.loop-number-init
loop-number-init c =
    let empty = none c.args.queue.now c.args.framer.now c.args.offset c.args.from c.args.from (omega arith) in
    record {
      within = omega arith;
      framed = sym (ap (λ (t : List ℕ). c.args.out.now ++ t) empty ∙ append-nil c.args.out.now);
      moved = sym (ap (standing_after c.args.framer.now) empty ∙ stays c.args.framer.now c.requires.in_block);
    }

pub loop-number-preserved : goal.loop-number-preserved
loop-number-preserved c =
    let standing : Standing = c.args.framer.now in
    let rec : Batch = c.in-Some.record.now in
    let number : ℕ = c.loop-number.number in
    let was = c.loop-number.invariant in
    let before : List ℕ = frames_from c.args.queue.now standing.log c.args.offset standing.place c.args.from number in
    let low : c.args.queue.now.start ≤ c.args.from = omega (arith, c.requires.held.start) in
    let le : c.args.from ≤ number = omega (arith, c.loop-number.auto.number) in
    let found : IsRecordOf c.args.queue.now number rec = c.in-Some.ensures.found in
    let made = c.in_ok-frame.ensures in
    record {
      within = omega (arith, c.loop-number-test.true);
      framed = out_more c.args.queue.now standing c.args.offset c.args.from number rec low le found c.args.out.now c.loop-number.out c.frame.new.out was.framed
          (made.framed ∙ ap (λ (s : Standing). c.loop-number.out ++ framed s.log s.place c.args.offset c.bytes.result.now) was.moved
          ∙ ap (λ (b : List ℕ). c.loop-number.out ++ framed standing.log ((standing.place + length before) % BLOCK) c.args.offset b) c.bytes.ensures.written);
      moved = made.moved ∙ ap (λ (s : Standing). standing_after s (framed s.log s.place c.args.offset c.bytes.result.now)) was.moved
          ∙ ap (λ (b : List ℕ). standing_after (standing_after standing before)
          (framed standing.log ((standing.place + length before) % BLOCK) c.args.offset b)) c.bytes.ensures.written
          ∙ standing_more c.args.queue.now standing c.args.offset c.args.from number rec low le found;
    }

-- What is framed at the end is what is framed up to `to`.
at_end : (queue : Queue) (standing : Standing) (offset from number to : ℕ) → from ≤ number → number ≤ max from to → to ≤ number
    → frames_from queue standing.log offset standing.place from number ≡ frames_from queue standing.log offset standing.place from to
at_end queue standing offset from number to low high end = elim (dec_le from to) [
  | yes le ↦ let same : number ≡ to = omega (arith, low, high, end, le) in ap (frames_from queue standing.log offset standing.place from) same
  | no h ↦ none queue standing offset from number (omega (arith, low, high, h)) ∙ sym (none queue standing offset from to (omega (arith, h)))
]

pub returns-clause-framed : goal.returns-clause-framed
returns-clause-framed c =
    c.loop-number.invariant.framed
    ∙ ap (λ (t : List ℕ). c.args.out.now ++ t) (at_end c.args.queue.now c.args.framer.now c.args.offset c.args.from c.loop-number.number c.args.to
    c.loop-number.auto.number c.loop-number.invariant.within c.loop-number-test.false)

pub returns-clause-moved : goal.returns-clause-moved
returns-clause-moved c =
    c.loop-number.invariant.moved
    ∙ ap (standing_after c.args.framer.now) (at_end c.args.queue.now c.args.framer.now c.args.offset c.args.from c.loop-number.number c.args.to
    c.loop-number.auto.number c.loop-number.invariant.within c.loop-number-test.false)
