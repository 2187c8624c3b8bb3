-- What the start of the next operation leaves, for each operation.
use Rattle.crc_chunk.specs.declared.chunk.TheConstants.{BLOCK}
use Rattle.std.proofs.Common.{◌≡◌, ℕ, ◌+◌, ◌%◌, ◌^◌, ◌<◌, ◌≤◌, Bool, true, false, List, ◌++◌, length, Some, None, IsTrue, ap, sym, subst, ◌∙◌, refl, arith, nat_lt}
use Rattle.std.specs.Prelude.{not, ◌&&◌, if◌then◌else◌}
use Rattle.std.proofs.lemmas.Bool.{ltb-true}
use Rattle.std.proofs.lemmas.List.{length-append, length-drop}
use Rattle.disk_face.specs.declared.OpId.{OpId}
use Rattle.disk_face.specs.View.{writing, DiskView, files, IsFree, AtEachMoment}
use Rattle.disk_face.specs.Calls.{GoesOn, Starts, ChangesFile, after_start}
use Rattle.batch_repr.specs.declared.batch.Batch.{Batch}
use Rattle.record_queue.specs.Queue.{Queue}
use Rattle.log_writer.specs.declared.goal.Goal.{Goal}
use Rattle.log_writer.specs.declared.phase.Operation.{Operation}
use Rattle.log_writer.specs.declared.phase.Operation.TheVariants.{Create, Write, Sync}
use Rattle.log_writer.specs.declared.phase.Phase.{Phase}
use Rattle.log_writer.specs.declared.phase.Phase.TheVariants.{New, InFlight, Idle, Broken}
use Rattle.log_writer.specs.Writer.{Writer}
use Rattle.log_writer.specs.Parts.{segment_bytes}
use Rattle.log_writer.specs.Fits.{place_of_writer, act_of, Flies, HasFlight, HasNumbers, IsOrdered, HasFile, Fits}
use Rattle.log_writer.specs.Kept.{SegmentKept}
use Rattle.log_writer.specs.Steps.{IsQueueOf, HoldsPart, next_operation, next_of_created}
use Rattle.log_writer.specs.Sending.{frames_of, sending}
use Rattle.log_writer.proofs.Fits.{fits_kept}
use Rattle.log_writer.proofs.Beside.{two_moments}
use Rattle.log_writer.proofs.FramesFrom.{frames_complete}
use Rattle.log_writer.proofs.Parts.{offsets_from, offsets_each, bytes_before}

-- where an operation is the next one
abbrev IsReadyFor : Operation → ℕ → ℕ → Phase → Type 0
IsReadyFor Create written len phase = phase ≡ New
IsReadyFor Sync written len phase = phase ≡ Idle
IsReadyFor Write written len phase = (phase ≡ Idle) × (written < len)

created_next : (written : ℕ) (goal : Goal) (operation : Operation) → next_of_created written goal ≡ Some operation → IsReadyFor operation written goal.len Idle
created_next written goal operation next = go (nat_lt goal.acked goal.want && not (nat_lt written goal.want)) (nat_lt written goal.len) refl next
  where
    go : (sync more : Bool) → nat_lt written goal.len ≡ more → (if sync then Some Sync else (if more then Some Write else None)) ≡ Some
        operation → IsReadyFor operation written goal.len Idle
    go true more is e = let same : Sync ≡ operation = cc in subst (λ (o : Operation). IsReadyFor o written goal.len Idle) same refl
    go false true is e = let same : Write ≡ operation = cc in subst (λ (o : Operation). IsReadyFor o written goal.len Idle) same
        (refl, ltb-true written goal.len is)
    go false false is e = cc

next_ready : (phase : Phase) (written : ℕ) (goal : Goal) (operation : Operation) → next_operation phase written goal ≡ Some operation
    → IsReadyFor operation written goal.len phase
next_ready New written goal operation next = let same : Create ≡ operation = cc in subst (λ (o : Operation). IsReadyFor o written goal.len New) same refl
next_ready (InFlight other id) written goal operation next = cc
next_ready Idle written goal operation next = created_next written goal operation next
next_ready Broken written goal operation next = cc

flies_from : (old new : DiskView) (w : Writer) (operation : Operation) (id : OpId) → IsFree old (place_of_writer w)
    → Starts (record { place = place_of_writer w; act = act_of operation }) w.side id old new
    → Flies new (place_of_writer w) (act_of operation) id
flies_from old new w operation id free starts = record { here = starts.here; alone = λ q ne f is. free q f (sym (starts.others q ne) ∙ is) }

-- the writer once its operation is in flight
abbrev begun : Operation → OpId → Queue → ℕ → Writer → Writer
begun operation id queue len w = record (sending operation queue len w) { waiting = 0; phase = InFlight operation id }

module _ (tells : Bool) (w : Writer) (queue : Queue) (goal : Goal) (old new : DiskView) (id : OpId) (records : List Batch)
    (fits : Fits tells records w old) (is_queue : IsQueueOf records queue) (held : HoldsPart queue w.sent goal.len)
    (small : w.synced_bytes < 2 ^ 64) where
  abbrev offsets : ℕ → ℕ
  offsets = fits.offsets

  abbrev ordered : IsOrdered offsets records w
  ordered = fits.ordered

  in_phase : (phase : Phase) → w.phase ≡ phase → HasNumbers phase w × HasFlight phase (place_of_writer w) old
      × (IsTrue tells → HasFile phase offsets records w (files old (place_of_writer w)))
  in_phase phase is = (
    subst (λ (p : Phase). HasNumbers p w) is fits.numbers,
    subst (λ (p : Phase). HasFlight p (place_of_writer w) old) is fits.flight,
    λ told. subst (λ (p : Phase). HasFile p offsets records w (files old (place_of_writer w))) is (fits.file told),
  )

  -- The bytes of the segment once all records are sent.
  abbrev with_more : ℕ → ℕ
  with_more = offsets_from w.sent offsets w.synced_bytes

  completed : w.written ≡ w.sent → w.written < goal.len → segment_bytes w.log with_more w.from goal.len records ≡ segment_bytes w.log offsets w.from w.sent
      records ++ frames_of queue w goal.len
  completed rests more = frames_complete offsets records queue w goal.len is_queue held.start
      (omega (arith, ordered.from, ordered.synced, ordered.written)) (omega (arith, rests, more)) ordered.sent
      (ordered.place ∙ ap (λ (n : ℕ). n % BLOCK) ordered.size)

  before : (to : ℕ) → to ≤ w.sent → segment_bytes w.log with_more w.from to records ≡ segment_bytes w.log offsets w.from to records
  before to le = bytes_before w.log offsets w.synced_bytes w.from to w.sent records le

  pub begun_fits : (operation : Operation) → next_operation w.phase w.written goal ≡ Some operation
      → Starts (record { place = place_of_writer w; act = act_of operation }) w.side id old new
      → (IsTrue tells → ChangesFile (place_of_writer w) (λ f g. g ≡ after_start (act_of operation) (frames_of queue w goal.len) f) old new)
      → Fits tells records (begun operation id queue goal.len w) new
  begun_fits operation next starts file = go operation (next_ready w.phase w.written goal operation next) starts file
    where
      go : (o : Operation) → IsReadyFor o w.written goal.len w.phase → Starts (record { place = place_of_writer w; act = act_of o }) w.side id old new
          → (IsTrue tells → ChangesFile (place_of_writer w) (λ f g. g ≡ after_start (act_of o) (frames_of queue w goal.len) f) old new)
          → Fits tells records (begun o id queue goal.len w) new
      go Create is starts file =
          let was = in_phase New is in
          record {
            offsets = offsets;
            ordered = record {
              log = ordered.log;
              from = ordered.from;
              synced = ordered.synced;
              written = ordered.written;
              sent = ordered.sent;
              size = ordered.size;
              place = ordered.place;
              covered = ordered.covered;
              below = ordered.below;
              fit = ordered.fit;
            };
            numbers = was.0;
            flight = flies_from old new w Create id was.1 starts;
            file = λ told. (file told).here;
          }
      go Sync is starts file =
          let was = in_phase Idle is in
          record {
            offsets = offsets;
            ordered = record {
              log = ordered.log;
              from = ordered.from;
              synced = ordered.synced;
              written = ordered.written;
              sent = ordered.sent;
              size = ordered.size;
              place = ordered.place;
              covered = ordered.covered;
              below = ordered.below;
              fit = ordered.fit;
            };
            numbers = was.0;
            flight = flies_from old new w Sync id was.1 starts;
            file = λ told. (file told).here ∙ was.2 told;
          }
      go Write is starts file =
          let was = in_phase Idle is.0 in
          let whole = completed was.0 is.1 in
          let frames : List ℕ = frames_of queue w goal.len in
          let size : w.size + length frames ≡ length (segment_bytes w.log with_more w.from goal.len records) =
          omega (arith, ordered.size, ap length whole, length-append (segment_bytes w.log offsets w.from w.sent records) frames) in
          let written_same : segment_bytes w.log with_more w.from w.written records ≡ segment_bytes w.log offsets w.from w.written records =
          before w.written (omega (arith, ordered.written)) in
          record {
            offsets = with_more;
            ordered = record {
              log = ordered.log;
              from = ordered.from;
              synced = ordered.synced;
              written = omega (arith, is.1);
              sent = omega (arith, held.end, is_queue.start, ap length is_queue.holds, length-drop queue.start records);
              size = size;
              place = omega (arith, ordered.place);
              covered = ordered.covered ∙ ap length (sym (before w.synced (omega (arith, ordered.synced, ordered.written))));
              below = offsets_each (λ (n : ℕ). n ≤ w.synced_bytes) w.sent offsets w.synced_bytes ordered.below (omega arith);
              fit = offsets_each (λ (n : ℕ). n < 2 ^ 64) w.sent offsets w.synced_bytes ordered.fit small;
            };
            numbers = tt;
            flight = flies_from old new w Write id was.1 starts;
            file = λ told. (file told).here ∙ ap (after_start writing frames) (was.2 told) ∙ rw (← whole, ← written_same) refl;
          }

  pub begun_moments : (operation : Operation) → GoesOn old new → next_operation w.phase w.written goal ≡ Some operation
      → Starts (record { place = place_of_writer w; act = act_of operation }) w.side id old new
      → (IsTrue tells → ChangesFile (place_of_writer w) (λ f g. g ≡ after_start (act_of operation) (frames_of queue w goal.len) f) old new) → IsTrue tells
      → AtEachMoment old.clock new (SegmentKept (place_of_writer w) w.log w.from w.synced records)
  begun_moments operation goes next starts file told =
      two_moments (place_of_writer w) (λ f g. g ≡ after_start (act_of operation) (frames_of queue w goal.len) f) old new
      (SegmentKept (place_of_writer w) w.log w.from w.synced records) goes (file told)
      (fits_kept tells records w old fits told)
      (fits_kept tells records (begun operation id queue goal.len w) new (begun_fits operation next starts file) told)
