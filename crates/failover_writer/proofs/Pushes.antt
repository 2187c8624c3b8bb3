-- A record comes after the others. What it is numbered by, and what the queue holds with it.
use Rattle.batch_repr.proofs.Laws.{contiguous_push, end_push}
use Rattle.std.proofs.Common.{◌≡◌, ℕ, ◌+◌, ◌<◌, ◌≤◌, Bool, List, [], ◌∷◌, ◌++◌, length, drop, ap, sym, ◌∙◌, arith}
use Rattle.std.proofs.lemmas.List.{length-append, length-drop, drop-append-le}
use Rattle.batch_repr.specs.declared.batch.Batch.{Batch}
use Rattle.batch_repr.specs.Batches.{count_of, end_of}
use Rattle.disk_face.specs.View.{DiskView}
use Rattle.record_queue.specs.Queue as queues
use Rattle.record_queue.specs.Queue.{Queue}
use Rattle.log_writer.specs.Writer.{Writer}
use Rattle.log_writer.specs.Steps.{IsQueueOf}
use Rattle.log_writer.specs.Fits.{Fits}
use Rattle.log_writer.proofs.Laws.{fits_grown}
use Rattle.failover_writer.specs.State.{State}
use Rattle.failover_writer.specs.Ranges.{IsSpelled, StandsFor}
use Rattle.failover_writer.proofs.Lists.{all_then}
use Rattle.failover_writer.proofs.Segments.{all_push}

-- The queue ends where the records do.
pub queue_end : (records : List Batch) (queue : Queue) → IsQueueOf records queue → queues.queue_end queue ≡ length records
queue_end records queue is = let held = ap (λ (bs : List Batch). length bs) is.holds in omega (arith, held, length-drop queue.start records, is.start)

pub queue_pushed : (records : List Batch) (added : Batch) (old new : Queue) → IsQueueOf records old → new.start ≡ old.start
    → new.records ≡ old.records ++ added ∷ [] → IsQueueOf (records ++ added ∷ []) new
queue_pushed records added old new is start holds = record {
  start = omega (arith, start, is.start, length-append records (added ∷ []));
  holds =
      holds ∙ ap (λ (bs : List Batch). bs ++ added ∷ []) is.holds ∙ sym (drop-append-le old.start records (added ∷ []) is.start)
      ∙ ap (λ (n : ℕ). drop n (records ++ added ∷ [])) (sym start);
}

-- The journal stands for one record more.
pub pushed_stands : (tells : Bool) (records : List Batch) (added : Batch) (old : State) (queue : Queue) (next want : ℕ) (v : DiskView)
    → StandsFor tells records old v → added.first ≡ old.next → 0 < count_of added.entries → IsSpelled added
    → queue.start ≡ old.queue.start → queue.records ≡ old.queue.records ++ added ∷ [] → next ≡ end_of added → want ≤ length records + 1
    → StandsFor tells (records ++ added ∷ []) (record old { queue = queue; next = next; want = want }) v
pushed_stands tells records added old queue next want v stands first some spelled start holds next_is within = record {
  named = stands.named;
  numbered = contiguous_push old.base records added stands.numbered (first ∙ stands.next) some;
  spelled = all_push IsSpelled records added stands.spelled spelled;
  next = next_is ∙ sym (end_push old.base records added);
  queue = queue_pushed records added old.queue queue stands.queue start holds;
  queued = omega (arith, start, stands.queued);
  want = omega (arith, within, length-append records (added ∷ []));
  few = stands.few;
  joined = stands.joined;
  fit =
      all_then (λ (w : Writer). Fits tells records w v) (λ (w : Writer). Fits tells (records ++ added ∷ []) w v)
      (λ w fits. fits_grown tells records (added ∷ []) w v fits) old.segments stands.fit;
  alone = stands.alone;
  fresh = stands.fresh;
}
