-- What is synced is among the records. So the records that no segment needs may leave the queue.
use Rattle.std.proofs.Common.{◌≡◌, ℕ, ◌+◌, ◌-◌, ◌≤◌, max, Bool, List, [], ◌∷◌, ◌++◌, length, take, drop, Some, ap, sym, subst, ◌∙◌, refl, arith}
use Rattle.std.specs.Prelude.{slice_get}
use Rattle.std.specs.List.{AllByRecursion}
use Rattle.std.proofs.lemmas.List.{drop-drop}
use Rattle.batch_repr.specs.declared.batch.Batch.{Batch}
use Rattle.disk_face.specs.View.{DiskView}
use Rattle.record_queue.specs.Queue.{Queue, queue_end}
use Rattle.log_writer.specs.Writer.{Writer}
use Rattle.log_writer.specs.Fits.{Fits}
use Rattle.failover_writer.specs.State.{State, acked, most_synced}
use Rattle.failover_writer.specs.Ranges.{releasable, sent_to_current, StandsFor}
use Rattle.failover_writer.specs.Stepping.{Releases}
use Rattle.failover_writer.proofs.Lists.{all_then, last_split}

pub most_within : (bound from : ℕ) (writers : List Writer) → from ≤ bound → AllByRecursion (λ (w : Writer). w.synced ≤ bound) writers
    → most_synced from writers ≤ bound
unfolding most_synced
most_within bound from [] le all = le
most_within bound from (w ∷ writers) le all = most_within bound (max from w.synced) writers (omega (arith, le, all.0)) all.1

pub synced_within : (tells : Bool) (records : List Batch) (w : Writer) (v : DiskView) → Fits tells records w v → w.synced ≤ length records
synced_within tells records w v fits = let ordered = fits.ordered in omega (arith, ordered.synced, ordered.written, ordered.sent)

pub acked_within : (tells : Bool) (records : List Batch) (state : State) (v : DiskView) → StandsFor tells records state v → acked state ≤ length records
acked_within tells records state v stands =
    most_within (length records) 0 state.segments (omega arith)
    (all_then (λ (w : Writer). Fits tells records w v) (λ (w : Writer). w.synced ≤ length records)
    (λ w fits. synced_within tells records w v fits) state.segments stands.fit)

-- what was sent to the current segment, the last one
pub sent_to_last : (none : ℕ) (earlier : List Writer) (current : Writer) → sent_to_current none (earlier ++ current ∷ []) ≡ current.sent
sent_to_last none [] current = refl
sent_to_last none (w ∷ earlier) current = sent_to_last w.sent earlier current

pub last_sent : (writers : List Writer) (current : Writer) → slice_get writers (length writers - 1) ≡ Some current → current.sent ≡ sent_to_current 0 writers
last_sent writers current is =
    sym (ap (λ (ws : List Writer). sent_to_current 0 ws) (last_split writers current is) ∙ sent_to_last 0 (take (length writers - 1) writers) current)

pub released_stands : (tells : Bool) (records : List Batch) (old : State) (queue : Queue) (v : DiskView) → StandsFor tells records old v
    → queue.start ≡ max old.queue.start (releasable old)
    → queue.records ≡ drop (releasable old - old.queue.start) old.queue.records → StandsFor tells records (record old { queue = queue }) v
released_stands tells records old queue v stands start holds = record {
  named = stands.named;
  numbered = stands.numbered;
  spelled = stands.spelled;
  next = stands.next;
  queue = record {
    start = omega (arith, start, stands.queue.start, acked_within tells records old v stands);
    holds =
        let from : old.queue.start + (releasable old - old.queue.start) ≡ queue.start = omega (arith, start) in
        holds ∙ ap (λ (bs : List Batch). drop (releasable old - old.queue.start) bs) stands.queue.holds
        ∙ drop-drop (releasable old - old.queue.start) old.queue.start records ∙ ap (λ (n : ℕ). drop n records) from;
  };
  queued = omega (arith, start, stands.queued);
  want = stands.want;
  few = stands.few;
  joined = stands.joined;
  fit = stands.fit;
  alone = stands.alone;
  fresh = stands.fresh;
}

pub releases_as_seen : (old seen : State) (queue : Queue) → old ≡ seen → queue.start ≡ max old.queue.start (releasable old)
    → queue_end queue ≡ queue_end old.queue → Releases seen (record old { queue = queue })
releases_as_seen old seen queue same start end = subst (λ (state : State). Releases state (record old { queue = queue })) same
    (record { start = start; end = end; new_is = refl })
