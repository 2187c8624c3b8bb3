-- What a journal holds where no file changes: at its start, and over a disk that stays.
use Rattle.std.proofs.Common.{◌≡◌, ℕ, ◌≤◌, Bool, List, [], length, drop, Option, Some, None, IsTrue, ap, sym, subst, ◌∙◌, refl, arith}
use Rattle.std.specs.List.{AllByRecursion}
use Rattle.std.proofs.lemmas.List.{length-drop}
use Rattle.batch_repr.specs.declared.batch.Batch.{Batch}
use Rattle.batch_repr.specs.Batches.{IsContiguous, end_after}
use Rattle.disk_face.specs.declared.OpId.{OpId}
use Rattle.disk_face.specs.View.{Flight, DiskView, NothingInFlight}
use Rattle.disk_face.specs.Calls.{SameDisk}
use Rattle.record_queue.specs.Queue.{Queue}
use Rattle.log_writer.specs.Writer.{Writer}
use Rattle.log_writer.specs.Fits.{Fits, IsUnsent, place_of_writer}
use Rattle.log_writer.proofs.Laws.{same_disk, fits_beside}
use Rattle.failover_writer.specs.State.{State, len}
use Rattle.failover_writer.specs.Ranges.{AreJoined, AreUnsent, StandsFor}
use Rattle.failover_writer.proofs.Segments.{place_at}
use Rattle.failover_writer.proofs.Lists.{all_then}

-- A journal of no record and no segment.
pub nothing_stands : (tells : Bool) (state : State) (v : DiskView) → state.segments ≡ [] → state.queue.start ≡ 0 → state.queue.records ≡ []
    → state.next ≡ state.base → state.want ≡ 0 → NothingInFlight v → (IsTrue tells → AreUnsent state.wal 0 v) → state.wal ≤ 999999999999
    → StandsFor tells [] state v
unfolding IsContiguous end_after AreJoined
nothing_stands tells state v none start records next want idle absent named = record {
  named = named;
  numbered = tt;
  spelled = tt;
  next = next;
  queue = record { start = omega (arith, start); holds = records ∙ subst (λ (n : ℕ). [] ≡ drop {A = Batch} n []) (sym start) refl };
  queued = omega (arith, start);
  want = omega (arith, want);
  few = omega (arith, ap (λ (ws : List Writer). length ws) none);
  joined = subst (λ (ws : List Writer). AreJoined state.wal 0 0 ws) (sym none) tt;
  fit = subst (λ (ws : List Writer). AllByRecursion (λ (w : Writer). Fits tells [] w v) ws) (sym none) tt;
  alone = λ id f flies. let clash : None ≡ Some f = sym (idle id) ∙ flies in cc;
  fresh = λ told index low high. absent told index (omega arith) high;
}

-- The same disk holds the same.
pub same_stands : (tells : Bool) (records : List Batch) (state : State) (before after : DiskView) → SameDisk before after
    → StandsFor tells records state before → StandsFor tells records state after
same_stands tells records state before after same stands = record {
  named = stands.named;
  numbered = stands.numbered;
  spelled = stands.spelled;
  next = stands.next;
  queue = stands.queue;
  queued = stands.queued;
  want = stands.want;
  few = stands.few;
  joined = stands.joined;
  fit =
      all_then (λ (w : Writer). Fits tells records w before) (λ (w : Writer). Fits tells records w after)
      (λ w fits. fits_beside tells records w before after fits (same_disk tells (place_of_writer w) before after same))
      state.segments stands.fit;
  alone = λ id f flies. stands.alone id f (ap (λ (flights : OpId → Option Flight). flights id) (sym same.in_flight) ∙ flies);
  fresh = λ told index low high. subst IsUnsent (sym ((same_disk tells (place_at state.wal index) before after same).file told))
      (stands.fresh told index low high);
}

-- Room in the queue changes nothing that is held.
pub roomy_stands : (tells : Bool) (records : List Batch) (state : State) (queue : Queue) (v : DiskView) → queue.start ≡ state.queue.start
    → queue.records ≡ state.queue.records → StandsFor tells records state v
    → StandsFor tells records (record state { queue = queue }) v
roomy_stands tells records state queue v start held stands = record {
  named = stands.named;
  numbered = stands.numbered;
  spelled = stands.spelled;
  next = stands.next;
  queue = record { start = omega (arith, start, stands.queue.start); holds = held ∙ stands.queue.holds ∙ ap (λ (n : ℕ). drop n records) (sym start) };
  queued = omega (arith, start, stands.queued);
  want = stands.want;
  few = stands.few;
  joined = stands.joined;
  fit = stands.fit;
  alone = stands.alone;
  fresh = stands.fresh;
}

-- ---- what a run's journal keeps

pub len_is : (tells : Bool) (own : List Batch) (state : State) (v : DiskView) → StandsFor tells own state v → len state ≡ length own
len_is tells own state v stands = omega (arith, stands.queue.start, ap length stands.queue.holds, length-drop state.queue.start own)
