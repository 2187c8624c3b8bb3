-- What a run tells of the disk that a script stalls, told of the disk within.
use Rattle.std.proofs.Common.{◌≡◌, ◌⊎◌, inl, inr, ℕ, ◌+◌, ◌-◌, ◌*◌, ◌≤◌, Bool, List, length, Option, sym, ap, ◌∙◌, arith, subst}
use Rattle.batch_repr.specs.declared.batch.Batch.{Batch}
use Rattle.disk_face.specs.declared.Side.{Side}
use Rattle.disk_face.specs.declared.Side.TheVariants.{Primary, Secondary}
use Rattle.stall_monitor.specs.declared.verdict.TheConstants.{SEGMENTS_MAX}
use Rattle.disk_face.specs.declared.OpId.{OpId}
use Rattle.disk_face.specs.View.{DiskView, Files, Flight, files, NothingInFlight}
use Rattle.disk_face.specs.Image.{IsRested}
use Rattle.disk_face.specs.Asked.{creations}
use Rattle.disk_face.specs.Script.{TellsOf}
use Rattle.disk_face.proofs.Laws.{same_creations, failed_within, failed_over}
use Rattle.failover_writer.specs.Answered.{FaultsRose, RoseBy}
use Rattle.failover_writer.specs.Keeping.{HasNoSegment, KeepsRun}
use Rattle.failover_writer.specs.Remaining.{polls_left}
use Rattle.failover_writer.specs.Running.{PollsLeft, OthersSame, ReadsAsImage}
use Rattle.session_replies.specs.declared.replies.RunEnd.{RunEnd}
use Rattle.session_replies.specs.declared.script.Round.{Round}
use Rattle.script_runner.specs.Runs.{PollsNeverRise, StallsSome, HasCauses, EndsRunAs, HasRun}

told_files : (inner outer : DiskView) → TellsOf inner outer → files outer ≡ files inner
told_files inner outer t = ap (λ (h : ℕ → Files). h outer.clock) t.history ∙ ap inner.history t.clock

module _ (old start v new : DiskView) (before : TellsOf old start) (polls : (side : Side) → start.polls_left side ≡ old.polls_left side)
    (after : TellsOf new v) where
  faults_of : (side : Side) → start.faults side ≡ old.faults side
  faults_of side = ap (λ (f : Side → ℕ). f side) before.faults

  faults_then : (side : Side) → v.faults side ≡ new.faults side
  faults_then side = ap (λ (f : Side → ℕ). f side) after.faults

  pub polls_told : PollsNeverRise start v → PollsNeverRise old new
  polls_told never side = omega (arith, never side, polls side, after.polls side)

  rose_told : FaultsRose start v → FaultsRose old new
  rose_told (side, rose) = (side, omega (arith, rose, faults_of side, faults_then side))

  more_told : (rounds : List Round) → FaultsRose start v ⊎ (PollsLeft start ⊎ StallsSome rounds) → FaultsRose old new ⊎ (PollsLeft old ⊎ StallsSome rounds)
  more_told rounds (inl rose) = inl (rose_told rose)
  more_told rounds (inr (inl (side, left))) = inr (inl (side, omega (arith, left, polls side)))
  more_told rounds (inr (inr some)) = inr (inr some)

  rose_by_told : (n : ℕ) → RoseBy n start v → RoseBy n old new
  rose_by_told n (inl rose) = inl (omega (arith, rose, faults_of Primary, faults_of Secondary, faults_then Primary, faults_then Secondary))
  rose_by_told n (inr (side, at_end)) = inr (side, omega (arith, at_end, faults_then side))

  by_told : (rounds : List Round) (n : ℕ) → RoseBy n start v ⊎ (PollsLeft start ⊎ StallsSome rounds) → RoseBy n old new ⊎ (PollsLeft old ⊎ StallsSome rounds)
  by_told rounds n (inl rose) = inl (rose_by_told n rose)
  by_told rounds n (inr (inl (side, left))) = inr (inl (side, omega (arith, left, polls side)))
  by_told rounds n (inr (inr some)) = inr (inr some)

  idle_told : NothingInFlight v → NothingInFlight new
  idle_told idle id = ap (λ (flights : OpId → Option Flight). flights id) (sym after.in_flight) ∙ idle id

  pending_told : (rounds : List Round) (n : ℕ) → (n + polls_left v ≤ polls_left start) ⊎ StallsSome rounds
      → (n + polls_left new ≤ polls_left old) ⊎ StallsSome rounds
  pending_told rounds n (inl taken) = inl (omega (arith, taken, polls Primary, polls Secondary, after.polls Primary, after.polls Secondary))
  pending_told rounds n (inr some) = inr some

  causes_told : (threshold : ℕ) (rounds : List Round) (end : RunEnd) → HasCauses threshold rounds end start v → HasCauses threshold rounds end old new
  causes_told threshold rounds end c = record {
    failures = c.failures;
    stalls = c.stalls;
    segments = c.segments;
    death = c.death;
    rose = rose_by_told c.failures c.rose;
    pending = pending_told rounds (c.stalls * threshold) c.pending;
  }

  created_told : (n : ℕ) → creations v.calls ≡ creations start.calls + n → creations new.calls ≡ creations old.calls + n
  created_told n is = omega (arith, is, same_creations old.calls start.calls before.calls, same_creations new.calls v.calls after.calls)

  ends_told : (threshold : ℕ) (rounds : List Round) (n : ℕ) (end : RunEnd) → EndsRunAs threshold rounds n end start v
      → EndsRunAs threshold rounds n end old new
  ends_told threshold rounds n end e = record {
    within = e.within;
    all = e.all;
    rests = λ closed. idle_told (e.rests closed);
    begun = e.begun;
    none = e.none;
    more = λ many. more_told rounds (e.more many);
    failed = λ died. rose_told (e.failed died);
    ten = e.ten;
    each_fault = by_told rounds (end.segments - 1) e.each_fault;
    ten_faults = λ died. by_told rounds SEGMENTS_MAX (e.ten_faults died);
    causes = causes_told threshold rounds end e.causes;
    created = created_told end.segments e.created;
    gave_up = (λ d. let up = e.gave_up.0 d in (up.0, failed_within new.calls v.calls after.calls up.1), λ p. e.gave_up.1 (p.0, failed_over new.calls v.calls after.calls p.1));
  }

  was_files : files start ≡ files old
  was_files = told_files old start before

  now_files : files v ≡ files new
  now_files = told_files new v after

  pub others_told : (wal : ℕ) → OthersSame wal (files start) (files v) → OthersSame wal (files old) (files new)
  others_told wal others =
      subst (λ (fs : Files). OthersSame wal fs (files new)) was_files (subst (OthersSame wal (files start)) now_files others)

  pub run_told : (threshold : ℕ) (tells : Bool) (wal first : ℕ) (rounds : List Round) (own : List Batch) (end : RunEnd)
      → HasRun threshold tells start wal first rounds own end v → HasRun threshold tells old wal first rounds own end new
  run_told threshold tells wal first rounds own end e = record {
    ends = ends_told threshold rounds (length own) end e.ends;
    others = λ told. others_told wal (e.others told);
    nothing = λ told empty p.
        let same : files v p ≡ files start p = e.nothing told empty p in
        ap (λ (fs : Files). fs p) (sym now_files) ∙ same ∙ ap (λ (fs : Files). fs p) was_files;
    keeps = λ told absent.
        let kept : KeepsRun wal first own end.acked (files start) (files v) = e.keeps told (subst (HasNoSegment wal) (sym was_files) absent) in
        subst (λ (fs : Files). KeepsRun wal first own end.acked fs (files new)) was_files
        (subst (KeepsRun wal first own end.acked (files start)) now_files kept);
    read = λ told rested calm. subst ReadsAsImage now_files (e.read told (subst IsRested (sym was_files) rested) (λ rose. calm (rose_told rose)));
  }
