-- What a run does after a recovery, told of the disk as it was before.
use Rattle.std.proofs.Common.{◌≡◌, ◌⊎◌, inl, inr, ℕ, ◌+◌, ◌-◌, ◌*◌, ◌≤◌, Bool, true, false, List, [], length, Option, Some, None, IsTrue, refl, sym, ap, ◌∙◌, arith, subst}
use Rattle.std.specs.Prelude.{nat_lt, if◌then◌else◌, take}
use Rattle.batch_repr.specs.declared.batch.Batch.{Batch}
use Rattle.batch_repr.specs.Batches.{end_after}
use Rattle.disk_face.specs.declared.Side.{Side}
use Rattle.disk_face.specs.declared.Side.TheVariants.{Primary, Secondary}
use Rattle.stall_monitor.specs.declared.verdict.TheConstants.{SEGMENTS_MAX}
use Rattle.disk_face.specs.View.{Place, segment, DiskView, File, Files, files}
use Rattle.disk_face.specs.Image.{IsSound, IsRested, dirs_as_read, directories}
use Rattle.disk_face.specs.Calls.{GoesOn, WentOn}
use Rattle.disk_face.specs.Asked.{creations}
use Rattle.disk_face.proofs.Laws.{goes_went, read_created, rose_later, went_further, creations_further}
use Rattle.log_writer.specs.Fits.{IsUnsent}
use Rattle.failover_writer.specs.Ranges.{side_at, AreUnsent}
use Rattle.failover_writer.specs.Answered.{FaultsRose, RoseBy}
use Rattle.failover_writer.specs.Keeping.{IsRunOver}
use Rattle.failover_writer.specs.Remaining.{polls_left}
use Rattle.wal_recovery.specs.declared.reports.Mode.TheVariants.{Strict}
use Rattle.wal_recovery.specs.Listing.{Stored, name_in}
use Rattle.wal_recovery.specs.Base.{IsBaseOf}
use Rattle.wal_recovery.specs.Further.{SegmentsMerge}
use Rattle.wal_recovery.specs.Rows.{files_from}
use Rattle.wal_recovery.specs.Resting.{AreSegmentsStable, IsAsOrSynced, OnlySynced}
use Rattle.wal_recovery.proofs.Laws.{read_synced, rested_synced}
use Rattle.disk_face.specs.declared.names.TheConstants.{WAL_MAX}
use Rattle.flush_table.specs.Asked.{AsksOfStore}
use Rattle.flush_table.specs.Stores.{IsNextWalOfStore, wal_from, wal_after, next_in}
use Rattle.flush_table.specs.Kept.{KeepsStore}
use Rattle.flush_table.proofs.Laws.{none_of_next, number_used, run_over_store, wal_used}
use Rattle.failover_writer.specs.Running.{OthersOnlySynced, PollsLeft, OthersSame}
use Rattle.commit_pipeline.specs.Openings.{first_number, EndsBefore}
use Rattle.commit_pipeline.proofs.Laws.{ends_before}
use Rattle.script_runner.specs.declared.run.Outcome.{Outcome}
use Rattle.script_runner.specs.declared.work.Work.{Work}
use Rattle.script_runner.specs.Works.{work_rounds}
use Rattle.script_runner.specs.Runs.{PollsNeverRise, StallsSome, HasCauses, EndsRunAs, SaysRun, RunsWork}
use Rattle.wal_top.specs.Recovery.{ReadsStore, next_of}
use Rattle.wal_top.specs.Work.{LogsBatches, RunsOverDisk}

-- ---- nothing was sent to a segment of the next WAL

unsent : (wal index : ℕ) (side : Side) (now : Files) → ((p : Place) (f : File) → now p ≡ Some f → IsSound p f)
    → IsNextWalOfStore (dirs_as_read now) wal → wal ≤ WAL_MAX → index ≤ 999 → IsUnsent (now (segment side (name_in wal index)))
unsent wal index side now sound next within low = go (now place) refl
  where
    place : Place
    place = segment side (name_in wal index)

    not_created : (f : File) → now place ≡ Some f → (made : Bool) → f.created ≡ made → f.created ≡ false
    not_created f is false e = e
    not_created f is true e =
        let stored : Stored = record { side = side; index = index; content = f.reads } in
        let stands = next.above wal stored ((within, low), read_created place (now place) f is e) in
        absurd (omega (arith, stands))

    same_some : {a b : File} → Some a ≡ Some b → a ≡ b
    same_some e = cc

    go : (o : Option File) → now place ≡ o → IsUnsent (now place)
    go None is = subst IsUnsent (sym is) (tt, λ g here. absurd cc)
    go (Some f) is =
        let none = not_created f is f.created refl in
        subst IsUnsent (sym is) (none, λ g here. subst (λ (h : File). h.sent ≡ []) (same_some here) ((sound place f is).1 none))

pub are_unsent : (wal : ℕ) (old now : Files) (v : DiskView) → files v ≡ now → ((p : Place) (f : File) → now p ≡ Some f → IsSound p f)
    → IsNextWalOfStore (dirs_as_read old) wal → wal ≤ WAL_MAX → OnlySynced old now → AreUnsent wal 0 v
are_unsent wal old now v is sound next within only index low high =
    subst (λ (fs : Files). IsUnsent (fs (segment (side_at index) (name_in wal index)))) (sym is)
    (unsent wal index (side_at index) now sound (subst (λ (d : _). IsNextWalOfStore d wal) (sym (read_synced old now only)) next) within high)

-- ---- what follows a recovery

pub went_since : (old mid new : DiskView) → GoesOn old mid → WentOn mid new → WentOn old new
went_since old mid new goes later =
    went_further old mid new (goes_went old mid goes) later

pub polls_since : (old mid new : DiskView) → GoesOn old mid → PollsNeverRise mid new → PollsNeverRise old new
polls_since old mid new goes later side = omega (arith, goes.polls side, later side)

module _ (old mid new : DiskView) (wal : ℕ) (tells : Bool) (only : IsTrue tells → OnlySynced (files old) (files mid)) where
  pub others_stay : (IsTrue tells → OthersSame wal (files mid) (files new)) → IsTrue tells → OthersOnlySynced wal (files old) (files new)
  others_stay same told p elsewhere = subst (IsAsOrSynced (files old p)) (sym (same told p elsewhere)) (only told p)

  module _ (threshold : ℕ) (base' : List Batch) (next' : ℕ) (work : Work) (ran : Outcome) (goes : GoesOn old mid) (asks : AsksOfStore old mid)
      (r : RunsWork base' next' work wal threshold tells mid new ran) where
    rose_since : FaultsRose mid new → FaultsRose old new
    rose_since (side, rose) = (side, rose_later (old.faults side) (mid.faults side) (new.faults side) (goes.faults side) rose)

    more_since : FaultsRose mid new ⊎ (PollsLeft mid ⊎ StallsSome (work_rounds work)) → FaultsRose old new ⊎ (PollsLeft old ⊎ StallsSome (work_rounds work))
    more_since (inl rose) = inl (rose_since rose)
    more_since (inr (inl (side, left))) = inr (inl (side, omega (arith, left, goes.polls side)))
    more_since (inr (inr stalls)) = inr (inr stalls)

    rose_by_since : (n : ℕ) → RoseBy n mid new → RoseBy n old new
    rose_by_since n (inl rose) = inl (omega (arith, rose, goes.faults Primary, goes.faults Secondary))
    rose_by_since n (inr at_end) = inr at_end

    pending_since : (n : ℕ) → (n + polls_left new ≤ polls_left mid) ⊎ StallsSome (work_rounds work)
        → (n + polls_left new ≤ polls_left old) ⊎ StallsSome (work_rounds work)
    pending_since n (inl taken) = inl (omega (arith, taken, goes.polls Primary, goes.polls Secondary))
    pending_since n (inr stalls) = inr stalls

    causes_since : HasCauses threshold (work_rounds work) ran.end old new
    causes_since =
        let c = r.ended.ends.causes in
        record {
          failures = c.failures;
          stalls = c.stalls;
          segments = c.segments;
          death = c.death;
          rose = rose_by_since c.failures c.rose;
          pending = pending_since (c.stalls * threshold) c.pending;
        }

    by_since : (n : ℕ) → RoseBy n mid new ⊎ (PollsLeft mid ⊎ StallsSome (work_rounds work)) → RoseBy n old new ⊎ (PollsLeft old ⊎ StallsSome (work_rounds work))
    by_since n (inl rose) = inl (rose_by_since n rose)
    by_since n (inr (inl (side, left))) = inr (inl (side, omega (arith, left, goes.polls side)))
    by_since n (inr (inr stalls)) = inr (inr stalls)

    ends_since : EndsRunAs threshold (work_rounds work) (length r.batches) ran.end old new
    ends_since =
        let e = r.ended.ends in
        record {
          within = e.within;
          all = e.all;
          rests = e.rests;
          begun = e.begun;
          none = e.none;
          more = λ many. more_since (e.more many);
          failed = λ died. rose_since (e.failed died);
          ten = e.ten;
          each_fault = by_since (ran.end.segments - 1) e.each_fault;
          ten_faults = λ died. by_since SEGMENTS_MAX (e.ten_faults died);
          causes = causes_since;
          created = omega (arith, e.created, ap creations asks.makes, creations_further asks.made old.calls, asks.creates);
          gave_up = e.gave_up;
        }

    module _ (read' : ReadsStore Strict tells (record { before = old; after = new })) (is : base' ≡ read'.batches) (next_is : next' ≡ next_of read')
        (stable : IsTrue tells → IsRested (files old) → AreSegmentsStable (files_from (wal_after read'.seen) (files mid))) (within : wal ≤ WAL_MAX)
        (next : IsTrue tells → IsNextWalOfStore (directories old) wal) (numbered' : EndsBefore read'.batches (next_of read')) where
      next_used : IsTrue tells → next' ≡ next_in read'.used read'.batches
      next_used told = next_is ∙ ap (λ (n : ℕ). end_after n read'.batches) (number_used read'.used read'.seen (read'.tells_used told))

      stable_used : IsTrue tells → IsRested (files old) → AreSegmentsStable (files_from (wal_from read'.used) (files mid))
      stable_used told rested =
          subst (λ (w : ℕ). AreSegmentsStable (files_from w (files mid))) (wal_used read'.used read'.seen (read'.tells_used told)) (stable told rested)

      keeps_since : IsTrue tells → IsRested (files old) → KeepsStore read'.used read'.batches r.batches ran.end.acked (files new)
      keeps_since told rested dirs image free =
          let run : IsRunOver wal next' r.batches ran.end.acked (files mid) dirs =
          r.ended.keeps told (none_of_next (files old) (files mid) rested (only told) wal (next told)) dirs image free in
          let merges : SegmentsMerge dirs wal (next_in read'.used read'.batches) (take run.count r.batches) =
          subst (λ (n : ℕ). SegmentsMerge dirs wal n (take run.count r.batches)) (next_used told) run.merges in (
            run.count,
            run.has_acked,
            run.within,
            run_over_store wal read'.used read'.batches (take run.count r.batches) (files old) (files mid) rested (only told) (stable_used told rested)
                (read'.store told) (next told) run.others dirs run.image run.chance_free run.same merges,
          )

      logs_since : LogsBatches tells (record { before = old; after = new }) read' r.batches ran.end.acked
      logs_since = record {
        wal = wal;
        within = within;
        next = next;
        others = others_stay r.ended.others;
        nothing = λ told empty p. subst (IsAsOrSynced (files old p)) (sym (r.ended.nothing told empty p)) (only told p);
        keeps = keeps_since;
        reads = λ told rested calm.
            let whole = r.ended.read told (rested_synced (files old) (files mid) rested (only told)) (λ rose. calm (rose_since rose)) in
            keeps_since told rested (directories new) whole.0 whole.1;
        stable = λ told rested side name f listed other here.
            let left : Option File → Option File = λ (o : Option File). if nat_lt name.wal (wal_after read'.seen) then None else o in
            stable told rested side name f listed (ap left (sym (r.ended.others told (segment side name) other)) ∙ here);
      }

      -- work that is done over what was recovered is done over the disk as it was
      pub runs_since : RunsOverDisk work threshold tells (record { before = old; after = new }) ran
      runs_since = record {
        read = read';
        numbered = numbered';
        batches = r.batches;
        says = subst (λ (n : ℕ). SaysRun (first_number n read'.batches) read'.batches work r.batches ran) next_is
            (subst (λ (l : List Batch). SaysRun (first_number next' l) l work r.batches ran) is r.says);
        ends = ends_since;
        logs = logs_since;
      }

-- Batches that are numbered, and end before a number, are what a run may go on from.
pub numbered_before : (next : ℕ) (batches : List Batch) → IsBaseOf next batches → EndsBefore batches next
numbered_before next batches is = ends_before is.from next batches is.contiguous (sym is.ends)
