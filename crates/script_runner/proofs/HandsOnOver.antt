-- What a run leaves of its journal and its disk, whatever it came to.
use Rattle.std.proofs.Common.{◌≡◌, inl, inr, ℕ, Bool, List, IsTrue, refl, sym, subst, arith}
use Rattle.batch_repr.specs.declared.batch.Batch.{Batch}
use Rattle.disk_face.specs.View.{DiskView, files}
use Rattle.failover_writer.specs.State.{JournalView}
use Rattle.failover_writer.specs.Running.{OthersSame}
use Rattle.session_replies.specs.Rounds.{NameSessions}
use Rattle.session_replies.specs.declared.script.Round.{Round}
use Rattle.failover_writer.specs.Outcome.{JournalOutcome}
use Rattle.commit_pipeline.specs.Openings.{Opening}
use Rattle.commit_pipeline.specs.Ending.{StillKeeps}
use Rattle.script_runner.specs.declared.work.Work.{Work}
use Rattle.script_runner.specs.declared.work.Work.TheVariants as works
use Rattle.script_runner.specs.Works.{work_rounds, work_sessions, NamesItsOwn}
use Rattle.script_runner.specs.Runs.{StallNone, PollsNeverRise, run_start, run_opening, GoesOnKept, HandsOnOver}
use Rattle.script_runner.proofs.AllowsStalls.{none_stalls}
use Rattle.script_runner.proofs.HasRun.{IsStarted, run_others}

-- the lines of some work are of the sessions that are made for it
pub named_own : (work : Work) (count : ℕ) → NamesItsOwn work → count ≡ work_sessions work → NameSessions count (work_rounds work)
named_own (works.Script script) count own is = subst (λ (n : ℕ). NameSessions n script.rounds) (sym is) own.within
named_own (works.Load load) count own is = subst (λ (n : ℕ). NameSessions n load) (sym is) own

module _ {Disk : Type 0} (tells : Bool) (view : Disk → DiskView) (rounds : List Round) (old : JournalView Disk) where
  -- a pipeline of the opening gave its journal up
  pub given_up : (base : List Batch) (opening : Opening) (left : JournalView Disk) → opening ≡ run_opening view base rounds old
      → StillKeeps tells view opening left → HandsOnOver tells view rounds old left
  given_up base opening left is kept =
      inr (kept.0, subst (λ (o : Opening). JournalOutcome tells o.start kept.0 left.state (view left.disk)) is kept.1)

  -- and the journal went on
  pub handed_further : (left new : JournalView Disk) (batches : List Batch)
      → JournalOutcome tells (run_start view rounds old) batches left.state (view left.disk) → GoesOnKept tells view left new
      → HandsOnOver tells view rounds old new
  handed_further left new batches was goes = inr (batches, goes.outcome (run_start view rounds old) batches was)

  module _ (new : JournalView Disk) where
    pub polls_over : StallNone rounds → HandsOnOver tells view rounds old new → PollsNeverRise (view old.disk) (view new.disk)
    polls_over none (inl same) = subst (λ (j : JournalView Disk). PollsNeverRise (view old.disk) (view j.disk)) (sym same) (λ side. omega arith)
    polls_over none (inr held) = held.1.polls (none_stalls rounds none)

    pub others_over : (threshold wal first : ℕ) → IsStarted threshold tells (run_start view rounds old) wal first rounds → IsTrue tells
        → HandsOnOver tells view rounds old new → OthersSame wal (files (view old.disk)) (files (view new.disk))
    others_over threshold wal first started told (inl same) =
        subst (λ (j : JournalView Disk). OthersSame wal (files (view old.disk)) (files (view j.disk))) (sym same) (λ p elsewhere. refl)
    others_over threshold wal first started told (inr held) =
        run_others threshold tells (run_start view rounds old) wal first rounds held.0 new.state (view new.disk) started held.1 told
