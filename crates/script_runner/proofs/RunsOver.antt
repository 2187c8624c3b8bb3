-- What a run over a journal came to, and what the same run came to over the disk within.
use Rattle.std.proofs.Common.{◌≡◌, ℕ, Bool, List, [], subst}
use Rattle.batch_repr.specs.declared.batch.Batch.{Batch}
use Rattle.disk_face.specs.View.{DiskView}
use Rattle.disk_face.specs.Script.{TellsOf, BeginsOver}
use Rattle.failover_writer.specs.State.{JournalView}
use Rattle.session_replies.specs.declared.replies.RunEnd.{RunEnd}
use Rattle.failover_writer.specs.Outcome.{JournalStart, JournalOutcome}
use Rattle.commit_pipeline.specs.Openings.{Opening, first_number, first_of}
use Rattle.commit_pipeline.specs.declared.standing.Standing.{Standing}
use Rattle.session_rounds.specs.Players.{ReadersView, HavePlayed, EndsPlayers}
use Rattle.script_runner.specs.declared.run.Outcome.{Outcome}
use Rattle.script_runner.specs.declared.performing.Told.{Told}
use Rattle.script_runner.specs.declared.work.Work.{Work}
use Rattle.script_runner.specs.Works.{work_rounds, halts, PerformsWork}
use Rattle.script_runner.specs.Runs.{SaysRun, RunsWork, run_start, run_opening, GoesOnKept, EndsJournal, RunsOver}
use Rattle.script_runner.proofs.HasRun.{IsStarted, has_run}
use Rattle.script_runner.proofs.SaysRun.{says_run}
use Rattle.script_runner.proofs.TellsOf.{run_told}

-- Some work was done over a pipeline of the opening, and the journal that it gave up was ended.
pub runs_over : {Disk : Type 0} (tells : Bool) (view : Disk → DiskView) (base : List Batch) (work : Work) (opening : Opening) (old left new : JournalView Disk)
    (ss : List Standing) (readers : ReadersView) (visible count : ℕ) (told : Told) (end : RunEnd) → opening ≡ run_opening view base (work_rounds work) old
    → HavePlayed opening [] [] ss → PerformsWork opening work ss readers told → EndsPlayers tells view opening readers left visible count
    → GoesOnKept tells view left new → EndsJournal view (halts work) visible count left new end
    → RunsOver tells view base work old new (record { told = told; end = end })
runs_over tells view base work opening old left new ss readers visible count told end is begun done finished goes ended =
    record {
      batches = finished.0;
      journal = subst (λ (o : Opening). JournalOutcome tells o.start finished.0 new.state (view new.disk)) is
          (goes.outcome opening.start finished.0 finished.1.keeps);
      says = subst (λ (o : Opening). SaysRun (first_of o) o.base work finished.0 (record { told = told; end = end })) is
          (says_run tells view opening work ss readers left new visible count told end finished.0 begun done finished.1 goes.acked ended);
      tells_end = ended.tells;
    }

-- ---- the disk within

-- The disk of the journal is made over the disk within, and tells at the end what that tells.
pub runs_work : {Disk : Type 0} (threshold : ℕ) (tells : Bool) (view : Disk → DiskView) (wal next : ℕ) (base : List Batch) (work : Work)
    (journal left : JournalView Disk) (old new : DiskView) (outcome : Outcome) → journal.state.next ≡ next → BeginsOver old (view journal.disk) → TellsOf new (view left.disk)
    → IsStarted threshold tells (run_start view (work_rounds work) journal) wal next (work_rounds work)
    → RunsOver tells view base work journal left outcome → RunsWork base next work wal threshold tells old new outcome
runs_work threshold tells view wal next base work journal left old new outcome from before after started ran =
    let start : JournalStart = run_start view (work_rounds work) journal in
    record {
      batches = ran.batches;
      says = subst (λ (n : ℕ). SaysRun (first_number n base) base work ran.batches outcome) from ran.says;
      ended =
          run_told old (view journal.disk) (view left.disk) new before.tells before.polls after threshold tells wal next (work_rounds work) ran.batches outcome.end
          (has_run threshold tells start wal next (work_rounds work) ran.batches left.state (view left.disk) started ran.journal outcome.end ran.tells_end);
    }
