-- What is said of a run, by what was played and by how its journal ended.
use Rattle.std.proofs.Common.{◌≡◌, ◌≢◌, ℕ, ◌≤◌, Bool, true, List, [], ◌∷◌, ◌++◌, Option, Some, None, refl, ◌∙◌, arith}
use Rattle.std.specs.Prelude.{is_some}
use Rattle.std.specs.List.{AllByRecursion}
use Rattle.batch_repr.specs.declared.batch.Batch.{Batch}
use Rattle.disk_face.specs.View.{DiskView}
use Rattle.failover_writer.specs.declared.fault.DeadMark.{DeadMark}
use Rattle.failover_writer.specs.State.{JournalView, acked}
use Rattle.session_replies.specs.declared.replies.RunEnd.{RunEnd}
use Rattle.session_replies.specs.Legal.{Replied}
use Rattle.session_replies.proofs.Laws.{limited_exactly}
use Rattle.commit_pipeline.specs.Openings.{Opening, first_of}
use Rattle.commit_pipeline.specs.declared.standing.Standing.{Standing}
use Rattle.session_rounds.specs.Legality.{SyncedAreAmong}
use Rattle.session_rounds.specs.Players.{ReadersView, HavePlayed, ArePlayedLegally, EndsPlay}
use Rattle.script_runner.specs.declared.performing.Told.{Told}
use Rattle.script_runner.specs.declared.work.Work.{Work}
use Rattle.script_runner.specs.declared.work.Work.TheVariants as works
use Rattle.script_runner.specs.Works.{work_rounds, halts, Keeps, PerformsWork}
use Rattle.script_runner.specs.Runs.{TellsWork, SaysRun, EndsJournal}

more_acked : (batches : List Batch) (low high : ℕ) (replies : List (List Replied)) → low ≤ high → AllByRecursion (SyncedAreAmong batches low) replies
    → AllByRecursion (SyncedAreAmong batches high) replies
more_acked batches low high [] le all = tt
more_acked batches low high (round ∷ replies) le all = (
  λ reply first count h said. let s = all.0 reply first count h said in (s.0, s.1, s.2, s.3, omega (arith, s.4, le)),
  more_acked batches low high replies le all.1,
)

is_marked : (o : Option DeadMark) → o ≢ None → is_some o ≡ true
is_marked None some = absurd (some refl)
is_marked (Some mark) some = refl

module _ {Disk : Type 0} (tells : Bool) (view : Disk → DiskView) (opening : Opening) (work : Work) (ss : List Standing) (readers : ReadersView)
    (left new : JournalView Disk) (visible count : ℕ) (told : Told) (end : RunEnd) (batches : List Batch) (begun : HavePlayed opening [] [] ss)
    (done : PerformsWork opening work ss readers told)
    (ends : EndsPlay tells opening readers batches left.state (view left.disk) visible count) where
  played : ArePlayedLegally opening (work_rounds work) done.own readers.met batches left.state
  played = ends.legally (work_rounds work) done.own (done.plays.after [] [] begun)

  tells_work : (work' : Work) → Keeps opening work' told done.own readers → TellsWork work' (opening.base ++ batches) done.own told
  tells_work (works.Script script) kept = kept
  tells_work (works.Load load) kept = kept batches played.seen ends.within

  pub says_run : acked left.state ≤ acked new.state → EndsJournal view (halts work) visible count left new end
      → SaysRun (first_of opening) opening.base work batches (record { told = told; end = end })
  says_run acked_on ended =
      let legal = played.legal end.died (λ dead. ended.tells.died_is ∙ is_marked new.state.dead (ended.dies dead)) in
      record {
        replies = done.own;
        answers = record {
          legal = legal;
          synced = more_acked batches (acked left.state) end.acked done.own (omega (arith, acked_on, ended.tells.acked_is)) played.synced;
          lasting = played.lasting;
          exact = limited_exactly (first_of opening) opening.base end.died (work_rounds work) batches done.own legal;
          limited = done.limited;
          visible = ended.visible_is ∙ ends.visible_is;
          count = ended.batches_are ∙ ends.count_is;
        };
        tells = tells_work work done.kept;
        halted = ended.halted_is;
      }
