-- What the end of a pipeline tells (docs/formats/ring.md, "Sessions beside one another").
use Rattle.std.specs.Prelude.{◌≡◌, ◌≢◌, ℕ, ◌+◌, ◌<◌, ◌≤◌, Bool, List, [], ◌∷◌, ◌++◌, length, map, None, Contains}
use Rattle.wal_base.specs.Prefixes.{IsPrefixOf}
use Rattle.batch_repr.specs.declared.batch.Batch.{Batch}
use Rattle.batch_repr.specs.declared.limits.TheConstants.{NUMBER_MAX, BATCHES_MAX}
use Rattle.disk_face.specs.View.{DiskView}
use Rattle.commit_queue.specs.Shown.{SeatShown}
use Rattle.failover_writer.specs.State.{State, JournalView, acked}
use Rattle.failover_writer.specs.Outcome.{JournalOutcome}
use Rattle.commit_pipeline.specs.Openings.{Opening, IsOpened}
use Rattle.commit_pipeline.specs.declared.standing.Standing.{Standing}
use Rattle.commit_pipeline.specs.Standings.{KnowsDeath}
use Rattle.commit_pipeline.specs.Commits.{end_at}

-- the places that the sessions call their own
abbrev pub owned : List Standing → List ℕ
owned [] = []
owned (s ∷ ss) = owned ss ++ s.own

-- how many of their commits, and of their meetings, told that the journal is dead
abbrev pub all_deaths : List Standing → ℕ
all_deaths [] = 0
all_deaths (s ∷ ss) = all_deaths ss + (s.dead + s.told)

-- The n places below n are the sessions' own, each once: so many are named, and each is among them.
pub record EachOnce (n : ℕ) (places : List ℕ) : Type 0 where
  pub as_many : length places ≡ n
  pub each : (i : ℕ) → i < n → Contains places i

-- The journal holds these batches since the opening, and they are within both limits. What each session has seen is a prefix of
-- them, each of them is one session's own, once, and each that a session has seen acked is. A session knows of a death only where
-- the journal is dead.
pub record Finishes (tells : Bool) (opening : Opening) (batches : List Batch) (ss : List Standing) (state : State) (v : DiskView)
    (visible count : ℕ) : Type 0 where
  pub opened : IsOpened tells opening
  pub keeps : JournalOutcome tells opening.start batches state v
  pub seen : (s : Standing) → Contains ss s → IsPrefixOf s.seen batches
  pub own : EachOnce (length batches) (owned ss)
  pub acked_is : (s : Standing) → Contains ss s → s.acked ≤ acked state
  pub dead : (s : Standing) → Contains ss s → KnowsDeath s → state.dead ≢ None
  pub visible_is : visible ≡ end_at opening batches (length batches)
  pub count_is : count ≡ length batches
  pub small : visible ≤ NUMBER_MAX
  pub few : count ≤ BATCHES_MAX

-- the first numbers of the batches, in their order
abbrev pub numbers_in_order : List Batch → List ℕ
numbers_in_order batches = map (λ (b : Batch). b.first) batches

-- What a pipeline ends with, for some batches: their first numbers, in order, are those of the records taken out of the queue.
abbrev pub EndsPipeline : {Disk : Type 0} → Bool → (Disk → DiskView) → Opening → List Standing → JournalView Disk → ℕ → ℕ → List ℕ → Type 0
EndsPipeline tells view opening ss journal visible count taken =
    (batches : List Batch) × Finishes tells opening batches ss journal.state (view journal.disk) visible count × (taken ≡ numbers_in_order batches)

-- A journal that is given up holds some batches since the opening.
abbrev pub StillKeeps : {Disk : Type 0} → Bool → (Disk → DiskView) → Opening → JournalView Disk → Type 0
StillKeeps tells view opening journal = (batches : List Batch) × JournalOutcome tells opening.start batches journal.state (view journal.disk)

-- ---- inside

-- The producer's seat has taken in the seats of these sessions: what each has seen is a prefix of its history, and it has seen
-- acked what any of them has.
pub record TakesAllBack (p : SeatShown) (ss : List Standing) (p' : SeatShown) : Type 0 where
  pub history : p'.history ≡ p.history
  pub base : p'.base ≡ p.base
  pub own : p'.own ≡ p.own ++ owned ss
  pub acked_on : p.acked ≤ p'.acked
  pub seen : (s : Standing) → Contains ss s → IsPrefixOf s.seen p.history
  pub acked : (s : Standing) → Contains ss s → s.acked ≤ p'.acked
