-- What the parts of a commit do to a session's seat. Nothing of it is seen from outside.
use Rattle.std.specs.Prelude.{◌≡◌, ℕ, suc, ◌+◌, ◌<◌, ◌≤◌, List, ◌∷◌, [], length, None, Some, Result, Ok, Err}
use Rattle.wal_base.specs.declared.entry.Entry.{Entry}
use Rattle.batch_repr.specs.declared.limits.TheConstants.{NUMBER_MAX, BATCHES_MAX}
use Rattle.batch_repr.specs.Batches.{count_of}
use Rattle.commit_queue.specs.Shown.{end_of_first, SeatShown, HasFreeHands}
use Rattle.commit_pipeline.specs.declared.fault.CommitFault.{CommitFault}
use Rattle.commit_pipeline.specs.declared.fault.CommitFault.TheVariants as fault
use Rattle.commit_pipeline.specs.Openings.{Opening}
use Rattle.commit_pipeline.specs.declared.pipeline.Refusal.{Refusal}
use Rattle.commit_pipeline.specs.declared.pipeline.Refusal.TheVariants as refused
use Rattle.commit_pipeline.specs.declared.pipeline.Numbers as batches
use Rattle.commit_pipeline.specs.Commits.{TellsDeath}
use Rattle.commit_pipeline.specs.Numbering.{numbered, SeatGoesOn, HoldsNumbered, ShowsMany, ShowsExhausted}

-- The seat has seen no less, and holds nothing.
abbrev pub StaysIdle : SeatShown → SeatShown → Type 0
StaysIdle v v' = SeatGoesOn v v' × (v'.held ≡ None)

-- what taking a number does to the seat
abbrev pub GetsNumber : List Entry → SeatShown → Result (ℕ × ℕ) Refusal → SeatShown → Type 0
GetsNumber entries v (Ok done) v' = HoldsNumbered (numbered entries done.0) done.1 v v'
GetsNumber entries v (Err (refused.TooMany next)) v' = ShowsMany BATCHES_MAX next v v'
GetsNumber entries v (Err (refused.Exhausted next)) v' = ShowsExhausted entries next v v'

-- so many batches more are the session's own
abbrev pub numbers_got : Result (ℕ × ℕ) Refusal → ℕ
numbers_got (Ok done) = 1
numbers_got (Err refusal) = 0

-- The numbers are used up behind n published batches, fewer than there may be and no fewer than the seat had seen published.
pub record PublishesExhausted (entries : List Entry) (next : ℕ) (v v' : SeatShown) : Type 0 where
  pub placed : ℕ
  pub no_fewer : v.published ≤ placed
  pub few : placed < BATCHES_MAX
  pub published : placed ≤ v'.published
  pub next_is : next ≡ end_of_first v'.base v'.history placed
  pub over : NUMBER_MAX < next + count_of entries

-- what the start of a commit does to the seat
abbrev pub StartsCommit : Opening → List Entry → SeatShown → Result (ℕ × ℕ) CommitFault → SeatShown → Type 0
StartsCommit opening entries v (Ok done) v' = HoldsNumbered (numbered entries done.0) done.1 v v'
StartsCommit opening entries v (Err (fault.Dead side faults)) v' = StaysIdle v v' × TellsDeath side faults
StartsCommit opening entries v (Err (fault.TooManyBatches count)) v' =
    StaysIdle v v' × (count ≡ BATCHES_MAX) × (v'.published ≡ BATCHES_MAX)
StartsCommit opening entries v (Err (fault.SeqExhausted next)) v' = StaysIdle v v' × PublishesExhausted entries next v v'
StartsCommit opening entries v (Err fault.NoMemory) v' = StaysIdle v v'
StartsCommit opening entries v (Err (fault.Unsynced first count side faults)) v' = ⊥
StartsCommit opening entries v (Err (fault.NoMemorySync first count)) v' = ⊥

abbrev pub numbers_started : Result (ℕ × ℕ) CommitFault → ℕ
numbers_started (Ok done) = 1
numbers_started (Err told) = 0

abbrev pub deaths_started : Result (ℕ × ℕ) CommitFault → ℕ
deaths_started (Err (fault.Dead side faults)) = 1
deaths_started _ = 0

-- So it is of the start of a commit.
abbrev pub StartsLiving : ℕ → Result (ℕ × ℕ) CommitFault → Type 0
StartsLiving known (Ok done) = known ≡ 0
StartsLiving known (Err (fault.TooManyBatches count)) = known ≡ 0
StartsLiving known (Err (fault.SeqExhausted next)) = known ≡ 0
StartsLiving known _ = Unit {0}

-- The batch that the seat holds ends at this number.
abbrev pub IsHeldEnd : SeatShown → ℕ → Type 0
IsHeldEnd v end = (index : ℕ) → v.held ≡ Some index
    → (suc index ≤ length v.history) × (end ≡ end_of_first v.base v.history (suc index))

-- The batch of this place is its own, and published.
pub record PublishesOwn (index : ℕ) (v v' : SeatShown) : Type 0 where
  pub idle : HasFreeHands v'
  pub none : v'.pieces ≡ []
  pub own : v'.own ≡ index ∷ v.own
  pub there : index < v'.published
  pub seen : SeatGoesOn (record v { own = index ∷ v.own; pieces = [] }) v'

abbrev pub PublishesHeld : SeatShown → SeatShown → Type 0
PublishesHeld v v' = (index : ℕ) → v.held ≡ Some index → PublishesOwn index v v'

-- The fault tells that the batch of these numbers is not known to be synced.
abbrev pub IsUnsynced : batches.Numbers → CommitFault → Type 0
IsUnsynced of (fault.Unsynced first count side faults) = (first ≡ of.first) × (count ≡ of.count) × TellsDeath side faults
IsUnsynced of (fault.NoMemorySync first count) = (first ≡ of.first) × (count ≡ of.count)
IsUnsynced of _ = ⊥

-- how a wait ends
abbrev pub WaitsFor : batches.Numbers → SeatShown → Result (Unit {0}) CommitFault → SeatShown → Type 0
WaitsFor of v (Ok done) v' = StaysIdle v v' × (of.index < v'.acked)
WaitsFor of v (Err told) v' = StaysIdle v v' × IsUnsynced of told

abbrev pub deaths_waited : Result (Unit {0}) CommitFault → ℕ
deaths_waited (Err (fault.Unsynced first count side faults)) = 1
deaths_waited _ = 0
