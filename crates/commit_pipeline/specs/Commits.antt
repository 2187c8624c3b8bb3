-- What a commit and a read do to a session (docs/formats/ring.md, "Sessions beside one another").
use Rattle.std.specs.Prelude.{◌≡◌, ℕ, ◌+◌, ◌<◌, ◌≤◌, Bool, List, ◌++◌, length, Result, Ok, Err, IsTrue}
use Rattle.wal_base.specs.declared.entry.Entry.{Entry}
use Rattle.batch_repr.specs.declared.batch.Batch.{Batch}
use Rattle.batch_repr.specs.declared.limits.TheConstants.{NUMBER_MAX, BATCHES_MAX}
use Rattle.batch_repr.specs.Batches.{count_of, answer}
use Rattle.disk_face.specs.declared.Side.{Side}
use Rattle.disk_face.specs.declared.Side.TheVariants.{Secondary}
use Rattle.commit_queue.specs.Shown.{end_of_first}
use Rattle.commit_pipeline.specs.declared.fault.Committed.{Committed}
use Rattle.commit_pipeline.specs.declared.fault.CommitFault.{CommitFault}
use Rattle.commit_pipeline.specs.declared.fault.CommitFault.TheVariants as fault
use Rattle.commit_pipeline.specs.declared.fault.Reply.{Reply}
use Rattle.commit_pipeline.specs.Openings.{Opening}
use Rattle.commit_pipeline.specs.declared.standing.Standing.{Standing}
use Rattle.commit_pipeline.specs.Numbering.{numbered}
use Rattle.commit_pipeline.specs.Standings.{KnowsDeath, Idles, GainsOwn}

-- the end of the n-th batch after the base
abbrev pub end_at : Opening → List Batch → ℕ → ℕ
end_at opening batches n = end_of_first opening.start.state.next batches n

-- a death is told of on the secondary side, after a failure at least
abbrev pub TellsDeath : Side → ℕ → Type 0
TellsDeath side faults = (side ≡ Secondary) × (1 ≤ faults)

-- The batch is committed with these numbers: it is the session's own, and seen published. The session knew of no death.
pub record Commits (entries : List Entry) (first count : ℕ) (s s' : Standing) : Type 0 where
  pub place : ℕ
  pub gains : GainsOwn (numbered entries first) place s s'
  pub count_is : count ≡ count_of entries
  pub lives : KnowsDeath s → ⊥

-- It is that, and was seen acked where a sync was asked for.
pub record CommitsWell (entries : List Entry) (sync : Bool) (c : Committed) (s s' : Standing) : Type 0 where
  pub commits : Commits entries c.first c.count s s'
  pub dead : s'.dead ≡ s.dead
  pub synced : c.synced ≡ sync
  pub acked : IsTrue sync → commits.place < s'.acked

-- The numbers are used up behind n batches that the session has seen, fewer than there may be and no fewer than it had seen before.
pub record SeesExhausted (opening : Opening) (entries : List Entry) (next : ℕ) (s s' : Standing) : Type 0 where
  pub placed : ℕ
  pub no_fewer : length s.seen ≤ placed
  pub few : placed < BATCHES_MAX
  pub seen : placed ≤ length s'.seen
  pub next_is : next ≡ end_at opening s'.seen placed
  pub over : NUMBER_MAX < next + count_of entries

-- what a commit answers
abbrev pub TellsCommit : Opening → List Entry → Bool → Standing → Result Committed CommitFault → Standing → Type 0
TellsCommit opening entries sync s (Ok c) s' = CommitsWell entries sync c s s'
TellsCommit opening entries sync s (Err (fault.Dead side faults)) s' = Idles s s' × (s'.dead ≡ s.dead + 1) × TellsDeath side faults
TellsCommit opening entries sync s (Err (fault.TooManyBatches count)) s' =
    Idles s s' × (s'.dead ≡ s.dead) × (KnowsDeath s → ⊥) × (count ≡ BATCHES_MAX) × (length s'.seen ≡ BATCHES_MAX)
TellsCommit opening entries sync s (Err (fault.SeqExhausted next)) s' =
    Idles s s' × (s'.dead ≡ s.dead) × (KnowsDeath s → ⊥) × SeesExhausted opening entries next s s'
TellsCommit opening entries sync s (Err fault.NoMemory) s' = Idles s s' × (s'.dead ≡ s.dead)
TellsCommit opening entries sync s (Err (fault.Unsynced first count side faults)) s' =
    Commits entries first count s s' × (s'.dead ≡ s.dead + 1) × IsTrue sync × TellsDeath side faults
TellsCommit opening entries sync s (Err (fault.NoMemorySync first count)) s' =
    Commits entries first count s s' × (s'.dead ≡ s.dead) × IsTrue sync

-- A read that has no memory adds nothing.
abbrev pub MissesRead : Standing → Standing → Type 0
MissesRead s s' = Idles s s' × (s'.dead ≡ s.dead)

-- A read answers after all that the session has then seen: what the store answers, and the number after it.
pub record TellsRead (opening : Opening) (key : List ℕ) (reply : Reply) (s s' : Standing) : Type 0 where
  pub idles : Idles s s'
  pub dead : s'.dead ≡ s.dead
  pub visible : reply.visible ≡ end_at opening s'.seen (length s'.seen)
  pub value : reply.value ≡ answer (opening.base ++ s'.seen) (length (opening.base ++ s'.seen)) key
