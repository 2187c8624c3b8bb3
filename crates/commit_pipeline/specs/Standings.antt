-- What contracts see of a session, and what its calls do to it (docs/formats/ring.md, "Sessions beside one another").
use Rattle.std.specs.Prelude.{◌≡◌, ℕ, ◌+◌, ◌<◌, ◌≤◌, List, [], ◌∷◌, length, take, Contains}
use mathlib.Core.Option.{some}
use lib.ListN.{get_elem?}
use Rattle.atomic_table.specs.Seated.{TableId}
use Rattle.wal_base.specs.Prefixes.{IsPrefixOf}
use Rattle.batch_repr.specs.declared.batch.Batch.{Batch}
use Rattle.memtable_shards.specs.Versions.{AreShardsOf}
use Rattle.commit_queue.specs.Shown.{SeatShown, HasFreeHands}
use Rattle.commit_pipeline.specs.Openings.{Opening, EndsBefore}
use Rattle.commit_pipeline.specs.declared.standing.Standing.{Standing}

-- the batches that are seen published
abbrev pub seen_of : SeatShown → List Batch
seen_of v = take v.published v.history

-- what contracts see of a session, by what its seat shows
abbrev pub standing : SeatShown → ℕ → ℕ → Standing
standing v dead told = record { seen = seen_of v; own = v.own; acked = v.acked; dead = dead; told = told }

-- the standing of a new session
abbrev pub new_standing : Standing
new_standing = record { seen = []; own = []; acked = 0; dead = 0; told = 0 }

-- The session knows that the journal is dead: one of its commits told so, or it met a session that knew.
abbrev pub KnowsDeath : Standing → Type 0
KnowsDeath s = 0 < s.dead + s.told

-- What was seen never falls.
pub record SeesOn (s s' : Standing) : Type 0 where
  pub seen : IsPrefixOf s.seen s'.seen
  pub acked : s.acked ≤ s'.acked
  pub told : s.told ≤ s'.told

-- Nothing is added to its own batches, and it met no session.
pub record Idles (s s' : Standing) : Type 0 where
  pub goes_on : SeesOn s s'
  pub own : s'.own ≡ s.own
  pub told : s'.told ≡ s.told

-- The batch is its own, at this place: not within what was seen before, and within what is seen now.
pub record GainsOwn (batch : Batch) (place : ℕ) (s s' : Standing) : Type 0 where
  pub goes_on : SeesOn s s'
  pub own : s'.own ≡ place ∷ s.own
  pub at : get_elem? s'.seen place ≡ some batch
  pub behind : length s.seen ≤ place
  pub told : s'.told ≡ s.told

-- ---- inside

-- A session's seat between two calls, with its shares of the two ledgers: one part each, and so many own batches.
pub record IsSession (table : TableId) (opening : Opening) (seat : TableId) (v : SeatShown) (own_parts own_amount dead_parts told_parts : ℕ)
    : Type 0 where
  pub of_table : seat ≡ table
  pub base : v.base ≡ opening.start.state.next
  pub shards : AreShardsOf v.opening opening.base
  pub before : EndsBefore opening.base opening.start.state.next
  pub idle : HasFreeHands v
  pub none : v.pieces ≡ []
  pub within : v.published ≤ length v.history
  pub out : (i : ℕ) → Contains v.own i → i < v.published
  pub own_part : own_parts ≡ 1
  pub own : own_amount ≡ length v.own
  pub dead_part : dead_parts ≡ 1
  pub told_part : told_parts ≡ 1
