-- What a try to number a batch does to a session's seat, and why it comes to what it comes to (docs/formats/ring.md, "The commit").
use Rattle.std.specs.Prelude.{◌≡◌, ℕ, ◌+◌, ◌<◌, ◌≤◌, Bool, List, ◌∷◌, ◌++◌, [], length, None, Some}
use mathlib.Core.Option.{some}
use lib.ListN.{get_elem?}
use Rattle.wal_base.specs.declared.entry.Entry.{Entry}
use Rattle.wal_base.specs.Prefixes.{IsPrefixOf}
use Rattle.batch_repr.specs.declared.batch.Batch.{Batch}
use Rattle.batch_repr.specs.declared.limits.TheConstants.{NUMBER_MAX, BATCHES_MAX}
use Rattle.batch_repr.specs.Batches.{count_of, end_of}
use Rattle.record_queue.specs.declared.node.Filled.{Filled}
use Rattle.commit_queue.specs.Shown.{end_of_first, SeatShown}
use Rattle.commit_pipeline.specs.Sides.{CommitView}
use Rattle.commit_pipeline.specs.declared.commit_side.Numbering.{Numbering}
use Rattle.commit_pipeline.specs.declared.commit_side.Numbering.TheVariants as case

-- the batch of these entries, from this number on
abbrev pub numbered : List Entry → ℕ → Batch
numbered entries first = record { first = first; entries = entries }

-- What a seat has seen is no less, and its own batches are the same.
pub record SeatGoesOn (v v' : SeatShown) : Type 0 where
  pub history : IsPrefixOf v.history v'.history
  pub published : v.published ≤ v'.published
  pub within : v'.published ≤ length v'.history
  pub acked : v.acked ≤ v'.acked
  pub own : v'.own ≡ v.own
  pub base : v'.base ≡ v.base
  pub opening : v'.opening ≡ v.opening
  pub pieces : v'.pieces ≡ v.pieces
  pub turn : v'.turn ≡ v.turn

-- The seat holds the batch, at this place, behind all that it has seen published. It begins where the batch before it ends.
pub record HoldsNumbered (batch : Batch) (place : ℕ) (v v' : SeatShown) : Type 0 where
  pub goes_on : SeatGoesOn v v'
  pub held : v'.held ≡ Some place
  pub at : get_elem? v'.history place ≡ some batch
  pub behind : v'.published ≤ place
  pub follows : batch.first ≡ end_of_first v'.base v'.history place
  pub within : end_of batch ≤ NUMBER_MAX

-- The seat has seen n batches at least, of which the first n end at this number.
pub record ShowsMany (n next : ℕ) (v v' : SeatShown) : Type 0 where
  pub goes_on : SeatGoesOn v v'
  pub idle : v'.held ≡ None
  pub many : n ≤ length v'.history
  pub end_is : next ≡ end_of_first v'.base v'.history n

-- The batch would end past the numbers, behind n batches, fewer than there may be and no fewer than the seat had seen published.
pub record ShowsExhausted (entries : List Entry) (next : ℕ) (v v' : SeatShown) : Type 0 where
  pub placed : ℕ
  pub shows : ShowsMany placed next v v'
  pub no_fewer : v.published ≤ placed
  pub few : placed < BATCHES_MAX
  pub over : NUMBER_MAX < next + count_of entries

-- The producer's seat has placed the batch behind all others, and holds none.
pub record Appends (batch : Batch) (v v' : SeatShown) : Type 0 where
  pub history : v'.history ≡ v.history ++ batch ∷ []
  pub base : v'.base ≡ v.base
  pub opening : v'.opening ≡ v.opening
  pub pieces : v'.pieces ≡ []
  pub own : v'.own ≡ v.own
  pub turn : v'.turn ≡ v.turn

-- what a try to number a batch does to the seat
abbrev pub Numbers : List Entry → SeatShown → Numbering → SeatShown → Type 0
Numbers entries v (case.Done first index) v' = HoldsNumbered (numbered entries first) index v v'
Numbers entries v (case.Busy back node) v' = SeatGoesOn v v' × (v'.held ≡ v.held) × (back ≡ entries) × (node ≡ None)
Numbers entries v (case.TooMany next) v' = ShowsMany BATCHES_MAX next v v'
Numbers entries v (case.Exhausted next) v' = ShowsExhausted entries next v v'

-- why it came to that, by what stood behind the commit lock as it was taken
abbrev pub CausesNumbering : List Entry → CommitView → Numbering → Type 0
CausesNumbering entries side (case.Done first index) = (side.placed < BATCHES_MAX) × (first ≡ side.next) × (index ≡ side.placed)
CausesNumbering entries side (case.Busy back _) = Unit {0}
CausesNumbering entries side (case.TooMany next) = (side.placed ≡ BATCHES_MAX) × (next ≡ side.next)
CausesNumbering entries side (case.Exhausted next) =
    (side.placed < BATCHES_MAX) × (next ≡ side.next) × (NUMBER_MAX < next + count_of entries)

-- the record of these entries, from this number on, to be synced or not
abbrev pub record_of : List Entry → ℕ → Bool → Filled
record_of entries first sync = record { rec = numbered entries first; sync = sync }

-- A batch that is numbered was sent on its way to the journal after all others, with its wish for a sync; else nothing was.
abbrev pub SendsWhereNumbered : List Entry → Bool → CommitView → CommitView → Numbering → Type 0
SendsWhereNumbered entries sync old new (case.Done first index) = new.sent ≡ old.sent ++ record_of entries first sync ∷ []
SendsWhereNumbered entries sync old new _ = new ≡ old

-- The numbers are used up behind this one, or the batch comes back.
abbrev pub IsExhausted : ℕ → Numbering → Type 0
IsExhausted next (case.Exhausted told) = told ≡ next
IsExhausted next (case.Busy back _) = Unit {0}
IsExhausted next _ = ⊥

-- so many batches more are the session's own
abbrev pub added : Numbering → ℕ
added (case.Done first index) = 1
added _ = 0
