-- What a seat shows to the crates above, which know nothing of the machine (docs/formats/ring.md, "The ring").
use Rattle.std.specs.Prelude.{◌≡◌, ℕ, ◌≤◌, List, Option, None}
use Rattle.batch_repr.specs.declared.batch.Batch.{Batch}
use Rattle.memtable_shards.specs.Versions.{Version}
use Rattle.publish_core.specs.declared.seat.Kind.TheVariants.{Note, Worker}
use Rattle.publish_core.specs.Machine.{ends, one_more}
use Rattle.commit_queue.specs.declared.seats.SessionSeat.{SessionSeat}
use Rattle.commit_queue.specs.declared.view.View.{View}
use Rattle.commit_queue.specs.Rule.{numbers}
use Rattle.commit_queue.specs.Views.{opened_view, shown_view}

-- what is shown of a seat: the batches that it has seen, so many of them seen published and so many acked, the places of its own
-- ones, and what it holds now: a batch, the turn on a shard, and the shards where that batch is applied
pub record SeatShown : Type 0 where
  pub base : ℕ
  pub opening : List (List Version)
  pub history : List Batch
  pub published : ℕ
  pub acked : ℕ
  pub own : List ℕ
  pub held : Option ℕ
  pub turn : Option ℕ
  pub pieces : List ℕ

abbrev pub shown_by : View → SeatShown
shown_by v =
    record {
      base = v.base;
      opening = v.opening;
      history = v.history;
      published = v.seat.published;
      acked = v.seat.acked;
      own = v.seat.own;
      held = v.seat.held;
      turn = v.seat.turn;
      pieces = v.pieces;
    }

-- what is shown of a session's seat
abbrev pub session_shown : SessionSeat → SeatShown
session_shown s = shown_by s.seat.me.0

-- The seat holds no batch and has no turn.
abbrev pub HasFreeHands : SeatShown → Type 0
HasFreeHands s = (s.held ≡ None) × (s.turn ≡ None)

-- the end of the first n of these batches, of which the first one begins at the base
abbrev pub end_of_first : ℕ → List Batch → ℕ → ℕ
end_of_first base batches n = ends numbers base batches n

-- what a note tells of what a seat has seen
abbrev pub told_view : View → View
told_view v = shown_view Note v

-- what the seat of a new table's session knows
abbrev pub new_session_view : ℕ → List (List Version) → View
new_session_view base opening = shown_view Worker (opened_view base opening)

-- The seat is a session's.
abbrev pub IsOfSession : View → Type 0
IsOfSession v = v.seat.kind ≡ Worker

-- The seat has looked at the ends of the ring once more, at least.
abbrev pub HasLookedSince : View → View → Type 0
HasLookedSince v v' = one_more v.seat.counts.ends ≤ v'.seat.counts.ends
