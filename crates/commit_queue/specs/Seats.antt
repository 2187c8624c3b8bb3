-- What is seen of each kind of seat: the table that it is of, and what it knows (docs/formats/ring.md, "The ring").
use Rattle.std.specs.Prelude.{◌≡◌, ℕ, List, All, length}
use Rattle.atomic_table.specs.Seated.{TableId}
use Rattle.memtable_shards.specs.Versions.{Version}
use Rattle.commit_queue.specs.declared.pipe_table.PipeTable.{PipeTable}
use Rattle.commit_queue.specs.declared.seats.ProducerSeat.{ProducerSeat}
use Rattle.commit_queue.specs.declared.seats.SessionSeat.{SessionSeat}
use Rattle.commit_queue.specs.declared.seats.Handed.{Handed}
use Rattle.commit_queue.specs.declared.seats.FlushSeat.{FlushSeat}
use Rattle.commit_queue.specs.declared.view.View.{View}
use Rattle.commit_queue.specs.Tables.{IsOfTable}
use Rattle.commit_queue.specs.Views.{first_view, opened_view, flush_view, without_batch, handed_view}
use Rattle.commit_queue.specs.Calls.{SeesBoth, ViewGoesOn}
use Rattle.commit_queue.specs.Shown.{new_session_view, HasFreeHands, shown_by}

abbrev pub producer_table : ProducerSeat → TableId
producer_table p = p.seat.table_id

-- what the producer's seat knows
abbrev pub producer_view : ProducerSeat → View
producer_view p = p.seat.me.0

abbrev pub session_table : SessionSeat → TableId
session_table s = s.seat.table_id

-- what a session's seat knows
abbrev pub session_view : SessionSeat → View
session_view s = s.seat.me.0

abbrev pub note_table : Handed → TableId
note_table h = h.seat.table_id

-- what a batch on its way tells
abbrev pub note_view : Handed → View
note_view h = h.seat.me.0

abbrev pub flush_table : FlushSeat → TableId
flush_table f = f.seat.table_id

-- what the flush seat knows
abbrev pub flush_seat_view : FlushSeat → View
flush_seat_view f = f.seat.me.0

-- The seat holds no batch and has no turn.
abbrev pub HoldsNothing : View → Type 0
HoldsNothing v = HasFreeHands (shown_by v)

-- The producer's seat of a new table.
abbrev pub IsNewProducer : PipeTable → ℕ → List (List Version) → ProducerSeat → Type 0
IsNewProducer table base opening p = IsOfTable table (producer_table p) × (producer_view p ≡ opened_view base opening)

-- The flush seat of a new table.
abbrev pub IsNewFlush : PipeTable → ℕ → List (List Version) → FlushSeat → Type 0
IsNewFlush table base opening f = IsOfTable table (flush_table f) × (flush_seat_view f ≡ flush_view (first_view base opening))

-- A session's seat of a new table.
abbrev pub IsNewSession : PipeTable → ℕ → List (List Version) → SessionSeat → Type 0
IsNewSession table base opening s = IsOfTable table (session_table s) × (session_view s ≡ new_session_view base opening)

-- So many seats of new sessions.
pub record AreNewSessions (table : PipeTable) (base : ℕ) (opening : List (List Version)) (count : ℕ) (seats : List SessionSeat) : Type 0 where
  pub all : length seats ≡ count
  pub each : All (IsNewSession table base opening) seats

-- The batch went from the producer's seat to the note.
pub record HandsOver (p : ProducerSeat) (h : Handed) (p' : ProducerSeat) : Type 0 where
  pub left : producer_view p' ≡ without_batch (producer_view p)
  pub table : note_table h ≡ producer_table p
  pub note : note_view h ≡ handed_view (producer_view p)

-- The first session, which met the second one, has seen all that both had seen.
abbrev pub HasMet : SessionSeat → SessionSeat → SessionSeat → Type 0
HasMet a b a' = SeesBoth (session_view a) (session_view b) (session_view a')

-- The session has seen no less than before, and what it holds and owns is the same.
abbrev pub HasSeenNoLess : SessionSeat → SessionSeat → Type 0
HasSeenNoLess a a' = ViewGoesOn (session_view a) (session_view a')
