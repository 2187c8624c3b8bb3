-- What a seat knows after each kind of step (docs/formats/ring.md, "The ring").
use Rattle.std.specs.Prelude.{◌≡◌, ℕ, suc, ◌+◌, max, List, [], ◌∷◌, ◌++◌, length, Some, None, false, true, cond}
use Rattle.batch_repr.specs.declared.batch.Batch.{Batch}
use Rattle.memtable_shards.specs.Versions.{Version}
use Rattle.publish_core.specs.declared.seat.Claim.TheVariants.{Free, Taken, Emptied}
use Rattle.publish_core.specs.declared.seat.Kind.{Kind}
use Rattle.publish_core.specs.declared.seat.Kind.TheVariants.{Note, Worker, Producer}
use Rattle.publish_core.specs.declared.seat.SeatState.{SeatState}
use Rattle.publish_core.specs.Machine.{one_more, shown_seat, joined, nobody, no_counts}
use Rattle.commit_queue.specs.declared.view.AckedKnown.{AckedKnown}
use Rattle.commit_queue.specs.declared.view.View.{View}

-- nothing is known of the acked word
abbrev pub no_acked : AckedKnown
no_acked = record { is_flush = false; raised = 0; retired = None; alone = false }

-- the producer's seat, while there is no other
abbrev pub first_view : ℕ → List (List Version) → View
first_view base opening =
    record {
      seat = record nobody { kind = Producer };
      base = base;
      opening = opening;
      head = 0;
      history = [];
      absorbed = [];
      absorbed_base = base;
      acked_known = record no_acked { alone = true };
      taken = [];
      pieces = [];
    }

-- the producer's seat of a new table
abbrev pub opened_view : ℕ → List (List Version) → View
opened_view base opening = record (first_view base opening) { acked_known = no_acked }

-- The producer's seat knows what that of a new table knows.
abbrev pub IsJustOpened : View → Type 0
IsJustOpened v = v ≡ opened_view v.base v.opening

-- the seat has read the word w in the ring slot `at`
abbrev pub read_seat : SeatState → ℕ → ℕ → SeatState
read_seat d at w = record d { reading = Some record { at = at; word = w }; counts = record d.counts { slots = one_more d.counts.slots } }

abbrev pub read_view : View → ℕ → ℕ → View
read_view v at w = record v { seat = read_seat v.seat at w }

-- the seat has placed the batch after its history, and holds it
abbrev pub placed_view : View → Batch → View
placed_view v b =
    let i = length v.history in record v {
      seat = record v.seat { held = Some i; reading = None; seen = suc i };
      history = v.history ++ b ∷ [];
      pieces = [];
    }

-- head is one higher
abbrev pub admitted_view : View → View
admitted_view v = record v { head = v.head + 1 }

-- the batch i is marked, and the seat no longer holds it: it is one of its own
abbrev pub marked_view : View → ℕ → View
marked_view v i = record v { seat = record v.seat { held = None; own = i ∷ v.seat.own }; pieces = [] }

-- the seat has loaded head and tail
abbrev pub ends_view : View → ℕ → ℕ → View
ends_view v h t =
    record v {
      seat = record v.seat {
        loaded = Some record { head = h; tail = t };
        reading = None;
        counts = record v.seat.counts { ends = one_more v.seat.counts.ends };
      };
    }

-- the seat lost a claim, and has loaded the ends that it found
abbrev pub lost_view : View → ℕ → ℕ → View
lost_view v h t =
    record v {
      seat = record v.seat {
        loaded = Some record { head = h; tail = t };
        reading = None;
        counts = record v.seat.counts { lost = one_more v.seat.counts.lost };
      };
    }

-- the seat claims the batch t, and its history is now h
abbrev pub won_view : View → ℕ → List Batch → View
won_view v t h =
    record v { seat = record v.seat { loaded = None; reading = None; claim = Taken t; seen = max v.seat.seen (suc t) }; history = h }

-- the slot of the batch t, which the seat claims, is emptied
abbrev pub emptied_view : View → ℕ → View
emptied_view v t = record v { seat = record v.seat { claim = Emptied t } }

-- the seat claims nothing, has seen n batches published, and its history is now h
abbrev pub raised_view : View → ℕ → List Batch → View
raised_view v n h = record v { seat = record v.seat { claim = Free; published = n; seen = max v.seat.seen n }; history = h }

-- the seat has loaded the visible number: n batches are published, and its history is now h
abbrev pub visible_view : View → ℕ → List Batch → View
visible_view v n h =
    record v {
      seat = record v.seat {
        published = n;
        seen = max v.seat.seen n;
        counts = record v.seat.counts { visibles = one_more v.seat.counts.visibles };
      };
      history = h;
    }

-- the flush seat has raised the acked word to n, or had raised it further
abbrev pub raising_view : View → ℕ → View
raising_view v n = record v { acked_known = record v.acked_known { raised = max v.acked_known.raised n } }

-- the seat has loaded the acked word
abbrev pub acked_view : View → ℕ → View
acked_view v n = record v { seat = record v.seat { acked = n; counts = record v.seat.counts { ackeds = one_more v.seat.counts.ackeds } } }

-- another seat was made
abbrev pub later : AckedKnown → AckedKnown
later k = record k { alone = false }

-- a seat from which a note, or a new seat, was split off
abbrev pub telling_view : View → View
telling_view v = record v { acked_known = later v.acked_known }

-- a new seat that is shown what v has seen
abbrev pub shown_view : Kind → View → View
shown_view k v = record v { seat = shown_seat v.seat k None; acked_known = no_acked; pieces = [] }

-- the new flush seat
abbrev pub flush_view : View → View
flush_view v = record v { seat = shown_seat v.seat Worker None; acked_known = record no_acked { is_flush = true }; pieces = [] }

-- the producer's view once it has handed its batch over
abbrev pub without_batch : View → View
without_batch v = record v { seat = record v.seat { held = None }; acked_known = later v.acked_known; pieces = [] }

-- the note that has the batch, with what is applied of it
abbrev pub handed_view : View → View
handed_view v = record v { seat = shown_seat v.seat Note v.seat.held; acked_known = no_acked }

-- what a seat knows of the acked word, once it has taken in a seat that knew this
abbrev pub told_acked : AckedKnown → AckedKnown → AckedKnown
told_acked k m = record k { retired = cond m.is_flush (Some m.raised) None }

-- the seat has taken in another, and keeps that one's history beside its own
abbrev pub joined_view : View → View → View
joined_view v w =
    record {
      seat = joined v.seat w.seat;
      base = v.base;
      opening = v.opening;
      head = v.head;
      history = v.history;
      absorbed = w.history;
      absorbed_base = w.base;
      acked_known = told_acked v.acked_known w.acked_known;
      taken = v.taken;
      pieces = v.pieces ++ w.pieces;
    }

-- a seat that was taken in
abbrev pub spent_view : View
spent_view =
    record {
      seat = nobody;
      base = 0;
      opening = [];
      head = 0;
      history = [];
      absorbed = [];
      absorbed_base = 0;
      acked_known = no_acked;
      taken = [];
      pieces = [];
    }

-- the history of the seat, which took in another, is now h
abbrev pub settled_view : View → List Batch → View
settled_view v h = record v { history = h; absorbed = [] }

-- the seat has the turn on the shard k, which had these versions as it was taken
abbrev pub taking_view : View → ℕ → List Version → View
taking_view v k versions = record v { seat = record v.seat { turn = Some k }; taken = versions }

-- the seat found a shard taken
abbrev pub busy_view : View → View
busy_view v = record v { seat = record v.seat { counts = record v.seat.counts { busy = one_more v.seat.counts.busy } } }

-- the seat has ended its turn
abbrev pub given_view : View → View
given_view v = record v { seat = record v.seat { turn = None } }

-- the seat has ended its turn on the shard k, and applied the batch i there
abbrev pub applied_view : View → ℕ → ℕ → View
applied_view v i k =
    record v {
      seat = record v.seat { turn = None; knows = record { batch = i; shard = k } ∷ v.seat.knows };
      pieces = k ∷ v.pieces;
    }

-- the view but for what turns change
abbrev pub but_turns : View → View
but_turns v = record v { seat = record v.seat { turn = None; knows = []; counts = no_counts }; taken = []; pieces = [] }
