-- What a kept machine stands for (docs/formats/ring.md, "The ring").
use Rattle.std.specs.Prelude.{[], map, reverse, length, slice_index_or, vec_items}
use Rattle.publish_core.specs.declared.seat.BatchShape.{BatchShape}
use Rattle.publish_core.specs.declared.seat.SeatState.{SeatState}
use Rattle.publish_core.specs.declared.seat.Stage.TheVariants.{Out}
use Rattle.publish_core.specs.declared.state.KeptState.{KeptState}
use Rattle.publish_core.specs.declared.state.KeptSeat.{KeptSeat}
use Rattle.publish_core.specs.Machine.{CoreState, nobody}

-- the seat that a kept seat stands for: the lists that it keeps are read newest first
abbrev pub seat_of : KeptSeat → SeatState
seat_of d =
    record {
      kind = d.kind;
      held = d.held;
      seen = d.seen;
      published = d.published;
      acked = d.acked;
      loaded = d.loaded;
      reading = d.reading;
      claim = d.claim;
      turn = d.turn;
      knows = reverse d.knows.items;
      own = reverse d.own.items;
      counts = d.counts;
    }

-- the state that a kept state stands for: past its lists nothing is done, and no seat is made
abbrev pub kept_state : KeptState → CoreState BatchShape
kept_state c =
    record {
      base = c.base;
      batches = c.batches.items;
      head = c.head;
      tail = c.tail;
      published = c.published;
      acked = c.acked;
      stage = λ i. slice_index_or c.stages.items i Out;
      owner = λ i. slice_index_or c.owners.items i 0;
      done = λ k. reverse (slice_index_or (map vec_items c.done.items) k []);
      ring = λ k. slice_index_or c.ring.items k 0;
      turn = λ k. slice_index_or c.turns.items k 0;
      made = length c.seats.items;
      seats = λ j. slice_index_or (map seat_of c.seats.items) j nobody;
    }
