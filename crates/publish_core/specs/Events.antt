-- The events as a caller writes them (docs/formats/ring.md, "The events of the ring").
use Rattle.publish_core.specs.declared.events.CoreEvent.{CoreEvent}
use Rattle.publish_core.specs.declared.events.CoreEvent.TheVariants.{LoadSlot, Place, Admit, LoadEnds, Split, Join, Mark, Claim, EmptySlot, RaiseVisible, LoadVisible, RaiseAcked, LoadAcked, TakeShard, GiveShard}
use Rattle.publish_core.specs.declared.seat.BatchShape.{BatchShape}
use Rattle.publish_core.specs.Machine.{Event, load_slot, place, admit, load_ends, mark, claim, empty_slot, raise_visible, load_visible, raise_acked, load_acked, split, join, take_shard, give_shard}

-- the machine's event of that name, with the same numbers
abbrev pub event_of : CoreEvent → Event BatchShape
event_of (LoadSlot seat at) = load_slot seat at
event_of (Place count shards) = place record { count = count; shards = shards }
event_of Admit = admit
event_of (LoadEnds seat) = load_ends seat
event_of (Split from note) = split from note
event_of (Join into note) = join into note
event_of (Mark seat) = mark seat
event_of (Claim seat) = claim seat
event_of (EmptySlot seat) = empty_slot seat
event_of (RaiseVisible seat) = raise_visible seat
event_of (LoadVisible seat) = load_visible seat
event_of (RaiseAcked to) = raise_acked to
event_of (LoadAcked seat) = load_acked seat
event_of (TakeShard seat shard) = take_shard seat shard
event_of (GiveShard seat apply) = give_shard seat apply
