-- The rule of the table: its words, the shards at home and all views are one sound state of the ring's machine (docs/formats/ring.md, "The ring").
use Rattle.std.specs.Prelude.{◌≡◌, ◌≢◌, ℕ, zero, suc, ◌+◌, ◌*◌, ◌<◌, ◌≤◌, List, [], length, Option, Some, None, slice_index, true}
use mathlib.Core.Option.{some}
use mathlib.Core.Option as maybe
use lib.ListN.{get_elem?}
use Rattle.atomic_table.specs.Table as table
use Rattle.wal_base.specs.Prefixes.{IsPrefixOf}
use Rattle.batch_repr.specs.declared.batch.Batch.{Batch}
use Rattle.batch_repr.specs.declared.limits.TheConstants.{BATCHES_MAX}
use Rattle.batch_repr.specs.Batches.{count_of}
use Rattle.memtable_shards.specs.declared.sharding.TheConstants.{SHARDS}
use Rattle.memtable_shards.specs.Versions.{Version}
use Rattle.memtable_shards.specs.Versions.{touches}
use Rattle.publish_core.specs.declared.seat.Kind.TheVariants.{Producer, Spent}
use Rattle.publish_core.specs.declared.state.TheConstants.{SLOTS, END_LIMIT}
use Rattle.publish_core.specs.Machine.{Among, CoreState, ends, visible}
use Rattle.publish_core.specs.Sound.{Sound}
use Rattle.commit_queue.specs.declared.view.AckedKnown.{AckedKnown}
use Rattle.commit_queue.specs.declared.view.View.{View}
use Rattle.commit_queue.specs.declared.pipe_table.TableOpening.{TableOpening}
use Rattle.commit_queue.specs.declared.layout.TheConstants.{ENDS, VISIBLE, ACKED, RING_FROM, TURNS_FROM, WORDS, HALF}
use Rattle.commit_queue.specs.Shards.{HasVersions, NumberedBelow}

-- a state of the ring's machine, over batches as they are written
abbrev pub RingState : Type 0
RingState = CoreState Batch

-- what a slot of the table holds: a shard, or nothing
abbrev pub Slot : Type 0
Slot = Option (List Version)

-- the table as plain data
abbrev pub TableState : Type 0
TableState = table.State Slot View

-- how many numbers a batch takes
abbrev pub numbers : Batch → ℕ
numbers batch = count_of batch.entries

-- The state of the machine is sound.
abbrev pub IsSoundRing : RingState → Type 0
IsSoundRing = Sound numbers touches

-- the word of a shard: 1 where a seat has the turn
abbrev pub turn_word : ℕ → ℕ
turn_word zero = 0
turn_word (suc j) = 1

-- The words show this state of the machine.
pub record Shows (c : RingState) (words : List ℕ) : Type 0 where
  pub wide : length words ≡ WORDS
  pub ends_word : slice_index words ENDS ≡ c.head * HALF + c.tail
  pub visible_word : slice_index words VISIBLE ≡ visible numbers c
  pub acked_word : slice_index words ACKED ≡ c.acked
  pub ring_word : (k : ℕ) → k < SLOTS → slice_index words (k + RING_FROM) ≡ c.ring k
  pub shard_word : (k : ℕ) → k < SHARDS → slice_index words (k + TURNS_FROM) ≡ turn_word (c.turn k)

-- What the seat j knows of the acked word holds: acked and made are the machine's, seen is what it has seen acked.
pub record AckedKnownOk (acked made j seen : ℕ) (k : AckedKnown) : Type 0 where
  pub raised : k.is_flush ≡ true → (j ≡ 1) × (k.raised ≡ acked)
  pub retired : (n : ℕ) → k.retired ≡ Some n → seen ≤ n
  pub alone : k.alone ≡ true → (made ≡ 1) × (acked ≡ 0)

-- The shards where the batch that the seat holds is applied are those of the view, and the seat knows of each.
abbrev pub PiecesOk : RingState → View → Type 0
PiecesOk c v = (i k : ℕ) → v.seat.held ≡ Some i
    → (Among i (c.done k) → Among k v.pieces) × (Among k v.pieces → Among (record { batch = i; shard = k }) v.seat.knows)

-- The view v of the seat j holds.
pub record ViewOk (opening : List (List Version)) (c : RingState) (j : ℕ) (v : View) : Type 0 where
  pub seat : c.seats j ≡ v.seat
  pub base : v.seat.kind ≢ Spent → (v.base ≡ c.base) × (v.absorbed_base ≡ c.base) × (v.opening ≡ opening)
  pub known : IsPrefixOf v.history c.batches
  pub absorbed : IsPrefixOf v.absorbed c.batches
  pub seen : v.absorbed ≡ [] → v.seat.seen ≤ length v.history
  pub producer : v.seat.kind ≡ Producer → j ≡ 0
  pub whole : j ≡ 0 → v.history ≡ c.batches
  pub head : j ≡ 0 → v.head ≡ c.head
  pub turn : (k : ℕ) → v.seat.turn ≡ Some k → HasVersions opening c.batches (c.done k) k v.taken
  pub pieces : PiecesOk c v
  pub idle : v.seat.held ≡ None → v.pieces ≡ []
  pub acked_known : AckedKnownOk c.acked c.made j v.seat.acked v.acked_known

-- The shard k is at home, with the versions of the opening and of what is applied there.
abbrev pub AtHome : List (List Version) → RingState → List (maybe.Option Slot) → ℕ → Type 0
AtHome opening c homes k = (x : List Version) × (get_elem? homes k ≡ some (some (Some x))) × HasVersions opening c.batches (c.done k) k x

-- The table is one sound state of the machine.
pub record Linked (o : TableOpening) (s : TableState) : Type 0 where
  pub core : RingState
  pub sound : IsSoundRing core
  pub base_is : core.base ≡ o.base
  pub below : NumberedBelow o.base o.shards.value
  pub few : length core.batches ≤ BATCHES_MAX
  pub small : (i : ℕ) → i < length core.batches → ends numbers core.base core.batches (suc i) < END_LIMIT
  pub first : (i : ℕ) (b : Batch) → get_elem? core.batches i ≡ some b → b.first ≡ ends numbers core.base core.batches i
  pub shows : Shows core s.words
  pub made : length s.views ≡ core.made
  pub each_view : (j : ℕ) (v : View) → get_elem? s.views j ≡ some v → ViewOk o.shards.value core j v
  pub homes : (k : ℕ) → k < SHARDS → core.turn k ≡ 0 → AtHome o.shards.value core s.homes k
