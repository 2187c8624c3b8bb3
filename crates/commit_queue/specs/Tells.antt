-- What each step tells, of the view before, the word found and the view after (docs/formats/ring.md, "The ring").
use Rattle.std.specs.Prelude.{◌≡◌, ◌≢◌, ℕ, suc, ◌+◌, ◌-◌, ◌*◌, ◌/◌, ◌%◌, ◌<◌, ◌≤◌, List, ◌∷◌, length, Some, Contains}
use Rattle.atomic_table.specs.Table.{Me, Step, rest}
use Rattle.batch_repr.specs.declared.batch.Batch.{Batch}
use Rattle.batch_repr.specs.declared.limits.TheConstants.{BATCHES_MAX}
use Rattle.batch_repr.specs.Batches.{IsContiguous}
use Rattle.memtable_shards.specs.Versions.{Version}
use Rattle.publish_core.specs.declared.seat.Claim.TheVariants.{Taken, Emptied}
use Rattle.publish_core.specs.declared.seat.Kind.TheVariants.{Producer}
use Rattle.publish_core.specs.declared.seat.Reading.{Reading}
use mathlib.Core.Option.{some}
use lib.ListN.{get_elem?}
use Rattle.wal_base.specs.Prefixes.{IsPrefixOf}
use Rattle.publish_core.specs.Machine.{ends}
use Rattle.commit_queue.specs.declared.view.View.{View}
use Rattle.commit_queue.specs.declared.layout.TheConstants.{RING_FROM, TURNS_FROM, HALF}
use Rattle.commit_queue.specs.Rule.{Slot, numbers}
use Rattle.commit_queue.specs.Views.{read_view, placed_view, admitted_view, marked_view, ends_view, lost_view, won_view}
use Rattle.commit_queue.specs.Views.{emptied_view, raised_view, visible_view, settled_view, raising_view, acked_view}
use Rattle.commit_queue.specs.Views.{taking_view, busy_view, given_view, applied_view}
use Rattle.commit_queue.specs.Shards.{HasVersions, AreApplied, ShowsBelow, LacksPiece}

-- a view, and the slots that are out with the seat
abbrev pub Seated : Type 0
Seated = Me Slot View

-- the head in a word of both ends
abbrev pub high : ℕ → ℕ
high r = r / HALF

-- the tail in a word of both ends
abbrev pub low : ℕ → ℕ
low r = r % HALF

-- The history grew to h, which reaches to n. The producer's does not grow: it is whole.
abbrev pub Grew : View → List Batch → ℕ → Type 0
Grew v h n = IsPrefixOf v.history h × (n ≤ length h) × (v.seat.kind ≡ Producer → h ≡ v.history)

-- Each batch that ends at or below r is among the first n.
abbrev pub ReachesTo : ℕ → List Batch → ℕ → ℕ → Type 0
ReachesTo base h n r = (k : ℕ) → k ≤ length h → ends numbers base h k ≤ r → k ≤ n

-- Of the batches that end at or above r, none comes before the first n: where r is their end, n are the fewest that end there.
abbrev pub TopsAt : ℕ → List Batch → ℕ → ℕ → Type 0
TopsAt base h n r = (k : ℕ) → k ≤ length h → r ≤ ends numbers base h k → n ≤ k

-- A ring slot was read.
abbrev pub TellsSlot : Step Slot → Seated → ℕ → Seated → Type 0
TellsSlot st m r m' = (m'.1 ≡ m.1) × (m'.0 ≡ read_view m.0 (st.word - RING_FROM) r)

-- The batch b was placed.
abbrev pub TellsPlaced : Batch → Step Slot → Seated → ℕ → Seated → Type 0
TellsPlaced b st m r m' = (m'.1 ≡ m.1) × (m'.0 ≡ placed_view m.0 b)

-- Head was raised.
abbrev pub TellsAdmitted : Step Slot → Seated → ℕ → Seated → Type 0
TellsAdmitted st m r m' = (m'.1 ≡ m.1) × (m'.0 ≡ admitted_view m.0)

-- The batch that the seat held was marked.
abbrev pub TellsMarked : Step Slot → Seated → ℕ → Seated → Type 0
TellsMarked st m r m' = (m'.1 ≡ m.1) × ((i : ℕ) → m.0.seat.held ≡ Some i → m'.0 ≡ marked_view m.0 i)

-- Head and tail were read.
abbrev pub TellsEnds : Step Slot → Seated → ℕ → Seated → Type 0
TellsEnds st m r m' = (m'.1 ≡ m.1) × (m'.0 ≡ ends_view m.0 (high r) (low r)) × (low r ≤ high r)

-- The front was claimed, where the ends were still those that were loaded, and else these ends were read.
abbrev pub TellsClaim : Step Slot → Seated → ℕ → Seated → Type 0
TellsClaim st m r m' = (m'.1 ≡ m.1)
    × (r ≡ st.first → (h : List Batch) × (m'.0 ≡ won_view m.0 (low r) h) × Grew m.0 h (suc (low r))
    × ((q : Reading) → m.0.seat.reading ≡ Some q → q.word ≡ 2 * ends numbers m.0.base h (suc (low r)) + 1))
    × (r ≢ st.first → m'.0 ≡ lost_view m.0 (high r) (low r))

-- The slot of the claimed batch was emptied.
abbrev pub TellsEmptied : Step Slot → Seated → ℕ → Seated → Type 0
TellsEmptied st m r m' = (m'.1 ≡ m.1) × ((t : ℕ) → m.0.seat.claim ≡ Taken t → m'.0 ≡ emptied_view m.0 t)

-- The visible number was raised: n batches are published.
abbrev pub TellsRaised : Step Slot → Seated → ℕ → Seated → Type 0
TellsRaised st m r m' = (m'.1 ≡ m.1)
    × ((n : ℕ) × (h : List Batch) × (m'.0 ≡ raised_view m.0 n h) × Grew m.0 h n × (m.0.seat.published ≤ n)
    × ((t : ℕ) → m.0.seat.claim ≡ Emptied t → suc t ≤ n))

-- The visible number r was read: it is the end of the first batches of the history, so many. The history goes on from
-- what was seen, and their count is no less than what was seen published.
pub record SeesVisible (v : View) (r : ℕ) (v' : View) : Type 0 where
  pub count : ℕ
  pub history : List Batch
  pub view : v' ≡ visible_view v count history
  pub grew : Grew v history count
  pub published : v.seat.published ≤ count
  pub end_is : r ≡ ends numbers v.base history count
  pub reaches : ReachesTo v.base history count r
  pub tops : TopsAt v.base history count r
  pub few : length history ≤ BATCHES_MAX
  -- each batch begins where the one before it ends, the first one at the table's first number
  pub row : IsContiguous v.base history

abbrev pub TellsVisible : Step Slot → Seated → ℕ → Seated → Type 0
TellsVisible st m r m' = (m'.1 ≡ m.1) × SeesVisible m.0 r m'.0

-- The acked word was raised, from what the flush seat had raised it to.
abbrev pub TellsAckedRaised : Step Slot → Seated → ℕ → Seated → Type 0
TellsAckedRaised st m r m' = (m'.1 ≡ m.1) × (m'.0 ≡ raising_view m.0 st.first) × (r ≡ m.0.acked_known.raised)

-- The acked word was read.
abbrev pub TellsAcked : Step Slot → Seated → ℕ → Seated → Type 0
TellsAcked st m r m' = (m'.1 ≡ m.1) × (m'.0 ≡ acked_view m.0 r) × (m.0.seat.acked ≤ r)

-- What holds of the view v of a seat that took in another, by the rule, where h are the batches of the table.
pub record IsSettledBy (v : View) (h : List Batch) : Type 0 where
  pub goes_on : IsPrefixOf v.history h
  pub has_absorbed : IsPrefixOf v.absorbed h
  pub same_base : v.absorbed_base ≡ v.base
  pub within : v.seat.seen ≤ length h
  pub published_within : v.seat.published ≤ length h
  -- the batch that the seat holds is not among those that it has seen published
  pub behind : (i : ℕ) → v.seat.held ≡ Some i → v.seat.published ≤ i
  pub retired : (n : ℕ) → v.acked_known.retired ≡ Some n → v.seat.acked ≤ n
  pub whole : v.seat.kind ≡ Producer → h ≡ v.history
  -- where its own batches are as many as there are, it has them all
  pub all : length h ≤ length v.seat.own → (i : ℕ) → i < length h → Contains v.seat.own i

-- Head and tail were read, and the history is now that of both seats.
abbrev pub TellsSettled : Step Slot → Seated → ℕ → Seated → Type 0
TellsSettled st m r m' = (m'.1 ≡ m.1)
    × ((h : List Batch) × (m'.0 ≡ settled_view (ends_view m.0 (high r) (low r)) h) × IsSettledBy m.0 h)

-- The seat has the turn on the shard k, with these versions. They are those of the opening and of the batches applied there,
-- among them each that the seat has seen published; and the batch that it holds is not among them, unless it applied it there.
pub record TakesShard (v : View) (k : ℕ) (versions : List Version) (v' : View) : Type 0 where
  pub view : v' ≡ taking_view v k versions
  pub batches : List Batch
  pub done : List ℕ
  pub goes_on : IsPrefixOf v.history batches
  pub has : HasVersions v.opening batches done k versions
  pub covers : AreApplied v.history v.seat.published done k
  pub below : ShowsBelow v.opening v.history v.seat.published (ends numbers v.base v.history v.seat.published) k versions
  pub lacks : (i : ℕ) (b : Batch) → v.seat.held ≡ Some i → get_elem? v.history i ≡ some b → (Contains v.pieces k → ⊥) → LacksPiece b k versions

-- The shard was taken, with these versions; or it was found taken.
abbrev pub TellsTaken : Step Slot → Seated → ℕ → Seated → Type 0
TellsTaken st m r m' = let k = st.word - TURNS_FROM in
    (r ≡ 0 → (x : List Version) × (m'.1 ≡ (k, Some x) ∷ m.1) × TakesShard m.0 k x m'.0)
    × (r ≢ 0 → (m'.1 ≡ m.1) × (m'.0 ≡ busy_view m.0))

-- The shard was given back as it was.
abbrev pub TellsGiven : Step Slot → Seated → ℕ → Seated → Type 0
TellsGiven st m r m' = (m'.1 ≡ rest m.1) × (m'.0 ≡ given_view m.0)

-- The shard was given back, with the batch applied that the seat holds.
abbrev pub TellsApplied : Step Slot → Seated → ℕ → Seated → Type 0
TellsApplied st m r m' = (m'.1 ≡ rest m.1) × ((i : ℕ) → m.0.seat.held ≡ Some i → m'.0 ≡ applied_view m.0 i (st.word - TURNS_FROM))
