-- What the calls ask and answer, over what a seat knows before and after (docs/formats/ring.md, "The ring").
use Rattle.std.specs.Prelude.{◌≡◌, ◌≢◌, ◌⊎◌, ◌↔◌, ℕ, suc, ◌+◌, ◌*◌, ◌%◌, ◌<◌, ◌≤◌, min, max, Bool, true, false, IsTrue, List, [], ◌++◌, length, Some, None, unwrap_or, Contains}
use mathlib.Core.Option.{some}
use lib.ListN.{get_elem?}
use Rattle.wal_base.specs.Prefixes.{IsPrefixOf}
use Rattle.batch_repr.specs.declared.batch.Batch.{Batch}
use Rattle.batch_repr.specs.declared.limits.TheConstants.{BATCHES_MAX}
use Rattle.publish_core.specs.declared.seat.Claim.TheVariants.{Free}
use Rattle.publish_core.specs.declared.seat.Kind.TheVariants.{Producer}
use Rattle.publish_core.specs.Machine.{ends, both_held, held_or}
use Rattle.commit_queue.specs.declared.published.Published.{Published}
use Rattle.commit_queue.specs.declared.published.Published.TheVariants.{Raised, NotReady, Raced}
use Rattle.commit_queue.specs.declared.view.View.{View}
use Rattle.memtable_shards.specs.Versions.{Version}
use Rattle.memtable_shards.specs.Pieces.{PiecesLeft}
use Rattle.memtable_shards.specs.Versions.{piece_in, touches, Gains, HasSameVersions}
use Rattle.publish_core.specs.declared.state.TheConstants.{SLOTS}
use Rattle.commit_queue.specs.Rule.{numbers}
use Rattle.commit_queue.specs.Views.{read_view, marked_view, ends_view, lost_view, won_view, emptied_view, raised_view}
use Rattle.commit_queue.specs.Views.{raising_view, acked_view, told_acked, telling_view, settled_view}
use Rattle.commit_queue.specs.Views.{given_view, applied_view}
use Rattle.commit_queue.specs.Tells.{high, low, IsSettledBy}
use Rattle.commit_queue.specs.Shown.{told_view}

-- The slot at head was read, and was found free exactly where the word was 0.
abbrev pub ReadsHeadSlot : View → Bool → View → Type 0
ReadsHeadSlot v free v' = (word : ℕ) × (v' ≡ read_view v (v.head % SLOTS) word) × (IsTrue free ↔ (word ≡ 0))

-- the number that the next batch begins with: the end of the last one, or the table's first number
abbrev pub next_number : View → ℕ
next_number v = ends numbers v.base v.history (length v.history)

-- The slot at head was read last, as 0.
abbrev pub HasFreeSlot : View → Type 0
HasFreeSlot v = v.seat.reading ≡ Some record { at = v.head % SLOTS; word = 0 }

-- The slot at head was read last, as 0, and this is not forgotten; nothing is held; the batch follows the last one.
pub record CanPlace (v : View) (b : Batch) : Type 0 where
  pub empty : HasFreeSlot v
  pub idle : v.seat.held ≡ None
  pub follows : b.first ≡ next_number v
  pub few : length v.history < BATCHES_MAX

-- The producer's seat holds nothing, has admitted all that it placed, so many batches, and this number comes next.
pub record AwaitsBatch (v : View) (next placed : ℕ) : Type 0 where
  pub idle : v.seat.held ≡ None
  pub admitted : v.head ≡ placed
  pub placed_is : length v.history ≡ placed
  pub next_is : next ≡ next_number v

-- A batch is placed and not admitted.
abbrev pub HasPlaced : View → Type 0
HasPlaced v = length v.history ≡ v.head + 1

-- The seat holds a batch that is admitted. It has to be asked of the producer's seat alone: others hold no other batch.
pub record HoldsAdmitted (v : View) : Type 0 where
  pub index : ℕ
  pub holds : v.seat.held ≡ Some index
  pub admitted : v.seat.kind ≡ Producer → index < v.head

-- The batch i, which the seat holds, is applied in each shard where it leaves a version.
abbrev pub IsAppliedAll : View → ℕ → Type 0
IsAppliedAll v i = (b : Batch) (k : ℕ) → get_elem? v.history i ≡ some b → IsTrue (touches b k) → Contains v.pieces k

-- The seat holds a batch that is admitted, and applied in each shard where it leaves a version.
pub record CanMark (v : View) : Type 0 where
  pub holds : HoldsAdmitted v
  pub applied : IsAppliedAll v holds.index

-- The seat holds a batch, these are all its pieces, and none of them is applied.
pub record HoldsUnapplied (v : View) (pieces : PiecesLeft) : Type 0 where
  pub index : ℕ
  pub batch : Batch
  pub holds : v.seat.held ≡ Some index
  pub at : get_elem? v.history index ≡ some batch
  pub entries : pieces.entries ≡ batch.entries
  pub first : pieces.first ≡ Some batch.first
  pub all : pieces.from ≡ 0
  pub none : v.pieces ≡ []

-- the batch of these pieces, where they are numbered
abbrev pub batch_cut : PiecesLeft → Batch
batch_cut pieces = record { first = unwrap_or pieces.first 0; entries = pieces.entries }

-- The same as one fact, which a ghost field can keep.
pub record IsUnapplied (v : View) (pieces : PiecesLeft) : Type 0 where
  pub holds : v.seat.held ≡ Some (held_or 0 v.seat.held)
  pub at : get_elem? v.history (held_or 0 v.seat.held) ≡ some (batch_cut pieces)
  pub first : pieces.first ≡ Some (unwrap_or pieces.first 0)
  pub all : pieces.from ≡ 0
  pub none : v.pieces ≡ []

-- The batch that the seat held is marked.
abbrev pub MarksHeld : View → View → Type 0
MarksHeld v v' = (i : ℕ) → v.seat.held ≡ Some i → v' ≡ marked_view v i

-- the view once the ends and the front's slot are read
abbrev pub looked_view : View → ℕ → ℕ → ℕ → View
looked_view v h t w = read_view (ends_view v h t) (t % SLOTS) w

-- The batch i, which ends at e, was taken from the front, its slot emptied, and the visible number raised to at least e:
-- so many batches are published. The history grew once as the front was claimed, and again at the end.
pub record TriesRaised (v : View) (i e : ℕ) (v' : View) : Type 0 where
  pub head : ℕ
  pub claimed : List Batch
  pub count : ℕ
  pub history : List Batch
  pub view : v' ≡ raised_view (emptied_view (won_view (looked_view v head i (2 * e + 1)) i claimed) i) count history
  pub goes_on : IsPrefixOf v.history claimed
  pub goes_further : IsPrefixOf claimed history
  pub within : suc i ≤ length claimed
  pub end_is : e ≡ ends numbers v.base claimed (suc i)
  pub past : suc i ≤ count
  pub reached : count ≤ length history
  pub published : v.seat.published ≤ count
  pub whole : v.seat.kind ≡ Producer → history ≡ v.history

-- The front's slot was read as an even word; or head was tail, and no slot was read.
abbrev pub TriesNotReady : View → ℕ → ℕ → ℕ → View → Type 0
TriesNotReady v h t w v' = ((h ≡ t) × (w ≡ 0) × (v' ≡ ends_view v h t))
    ⊎ ((h ≢ t) × (w % 2 ≡ 0) × (v' ≡ looked_view v h t w))

-- The front's slot was read as an odd word, and then the exchange found other ends, h and t, than those that were read.
pub record TriesRaced (v : View) (h t : ℕ) (v' : View) : Type 0 where
  pub head : ℕ
  pub tail : ℕ
  pub word : ℕ
  pub odd : word % 2 ≡ 1
  pub other : (head ≢ h) ⊎ (tail ≢ t)
  pub view : v' ≡ lost_view (looked_view v head tail word) h t

-- what a call of `try_publish` answers
abbrev pub Tries : View → Published → View → Type 0
Tries v (Raised i e) v' = TriesRaised v i e v'
Tries v (NotReady h t w) v' = TriesNotReady v h t w v'
Tries v (Raced h t) v' = TriesRaced v h t v'

-- The acked number was read, and is no less than what was seen.
abbrev pub SeesAcked : View → ℕ → View → Type 0
SeesAcked v r v' = (v' ≡ acked_view v r) × (v.seat.acked ≤ r)

-- Head was read as h, and the acked word is at least r, the lesser of n and h.
abbrev pub RaisesAcked : View → ℕ → ℕ → View → Type 0
RaisesAcked v n r v' = (h t : ℕ) × (r ≡ min n h) × (v' ≡ raising_view (ends_view v h t) r)

-- Head and tail were read, and the history is now that of both seats.
abbrev pub SettlesView : View → View → Type 0
SettlesView v v' = (r : ℕ) × (h : List Batch) × (v' ≡ settled_view (ends_view v (high r) (low r)) h) × IsSettledBy v h

-- The seat of v has taken in that of w: it has seen what both had seen, and holds what either held.
pub record TakesIn (v w v' : View) : Type 0 where
  pub calm : v'.absorbed ≡ []
  pub goes_on : IsPrefixOf v.history v'.history
  pub has_both : IsPrefixOf w.history v'.history
  pub same_base : w.base ≡ v.base
  pub published : v'.seat.published ≡ max v.seat.published w.seat.published
  pub acked : v'.seat.acked ≡ max v.seat.acked w.seat.acked
  pub within : v'.seat.published ≤ length v'.history
  pub kind : v'.seat.kind ≡ v.seat.kind
  pub claim : v'.seat.claim ≡ v.seat.claim
  pub turn : v'.seat.turn ≡ v.seat.turn
  pub base : v'.base ≡ v.base
  pub knows : v'.seat.knows ≡ v.seat.knows ++ w.seat.knows
  pub opening : v'.opening ≡ v.opening
  pub taken : v'.taken ≡ v.taken
  pub pieces : v'.pieces ≡ v.pieces ++ w.pieces
  -- the batch that it holds is not among those that it has seen published
  pub behind : (i : ℕ) → v'.seat.held ≡ Some i → v'.seat.published ≤ i
  pub held : v'.seat.held ≡ both_held v.seat.held w.seat.held
  pub own : v'.seat.own ≡ v.seat.own ++ w.seat.own
  pub acked_known : v'.acked_known ≡ told_acked v.acked_known w.acked_known

-- The seat of v, which has met that of w, has seen what both had seen.
abbrev pub SeesBoth : View → View → View → Type 0
SeesBoth v w v' = TakesIn (telling_view v) (told_view w) v'

-- What a call that publishes or reads leaves of a view, and a meeting for which there was no memory.
pub record ViewGoesOn (v v' : View) : Type 0 where
  pub kind : v'.seat.kind ≡ v.seat.kind
  pub absorbed : v'.absorbed ≡ v.absorbed
  pub claim : v.seat.claim ≡ Free → v'.seat.claim ≡ Free
  pub held : v'.seat.held ≡ v.seat.held
  pub own : v'.seat.own ≡ v.seat.own
  pub knows : v'.seat.knows ≡ v.seat.knows
  pub pieces : v'.pieces ≡ v.pieces
  pub turn : v'.seat.turn ≡ v.seat.turn
  pub taken : v'.taken ≡ v.taken
  pub base : v'.base ≡ v.base
  pub opening : v'.opening ≡ v.opening
  pub head : v'.head ≡ v.head
  pub history : IsPrefixOf v.history v'.history
  pub whole : v.seat.kind ≡ Producer → v'.history ≡ v.history
  pub published : v.seat.published ≤ v'.seat.published
  pub acked : v.seat.acked ≤ v'.seat.acked
  -- what it has seen published is among its history still
  pub within : v.seat.published ≤ length v.history → v'.seat.published ≤ length v'.history
  pub retired : v'.acked_known.retired ≡ v.acked_known.retired

-- The batches that the seat has seen published are among its history; where this is the end of n batches, they are n at least.
pub record PublishesTo (v : View) (end : ℕ) (v' : View) : Type 0 where
  pub within : v'.seat.published ≤ length v'.history
  pub few : length v'.history ≤ BATCHES_MAX
  pub past : (n : ℕ) → n ≤ length v.history → end ≡ ends numbers v.base v.history n → n ≤ v'.seat.published

-- The seat has a turn, and gives back the versions that it took.
pub record GivesSame (v : View) (versions : List Version) : Type 0 where
  pub shard : ℕ
  pub turn : v.seat.turn ≡ Some shard
  pub same : HasSameVersions v.taken versions

-- The seat has a turn, and gives back the versions that it took and those of the batch that it holds, whose piece for the shard
-- was not applied.
pub record GivesApplied (v : View) (versions : List Version) : Type 0 where
  pub shard : ℕ
  pub turn : v.seat.turn ≡ Some shard
  pub index : ℕ
  pub batch : Batch
  pub holds : v.seat.held ≡ Some index
  pub at : get_elem? v.history index ≡ some batch
  pub has_piece : IsTrue (touches batch shard)
  pub new : Contains v.pieces shard → ⊥
  pub gains : Gains v.taken (piece_in shard batch) versions

-- what a seat may give back, and whether it has applied a piece
abbrev pub GivesBack : View → List Version → Bool → Type 0
GivesBack v versions false = GivesSame v versions
GivesBack v versions true = GivesApplied v versions

-- The turn is ended, and with `applied` the batch that the seat holds is applied in the shard.
abbrev pub EndsTurn : View → Bool → View → Type 0
EndsTurn v false v' = v' ≡ given_view v
EndsTurn v true v' = (i k : ℕ) → v.seat.held ≡ Some i → v.seat.turn ≡ Some k → v' ≡ applied_view v i k

-- The producer's seat of p has taken in the seat of w, for good: it has seen what both had seen, and what that seat had seen
-- was among what it had seen. Where that was the flush seat, no more is seen acked than it had raised the word to.
pub record TakesBack (p w p' : View) : Type 0 where
  pub history : p'.history ≡ p.history
  pub has_both : IsPrefixOf w.history p.history
  pub same_base : w.base ≡ p.base
  pub calm : p'.absorbed ≡ []
  pub published : p'.seat.published ≡ max p.seat.published w.seat.published
  pub acked : p'.seat.acked ≡ max p.seat.acked w.seat.acked
  pub within : p'.seat.published ≤ length p'.history
  pub within_back : w.seat.published ≤ length w.history
  pub own : p'.seat.own ≡ p.seat.own ++ w.seat.own
  -- where its own batches are as many as there are, it has them all
  pub all : length p'.history ≤ length p'.seat.own → (i : ℕ) → i < length p'.history → Contains p'.seat.own i
  pub kind : p'.seat.kind ≡ p.seat.kind
  pub held : p'.seat.held ≡ p.seat.held
  pub pieces : p'.pieces ≡ p.pieces ++ w.pieces
  pub claim : p'.seat.claim ≡ p.seat.claim
  pub turn : p'.seat.turn ≡ p.seat.turn
  pub taken : p'.taken ≡ p.taken
  pub base : p'.base ≡ p.base
  pub opening : p'.opening ≡ p.opening
  pub head : p'.head ≡ p.head
  pub flushed : w.acked_known.is_flush ≡ true → p'.seat.acked ≤ w.acked_known.raised
