-- Laws of eight shards, each as one statement (docs/formats/ring.md, "The shards").
use Rattle.std.specs.Prelude.{◌≡◌, ℕ, ◌+◌, List, [], ◌∷◌, ◌++◌, length, take, Some, slice_get, slice_set}
use Rattle.batch_repr.specs.declared.batch.Batch.{Batch}
use Rattle.batch_repr.specs.Batches.{IsContiguous, end_after, answer}
use Rattle.memtable_shards.specs.declared.sharding.TheConstants.{SHARDS}
use Rattle.memtable_shards.specs.Versions.{Version}
use Rattle.arena_list.specs.declared.found.Found.{Found}
use Rattle.memtable_shards.specs.Versions.{shard_of, HaveBelow, Gains, HasSameVersions, HaveOtherNumbers, AreShardsOf}
use Rattle.memtable_shards.specs.Newest.{FindsNewest, value_found}
use Rattle.memtable_shards.specs.Pieces.{PiecesLeft, whole_pieces, IsNextPiece, NoPieceIsLeft, AreShardsAmid}

-- The shard of a key answers below the end of the first n batches what the store answers after them.
abbrev pub ShardsAnswerAfterSome : Type 0
ShardsAnswerAfterSome =
    (start n : ℕ) (batches : List Batch) (shards : List (List Version)) (shard : List Version) (key : List ℕ) (found : Found) → IsContiguous start batches
    → AreShardsOf shards batches → slice_get shards (shard_of key) ≡ Some shard
    → FindsNewest shard key (end_after start (take n batches)) found → value_found found ≡ answer batches n key

-- Below the end of all batches it answers what the store answers after all.
abbrev pub ShardsAnswerAfterAll : Type 0
ShardsAnswerAfterAll =
    (start : ℕ) (batches : List Batch) (shards : List (List Version)) (shard : List Version) (key : List ℕ) (found : Found) → IsContiguous start batches
    → AreShardsOf shards batches → slice_get shards (shard_of key) ≡ Some shard
    → FindsNewest shard key (end_after start batches) found → value_found found ≡ answer batches (length batches) key

-- So does a shard of which no more is known than what it has below that end: it may have versions of later batches, or lack some.
abbrev pub ShardAnswersBelow : Type 0
ShardAnswersBelow =
    (start n : ℕ) (batches : List Batch) (shard : List Version) (key : List ℕ) (found : Found) → IsContiguous start batches
    → HaveBelow (end_after start (take n batches)) batches (shard_of key) shard
    → FindsNewest shard key (end_after start (take n batches)) found → value_found found ≡ answer batches n key

-- Eight shards that hold nothing are those of no batch.
abbrev pub EmptyShardsAreOfNoBatch : Type 0
EmptyShardsAreOfNoBatch = (shards : List (List Version)) → length shards ≡ SHARDS
    → ((index : ℕ) (shard : List Version) → slice_get shards index ≡ Some shard → shard ≡ []) → AreShardsOf shards []

-- With a batch's numbered pieces, of which none is applied yet, shards are amid them.
abbrev pub PiecesBegin : Type 0
PiecesBegin = (shards : List (List Version)) (batches : List Batch) (batch : Batch) → AreShardsOf shards batches
    → AreShardsAmid shards batches batch (record (whole_pieces batch.entries) { first = Some batch.first })

-- The next piece has other numbers than its shard.
abbrev pub NextPieceIsNew : Type 0
NextPieceIsNew =
    (start : ℕ) (shards : List (List Version)) (batches : List Batch) (batch : Batch) (pieces : PiecesLeft) (index : ℕ) (piece shard : List Version)
    → IsContiguous start (batches ++ batch ∷ []) → AreShardsAmid shards batches batch pieces
    → IsNextPiece pieces index piece → slice_get shards index ≡ Some shard → HaveOtherNumbers shard piece

-- Once it is applied, shards are amid the pieces that are left.
abbrev pub NextPieceIsApplied : Type 0
NextPieceIsApplied =
    (shards : List (List Version)) (batches : List Batch) (batch : Batch) (pieces : PiecesLeft) (index : ℕ) (piece old new : List Version)
    → AreShardsAmid shards batches batch pieces → IsNextPiece pieces index piece → slice_get shards index ≡ Some old
    → Gains old piece new → AreShardsAmid (slice_set shards index new) batches batch (record pieces { from = index + 1 })

-- Where no piece is left, they are the shards of the batches with that one.
abbrev pub PiecesEnd : Type 0
PiecesEnd = (shards : List (List Version)) (batches : List Batch) (batch : Batch) (pieces : PiecesLeft) → AreShardsAmid shards batches batch pieces
    → NoPieceIsLeft pieces → AreShardsOf shards (batches ++ batch ∷ [])

-- Shards are those of the batches still where one of them has the same versions in another order.
abbrev pub ShardsAreSettled : Type 0
ShardsAreSettled =
    (shards : List (List Version)) (batches : List Batch) (index : ℕ) (old new : List Version) → AreShardsOf shards batches
    → slice_get shards index ≡ Some old → HasSameVersions old new
    → AreShardsOf (slice_set shards index new) batches
