-- What a flush does: the store is written into one table, and what that covers is removed (docs/formats/table.md, "Flushing").
use Rattle.std.specs.Prelude.{◌≡◌, ◌⊎◌, ℕ, ◌+◌, ◌<◌, ◌≤◌, Bool, true, false, List, [], ◌∷◌, length, Option, Some, None, IsTrue}
use Rattle.crc_chunk.specs.Chunk.{IsChunkOf}
use Rattle.batch_repr.specs.declared.batch.Batch.{Batch}
use Rattle.batch_repr.specs.Batches.{answer}
use Rattle.disk_face.specs.declared.Side.TheVariants.{Primary, Secondary}
use Rattle.disk_face.specs.declared.Listed.{Listed}
use Rattle.disk_face.specs.View.{table, Files, Dirs, DiskView, files, AtEachMoment, table_was_put, Makes}
use Rattle.disk_face.specs.Image.{IsImage, IsChanceFree, IsRested, directories}
use Rattle.disk_face.specs.Listing.{IsTableNumber, IsAscending, IsListing}
use Rattle.table_text.specs.Tables.{Table}
use Rattle.wal_recovery.specs.declared.reports.Mode.{Mode}
use Rattle.wal_recovery.specs.declared.reports.Mode.TheVariants.{Strict}
use Rattle.wal_recovery.specs.Listing.{Stored, StandsIn}
use Rattle.flush_table.specs.declared.reports.StoreRead.{StoreRead}
use Rattle.flush_table.specs.declared.flushing.Flushed.{Flushed}
use Rattle.flush_table.specs.Asked.{AsksOfStore}
use Rattle.flush_table.specs.Stores.{Used, StoreOf, UsesTable, next_in}
use Rattle.flush_table.specs.Putting.{IsTextOf}
use Rattle.flush_table.specs.Removing.{IsCoveredBy, OnlyRemoves}

-- ---- what every image answers

-- what batches answer of a key, after all of them
abbrev pub answer_of : List Batch → List ℕ → Option (List ℕ)
answer_of batches key = answer batches (length batches) key

-- The store of the directories answers of every key what these batches do, and this number comes next in it.
pub record AnswersAs (batches : List Batch) (next : ℕ) (dirs : Dirs) : Type 0 where
  pub used : Option Used
  pub own : List Batch
  pub store : StoreOf Strict dirs used own
  pub next_is : next_in used own ≡ next
  pub same : (key : List ℕ) → answer_of own key ≡ answer_of batches key

-- It is so in each image that no torn chunk deceives.
abbrev pub ImagesAnswerAs : List Batch → ℕ → Files → Type 0
ImagesAnswerAs batches next now = (dirs : Dirs) → IsImage now dirs → IsChanceFree IsChunkOf now dirs → AnswersAs batches next dirs

-- Whatever all images answered at the start, where the files were at rest, all images answer at each moment since.
abbrev pub KeepsAnswers : Bool → DiskView → DiskView → Type 0
KeepsAnswers tells old new =
    IsTrue tells → IsRested (files old) → (batches : List Batch) (next : ℕ) → ImagesAnswerAs batches next (files old)
    → AtEachMoment old.clock new (ImagesAnswerAs batches next)

-- Where no gap is accepted, and the files were at rest, all images answer now what was read.
abbrev pub AnswersAsReadIfStrict : Bool → Mode → DiskView → DiskView → StoreRead → Type 0
AnswersAsReadIfStrict tells mode old new found =
    IsTrue tells → mode ≡ Strict → IsRested (files old) → ImagesAnswerAs found.batches found.next (files new)

-- ---- what is told

-- No segment stands in the directories.
abbrev pub HasNoSegments : Dirs → Type 0
HasNoSegments dirs = (wal : ℕ) (stored : Stored) → StandsIn dirs wal stored → ⊥

-- A segment of this WAL stands in the directories, and none of a greater one.
pub record IsGreatestWal (dirs : Dirs) (wal : ℕ) : Type 0 where
  pub stored : Stored
  pub stands : StandsIn dirs wal stored
  pub greatest : (number : ℕ) (other : Stored) → StandsIn dirs number other → number ≤ wal

-- The table of this number covers the directories of that greatest WAL: the number is the WAL where that is above the used table, and else
-- the used one's.
abbrev pub IsCoverOf : Option Used → ℕ → ℕ → Type 0
IsCoverOf None wal upto = upto ≡ wal
IsCoverOf (Some used) wal upto = ((used.upto < wal) × (upto ≡ wal)) ⊎ ((wal ≤ used.upto) × (upto ≡ used.upto))

-- So many segments are listed, on both sides together.
pub record HasListed (now : Files) (count : ℕ) : Type 0 where
  pub ones : List Listed
  pub others : List Listed
  pub ones_ascend : IsAscending ones
  pub others_ascend : IsAscending others
  pub primary : IsListing now Primary ones
  pub secondary : IsListing now Secondary others
  pub count_is : count ≡ length ones + length others

-- The directories had a store with segments. Now they use one table, which answers what that store did, and by its number covers all
-- of it: no segment stands, and no lesser table. So many segments were removed as were listed.
pub record IsFlushed (old new : DiskView) (flushed : Flushed) : Type 0 where
  pub used : Option Used
  pub batches : List Batch
  pub store : StoreOf Strict (directories old) used batches
  pub wal : ℕ
  pub wal_is : IsGreatestWal (directories old) wal
  pub covers : IsCoverOf used wal flushed.upto
  pub held : Table
  pub uses : UsesTable (directories new) flushed.upto held
  pub keys_is : flushed.keys ≡ length held.live
  pub next_is : flushed.next ≡ held.next
  pub same : AnswersAs batches (next_in used batches) (directories new)
  pub none : HasNoSegments (directories new)
  pub least : (upto : ℕ) (bytes : List ℕ) → IsTableNumber upto → directories new (table upto) ≡ Some bytes → flushed.upto ≤ upto
  pub dropped : HasListed (files old) flushed.dropped

-- what a flush tells: of a table what it did, and of none that no segment stands
abbrev pub TellsFlush : Bool → DiskView → DiskView → Option Flushed → Type 0
TellsFlush tells old new None = IsTrue tells → HasNoSegments (directories old)
TellsFlush tells old new (Some flushed) = IsTrue tells → IsFlushed old new flushed

-- ---- the calls, of any disk

-- No call was made since, or one that puts a table of what the batches leave, with this answer.
abbrev pub PutsOrNot : ℕ → ℕ → List Batch → Bool → DiskView → DiskView → Type 0
PutsOrNot upto next batches ok old new =
    Makes [] old new ⊎ ((text : List ℕ) × (keys : ℕ) × IsTextOf upto next batches text keys × Makes (table_was_put upto text ok ∷ []) old new)

-- The disk is asked for the store. Then one table is put at most; and unless that failed what it covers is removed, and nothing else.
pub record FlushesInTurn (old new : DiskView) : Type 0 where
  pub asked : DiskView
  pub asks : AsksOfStore old asked
  pub upto : ℕ
  pub next : ℕ
  pub batches : List Batch
  pub later : PutsOrNot upto next batches false asked new ⊎ ((mid : DiskView) × PutsOrNot upto next batches true asked mid × OnlyRemoves (IsCoveredBy upto) mid new)
