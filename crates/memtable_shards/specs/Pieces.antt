-- A batch's versions in pieces, of which each is for one shard (docs/formats/ring.md, "The shards").
use Rattle.std.specs.Prelude.{◌≡◌, ◌≢◌, ◌⊎◌, ◌↔◌, ℕ, ◌<◌, ◌≤◌, List, [], length, Option, Some, None, Contains, slice_get, unwrap_or}
use Rattle.wal_base.specs.declared.entry.Entry.{Entry}
use Rattle.batch_repr.specs.declared.batch.Batch.{Batch}
use Rattle.memtable_shards.specs.declared.sharding.TheConstants.{SHARDS}
use Rattle.memtable_shards.specs.Versions.{Version}
use Rattle.memtable_shards.specs.Versions.{versions_from, versions_of, versions_in, IsIn, of_shard}

-- the entries, the first number, if they are numbered, and the shard from which on pieces are left
pub record PiecesLeft : Type 0 where
  pub entries : List Entry
  pub first : Option ℕ
  pub from : ℕ

-- all pieces of entries that have no numbers yet
abbrev pub whole_pieces : List Entry → PiecesLeft
whole_pieces entries = record { entries = entries; first = None; from = 0 }

-- the versions of all pieces, those that were handed out among them
abbrev pub versions_cut : PiecesLeft → List Version
versions_cut pieces = versions_from (unwrap_or pieces.first 0) pieces.entries

-- The versions are those of the first shard from there on that has any, in their order.
pub record IsNextPiece (pieces : PiecesLeft) (shard : ℕ) (versions : List Version) : Type 0 where
  pub on : pieces.from ≤ shard
  pub within : shard < SHARDS
  pub next : (version : Version) (other : ℕ) → Contains (versions_cut pieces) version → IsIn version other → pieces.from ≤ other → shard ≤ other
  pub own : versions ≡ of_shard shard (versions_cut pieces)
  pub some : versions ≢ []

-- No shard from there on has a version.
abbrev pub NoPieceIsLeft : PiecesLeft → Type 0
NoPieceIsLeft pieces = (version : Version) (shard : ℕ) → Contains (versions_cut pieces) version → IsIn version shard → shard < pieces.from

-- The pieces are those of a batch, and of eight shards those before the next piece's have been given theirs.
pub record AreShardsAmid (shards : List (List Version)) (batches : List Batch) (batch : Batch) (pieces : PiecesLeft) : Type 0 where
  pub eight : length shards ≡ SHARDS
  pub entries : pieces.entries ≡ batch.entries
  pub first : pieces.first ≡ Some batch.first
  pub own : (index : ℕ) (shard : List Version) → slice_get shards index ≡ Some shard → (version : Version)
      → Contains shard version ↔ ((Contains (versions_in batches) version ⊎ (Contains (versions_of batch) version × (index < pieces.from))) × IsIn
      version index)
