-- Images of files whose segments from a WAL on are stable in full: from there on they recover to what the files read as.
use Rattle.std.proofs.Common.{◌≡◌, ℕ, Bool, true, false, take, drop, List, Some, None, sym, subst}
use Rattle.std.specs.Prelude.{nat_lt, if◌then◌else◌}
use Rattle.crc_chunk.specs.Chunk.{IsChunkOf}
use Rattle.batch_repr.specs.declared.batch.Batch.{Batch}
use Rattle.disk_face.specs.declared.FilePlace.TheVariants.{Segment, Table}
use Rattle.disk_face.specs.View.{segment, table, Files, Dirs}
use Rattle.disk_face.specs.Image.{IsImageOf, IsImage, IsChanceFree, IsRestedFile, IsRested, dirs_as_read}
use Rattle.wal_recovery.specs.Listing.{from_wal}
use Rattle.wal_recovery.specs.Rows.{files_from}
use Rattle.wal_recovery.specs.Recovering.{RecoversFrom}
use Rattle.wal_recovery.specs.Resting.{AreSegmentsStable}
use Rattle.wal_recovery.proofs.From.{dirs_left}
use Rattle.wal_recovery.proofs.StableImages.{stable_recovers}

module _ (least : ℕ) (now : Files) where
  rested_left : IsRested now → IsRested (files_from least now)
  rested_left rested (Segment side name) f is = go (nat_lt name.wal least) is
    where
      go : (b : Bool) → (if b then None else now (segment side name)) ≡ Some f → IsRestedFile f
      go true is = absurd cc
      go false is = rested (segment side name) f is
  rested_left rested (Table upto) f is = rested (table upto) f is

  module _ (dirs : Dirs) where
    image_left : IsImage now dirs → IsImage (files_from least now) (from_wal least dirs)
    image_left image (Segment side name) = go (nat_lt name.wal least)
      where
        go : (b : Bool) → IsImageOf (segment side name) (if b then None else now (segment side name)) (if b then None else dirs (segment side name))
        go true = tt
        go false = image (segment side name)
    image_left image (Table upto) = image (table upto)

    free_left : IsChanceFree IsChunkOf now dirs → IsChanceFree IsChunkOf (files_from least now) (from_wal least dirs)
    free_left free (Segment side name) f bytes at size is has here = go (nat_lt name.wal least) is has
      where
        go : (b : Bool) → (if b then None else now (segment side name)) ≡ Some f → (if b then None else dirs (segment side name)) ≡ Some bytes
            → take size (drop at bytes) ≡ take size (drop at f.sent)
        go true is has = absurd cc
        go false is has = free (segment side name) f bytes at size is has here
    free_left free (Table upto) f bytes at size is has here = free (table upto) f bytes at size is has here

    pub stable_recovers_from : IsRested now → AreSegmentsStable (files_from least now) → IsImage now dirs → IsChanceFree IsChunkOf now dirs
        → (first : ℕ) (base : List Batch) → RecoversFrom first (from_wal least (dirs_as_read now)) base → RecoversFrom first (from_wal least dirs) base
    stable_recovers_from rested stable image free first base recovers =
        stable_recovers (files_from least now) (rested_left rested) stable (from_wal least dirs) (image_left image) (free_left free) first base
        (subst (λ (d : Dirs). RecoversFrom first d base) (sym (dirs_left least now)) recovers)
