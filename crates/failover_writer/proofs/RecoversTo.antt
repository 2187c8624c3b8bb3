-- What a stop leaves recovers to the base, and after it a prefix of the journal's records.
use Rattle.batch_repr.specs.declared.limits.TheConstants.{NUMBER_FIRST}
use Rattle.std.proofs.Common.{◌≡◌, ℕ, List, take, Option, Some, None, subst, refl, arith}
use Rattle.batch_repr.specs.declared.batch.Batch.{Batch}
use Rattle.disk_face.specs.View.{segment, Place, File, Files, Dirs}
use Rattle.disk_face.specs.Image.{IsImageOf}
use Rattle.wal_recovery.specs.Listing.{name_in, place_in}
use Rattle.wal_recovery.specs.Further.{StandBelow, SegmentsMerge}
use Rattle.wal_recovery.proofs.Laws.{recovers_further, image_has_file}
use Rattle.failover_writer.specs.Keeping.{IsRunOver, KeepsRun, RecoversTo, IsOpening, HasNoSegment}

-- Each segment of an image of an opening is of a lower number.
opening_below : (wal first : ℕ) (base records : List Batch) (acked : ℕ) (opening : Files) (dirs : Dirs) → IsOpening wal first base opening
    → (run : IsRunOver wal first records acked opening dirs) → StandBelow wal run.others
opening_below wal first base records acked opening dirs begun run number stored stands =
    let p : Place = place_in number stored.side stored.index in
    let f = image_has_file p (opening p) stored.content (subst (λ (o : Option (List ℕ)). IsImageOf p (opening p) o) stands.1 (run.image p)) in
    begun.above stored.side (name_in number stored.index) f.0 stands.0 f.1

pub base_recovers : (wal first : ℕ) (records base : List Batch) (acked : ℕ) (opening now : Files) → IsOpening wal first base opening
    → KeepsRun wal first records acked opening now → RecoversTo base records acked now
base_recovers wal first records base acked opening now begun keeps dirs image chance_free =
    let run : IsRunOver wal first records acked opening dirs = keeps dirs image chance_free in (
      run.count,
      run.has_acked,
      run.within,
      recovers_further wal NUMBER_FIRST run.others dirs run.same (opening_below wal first base records acked opening dirs begun run) base
          (take run.count records) (begun.recovers run.others run.image run.chance_free)
          (subst (λ (n : ℕ). SegmentsMerge dirs wal n (take run.count records)) begun.ends run.merges),
    )

-- Nothing of an opening stands for a segment of the journal's WAL.
pub none_of_opening : (wal first : ℕ) (base : List Batch) (opening : Files) → IsOpening wal first base opening → HasNoSegment wal opening
none_of_opening wal first base opening begun side name named own = go (opening (segment side name)) refl
  where
    go : (o : Option File) → opening (segment side name) ≡ o → o ≡ None
    go None is = refl
    go (Some f) is = let below = begun.above side name f named is in absurd (omega (arith, below, own))
