-- Files whose segments are stable in full open a journal.
use Rattle.batch_repr.specs.declared.limits.TheConstants.{NUMBER_FIRST}
use Rattle.std.proofs.Common.{◌≡◌, ℕ, ◌<◌, List, Some, sym, subst, refl}
use Rattle.batch_repr.specs.declared.batch.Batch.{Batch}
use Rattle.batch_repr.specs.Batches.{end_after}
use Rattle.disk_face.specs.declared.Side.{Side}
use Rattle.disk_face.specs.declared.SegName.{SegName}
use Rattle.disk_face.specs.View.{segment, File, Files, Dirs}
use Rattle.disk_face.specs.Listing.{IsSegmentName}
use Rattle.disk_face.specs.Image.{IsRested, dirs_as_read}
use Rattle.wal_recovery.specs.Listing.{IsNextWal}
use Rattle.wal_recovery.specs.Recovering.{Recovers}
use Rattle.wal_recovery.specs.Resting.{AreSegmentsStable, OnlySynced}
use Rattle.wal_recovery.proofs.Laws.{stable_recovers, rested_above, rested_synced, read_synced}
use Rattle.failover_writer.specs.Keeping.{IsOpening}

pub stable_opens : (wal : ℕ) (base : List Batch) (now : Files) → IsRested now → AreSegmentsStable now → Recovers (dirs_as_read now) base
    → ((side : Side) (name : SegName) (f : File) → IsSegmentName name → now (segment side name) ≡ Some f → name.wal < wal)
    → IsOpening wal (end_after NUMBER_FIRST base) base now
stable_opens wal base now rested stable read above = record {
  above = above;
  ends = refl;
  recovers = λ dirs image chance_free. stable_recovers now rested stable dirs image chance_free NUMBER_FIRST base read;
}

-- Files at rest that recovered with no gap, and were synced, open a journal of the next WAL.
pub recovered_opens : (wal : ℕ) (base : List Batch) (old now : Files) → IsRested old → OnlySynced old now → AreSegmentsStable now
    → Recovers (dirs_as_read old) base → IsNextWal (dirs_as_read old) wal
    → IsOpening wal (end_after NUMBER_FIRST base) base now
recovered_opens wal base old now rested only stable recovers next =
    let same : dirs_as_read old ≡ dirs_as_read now = sym (read_synced old now only) in
    let rests : IsRested now = rested_synced old now rested only in
    stable_opens wal base now rests stable (subst (λ (dirs : Dirs). Recovers dirs base) same recovers)
    (rested_above wal now rests (subst (λ (dirs : Dirs). IsNextWal dirs wal) same next))
