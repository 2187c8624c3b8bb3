-- What a disk that is as it was tells of a command that did nothing to it.
use Rattle.std.proofs.Common.{Bool, inl, sym, ap, subst}
use Rattle.disk_face.specs.View.{DiskView, files, NothingInFlight, AtEachMoment}
use Rattle.disk_face.specs.Calls.{GoesOn, WentOn, SameDisk}
use Rattle.disk_face.proofs.Laws.{goes_on_from, same_from, moments_from, goes_went}
use Rattle.wal_recovery.specs.Resting.{AddsNoImage}
use Rattle.script_runner.specs.Runs.{PollsNeverRise}
use Rattle.wal_top.specs.Call.{Change, Stays}
use Rattle.wal_top.specs.Recovery.{WritesNoJournal}
use Rattle.wal_top.specs.Work.{ChangesNextWal}

module _ (tells : Bool) (disk : Change DiskView) (stays : Stays disk) where
  goes : GoesOn disk.before disk.after
  goes = subst (λ (v : DiskView). GoesOn disk.before v) (sym stays) (goes_on_from disk.before)

  pub untouched_went : WentOn disk.before disk.after
  untouched_went = goes_went disk.before disk.after goes

  pub untouched_polls : PollsNeverRise disk.before disk.after
  untouched_polls = goes.polls

  pub untouched_same : SameDisk disk.before disk.after
  untouched_same = subst (λ (v : DiskView). SameDisk disk.before v) (sym stays) (same_from disk.before)

  pub untouched_wal : ChangesNextWal tells disk
  untouched_wal told wal next p elsewhere = inl (ap (λ (v : DiskView). files v p) stays)

  pub untouched_journal : NothingInFlight disk.after → WritesNoJournal tells disk
  untouched_journal rests = record {
    only_synced = λ told p. inl (ap (λ (v : DiskView). files v p) stays);
    each_moment = λ told. subst (λ (v : DiskView). AtEachMoment disk.before.clock v (AddsNoImage (files disk.before))) (sym stays)
        (moments_from disk.before (AddsNoImage (files disk.before)) (λ dirs image. image));
    idle = rests;
  }
