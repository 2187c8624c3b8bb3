-- That a load says what has to come, and what is left where none was begun.
use Rattle.std.proofs.Common.{ℕ, Bool, List}
use Rattle.command_line.specs.declared.command.TheConstants.{THRESHOLD_DEFAULT}
use Rattle.disk_face.specs.View.{DiskView}
use Rattle.wal_top.specs.declared.status.Status.{Status}
use Rattle.wal_top.specs.Call.{Change, Stays}
use Rattle.wal_top.specs.Load.{load_work, load_text, SaysLoad, LoadIsDue, LeavesLoad}
use Rattle.wal_top.specs.Rightly.{IsOfCommand, IsTheDue}
use Rattle.wal_top.proofs.Work.{work_told, work_due}
use Rattle.wal_top.proofs.Untouched.{untouched_polls, untouched_wal}

module _ (seed batches : ℕ) (tells : Bool) (disk : Change DiskView) (text : List ℕ) (said : Status) where
  pub load_told : SaysLoad seed batches tells disk said text → IsOfCommand said
  load_told = work_told (load_work seed batches) THRESHOLD_DEFAULT (load_text seed batches) tells disk text said

  pub load_due : SaysLoad seed batches tells disk said text → IsTheDue (LoadIsDue seed batches tells disk) said
  load_due = work_due (load_work seed batches) THRESHOLD_DEFAULT (load_text seed batches) tells disk text said

pub load_unrun : (tells : Bool) (disk : Change DiskView) → Stays disk → LeavesLoad tells disk
load_unrun tells disk untouched = record { polls = untouched_polls tells disk untouched; others = untouched_wal tells disk untouched }
