use Rattle.std.proofs.Common.{refl}
use Rattle.disk_face.specs.View.{segment}
use Rattle.disk_face.specs.Image.{log_of}
use Rattle.log_writer.proofs.IsKeptAs.{file_kept}
use Rattle.log_writer.proofs.theorems.a_synced_file_is_kept.Goals as goal

pub returns : goal.returns
returns c side name from synced records now kept = file_kept side name (log_of (segment side name)) from synced records now refl kept
