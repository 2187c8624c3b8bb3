use Rattle.std.specs.Prelude.{◌∷◌}
use Rattle.disk_face.specs.View.{was_read}
use Rattle.disk_face.proofs.call_log.CallLog.note_read.Given as goal

abbrev pub ghost-made : goal.ghost-made
ghost-made a = was_read a._first.now a._second.now.0 a._second.now.1 ∷ a.self.now.calls
