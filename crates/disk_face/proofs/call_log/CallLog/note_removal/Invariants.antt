use Rattle.std.specs.Prelude.{◌∷◌, is_ok}
use Rattle.disk_face.specs.View.{was_removed}
use Rattle.disk_face.proofs.call_log.CallLog.note_removal.Given as goal

abbrev pub ghost-made : goal.ghost-made
ghost-made a = was_removed a._first.now (is_ok a._second.now) ∷ a.self.now.calls
