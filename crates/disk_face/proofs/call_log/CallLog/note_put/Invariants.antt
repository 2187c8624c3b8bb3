use Rattle.std.specs.Prelude.{◌∷◌, is_ok}
use Rattle.disk_face.specs.View.{table_was_put}
use Rattle.disk_face.proofs.call_log.CallLog.note_put.Given as goal

abbrev pub ghost-made : goal.ghost-made
ghost-made a = table_was_put a._first.now.0 a._first.now.1.now (is_ok a._second.now) ∷ a.self.now.calls
