use Rattle.std.specs.Prelude.{◌∷◌}
use Rattle.disk_face.specs.View.{table_was_read}
use Rattle.disk_face.proofs.call_log.CallLog.note_table_read.Given as goal

abbrev pub ghost-made : goal.ghost-made
ghost-made a = table_was_read a._first.now a._second.now ∷ a.self.now.calls
