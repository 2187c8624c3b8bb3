use Rattle.std.specs.Prelude.{◌∷◌}
use Rattle.disk_face.specs.View.{tables_were_listed}
use Rattle.disk_face.specs.Asked.{answered}
use Rattle.disk_face.proofs.call_log.CallLog.note_tables.Given as goal

abbrev pub ghost-made : goal.ghost-made
ghost-made a = tables_were_listed (answered a._first.now) ∷ a.self.now.calls
