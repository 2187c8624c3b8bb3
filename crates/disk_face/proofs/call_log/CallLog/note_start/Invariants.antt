use Rattle.std.specs.Prelude.{◌∷◌}
use Rattle.disk_face.specs.View.{was_started}
use Rattle.disk_face.specs.Calls.{flight_of}
use Rattle.disk_face.proofs.call_log.CallLog.note_start.Given as goal

abbrev pub ghost-made : goal.ghost-made
ghost-made a = was_started a._first.now (flight_of a._second.now) ∷ a.self.now.calls
