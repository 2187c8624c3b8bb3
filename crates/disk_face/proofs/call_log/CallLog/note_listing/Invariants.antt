use Rattle.std.specs.Prelude.{◌∷◌}
use Rattle.disk_face.specs.View.{was_listed}
use Rattle.disk_face.specs.Asked.{answered}
use Rattle.disk_face.proofs.call_log.CallLog.note_listing.Given as goal

abbrev pub ghost-made : goal.ghost-made
ghost-made a = was_listed a._first.now (answered a._second.now) ∷ a.self.now.calls
