use Rattle.std.specs.Prelude.{◌∷◌}
use Rattle.disk_face.specs.View.{was_polled}
use Rattle.disk_face.proofs.call_log.CallLog.note_poll.Given as goal

abbrev pub ghost-made : goal.ghost-made
ghost-made a = was_polled a._first.now a._second.now ∷ a.self.now.calls
