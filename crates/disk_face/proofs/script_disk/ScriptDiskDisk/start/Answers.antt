use Rattle.disk_face.specs.View.{was_started}
use Rattle.disk_face.specs.Calls.{flight_of}
use Rattle.disk_face.proofs.PassedOn.{passed_one}
use Rattle.disk_face.proofs.script_disk.ScriptDiskDisk.start.Goals as goal

pub invariant_of-self-2 : goal.invariant_of-self-2
invariant_of-self-2 g c =
    passed_one (was_started c.in_ok-id.id (flight_of c.args.op)) (g.D.Disk.view c.self.inside.inner).calls c.self.inside.log.calls
    (g.D.Disk.view c.start.new.self).calls c.note_start.new.self.calls c.self.invariant c.in_ok-id.ensures.noted c.note_start.ensures
