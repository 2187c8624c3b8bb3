use Rattle.std.proofs.Common.{length}
use Rattle.disk_face.specs.View.{was_read}
use Rattle.disk_face.proofs.PassedOn.{passed_one}
use Rattle.disk_face.proofs.script_disk.ScriptDiskDisk.read.Goals as goal

pub invariant_of-self : goal.invariant_of-self
invariant_of-self g c =
    passed_one (was_read c.args.side c.args.name (length c.args.buf.now)) (g.D.Disk.view c.self.inside.inner).calls c.self.inside.log.calls
    (g.D.Disk.view c.read.new.self).calls c.note_read.new.self.calls c.self.invariant c.read.ensures.noted c.note_read.ensures
