use Rattle.std.proofs.Common.{length}
use Rattle.disk_face.specs.View.{table_was_read}
use Rattle.disk_face.proofs.PassedOn.{passed_one}
use Rattle.disk_face.proofs.script_disk.ScriptDiskTableDisk.read_table.Goals as goal

pub invariant_of-self : goal.invariant_of-self
invariant_of-self g c =
    passed_one (table_was_read c.args.upto (length c.args.buf.now)) (g.D.Disk.view c.self.inside.inner).calls c.self.inside.log.calls
    (g.D.Disk.view c.read_table.new.self).calls c.note_table_read.new.self.calls c.self.invariant c.read_table.ensures.noted c.note_table_read.ensures
