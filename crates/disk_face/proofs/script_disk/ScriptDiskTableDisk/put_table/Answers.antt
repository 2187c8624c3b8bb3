use Rattle.std.specs.Prelude.{is_ok}
use Rattle.disk_face.specs.View.{table_was_put}
use Rattle.disk_face.proofs.PassedOn.{passed_one}
use Rattle.disk_face.proofs.script_disk.ScriptDiskTableDisk.put_table.Goals as goal

pub invariant_of-self : goal.invariant_of-self
invariant_of-self g c =
    passed_one (table_was_put c.args.upto c.args.bytes.now (is_ok c.put_table-answer.result)) (g.D.Disk.view c.self.inside.inner).calls c.self.inside.log.calls
    (g.D.Disk.view c.put_table-answer.new.self).calls c.note_put.new.self.calls c.self.invariant c.put_table-answer.ensures.noted c.note_put.ensures
