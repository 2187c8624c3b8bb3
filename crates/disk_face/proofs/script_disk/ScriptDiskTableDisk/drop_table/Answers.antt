use Rattle.std.specs.Prelude.{is_ok}
use Rattle.disk_face.specs.View.{table, was_removed}
use Rattle.disk_face.proofs.PassedOn.{passed_one}
use Rattle.disk_face.proofs.script_disk.ScriptDiskTableDisk.drop_table.Goals as goal

pub invariant_of-self : goal.invariant_of-self
invariant_of-self g c =
    passed_one (was_removed (table c.args.upto) (is_ok c.drop_table-answer.result)) (g.D.Disk.view c.self.inside.inner).calls c.self.inside.log.calls
    (g.D.Disk.view c.drop_table-answer.new.self).calls c.note_removal.new.self.calls c.self.invariant c.drop_table-answer.ensures.noted c.note_removal.ensures
