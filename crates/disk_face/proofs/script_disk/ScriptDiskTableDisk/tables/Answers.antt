use Rattle.std.proofs.Common.{subst}
use Rattle.disk_face.specs.View.{tables_were_listed}
use Rattle.disk_face.specs.Asked.{answered}
use Rattle.disk_face.specs.Tables.{ListsTables}
use Rattle.disk_face.specs.Script.{ScriptedDisk}
use Rattle.disk_face.specs.Seen.{outer}
use Rattle.disk_face.proofs.PassedOn.{passed_one}
use Rattle.disk_face.proofs.script_disk.ScriptDiskTableDisk.tables.Goals as goal

pub invariant_of-self : goal.invariant_of-self
invariant_of-self g c =
    passed_one (tables_were_listed (answered c.tables-answer.result)) (g.D.Disk.view c.self.inside.inner).calls c.self.inside.log.calls
    (g.D.Disk.view c.tables-answer.new.self).calls c.note_tables.new.self.calls c.self.invariant c.tables-answer.ensures.noted c.note_tables.ensures

pub returns-clause-tables : goal.returns-clause-tables
returns-clause-tables g c =
    subst (λ (d : ScriptedDisk _). ListsTables g.D.Disk.tells c.tables-answer.result (outer g.D.Disk.view d)) c.self.view_is
    c.tables-answer.ensures.tables
