use Rattle.std.proofs.Common.{subst}
use Rattle.disk_face.specs.View.{was_listed}
use Rattle.disk_face.specs.Asked.{answered}
use Rattle.disk_face.specs.Answers.{ListsFiles}
use Rattle.disk_face.specs.Script.{ScriptedDisk}
use Rattle.disk_face.specs.Seen.{outer}
use Rattle.disk_face.proofs.PassedOn.{passed_one}
use Rattle.disk_face.proofs.script_disk.ScriptDiskDisk.list.Goals as goal

pub invariant_of-self : goal.invariant_of-self
invariant_of-self g c =
    passed_one (was_listed c.args.side (answered c.list-answer.result)) (g.D.Disk.view c.self.inside.inner).calls c.self.inside.log.calls
    (g.D.Disk.view c.list-answer.new.self).calls c.note_listing.new.self.calls c.self.invariant c.list-answer.ensures.noted c.note_listing.ensures

pub returns-clause-names : goal.returns-clause-names
returns-clause-names g c =
    subst (λ (d : ScriptedDisk _). ListsFiles g.D.Disk.tells c.args.side c.list-answer.result (outer g.D.Disk.view d)) c.self.view_is
    c.list-answer.ensures.names
