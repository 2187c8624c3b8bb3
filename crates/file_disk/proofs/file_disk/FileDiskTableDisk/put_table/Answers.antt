use Rattle.std.proofs.Common.{refl}
use Rattle.disk_face.specs.declared.Side.TheVariants.{Primary}
use Rattle.file_disk.proofs.Views.{goes_from, failure_from, no_other_from}
use Rattle.file_disk.proofs.file_disk.FileDiskTableDisk.put_table.Goals as goal

pub returns-clause-goes_on : goal.returns-clause-goes_on
returns-clause-goes_on g c = goes_from _ _ _ _ c.replace-put.ensures c.count.ensures.goes_on

pub returns-clause-failed : goal.returns-clause-failed
returns-clause-failed g c =
    failure_from Primary Primary c.replace-put.result _ _ _ refl c.replace-put.ensures c.count.ensures.goes_on c.count.ensures.failed

pub returns-clause-steady : goal.returns-clause-steady
returns-clause-steady g c =
    no_other_from Primary Primary c.replace-put.result _ _ _ refl c.replace-put.ensures c.count.ensures.goes_on c.count.ensures.steady
