use Rattle.file_disk.specs.Paths.{side_of_file}
use Rattle.file_disk.proofs.Views.{goes_from, once_from, failure_from, no_other_from}
use Rattle.file_disk.proofs.file_disk.FileDisk.drop_file.Goals as goal

pub returns-clause-goes_on : goal.returns-clause-goes_on
returns-clause-goes_on g c = goes_from _ _ _ _ c.remove-removed.ensures c.count.ensures.goes_on

pub returns-clause-once : goal.returns-clause-once
returns-clause-once g c =
    once_from (side_of_file c.args.place) c.side_of.result c.remove-removed.result _ _ _ c.side_of.ensures c.remove-removed.ensures c.count.ensures.goes_on c.count.ensures.once

pub returns-clause-failed : goal.returns-clause-failed
returns-clause-failed g c =
    failure_from (side_of_file c.args.place) c.side_of.result c.remove-removed.result _ _ _ c.side_of.ensures c.remove-removed.ensures c.count.ensures.goes_on c.count.ensures.failed

pub returns-clause-steady : goal.returns-clause-steady
returns-clause-steady g c =
    no_other_from (side_of_file c.args.place) c.side_of.result c.remove-removed.result _ _ _ c.side_of.ensures c.remove-removed.ensures c.count.ensures.goes_on c.count.ensures.steady
