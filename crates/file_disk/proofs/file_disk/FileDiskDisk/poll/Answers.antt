use Rattle.file_disk.proofs.Polls.{ended_poll}
use Rattle.file_disk.proofs.file_disk.FileDiskDisk.poll.Goals as goal

pub returns-clause-polled : goal.returns-clause-polled
returns-clause-polled g c =
    let told = c.settle-answer.ensures in
    ended_poll c.args.id _ _ _ c.finish-finished.result c.settle-answer.result c.finish-finished.ensures.goes_on c.finish-finished.ensures.ends
    (record { in_flight = told.same.in_flight; clock = told.same.clock; history = told.same.history }) told.done told.failed
