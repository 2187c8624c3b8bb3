-- A poll that is passed on is told of the disk with the polls held back.
use Rattle.disk_face.proofs.Laws.{passed_on}
use Rattle.test_rigs.proofs.late.LateDisk.poll.Goals as goal

pub returns-in-Primary-2-clause-polled : goal.returns-in-Primary-2-clause-polled
returns-in-Primary-2-clause-polled g c = passed_on _ _ _ _ _ _ _ _ _ c.poll-answer.ensures.polled
