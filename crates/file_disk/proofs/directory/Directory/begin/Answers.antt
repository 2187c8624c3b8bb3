use Rattle.std.proofs.lemmas.Bool.{false≢true}
use Rattle.file_disk.proofs.Absent.{stays_absent}
use Rattle.file_disk.proofs.directory.Directory.begin.Goals as goal

pub insert-requires : goal.insert-requires
insert-requires g c = record {
  fresh = stays_absent _ _ (λ some. false≢true (c.if-has.ensures.1 some)) (c.task.ensures.flights c.args.self.now.next);
}
