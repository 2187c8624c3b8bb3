use Rattle.std.proofs.lemmas.Result.{on_ok_weaker}
use Rattle.view_runner.proofs.Answering.{purges}
use Rattle.view_runner.proofs.run.Run.purge.Goals as goal

pub returns : goal.returns
returns c = on_ok_weaker c.put_purge.result (λ written. purges c.args.self.now c.purge-count.new.self c.put_purge.new.out c.purge-count.result
    c.purge-count.ensures.purged c.purge-count.ensures.kept c.purge-count.ensures.ascend c.purge-count.ensures.fewer written) c.put_purge.ensures
