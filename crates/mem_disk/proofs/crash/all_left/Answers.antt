use Rattle.mem_disk.proofs.Crashes.{left_more}
use Rattle.mem_disk.proofs.crash.all_left.Goals as goal

pub loop-file-preserved : goal.loop-file-preserved
loop-file-preserved c = left_more c.args.picks.now c.loop-file.yielded c.in-Some.file c.loop-file.left.items c.push_left.new.left.items
    c.loop-file.invariant c.in_ok-push_left.ensures
