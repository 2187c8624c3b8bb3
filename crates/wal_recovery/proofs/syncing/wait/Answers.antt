use Rattle.disk_face.specs.declared.Progress.TheVariants.{Pending, Done, Failed}
use Rattle.disk_face.proofs.Laws.{goes_on_further, same_further}
use Rattle.wal_recovery.proofs.ReadsOnly.{reads_nothing, polls_one}
use Rattle.wal_recovery.proofs.Calm.{calm_further, polled_well}
use Rattle.wal_recovery.proofs.syncing.wait.Goals as goal

pub loop-preserved : goal.loop-preserved
loop-preserved g c =
    let first = g.D.Disk.view c.args.disk.now in
    let mid = g.D.Disk.view c.loop.disk in
    let new = g.D.Disk.view c.poll.new.self in
    record {
      goes = goes_on_further first mid new c.loop.invariant.goes c.in-Pending.ensures.goes_on;
      asks = reads_nothing first mid new c.loop.invariant.asks (polls_one c.args.id Pending mid new c.in-Pending.ensures.noted);
      same = same_further first mid new c.loop.invariant.same c.in-Pending.ensures.polled.same;
      calm = calm_further first mid new c.loop.invariant.calm (polled_well c.args.id Pending mid new (λ e. cc) c.in-Pending.ensures.steady);
    }

pub returns-in-Done-clause-calm : goal.returns-in-Done-clause-calm
returns-in-Done-clause-calm g c = λ done.
    let mid = g.D.Disk.view c.loop.disk in
    let new = g.D.Disk.view c.poll.new.self in
    calm_further (g.D.Disk.view c.args.disk.now) mid new c.loop.invariant.calm (polled_well c.args.id Done mid new (λ e. cc) c.in-Done.ensures.steady)

pub returns-in-Done-clause-asks : goal.returns-in-Done-clause-asks
returns-in-Done-clause-asks g c =
    let mid = g.D.Disk.view c.loop.disk in
    let new = g.D.Disk.view c.poll.new.self in
    reads_nothing (g.D.Disk.view c.args.disk.now) mid new c.loop.invariant.asks (polls_one c.args.id Done mid new c.in-Done.ensures.noted)

pub returns-in-Failed-clause-asks : goal.returns-in-Failed-clause-asks
returns-in-Failed-clause-asks g c =
    let mid = g.D.Disk.view c.loop.disk in
    let new = g.D.Disk.view c.poll.new.self in
    reads_nothing (g.D.Disk.view c.args.disk.now) mid new c.loop.invariant.asks (polls_one c.args.id Failed mid new c.in-Failed.ensures.noted)
