-- What follows a recovery is told of the disk as it was before.
use Rattle.std.proofs.Common.{◌≡◌, ℕ, Result, Ok, Err, refl, sym, subst, arith}
use Rattle.std.specs.Prelude.{IfOk, IsOkAnd}
use Rattle.disk_face.specs.View.{files}
use Rattle.disk_face.specs.Image.{directories}
use Rattle.flush_table.proofs.Laws.{one_next_wal}
use Rattle.commit_pipeline.specs.Openings.{EndsBefore}
use Rattle.wal_recovery.specs.declared.reports.Mode.TheVariants.{Strict}
use Rattle.failover_writer.specs.Running.{OthersOnlySynced}
use Rattle.script_runner.specs.declared.run.Outcome.{Outcome}
use Rattle.wal_top.specs.declared.said.Said.{Said}
use Rattle.wal_top.specs.declared.status.Status.TheVariants.{Limit}
use Rattle.wal_top.specs.declared.working.Worked.{Worked}
use Rattle.wal_top.specs.declared.working.Worked.TheVariants as comes
use Rattle.wal_top.specs.Call.{change_in}
use Rattle.wal_top.specs.Work.{limit_wal_text}
use Rattle.wal_top.specs.Worked.{SaysUnbegun, WorkComesTo}
use Rattle.wal_top.proofs.Saying.{ok_map, as_told}
use Rattle.wal_top.proofs.Recovery.{reads_store, says_unrecovered, synced_now}
use Rattle.wal_top.proofs.Work.{unrecovered_unbegun}
use Rattle.wal_top.proofs.Coming.{are_unsent, others_stay, runs_since, numbered_before}
use Rattle.wal_top.proofs.working.work_over.Goals as goal

-- work that is not begun comes to what is said of it, and work that was done to how it ended
of_said : {E : Type 0} (P : Worked → Type 0) (said : Result Said E) (it : Result Worked E)
    → IfOk it (λ w. IsOkAnd said (λ s. w ≡ comes.Unbegun s)) → IfOk said (λ s. P (comes.Unbegun s)) → IfOk it P
of_said P said (Err e) is h = tt
of_said P (Err e) (Ok w) is h = absurd is
of_said P (Ok s) (Ok w) is h = subst P (sym is) h

of_outcome : {E : Type 0} (P : Worked → Type 0) (outcome : Result Outcome E) (it : Result Worked E)
    → IfOk it (λ w. IsOkAnd outcome (λ o. w ≡ comes.Done o)) → IfOk outcome (λ o. P (comes.Done o)) → IfOk it P
of_outcome P outcome (Err e) is h = tt
of_outcome P (Err e) (Ok w) is h = absurd is
of_outcome P (Ok o) (Ok w) is h = subst P (sym is) h

pub returns-then-found-gt-WAL_MAX-clause-comes_to : goal.returns-then-found-gt-WAL_MAX-clause-comes_to
returns-then-found-gt-WAL_MAX-clause-comes_to g c =
    let e = c.in-Ok.ensures in
    let over = change_in g.D.Disk.view c.args.disk c.recover_store.new.disk in
    of_said (WorkComesTo c.args.work c.args.threshold g.D.Disk.tells over) c.saying.result c.unbegun.result c.unbegun.ensures
    (ok_map c.saying.result c.saying.ensures (λ said p.
    as_told (SaysUnbegun g.D.Disk.tells over) said.status Limit said.text limit_wal_text (record {
      read = reads_store Strict g.D.Disk.tells over c.in-Ok.found e.recovered;
      next = c.in-Ok.found.next_wal;
      next_is = e.next_wal;
      past = omega (arith, c.if-found-gt-WAL_MAX.true);
      only_synced = synced_now g.D.Disk.tells over.before over.after e.goes_on e.files;
      idle = e.idle;
      text_is = refl;
    }) p.0 p.1))

pub run_work-outcome-requires-clause-absent : goal.run_work-outcome-requires-clause-absent
run_work-outcome-requires-clause-absent g c κs within = λ told.
    let disk = c.recover_store.new.disk in
    let laws = g.met.D.Disk g.world.𝓛 g.world.𝓜 g.world.𝓡 ((λ s x. x), (λ x. x), (λ x. x), λ x. x) in
    are_unsent c.in-Ok.found.next_wal (files (g.D.Disk.view c.args.disk)) (files (g.D.Disk.view disk)) (g.D.Disk.view disk) refl
    (λ p f is. laws.sound disk p f told is) (c.in-Ok.ensures.next_wal told) c.if-found-gt-WAL_MAX.false
    (synced_now g.D.Disk.tells (g.D.Disk.view c.args.disk) (g.D.Disk.view disk) c.in-Ok.ensures.goes_on c.in-Ok.ensures.files told)

pub run_work-outcome-requires-clause-base : goal.run_work-outcome-requires-clause-base
run_work-outcome-requires-clause-base g c κs within =
    numbered_before c.in-Ok.found.next c.in-Ok.found.batches (c.in-Ok.ensures.numbered refl).base

pub returns-in-Err-clause-comes_to : goal.returns-in-Err-clause-comes_to
returns-in-Err-clause-comes_to g c =
    let e = c.in-Err.ensures in
    let over = change_in g.D.Disk.view c.args.disk c.recover_store.new.disk in
    of_said (WorkComesTo c.args.work c.args.threshold g.D.Disk.tells over) c.unrecovered.result c.unbegun-in-Err.result c.unbegun-in-Err.ensures
    (ok_map c.unrecovered.result c.unrecovered.ensures (λ said p. unrecovered_unbegun g.D.Disk.tells over said.text said.status
    (says_unrecovered Strict g.D.Disk.tells over said.text (synced_now g.D.Disk.tells over.before over.after e.goes_on e.files) e.idle c.in-Err.fault said.status p e.disk e.refused e.untouched)))

pub returns-else-found-gt-WAL_MAX-clause-others : goal.returns-else-found-gt-WAL_MAX-clause-others
returns-else-found-gt-WAL_MAX-clause-others g c = λ told wal next.
    let v = g.D.Disk.view c.args.disk in
    let mid = g.D.Disk.view c.recover_store.new.disk in
    let new = g.D.Disk.view c.run_work-outcome.result.disk in
    let e = c.in-Ok.ensures in
    subst (λ (n : ℕ). OthersOnlySynced n (files v) (files new)) (one_next_wal (directories v) c.in-Ok.found.next_wal wal (e.next_wal told) next)
    (others_stay v mid new c.in-Ok.found.next_wal g.D.Disk.tells (synced_now g.D.Disk.tells v mid e.goes_on e.files) c.run_work-outcome.ensures.others told)

pub returns-else-found-gt-WAL_MAX-clause-comes_to : goal.returns-else-found-gt-WAL_MAX-clause-comes_to
returns-else-found-gt-WAL_MAX-clause-comes_to g c =
    let e = c.in-Ok.ensures in
    let v = g.D.Disk.view c.args.disk in
    let mid = g.D.Disk.view c.recover_store.new.disk in
    let new = g.D.Disk.view c.run_work-outcome.result.disk in
    of_outcome (WorkComesTo c.args.work c.args.threshold g.D.Disk.tells (change_in g.D.Disk.view c.args.disk c.run_work-outcome.result.disk))
    c.run_work-outcome.result.outcome c.done.result c.done.ensures
    (ok_map c.run_work-outcome.result.outcome c.run_work-outcome.ensures.ran (λ outcome ran.
    runs_since v mid new c.in-Ok.found.next_wal g.D.Disk.tells (synced_now g.D.Disk.tells v mid e.goes_on e.files) c.args.threshold c.in-Ok.found.batches c.in-Ok.found.next c.args.work
    outcome e.goes_on e.asks ran
    (reads_store Strict g.D.Disk.tells (change_in g.D.Disk.view c.args.disk c.run_work-outcome.result.disk) c.in-Ok.found e.recovered) refl e.next
    (λ told. e.stable told refl) c.if-found-gt-WAL_MAX.false e.next_wal
    (subst (EndsBefore c.in-Ok.found.batches) e.next (numbered_before c.in-Ok.found.next c.in-Ok.found.batches (e.numbered refl).base))))
