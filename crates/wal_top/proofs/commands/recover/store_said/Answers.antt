-- What recovery answers, said in words of the store.
use Rattle.std.proofs.Common.{refl}
use Rattle.wal_recovery.specs.declared.reports.Mode.TheVariants.{Strict}
use Rattle.wal_top.specs.Call.{change_in}
use Rattle.wal_top.proofs.Saying.{ok_map}
use Rattle.wal_top.proofs.Recovery.{reads_store, says_unrecovered, synced_now}
use Rattle.wal_top.proofs.Recover.{says_store, says_no_store}
use Rattle.wal_top.proofs.commands.recover.store_said.Goals as goal

pub returns-in_ok-store_text-in-Ok-clause-says : goal.returns-in_ok-store_text-in-Ok-clause-says
returns-in_ok-store_text-in-Ok-clause-says g c =
    let e = c.in-Ok.ensures in
    let over = change_in g.D.Disk.view c.args.disk.now c.recover_store.new.disk in
    says_store g.D.Disk.tells over _ (reads_store Strict g.D.Disk.tells over c.in-Ok.found e.recovered) c.in-Ok.found.next e.next
    c.as_slice.result.now c.as_slice.ensures (synced_now g.D.Disk.tells over.before over.after e.goes_on e.files) (λ told. e.stable told refl) c.in_ok-store_text-in-Ok.ensures

pub returns-in-Err-clause-says : goal.returns-in-Err-clause-says
returns-in-Err-clause-says g c =
    let e = c.in-Err.ensures in
    let over = change_in g.D.Disk.view c.args.disk.now c.recover_store.new.disk in
    ok_map c.unrecovered.result c.unrecovered.ensures (λ said p. says_no_store g.D.Disk.tells over said.text said.status
    (says_unrecovered Strict g.D.Disk.tells over said.text (synced_now g.D.Disk.tells over.before over.after e.goes_on e.files) e.idle c.in-Err.fault said.status p e.disk e.refused e.untouched))
