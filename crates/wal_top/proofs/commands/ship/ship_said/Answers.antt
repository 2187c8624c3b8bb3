-- What recovery answers, said in words of the store.
use Rattle.std.proofs.Common.{refl}
use Rattle.wal_recovery.specs.declared.reports.Mode.TheVariants.{Strict}
use Rattle.wal_top.specs.Call.{change_in}
use Rattle.wal_top.proofs.Saying.{ok_map}
use Rattle.wal_top.proofs.Recovery.{reads_store, says_unrecovered, synced_now}
use Rattle.wal_top.proofs.Ship.{store_spelled, says_read, says_unread_store}
use Rattle.wal_top.proofs.commands.ship.ship_said.Goals as goal

pub shipped-requires : goal.shipped-requires
shipped-requires g c =
    let e = c.in-Ok.ensures in
    store_spelled c.in-Ok.found.next c.in-Ok.found.batches (e.numbered refl) e.within (e.limits refl)

pub returns-in-Ok-clause-says : goal.returns-in-Ok-clause-says
returns-in-Ok-clause-says g c =
    let e = c.in-Ok.ensures in
    let over = change_in g.D.Disk.view c.args.disk.now c.recover_store.new.disk in
    ok_map c.shipped.result c.shipped.ensures (λ said p. says_read g.D.Disk.tells over said.text
    (reads_store Strict g.D.Disk.tells over c.in-Ok.found e.recovered) (synced_now g.D.Disk.tells over.before over.after e.goes_on e.files)
    (λ told. e.stable told refl) said.status p)

pub returns-in-Err-clause-says : goal.returns-in-Err-clause-says
returns-in-Err-clause-says g c =
    let e = c.in-Err.ensures in
    let over = change_in g.D.Disk.view c.args.disk.now c.recover_store.new.disk in
    ok_map c.unrecovered.result c.unrecovered.ensures (λ said p. says_unread_store g.D.Disk.tells over said.text said.status
    (says_unrecovered Strict g.D.Disk.tells over said.text (synced_now g.D.Disk.tells over.before over.after e.goes_on e.files) e.idle c.in-Err.fault said.status p e.disk e.refused e.untouched))
