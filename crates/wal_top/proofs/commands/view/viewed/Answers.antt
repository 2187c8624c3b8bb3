-- What recovery answers, said in words of the store, and viewed by the lines.
use Rattle.std.proofs.Common.{ℕ, List, refl, sym, subst}
use Rattle.wal_recovery.specs.declared.reports.Mode.TheVariants.{Strict}
use Rattle.flush_table.specs.Stores.{number_after}
use Rattle.snapshot_view.specs.Views.{CanBeViewed}
use Rattle.view_runner.specs.Replies.{IsViewText}
use Rattle.wal_top.specs.Call.{change_in}
use Rattle.wal_top.specs.View.{ShowsView}
use Rattle.wal_top.proofs.Saying.{ok_map}
use Rattle.wal_top.proofs.Recovery.{reads_store, says_unrecovered, shows_unrecovered, synced_now}
use Rattle.wal_top.proofs.View.{can_be_viewed}
use Rattle.wal_top.proofs.commands.view.viewed.Goals as goal

pub view_text-requires : goal.view_text-requires
view_text-requires g c =
    let e = c.in-Ok.ensures in
    subst (CanBeViewed c.in-Ok.found.batches) (sym c.floor_of.ensures) (can_be_viewed c.in-Ok.found (e.contiguous refl) e.next e.within)

pub returns-in_ok-view_text-in-Ok-clause-says : goal.returns-in_ok-view_text-in-Ok-clause-says
returns-in_ok-view_text-in-Ok-clause-says g c =
    let e = c.in-Ok.ensures in
    let over = change_in g.D.Disk.view c.args.disk.now c.recover_store.new.disk in
    record {
      read = reads_store Strict g.D.Disk.tells over c.in-Ok.found e.recovered;
      text_is = subst (λ (floor : ℕ). IsViewText c.in-Ok.found.batches floor c.args.lines.now c.in_ok-view_text-in-Ok.field-0)
          c.floor_of.ensures c.in_ok-view_text-in-Ok.ensures;
      only_synced = synced_now g.D.Disk.tells over.before over.after e.goes_on e.files;
      stable = λ told. e.stable told refl;
    }

pub returns-in-Err-clause-says : goal.returns-in-Err-clause-says
returns-in-Err-clause-says g c =
    let e = c.in-Err.ensures in
    let over = change_in g.D.Disk.view c.args.disk.now c.recover_store.new.disk in
    ok_map c.unrecovered.result c.unrecovered.ensures
    (λ said p. shows_unrecovered Strict g.D.Disk.tells over said.text (ShowsView g.D.Disk.tells over c.args.lines.now said.text) said.status
    (says_unrecovered Strict g.D.Disk.tells over said.text (synced_now g.D.Disk.tells over.before over.after e.goes_on e.files) e.idle
    c.in-Err.fault said.status p e.disk e.refused e.untouched))
