use Rattle.std.proofs.Common.{List, sym, subst}
use Rattle.disk_face.specs.declared.Listed.{Listed}
use Rattle.disk_face.specs.Listing.{IsAscending}
use Rattle.wal_recovery.proofs.Laws.{last_cut}
use Rattle.flush_table.specs.Settling.{IsGreatestOf}
use Rattle.flush_table.proofs.LastWal.{last_greatest}
use Rattle.flush_table.proofs.flushing.last_on.Goals as goal

pub returns : goal.returns
returns c =
    let last = c.in_ok-last.last.now in
    let cut = last_cut c.args.names.now last (sym c.in_ok-last.ensures.value) in
    subst (λ (names : List Listed). IsGreatestOf names last.name.wal) (sym cut.1)
    (last_greatest cut.0 last (subst IsAscending cut.1 c.requires))
