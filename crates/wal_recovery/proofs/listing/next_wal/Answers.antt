use Rattle.std.proofs.Common.{List, subst}
use Rattle.disk_face.specs.declared.Listed.{Listed}
use Rattle.wal_recovery.specs.Sides.{IsAfter}
use Rattle.wal_recovery.proofs.NextWals.{next_is}
use Rattle.wal_recovery.proofs.listing.next_wal.Goals as goal

pub returns : goal.returns
returns c files are =
    let one = c.next_wal_after-primary.result in
    let other = c.next_wal_after.result in
    next_is files c.args.sides.now are one other
    (subst (λ (names : List Listed). IsAfter names one) c.as_slice.ensures c.next_wal_after-primary.ensures)
    (subst (λ (names : List Listed). IsAfter names other) c.as_slice-2.ensures c.next_wal_after.ensures)
    c.max.result c.max.ensures
