use Rattle.std.proofs.Common.{◌≡◌, ◌+◌, suc, ℕ, List, sym, subst, arith}
use Rattle.disk_face.specs.declared.Listed.{Listed}
use Rattle.disk_face.specs.Listing.{IsAscending}
use Rattle.wal_recovery.specs.Sides.{IsAfter}
use Rattle.wal_recovery.proofs.LastItem.{last_cut}
use Rattle.wal_recovery.proofs.NextWals.{after_last}
use Rattle.wal_recovery.proofs.listing.next_wal_after.Goals as goal

pub returns-in-Some : goal.returns-in-Some
returns-in-Some c =
    let last = c.in-Some.last.now in
    let cut = last_cut c.args.names.now last (sym c.in-Some.ensures.value) in
    let next : suc last.name.wal ≡ last.name.wal + 1 = omega arith in
    subst (λ (n : ℕ). IsAfter c.args.names.now n) next
    (subst (λ (names : List Listed). IsAfter names (suc last.name.wal)) (sym cut.1)
    (after_last cut.0 last (subst IsAscending cut.1 c.requires.ascending)))
