use Rattle.std.proofs.Common.{◌≡◌, [], ◌∷◌, ◌++◌, List, refl, sym, subst}
use Rattle.batch_repr.proofs.Laws.{ok_of}
use Rattle.wal_recovery.specs.declared.wals.FoundWal.{FoundWal}
use Rattle.wal_recovery.specs.Rows.{Groups, IsGroup}
use Rattle.wal_recovery.proofs.Groups.{groups_more, group_is}
use Rattle.wal_recovery.proofs.wals.by_wal.Goals as goal

pub loop-first-init : goal.loop-first-init
unfolding Groups
loop-first-init c = subst (λ (w : List FoundWal). Groups w c.args.row.now c.args.row.now) (sym c.new-wals.ensures) refl

pub loop-first-preserved : goal.loop-first-preserved
loop-first-preserved c =
    let rest = c.loop-first.rest.now in
    let later = c.split_at.result.1.now in
    let group : IsGroup c.in_ok-wal.wal rest later =
    group_is rest c.count_own.result c.in-Some.first.now c.in_ok-wal.wal c.split_at.result.0.now later
    (sym c.in-Some.ensures.value) c.in_ok-wal.ensures.number c.count_own.ensures.own c.count_own.ensures.other
    c.split_at.ensures.front c.split_at.ensures.back c.in_ok-wal.ensures.segments in
    let pushed : c.push.new.self ≡ c.loop-first.wals ++ c.in_ok-wal.wal ∷ [] = ok_of c.push.result _ (sym c.if-is_err.ensures.value) c.push.ensures.ok in
    subst (λ (w : List FoundWal). Groups w c.args.row.now later) (sym pushed)
    (groups_more c.loop-first.wals c.args.row.now rest later c.in_ok-wal.wal c.loop-first.invariant group)
