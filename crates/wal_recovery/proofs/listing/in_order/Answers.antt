use Rattle.std.proofs.Common.{◌≡◌, [], ◌∷◌, ◌++◌, List, refl, sym, subst}
use Rattle.batch_repr.proofs.Laws.{ok_of}
use Rattle.wal_recovery.specs.declared.listing.Found.{Found}
use Rattle.wal_recovery.specs.Rows.{Weaves}
use Rattle.wal_recovery.proofs.Weaves.{weaves_more}
use Rattle.wal_recovery.proofs.listing.in_order.Goals as goal

pub loop-row-init : goal.loop-row-init
unfolding Weaves
loop-row-init c = subst (λ (r : List Found). Weaves r c.args.primary.now c.args.secondary.now c.args.primary.now c.args.secondary.now)
    (sym c.new-row.ensures) (refl, refl)

pub loop-row-preserved : goal.loop-row-preserved
loop-row-preserved c =
    let ones = c.args.primary.now in
    let others = c.args.secondary.now in
    let pushed : c.push.new.self ≡ c.loop-row.row ++ c.in-Segment.found ∷ [] = ok_of c.push.result _ (sym c.if-is_err.ensures.value) c.push.ensures.ok in
    subst (λ (r : List Found). Weaves r ones others c.in-Segment.ones_left.now c.in-Segment.others_left.now) (sym pushed)
    (weaves_more c.loop-row.row ones others c.loop-row.ones.now c.loop-row.others.now c.in-Segment.ones_left.now
    c.in-Segment.others_left.now c.in-Segment.found c.loop-row.invariant c.in-Segment.ensures)
