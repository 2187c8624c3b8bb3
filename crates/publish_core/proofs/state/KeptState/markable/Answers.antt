use Rattle.std.proofs.Common.{◌≡◌, ℕ, ◌<◌, IsTrue, true, false, Some, sym, ◌∙◌, ap, subst, arith}
use lib.ListN.{get_elem?}
use mathlib.Core.Option.{some}
use Rattle.publish_core.specs.declared.seat.BatchShape.{BatchShape}
use Rattle.publish_core.specs.declared.seat.SeatState.{SeatState}
use Rattle.publish_core.specs.declared.state.KeptSeat.{KeptSeat}
use Rattle.publish_core.specs.Machine.{Among}
use Rattle.publish_core.specs.Parts.{has_part}
use Rattle.publish_core.specs.Kept.{seat_of}
use Rattle.publish_core.proofs.Knows.{read_at, stands_at}
use Rattle.publish_core.proofs.Stored.{stored, stored_at}
use Rattle.publish_core.proofs.state.KeptState.markable.Goals.{else-held-self-via-then-held-self+else-knows_all, else-held-self-via-else-held-self}
use Rattle.publish_core.proofs.state.KeptState.markable.Goals as goal

pub returns-then-knows_all-clause-some : goal.returns-then-knows_all-clause-some
returns-then-knows_all-clause-some c =
    let s = c.args.self.now in let l = s.seats.items in let j : ℕ = c.args.seat in let cell : KeptSeat = c.index-marker.result.now in
    let p : seat_of cell ≡ stored l j = stored_at l j cell (c.acts.ensures.made c.if-not-acts.false) c.index-marker.ensures in
    let held : cell.held ≡ Some c.in_ok-held.held = cc in (
      c.acts.ensures.acts.0 c.if-not-acts.false,
      (
        c.in_ok-held.held,
        ap (λ (d : SeatState). d.held) (sym p) ∙ held,
        c.if-held-self.true,
        λ b k at part. let is : c.index.result.now ≡ b = c.index.ensures ∙ read_at s.batches.items c.in_ok-held.held b c.index.result.now at in
            subst (λ (d : SeatState). Among (record { batch = c.in_ok-held.held; shard = k }) d.knows) p
            (c.knows_all.ensures.0 c.if-knows_all.true k (subst (λ (x : BatchShape). IsTrue (has_part x k)) (sym is) part)),
      ),
    )

pub returns-else-held-self-clause-none : goal.returns-else-held-self-clause-none
returns-else-held-self-clause-none c = λ q.
    let s = c.args.self.now in let l = s.seats.items in let j : ℕ = c.args.seat in let cell : KeptSeat = c.index-marker.result.now in
    let p : seat_of cell ≡ stored l j = stored_at l j cell (c.acts.ensures.made c.if-not-acts.false) c.index-marker.ensures in
    let held : cell.held ≡ Some c.in_ok-held.held = cc in let i : ℕ = q.1.0 in
    let same : Some c.in_ok-held.held ≡ Some i = sym held ∙ ap (λ (d : SeatState). d.held) p ∙ q.1.1 in
    let is : c.in_ok-held.held ≡ i = cc in
    let below : i < s.head = q.1.2 in
    elim c.else-held-self.branch [
      | else-held-self-via-then-held-self+else-knows_all w ↦ let at : get_elem? s.batches.items c.in_ok-held.held ≡ some w.index.result.now =
          stands_at s.batches.items c.in_ok-held.held w.index.result.now (omega arith) w.index.ensures in
          let t : IsTrue w.knows_all.result = w.knows_all.ensures.1
          (λ k part. subst (λ (x : SeatState × ℕ). Among (record { batch = x.1; shard = k }) x.0.knows) (λ z. (sym p z, sym is z))
          (q.1.3 w.index.result.now k (subst (λ (x : ℕ). get_elem? s.batches.items x ≡ some w.index.result.now) is at) part)) in
          let f : w.knows_all.result ≡ false = w.if-knows_all.false in let z : false ≡ true = sym f ∙ t in cc
      | else-held-self-via-else-held-self w ↦ absurd (omega arith)
    ]
