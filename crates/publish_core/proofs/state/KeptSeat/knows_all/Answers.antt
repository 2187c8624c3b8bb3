use Rattle.std.proofs.Common.{◌≡◌, ℕ, ◌<◌, true, false, IsTrue, sym, ◌∙◌, ap, subst, refl, arith, lt_of_not-le}
use Rattle.std.specs.List.{list_any}
use mathlib.Core.Logic.{dite}
use native.Mathlib.Decide.{ℕ_discrete, dec_le}
use Rattle.publish_core.specs.declared.state.TheConstants.{SHARDS}
use Rattle.publish_core.specs.Machine.{Among}
use Rattle.publish_core.specs.Parts.{has_part}
use Rattle.publish_core.specs.Kept.{seat_of}
use Rattle.publish_core.proofs.Knows.{is_pair, knows_found, knows_stands, no_part}
use Rattle.publish_core.proofs.state.KeptSeat.knows_all.Goals.{else-touches-via-then-touches+else-not-knows_pair, else-touches-via-else-touches}
use Rattle.publish_core.proofs.state.KeptSeat.knows_all.Goals as goal

pub returns-then-not-knows_pair : goal.returns-then-not-knows_pair
returns-then-not-knows_pair c =
    let l = c.args.self.now.knows.items in let k : ℕ = c.loop-shard.shard in (
      λ e. let z : false ≡ true = e in cc,
      λ h. let part : IsTrue (has_part c.args.shape k) = sym c.touches.ensures ∙ c.if-touches.true in
          let t : list_any (is_pair c.args.batch k) l ≡ true = knows_stands c.args.batch k l (h k part) in
          let f : c.knows_pair.result ≡ false = c.if-not-knows_pair.true in
          let e : c.knows_pair.result ≡ list_any (is_pair c.args.batch k) l = c.knows_pair.ensures in cc,
    )

pub loop-shard-preserved : goal.loop-shard-preserved
loop-shard-preserved c = λ k lt part. let now : ℕ = c.loop-shard.shard in let l = c.args.self.now.knows.items in
    dite (ℕ_discrete k now)
    (λ (e : k ≡ now). subst (λ (q : ℕ). Among (record { batch = c.args.batch; shard = q }) (seat_of c.args.self.now).knows) (sym e)
    (elim c.else-touches.branch [
      | else-touches-via-then-touches+else-not-knows_pair w ↦ knows_found c.args.batch now l (sym w.knows_pair.ensures ∙ w.if-not-knows_pair.false)
      | else-touches-via-else-touches w ↦ let f : c.touches.result ≡ false = w.if-touches.false in let t : has_part c.args.shape k ≡ true = part in
          let same : has_part c.args.shape k ≡ has_part c.args.shape now = ap (has_part c.args.shape) e in
          let z : false ≡ true = sym f ∙ c.touches.ensures ∙ sym same ∙ t in cc
    ]))
    (λ ne. c.loop-shard.invariant k (omega arith) part)

pub returns : goal.returns
returns c = (
  λ _ k part. dite (dec_le SHARDS k)
      (λ far. absurd (no_part c.args.shape k (omega arith) far part))
      (λ near. let lt : k < SHARDS = lt_of_not-le near in c.loop-shard.invariant k (omega arith) part),
  λ _. refl,
)
