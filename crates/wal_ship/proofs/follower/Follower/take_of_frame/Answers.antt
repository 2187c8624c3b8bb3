use Rattle.std.proofs.Common.{◌≡◌, ◌<◌, ◌≤◌, ◌++◌, ◌-◌, length, take, arith, ap, ◌∙◌, false, None, List, ℕ, subst, sym}
use Rattle.std.proofs.lemmas.List.{length-take}
use Rattle.batch_repr.specs.declared.batch.Batch.{Batch}
use Rattle.wal_ship.specs.Following.{Following}
use Rattle.wal_ship.specs.Course.{has_ended, fault_in}
use Rattle.wal_ship.specs.Taking.{PassesFrame}
use Rattle.wal_ship.proofs.Keeping.{kept_after}
use Rattle.wal_ship.proofs.Portions.{frame_taken}
use Rattle.wal_ship.proofs.follower.Follower.take_of_frame.Goals as goal

pub invariant_of-self-2 : goal.invariant_of-self-2
invariant_of-self-2 c =
    let late : 8 ≤ c.self.inside.fed = omega (arith, ap (λ (f : Following). f.fed) c.self.view_is, c.requires.late) in (
      c.in_ok-self-inside.ensures.run,
      kept_after _ _ _ c.self.inside.frame.items (take c.min-count.result c.args.piece.now) _ c.in_ok-self-inside.field-0 c.self.inside.fed
          c.min-count.result late c.self.invariant.1.behind (omega (arith, length-take c.min-count.result c.args.piece.now))
          c.in_ok-self-inside.ensures.passes,
    )

pub returns-clause-takes : goal.returns-clause-takes
returns-clause-takes c =
    let frame : List ℕ = c.self.inside.frame.items in
    let local : List Batch = c.self.inside.local.batches in
    let old : List Batch = c.self.inside.taken.batches in
    let new : List Batch = c.add_to_frame.new.taken.batches in
    let live : has_ended c.self.inside.course ≡ false = ap (λ (f : Following). f.ended) c.self.view_is ∙ c.requires.live in
    let right : fault_in c.self.inside.course ≡ None = ap (λ (f : Following). f.fault) c.self.view_is ∙ c.requires.right in
    let late : 8 ≤ c.self.inside.fed = omega (arith, ap (λ (f : Following). f.fed) c.self.view_is, c.requires.late) in
    let long : c.len.result ≡ length frame = c.len.ensures ∙ sym c.as_slice.ensures.len ∙ ap length c.as_slice.ensures.value in
    let some : 0 < c.min-count.result = omega (arith, c.min-count.ensures, c.wanted.ensures.some, c.requires.some) in
    let within : c.min-count.result ≤ length c.args.piece.now = omega (arith, c.min-count.ensures) in
    let passes = subst (λ (n : ℕ). PassesFrame (local ++ old) (local ++ new) (c.self.inside.fed - n) (frame ++ take c.min-count.result c.args.piece.now)
    c.add_to_frame.new.frame.items c.in_ok-self-inside.field-0) long c.in_ok-self-inside.ensures.passes in
    rw (← c.self.view_is)
    (frame_taken _ new c.add_to_frame.new.frame.items c.in_ok-self-inside.field-0 c.args.piece.now c.min-count.result live right late
    c.self.invariant.1.behind some within passes)
