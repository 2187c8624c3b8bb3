-- One step more each turn, until one is idle, has waited, or ends with a fault.
use Rattle.std.proofs.Common.{◌≡◌, ◌≢◌, ◌⊎◌, inr, None, refl, Result, Ok, Err, IfErr, ap, sym, subst, ◌∙◌, rules}
use Rattle.failover_writer.specs.declared.fault.JournalFault.{JournalFault}
use Rattle.failover_writer.specs.declared.fault.Step.{Step}
use Rattle.failover_writer.specs.declared.fault.Step.TheVariants as steps
use Rattle.failover_writer.specs.State.{JournalView}
use Rattle.failover_writer.specs.Answered as answered
use Rattle.failover_writer.specs.Answered.{StepsBy, IsIdle, IsMarked}
use Rattle.failover_writer.specs.Remaining.{Falls}
use Rattle.failover_writer.specs.Closing.{Moves}
use Rattle.failover_writer.proofs.Lasts.{lasts_none, lasts_further, moved_to}
use Rattle.failover_writer.proofs.journal.Journal.move_on.Goals as goal

pub loop-init : goal.loop-init
loop-init g c = record { steps = answered.none; want = refl; lasts = lasts_none g.D.Disk.tells g.D.Disk.view c.args.self.now; still = λ rests. refl }

-- A dead or idle journal stays as it was.
stays : {Disk : Type 0} (old now new : JournalView Disk) → ((old.state.dead ≢ None) ⊎ IsIdle old.state → now ≡ old)
    → ((now.state.dead ≢ None) ⊎ IsIdle now.state → new ≡ now) → (old.state.dead ≢ None) ⊎ IsIdle old.state → new ≡ old
stays old now new so_far step rests = step (subst (λ h. (h.state.dead ≢ None) ⊎ IsIdle h.state) (sym (so_far rests)) rests) ∙ so_far rests

pub returns-in_err-step-clause-still : goal.returns-in_err-step-clause-still
returns-in_err-step-clause-still g c = stays c.args.self.now c.loop.self c.step.new.self c.loop.invariant.still c.step.ensures.still

pub returns-in-Idle-clause-still : goal.returns-in-Idle-clause-still
returns-in-Idle-clause-still g c = stays c.args.self.now c.loop.self c.step.new.self c.loop.invariant.still c.step.ensures.still

pub returns-in-Waited-clause-still : goal.returns-in-Waited-clause-still
returns-in-Waited-clause-still g c = stays c.args.self.now c.loop.self c.step.new.self c.loop.invariant.still c.step.ensures.still

pub returns-in_err-step-clause-moves : goal.returns-in_err-step-clause-moves
returns-in_err-step-clause-moves g c =
    let fault : JournalFault = c.in_err-step.field-0.0 in
    let answers : c.from_residual.result ≡ Err fault = search rules in
    let came : c.step.result ≡ Err fault = c.in_err-step.was in
    let tells = g.D.Disk.tells in
    let old = c.args.self.now in
    let mid = c.loop.self in
    let new = c.step.new.self in
    let so_far = c.loop.invariant in
    let did = c.step.ensures in
    subst (Moves tells g.D.Disk.view old new) (sym answers)
    (moved_to tells g.D.Disk.view old mid new (Err fault) so_far.steps so_far.want so_far.lasts
    (subst (StepsBy mid.state new.state (g.D.Disk.view mid.disk) (g.D.Disk.view new.disk)) came did.rule) did.want did.lasts
    (λ e. let clash : Err fault ≡ Ok steps.Moved = e in cc) (λ e. let clash : Err fault ≡ Ok steps.Idle = e in cc)
    (λ e. let clash : Err fault ≡ Ok steps.Waited = e in cc)
    (subst (λ (r : Result Step JournalFault). IfErr r (IsMarked new.state)) came did.dead))

pub returns-in-Idle-clause-moves : goal.returns-in-Idle-clause-moves
returns-in-Idle-clause-moves g c =
    let came : c.step.result ≡ Ok steps.Idle = c.in_ok-step.was ∙ ap (λ (s : Step). Ok s) c.in-Idle.is in
    let tells = g.D.Disk.tells in
    let old = c.args.self.now in
    let mid = c.loop.self in
    let new = c.step.new.self in
    let so_far = c.loop.invariant in
    let did = c.step.ensures in
    let rests : IsIdle mid.state = did.idle.0 came in
    moved_to tells g.D.Disk.view old mid new (Ok steps.Idle) so_far.steps so_far.want so_far.lasts
    (subst (StepsBy mid.state new.state (g.D.Disk.view mid.disk) (g.D.Disk.view new.disk)) came did.rule) did.want did.lasts
    (λ e. let clash : Ok steps.Idle ≡ Ok steps.Moved = e in cc)
    (λ _. subst (λ (h : JournalView _). IsIdle h.state) (sym (did.still (inr rests))) rests)
    (λ e. let clash : Ok steps.Idle ≡ Ok steps.Waited = e in cc) tt

pub returns-in-Waited-clause-moves : goal.returns-in-Waited-clause-moves
returns-in-Waited-clause-moves g c =
    let came : c.step.result ≡ Ok steps.Waited = c.in_ok-step.was ∙ ap (λ (s : Step). Ok s) c.in-Waited.is in
    let tells = g.D.Disk.tells in
    let old = c.args.self.now in
    let mid = c.loop.self in
    let new = c.step.new.self in
    let so_far = c.loop.invariant in
    let did = c.step.ensures in
    moved_to tells g.D.Disk.view old mid new (Ok steps.Waited) so_far.steps so_far.want so_far.lasts
    (subst (StepsBy mid.state new.state (g.D.Disk.view mid.disk) (g.D.Disk.view new.disk)) came did.rule) did.want did.lasts
    (λ e. let clash : Ok steps.Waited ≡ Ok steps.Moved = e in cc) (λ e. let clash : Ok steps.Waited ≡ Ok steps.Idle = e in cc) (λ _. did.waited came) tt

pub loop-smaller : goal.loop-smaller
loop-smaller g c =
    let came : c.step.result ≡ Ok steps.Moved = c.in_ok-step.was ∙ ap (λ (s : Step). Ok s) c.in-Moved.is in
    let falls : Falls c.loop.self.state c.step.new.self.state (g.D.Disk.view c.loop.self.disk) (g.D.Disk.view c.step.new.self.disk) (Ok steps.Moved) =
    subst (Falls c.loop.self.state c.step.new.self.state (g.D.Disk.view c.loop.self.disk) (g.D.Disk.view c.step.new.self.disk)) came c.step.ensures.falls in
    falls (λ e. let clash : steps.Moved ≡ steps.Idle = e in cc)

pub loop-preserved : goal.loop-preserved
loop-preserved g c =
    let mid = c.loop.self in
    let new = c.step.new.self in
    let so_far = c.loop.invariant in
    let did = c.step.ensures in
    let came : c.step.result ≡ Ok steps.Moved = c.in_ok-step.was ∙ ap (λ (s : Step). Ok s) c.in-Moved.is in
    record {
      steps = answered.one_more mid.state new.state (g.D.Disk.view mid.disk) (g.D.Disk.view new.disk) so_far.steps
          (subst (StepsBy mid.state new.state (g.D.Disk.view mid.disk) (g.D.Disk.view new.disk)) came did.rule);
      want = did.want ∙ so_far.want;
      lasts = lasts_further g.D.Disk.tells g.D.Disk.view c.args.self.now mid new so_far.lasts did.lasts;
      still = stays c.args.self.now mid new so_far.still did.still;
    }
