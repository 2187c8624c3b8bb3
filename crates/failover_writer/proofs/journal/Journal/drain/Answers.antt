-- One step more each turn, until one is idle or ends with a fault.
use Rattle.std.proofs.Common.{◌≡◌, ◌≢◌, ◌⊎◌, inl, inr, None, refl, Result, Ok, Err, IfErr, sym, subst, ◌∙◌, rules}
use Rattle.failover_writer.specs.declared.fault.JournalFault.{JournalFault}
use Rattle.failover_writer.specs.declared.fault.Step.{Step}
use Rattle.failover_writer.specs.declared.fault.Step.TheVariants as steps
use Rattle.failover_writer.specs.Answered as answered
use Rattle.failover_writer.specs.State.{JournalView}
use Rattle.failover_writer.specs.Answered.{StepsBy, IsIdle, IsMarked}
use Rattle.failover_writer.specs.Closing.{Drains}
use Rattle.failover_writer.specs.Remaining.{Falls}
use Rattle.failover_writer.proofs.Lasts.{lasts_none, lasts_further, drained}
use Rattle.failover_writer.proofs.journal.Journal.drain.Goals as goal

pub loop-init : goal.loop-init
loop-init g c = record { steps = answered.none; want = refl; lasts = lasts_none g.D.Disk.tells g.D.Disk.view c.args.self.now; still = λ dead. refl }

-- A dead journal stays as it was.
stays : {Disk : Type 0} (old now new : JournalView Disk) → (old.state.dead ≢ None → now ≡ old)
    → ((now.state.dead ≢ None) ⊎ IsIdle now.state → new ≡ now) → old.state.dead ≢ None → new ≡ old
stays old now new so_far step dead = step (inl (subst (λ h. h.state.dead ≢ None) (sym (so_far dead)) dead)) ∙ so_far dead

pub returns-in_err-step-clause-still : goal.returns-in_err-step-clause-still
returns-in_err-step-clause-still g c = stays c.args.self.now c.loop.self c.step.new.self c.loop.invariant.still c.step.ensures.still

pub returns-in_err-step-clause-drains : goal.returns-in_err-step-clause-drains
returns-in_err-step-clause-drains g c =
    let fault : JournalFault = c.in_err-step.field-0.0 in
    let answers : c.from_residual.result ≡ Err fault = search rules in
    let came : c.step.result ≡ Err fault = c.in_err-step.was in
    let new = c.step.new.self in
    let so_far = c.loop.invariant in
    let did = c.step.ensures in
    let marked : IsMarked new.state fault = subst (λ (r : Result Step JournalFault). IfErr r (IsMarked new.state)) came did.dead in
    subst (Drains g.D.Disk.tells g.D.Disk.view c.args.self.now new) (sym answers)
    (drained g.D.Disk.tells g.D.Disk.view c.args.self.now c.loop.self new c.step.result (Err fault) came so_far.steps so_far.want
    so_far.lasts did.rule did.want did.lasts tt marked)

ruled : (g : _) (c : goal.In-Moved g) → StepsBy c.loop.self.state c.step.new.self.state (g.D.Disk.view c.loop.self.disk)
    (g.D.Disk.view c.step.new.self.disk) (Ok c.in_ok-step.field-0)
ruled g c = subst (StepsBy c.loop.self.state c.step.new.self.state (g.D.Disk.view c.loop.self.disk) (g.D.Disk.view c.step.new.self.disk))
    c.in_ok-step.was c.step.ensures.rule

busy : (g : _) (c : goal.In-Moved g) → c.in_ok-step.field-0 ≢ steps.Idle
busy g c is = elim c.in-Moved.is [
  | inl moved ↦ let clash : steps.Moved ≡ steps.Idle = sym moved ∙ is in cc
  | inr waited ↦ let clash : steps.Waited ≡ steps.Idle = sym waited ∙ is in cc
]

pub loop-smaller : goal.loop-smaller
loop-smaller g c =
    let falls : Falls c.loop.self.state c.step.new.self.state (g.D.Disk.view c.loop.self.disk) (g.D.Disk.view c.step.new.self.disk) (Ok c.in_ok-step.field-0) =
    subst (Falls c.loop.self.state c.step.new.self.state (g.D.Disk.view c.loop.self.disk) (g.D.Disk.view c.step.new.self.disk))
    c.in_ok-step.was c.step.ensures.falls in
    falls (busy g c)

pub loop-preserved : goal.loop-preserved
loop-preserved g c =
    let mid = c.loop.self in
    let new = c.step.new.self in
    let so_far = c.loop.invariant in
    record {
      steps = answered.one_more mid.state new.state (g.D.Disk.view mid.disk) (g.D.Disk.view new.disk) c.in_ok-step.field-0 so_far.steps (ruled g c);
      want = c.step.ensures.want ∙ so_far.want;
      lasts = lasts_further g.D.Disk.tells g.D.Disk.view c.args.self.now mid new so_far.lasts c.step.ensures.lasts;
      still = stays c.args.self.now mid new so_far.still c.step.ensures.still;
    }
