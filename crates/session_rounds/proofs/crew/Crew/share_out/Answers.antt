-- Turn by turn.
use Rattle.std.specs.Prelude.{◌≡◌, List, [], ◌∷◌, ◌++◌, Vec}
use Rattle.std.specs.declared.alloc.Global.{Global}
use Rattle.std.proofs.Common.{sym, ap, ◌∙◌, rules}
use Rattle.session_rounds.specs.declared.course.Course.{Course}
use Rattle.session_rounds.proofs.Sharing.{keeps_idle, keeps_working}
use Rattle.session_rounds.proofs.crew.Crew.share_out.Goals.{then-is_at_work+in_ok-working, else-is_at_work}
use Rattle.session_rounds.proofs.crew.Crew.share_out.Goals as goal

pub loop-turn-preserved : goal.loop-turn-preserved
loop-turn-preserved g c =
    let so = c.loop-turn in
    let turn = c.in-Some.turn in
    let now = c.if-is_at_work in
    let pushed : c.push.new.self.items ≡ now.own.items ++ turn ∷ [] = search rules in
    elim now.branch [
      | then-is_at_work+in_ok-working w ↦
          keeps_working so.yielded so.busy.items so.own.items so.working turn w.give_full.new.busy.items w.give_full.new.own.items
          w.in_ok-working.working now.busy.items now.own.items now.working c.push.new.self.items so.invariant w.in_ok-working.ensures.shared
          w.in_ok-working.ensures.counted (sym c.is_at_work.ensures ∙ w.if-is_at_work.true)
          (ap (λ (v : Vec (List Course) Global). v.items) w.busy-is) (ap (λ (v : Vec Course Global). v.items) w.own-is) w.working-is pushed
      | else-is_at_work w ↦
          keeps_idle so.yielded so.busy.items so.own.items so.working turn now.busy.items now.own.items now.working c.push.new.self.items so.invariant
          (ap (λ (v : Vec (List Course) Global). v.items) w.busy-is) (ap (λ (v : Vec Course Global). v.items) w.own-is) w.working-is pushed
    ]
