use Rattle.std.proofs.Common.{◌≡◌, ℕ, ◌%◌, rules, ap, sym, ◌∙◌}
use Rattle.made_load.specs.Load.{load_key}
use Rattle.made_load.specs.EveryNth.{nth_number}
use Rattle.made_load.proofs.EveryNth.{stands_back}
use Rattle.made_load.proofs.LoadMade.{sets_alone, sets_and_deletes}
use Rattle.made_load.proofs.load_lines.LoadTexts.entries.Goals as goal
use Rattle.made_load.proofs.load_lines.LoadTexts.entries.Goals.{then-deletes+in_ok-key+in_ok-map_err-2, else-deletes}

pub returns : goal.returns
returns c =
    let all = c.args.self.now.batches in
    let index = nth_number all c.args.place in
    elim c.if-deletes.branch [
      | then-deletes+in_ok-key+in_ok-map_err-2 w ↦
          let last : index % 8 ≡ 7 = ap (λ (i : ℕ). i % 8) (sym c.number.ensures) ∙ w.if-deletes.true in
          let back = stands_back all.first all.step all.back c.args.place all.whole all.eighth last in
          w.entries-is
          ∙ sets_and_deletes all.seed index c.in_ok-entries.entries c.push.new.self w.push-then-deletes.new.self c.in_ok-set.set
          w.in_ok-key.key last c.in_ok-entries.ensures c.in_ok-set.ensures (w.in_ok-key.ensures ∙ ap load_key back.1) (search rules) (search rules)
      | else-deletes w ↦
          w.entries-is
          ∙ sets_alone all.seed index c.in_ok-entries.entries c.push.new.self c.in_ok-set.set
          (λ last. w.if-deletes.false (ap (λ (i : ℕ). i % 8) c.number.ensures ∙ last))
          c.in_ok-entries.ensures c.in_ok-set.ensures (search rules)
    ]
