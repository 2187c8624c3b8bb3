use Rattle.std.proofs.Common.{◌≡◌, ℕ, ◌*◌, List, refl, subst, arith}
use Rattle.std.specs.Prelude.{IfOk}
use Rattle.made_load.proofs.LoadTexts.{value_stands, within_texts}
use Rattle.made_load.proofs.load_lines.LoadTexts.value.Goals as goal

pub part-requires-clause-within : goal.part-requires-clause-within
part-requires-clause-within c =
    let all = c.args.self.now in
    omega (arith, within_texts all.batches c.args.place (69 * c.args.place) all.texts all.are c.requires refl)

pub returns : goal.returns
returns c =
    let all = c.args.self.now in
    subst (λ (t : List ℕ). IfOk c.part.result (λ value. value ≡ t))
    (value_stands all.batches c.args.place (69 * c.args.place) all.texts all.are c.requires refl)
    c.part.ensures
