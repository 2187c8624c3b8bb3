use Rattle.std.proofs.Common.{◌≡◌, None, Some, sym, ap, ◌∙◌, arith}
use Rattle.std.specs.Result.{result_ok}
use Rattle.disk_face.specs.declared.TableName.{TableName}
use Rattle.disk_face.proofs.Spelling.{filled_ascii, parse_filled}
use Rattle.disk_face.proofs.names.table_candidate.Goals as goal

pub returns-in_err-stem : goal.returns-in_err-stem
returns-in_err-stem c upto ok is = absurd (c.in_err-stem.ensures _ (filled_ascii 6 upto (omega (arith, ok))) (sym is))

pub returns-in_err-upto : goal.returns-in_err-upto
returns-in_err-upto c upto ok is =
    let stem = c.in_ok-stem.ensures _ (filled_ascii 6 upto (omega (arith, ok))) (sym is) in
    let number = parse_filled 64 upto _ c.parse.result (omega (arith, ok)) (omega (arith, ok)) (6, stem) c.parse.ensures.value.0 in
    let no : None ≡ Some upto = c.in_err-upto.ensures.value ∙ ap result_ok number in cc

pub returns : goal.returns
returns c upto ok is =
    let stem = c.in_ok-stem.ensures _ (filled_ascii 6 upto (omega (arith, ok))) (sym is) in
    let number = parse_filled 64 upto _ c.parse.result (omega (arith, ok)) (omega (arith, ok)) (6, stem) c.parse.ensures.value.0 in
    let is_number : Some c.in_ok-upto.upto ≡ Some upto = c.in_ok-upto.ensures.value ∙ ap result_ok number in
    let same : c.in_ok-upto.upto ≡ upto = cc in
    ap {A = TableName} Some (λ i. record { upto = same i })
