use Rattle.std.proofs.Common.{◌≡◌, None, Some, sym, ap, ◌∙◌, arith}
use Rattle.std.specs.Result.{result_ok}
use Rattle.disk_face.proofs.Spelling.{stem_ascii, parse_filled, same_numbers}
use Rattle.disk_face.proofs.names.candidate.Goals as goal

pub returns-in_err-stem : goal.returns-in_err-stem
returns-in_err-stem c name ok is = absurd (c.in_err-stem.ensures _ (stem_ascii name ok) (sym is))

pub returns-in_err-wal : goal.returns-in_err-wal
returns-in_err-wal c name ok is =
    let stem = c.in_ok-stem.ensures _ (stem_ascii name ok) (sym is) in
    let parts = c.split.ensures name ok stem in
    let wal = parse_filled 64 name.wal _ c.parse.result (omega (arith, ok.0)) (omega (arith, ok.0)) parts.0 c.parse.ensures.value.0 in
    let no : None ≡ Some name.wal = c.in_err-wal.ensures.value ∙ ap result_ok wal in cc

pub returns-in_err-index : goal.returns-in_err-index
returns-in_err-index c name ok is =
    let stem = c.in_ok-stem.ensures _ (stem_ascii name ok) (sym is) in
    let parts = c.split.ensures name ok stem in
    let index = parse_filled 32 name.index _ c.parse-2.result (omega (arith, ok.1)) (omega (arith, ok.1)) parts.1 c.parse-2.ensures.value.0 in
    let no : None ≡ Some name.index = c.in_err-index.ensures.value ∙ ap result_ok index in cc

pub returns : goal.returns
returns c name ok is =
    let stem = c.in_ok-stem.ensures _ (stem_ascii name ok) (sym is) in
    let parts = c.split.ensures name ok stem in
    let wal = parse_filled 64 name.wal _ c.parse.result (omega (arith, ok.0)) (omega (arith, ok.0)) parts.0 c.parse.ensures.value.0 in
    let index = parse_filled 32 name.index _ c.parse-2.result (omega (arith, ok.1)) (omega (arith, ok.1)) parts.1 c.parse-2.ensures.value.0 in
    let wal_is : Some c.in_ok-wal.wal ≡ Some name.wal = c.in_ok-wal.ensures.value ∙ ap result_ok wal in
    let index_is : Some c.in_ok-index.index ≡ Some name.index = c.in_ok-index.ensures.value ∙ ap result_ok index in
    same_numbers c.in_ok-wal.wal c.in_ok-index.index name wal_is index_is
