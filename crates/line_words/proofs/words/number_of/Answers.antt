use Rattle.std.proofs.Common.{◌≡◌, true, false, None, Some, ap, sym, ◌∙◌}
use Rattle.std.specs.Result.{result_ok}
use Rattle.std.specs.Fmt.{decimal}
use Rattle.std.proofs.lemmas.Slice.Eq.{bytes_eq-Decides}
use Rattle.line_words.proofs.Numerals.{if_none, is_text, is_number, some_is, text_is}
use Rattle.line_words.proofs.words.number_of.Goals as goal

pub returns-in_err-text-clause-none : goal.returns-in_err-text-clause-none
returns-in_err-text-clause-none c =
    if_none c.from_residual.result (λ n low is. is_text n c.args.digits.now low is _ c.from_utf8.result c.from_utf8.ensures.cases c.in_err-text.ensures.value)

pub returns-in_err-number-clause-none : goal.returns-in_err-number-clause-none
returns-in_err-number-clause-none c = if_none c.from_residual-in_err-number.result (λ n low is.
    let text = text_is c.args.digits.now _ c.from_utf8.result c.in_ok-text.text c.from_utf8.ensures.cases c.in_ok-text.ensures.value in
    let read = is_number n c.args.digits.now low is c.in_ok-text.text.now c.parse.result text c.parse.ensures.value.0 in
    let no : None ≡ Some n = c.in_err-number.ensures.value ∙ ap result_ok read in cc)

pub returns-else-eq-clause-none : goal.returns-else-eq-clause-none
returns-else-eq-clause-none c n low is =
    let text = text_is c.args.digits.now _ c.from_utf8.result c.in_ok-text.text c.from_utf8.ensures.cases c.in_ok-text.ensures.value in
    let read = is_number n c.args.digits.now low is c.in_ok-text.text.now c.parse.result text c.parse.ensures.value.0 in
    let number = some_is (c.in_ok-number.ensures.value ∙ ap result_ok read) in
    let spelled = (bytes_eq-Decides c.as_bytes.result.now c.args.digits.now).1 (c.as_bytes.ensures.value ∙ c.format.ensures.text ∙ ap decimal number
    ∙ sym is) in
    let no : true ≡ false = sym spelled ∙ sym c.eq.ensures ∙ c.if-eq.false in cc
