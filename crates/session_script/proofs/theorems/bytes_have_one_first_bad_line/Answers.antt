use Rattle.line_words.specs.Words.{lines_of}
use Rattle.session_script.proofs.Prefixes.{none_bad, one_bad}
use Rattle.session_script.proofs.theorems.bytes_have_one_first_bad_line.Goals as goal

pub returns-clause-none : goal.returns-clause-none
returns-clause-none c bytes script line is bad = none_bad (lines_of bytes) script line is bad

pub returns-clause-one : goal.returns-clause-one
returns-clause-one c bytes line other a b = one_bad (lines_of bytes) line other a b
