use Rattle.line_words.specs.Words.{lines_of}
use Rattle.session_script.proofs.OneScript.{one_script}
use Rattle.session_script.proofs.theorems.bytes_are_one_script.Goals as goal

pub returns : goal.returns
returns c bytes script other a b = one_script (lines_of bytes) script other a b
