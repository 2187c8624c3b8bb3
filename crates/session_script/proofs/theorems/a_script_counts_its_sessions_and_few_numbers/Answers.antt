use Rattle.line_words.specs.Words.{lines_of}
use Rattle.session_script.proofs.Counting.{few_numbers}
use Rattle.session_script.proofs.Naming.{names_its_sessions}
use Rattle.session_script.proofs.theorems.a_script_counts_its_sessions_and_few_numbers.Goals as goal

pub returns-clause-sessions : goal.returns-clause-sessions
returns-clause-sessions c bytes script is = names_its_sessions (lines_of bytes) script is

pub returns-clause-numbers : goal.returns-clause-numbers
returns-clause-numbers c = few_numbers
