use Rattle.command_line.proofs.OneCommand.{one_command}
use Rattle.command_line.proofs.theorems.words_are_one_command.Goals as goal

pub returns : goal.returns
returns c words command other a b = one_command words command other a b
