use Rattle.std.proofs.Common.{map}
use Rattle.std.specs.String.{string_bytes}
use Rattle.command_line.proofs.Meaning.{read, refused}
use Rattle.command_line.proofs.words.read_command.Goals as goal

pub returns-clause-command : goal.returns-clause-command
returns-clause-command c =
    read (map string_bytes c.args.words.now) c.in_ok-parse.field-0 c.in_ok-asked.asked c.command.result c.ok_or-2.result
    c.in_ok-asked.ensures.ok_part c.in_ok-parse.ensures.some c.command.ensures.some c.ok_or-2.ensures.value

pub returns-clause-usage : goal.returns-clause-usage
returns-clause-usage c =
    refused (map string_bytes c.args.words.now) c.in_ok-parse.field-0 c.in_ok-asked.asked c.command.result c.ok_or-2.result
    c.in_ok-asked.ensures.ok_part c.in_ok-parse.ensures.some c.command.ensures.none c.ok_or-2.ensures.value
