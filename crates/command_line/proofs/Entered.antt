-- The command that a parse met, with the rows of what was found behind its name.
use Rattle.std.proofs.Common.{◌≡◌, sym, subst, List, Option, Some, None, option_map, IfSome, IfNone}
use Rattle.std.specs.Prelude.{Box}
use Rattle.std.specs.Box.{box_value}
use Rattle.clap.specs.Walk.{Row, Text}
use Rattle.clap.specs.Matches.{subcommand_name_of}
use Rattle.clap.specs.Simple.{subcommand_rows, subcommand_rows_of}
use Rattle.clap.specs.declared.parser.matches.ArgMatches.{ArgMatches}
use Rattle.clap.specs.declared.parser.matches.ArgMatches.TheViews.{out-ArgMatches, out-SubCommand}
use Rattle.clap.specs.declared.parser.matches.SubCommand.{SubCommand}
use Rattle.command_line.specs.declared.asked.Asked.{Asked}
use Rattle.command_line.specs.Asked.{IsReadFrom, IsReadFromNothing}

module _ {Z : Type 0} where
  one_met : (sub : Option (Box SubCommand Z)) (name : Text) (rows : List Row)
      → Some name ≡ option_map (λ b. (out-SubCommand (box_value b)).name.now) sub
      → Some rows ≡ option_map (λ p. p.1) (subcommand_rows sub) → subcommand_rows sub ≡ Some (name, rows)
  one_met None name rows named found = cc
  one_met (Some b) name rows named found = cc

pub met_is : (m : ArgMatches) (name : Text) (rows : List Row) → Some name ≡ subcommand_name_of m
    → Some rows ≡ option_map (λ p. p.1) (subcommand_rows (out-ArgMatches m).subcommand) → subcommand_rows_of m ≡ Some (name, rows)
met_is m name rows named found = one_met (out-ArgMatches m).subcommand name rows named found

-- ---- what is read from it

pub some_read : (found : Option (Text × List Row)) (name : Text) (rows : List Row) (asked : Asked) → found ≡ Some (name, rows)
    → IsReadFrom name rows asked → IfSome found (λ met. IsReadFrom met.0 met.1 asked)
some_read found name rows asked is read = subst (λ o. IfSome o (λ met. IsReadFrom met.0 met.1 asked)) (sym is) read

pub nothing_read : (result : Option Asked) (found : Option (Text × List Row)) (name : Text) (rows : List Row) → result ≡ None
    → found ≡ Some (name, rows) → IsReadFromNothing name rows → IfNone result (IfSome found (λ met. IsReadFromNothing met.0 met.1))
nothing_read result found name rows none is nothing =
    subst (λ r. IfNone r (IfSome found (λ met. IsReadFromNothing met.0 met.1))) (sym none)
    (subst (λ o. IfSome o (λ met. IsReadFromNothing met.0 met.1)) (sym is) nothing)
