-- The program, as `clap` is told of it. Nothing of it is seen from outside.
use Rattle.std.specs.Prelude.{◌≡◌, Bool, true, false, [], ◌∷◌, Option, Some, None, List, ℕ, codes, if◌then◌else◌}
use Rattle.std.specs.List.{list_any}
use Rattle.std.specs.Str.{bytes_eq}
use Rattle.clap.specs.Walk.{Names, Rule, Text}
use Rattle.clap.specs.Simple.{App, app_of, new_app, new_rule, new_shape, with_rule, with_subcommand}
use Rattle.clap.specs.declared.builder.action.ArgAction.TheVariants.{Set}
use Rattle.clap.specs.declared.builder.command.Command.{Command}
use Rattle.clap.specs.declared.builder.command.Command.TheViews.{out-Command}
use Rattle.command_line.specs.declared.command.Command as commands
use Rattle.command_line.specs.declared.command.Command.TheVariants.{Recover, Dump, Flush, View, Ship}

-- `--threshold`, of which a second use is refused
unfoldable pub threshold_rule : Rule
threshold_rule = record (new_rule (codes "threshold")) {
  long = Some (codes "threshold");
  action = Some Set;
}

-- a word that has to be there
abbrev pub word_rule : List ℕ → Rule
word_rule name = record (new_rule name) { required = true; action = Some Set }

unfoldable pub replay_app : App
unfolding threshold_rule
replay_app = with_rule (new_app (codes "replay")) threshold_rule

unfoldable pub load_app : App
load_app = with_rule (with_rule (new_app (codes "load")) (word_rule (codes "seed")))
    (word_rule (codes "count"))

-- no words of `clap`'s own, and a command has to be named
unfoldable pub bare_app : App
bare_app = record {
  top = record (new_shape (codes "program")) {
    no_binary_name = true;
    disable_help_flag = true;
    disable_help_subcommand = true;
    disable_version_flag = true;
    subcommand_required = true;
  };
  subs = [];
}

unfoldable pub program_app : App
program_app =
    with_subcommand (with_subcommand (with_subcommand (with_subcommand (with_subcommand (with_subcommand (with_subcommand bare_app
    replay_app.top) load_app.top) (new_shape (codes "recover"))) (new_shape (codes "dump"))) (new_shape (codes "flush")))
    (new_shape (codes "view"))) (new_shape (codes "ship"))

-- the command that a word is alone
abbrev pub command_alone : Text → Option commands.Command
command_alone word = if bytes_eq word (codes "recover") then Some Recover
    else if bytes_eq word (codes "dump") then Some Dump
    else if bytes_eq word (codes "flush") then Some Flush
    else if bytes_eq word (codes "view") then Some View
    else if bytes_eq word (codes "ship") then Some Ship
    else None

-- the names of these, as `clap` has them
abbrev pub names_alone : Names
names_alone =
    (codes "recover", []) ∷ (codes "dump", []) ∷ (codes "flush", []) ∷ (codes "view", []) ∷ (codes "ship", []) ∷ []

-- The command is told so, and none of its arguments is of its subcommands too.
abbrev pub IsToldAs : App → Command → Type 0
IsToldAs app command = (app_of command ≡ app) × ((out-Command command).has_globals ≡ false)

-- One of the words is `--`, which `clap` takes for the end of the options.
abbrev pub has_end : List (List ℕ) → Bool
has_end = list_any (λ word. bytes_eq word (codes "--"))
