-- The program, as `clap` builds it, and what its parse of the words comes to: the parse of what follows a command's name.
use Rattle.std.proofs.Common.{◌≡◌, ◌∙◌, ap, ap₂, sym, refl, true, false, List, [], ◌∷◌, Some, is_some, codes}
use Rattle.clap.specs.Walk.{Rule, Text, Walk, walk_from, nothing_held, rows_after, settled, finished}
use Rattle.clap.specs.Simple.{Shape, built, names_of, subcommand_of, entered, new_rule, new_shape}
use Rattle.clap.specs.Kinds.{Kinds, or_else}
use Rattle.clap.specs.Faults.{fault_of, is_simple_and_free, level_fault, entered_fault, settle_fault, defaults_fault, check_fault}
use Rattle.clap.specs.declared.builder.action.ArgAction.TheVariants.{Set}
use Rattle.clap.specs.declared.builder.value_parser.ValueParser.TheVariants as vp
use Rattle.clap.proofs.WalkLemmas.{walk_stopped}
use Rattle.clap.proofs.FaultLemmas.{stopped_fault}
use Rattle.clap.proofs.OnLiterals.{clap_on_literals}
use Rattle.command_line.specs.Program.{program_app, bare_app, replay_app, load_app, threshold_rule, word_rule}

pub simple : is_simple_and_free program_app ≡ true
unfolding program_app bare_app replay_app load_app threshold_rule
simple = refl

-- ---- the commands as built

-- a rule that takes one text
abbrev pub filled_in : Rule → Rule
filled_in r = record r { range = Some (record { start_inclusive = 1; end_inclusive = 1 }); parser = Some vp.String }

abbrev pub threshold : Rule
threshold = filled_in (record (new_rule (codes "threshold")) { long = Some (codes "threshold"); action = Some Set })

abbrev pub seed : Rule
seed = record (filled_in (word_rule (codes "seed"))) { index = Some 1 }

abbrev pub count : Rule
count = record (filled_in (word_rule (codes "count"))) { index = Some 2 }

-- a command with these arguments
abbrev pub leaf : Text → List Rule → Shape
leaf name rules = record (new_shape name) {
  rules = rules;
  no_binary_name = true;
  disable_help_flag = true;
  disable_help_subcommand = true;
  disable_version_flag = true;
  is_built = true;
}

-- ---- the words before and after a command's name

pub or_else_none : (kinds : Kinds) → or_else kinds [] ≡ kinds
or_else_none [] = refl
or_else_none (k ∷ ks) = refl

-- what the words come to, by where their walk ends and what fails on the way
abbrev pub comes_to : Walk → Kinds → Kinds
comes_to end first =
    let b = built program_app in
    or_else first (or_else (entered_fault b end.stopped) (or_else (settle_fault b.top.rules b.top.args_override_self end.held)
    (or_else (defaults_fault (settled b.top.rules end.held).rows b.top.rules)
    (check_fault b.top (finished b.top.rules end.held) (is_some (entered b end.stopped))))))

-- where the walk stands when it has met a name
abbrev stopped_at : Text → List Text → Walk
stopped_at name rest = record (walk_from nothing_held) { stopped = Some (name, rest) }

-- Words that begin with the name are parsed as the words behind it are by that command.
pub record Enters (name : Text) (rules : List Rule) : Type 0 where
  pub faults : (rest : List Text) → fault_of program_app (name ∷ rest) ≡ level_fault (leaf name rules) [] nothing_held rest false []
  pub found : (rest : List Text) → subcommand_of program_app (name ∷ rest) ≡ Some (name, rows_after rules [] rest)

pub replay_enters : Enters (codes "replay") (threshold ∷ [])
unfolding program_app bare_app replay_app load_app threshold_rule clap_on_literals
replay_enters = record {
  faults = λ rest.
      ap₂ comes_to (sym (walk_stopped [] (names_of (built program_app)) (walk_from nothing_held) (codes "replay") [] rest))
      (stopped_fault (built program_app).top (names_of (built program_app)) (walk_from nothing_held) (codes "replay", []) rest)
      ∙ or_else_none _;
  found = λ rest.
      ap (λ (end : Walk). entered (built program_app) end.stopped)
      (sym (walk_stopped [] (names_of (built program_app)) (walk_from nothing_held) (codes "replay") [] rest));
}

pub load_enters : Enters (codes "load") (seed ∷ count ∷ [])
unfolding program_app bare_app replay_app load_app threshold_rule clap_on_literals
load_enters = record {
  faults = λ rest.
      ap₂ comes_to (sym (walk_stopped [] (names_of (built program_app)) (walk_from nothing_held) (codes "load") [] rest))
      (stopped_fault (built program_app).top (names_of (built program_app)) (walk_from nothing_held) (codes "load", []) rest)
      ∙ or_else_none _;
  found = λ rest.
      ap (λ (end : Walk). entered (built program_app) end.stopped)
      (sym (walk_stopped [] (names_of (built program_app)) (walk_from nothing_held) (codes "load") [] rest));
}
