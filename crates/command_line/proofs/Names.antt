-- The first of the words names a command.
use Rattle.std.proofs.Common.{◌≡◌, ◌⊎◌, inl, inr, ap, sym, refl, Bool, true, false, List, [], ◌∷◌, Option, Some, None, codes, is_some}
use Rattle.std.specs.Prelude.{fold, option_map}
use Rattle.std.specs.Str.{bytes_eq}
use Rattle.std.proofs.lemmas.Slice.Eq.{bytes_eq-Decides}
use Rattle.clap.specs.Walk.{Names, Text, Walk, idle, nothing_held, subcommand_met, walk_from, walked, settled, finished}
use Rattle.clap.specs.Simple.{Shape, built, entered}
use Rattle.clap.specs.Kinds.{Kinds, or_else}
use Rattle.clap.specs.Faults.{fault_of, check_fault, defaults_fault, entered_fault, settle_fault, turn_fault, walk_fault}
use Rattle.clap.proofs.OnLiterals.{clap_on_literals}
use Rattle.command_line.specs.declared.command.Command.{Command}
use Rattle.command_line.specs.Program.{command_alone, names_alone, has_end, program_app, bare_app, replay_app, load_app, threshold_rule}
use Rattle.command_line.proofs.Alone.{none_alone}
use Rattle.command_line.proofs.Turns.{Passes, as_option, as_value, no_fault, turn}
use Rattle.command_line.proofs.Walks.{neither}

-- The words begin with the name of a command.
pub data Named (words : List Text) : Type 0 where
  of_replay : (rest : List Text) → words ≡ codes "replay" ∷ rest → Named words
  of_load : (rest : List Text) → words ≡ codes "load" ∷ rest → Named words
  of_alone : (word : Text) (command : Command) (rest : List Text) → command_alone word ≡ Some command → words ≡ word ∷ rest → Named words

abbrev names : Names
names = (codes "replay", []) ∷ (codes "load", []) ∷ names_alone

-- a word is one of the names, or none is met
named : (word : Text) (rest : List Text) → Named (word ∷ rest) ⊎ (subcommand_met names idle word ≡ None)
named word rest = first (bytes_eq (codes "replay") word) refl
  where
    is : (name : Text) → bytes_eq name word ≡ true → word ∷ rest ≡ name ∷ rest
    is name same = ap (λ w. w ∷ rest) (sym ((bytes_eq-Decides name word).0 same))

    third : (alone : Option Command) → command_alone word ≡ alone → bytes_eq (codes "load") word ≡ false
        → bytes_eq (codes "replay") word ≡ false → Named (word ∷ rest) ⊎ (subcommand_met names idle word ≡ None)
    third (Some command) c b a = inl (of_alone word command rest c refl)
    third None c b a = inr (rw (a, b) (ap (option_map (λ (s : Text × List Text). s.0)) (none_alone word c)))

    second : (same : Bool) → bytes_eq (codes "load") word ≡ same → bytes_eq (codes "replay") word ≡ false
        → Named (word ∷ rest) ⊎ (subcommand_met names idle word ≡ None)
    second true b a = inl (of_load rest (is (codes "load") b))
    second false b a = third (command_alone word) refl b a

    first : (same : Bool) → bytes_eq (codes "replay") word ≡ same → Named (word ∷ rest) ⊎ (subcommand_met names idle word ≡ None)
    first true a = inl (of_replay rest (is (codes "replay") a))
    first false a = second (bytes_eq (codes "load") word) refl a

-- the first word's turn does not fail where the words do not
first_passes : (word : Text) (rest : List Text) → fault_of program_app (word ∷ rest) ≡ []
    → turn_fault (built program_app).top names (walk_from nothing_held) word ≡ []
unfolding program_app bare_app replay_app load_app threshold_rule walk_fault
first_passes word rest passes =
    let top : Shape = (built program_app).top in
    let end : Walk = fold (walked [] names) (walked [] names (walk_from nothing_held) word) rest in
    let later : Kinds = or_else (entered_fault (built program_app) end.stopped) (or_else (settle_fault top.rules top.args_override_self end.held)
    (or_else (defaults_fault (settled top.rules end.held).rows top.rules) (check_fault top (finished top.rules end.held) (is_some (entered (built program_app) end.stopped))))) in
    let rest_fault : Kinds = walk_fault top names (walked [] names (walk_from nothing_held) word) rest in
    let outer = no_fault (or_else (turn_fault top names (walk_from nothing_held) word) rest_fault) later passes in
    (no_fault (turn_fault top names (walk_from nothing_held) word) rest_fault outer.0).0

pub begin_named : (words : List Text) → has_end words ≡ false → fault_of program_app words ≡ [] → Named words
unfolding program_app bare_app replay_app load_app threshold_rule clap_on_literals
begin_named [] whole passes = cc
begin_named (word ∷ rest) whole passes = go (named word rest)
  where
    stray : Passes (built program_app).top names (walk_from nothing_held) word → ⊥
    stray (as_option name value is passed) = cc
    stray (as_value long met passed) = cc

    go : Named (word ∷ rest) ⊎ (subcommand_met names idle word ≡ None) → Named (word ∷ rest)
    go (inl named) = named
    go (inr no_name) =
        absurd (stray (turn (built program_app).top names [] None idle 1 word (λ x. refl) no_name (neither _ _ whole).0 (first_passes word rest passes)))
