-- The words of a command are taken: none of them is `--`, and the parse has no fault.
use Rattle.std.proofs.Common.{◌≡◌, ◌∙◌, ap, ap₂, sym, refl, subst, false, ◌==◌, ◌||◌, arith, List, [], ◌∷◌, ◌++◌, Option, Some, None, codes}
use Rattle.std.specs.Str.Parse.{IsNumeral}
use Rattle.std.proofs.lemmas.Bool.{ne_eqb}
use Rattle.std.proofs.lemmas.Str.Parse.{digit_from_value}
use Rattle.clap.specs.Walk.{Text, idle, nothing_held, option, walk_from}
use Rattle.clap.specs.Faults.{fault_of}
use Rattle.clap.proofs.OnLiterals.{clap_on_literals}
use Rattle.command_line.specs.declared.command.Command.{Command}
use Rattle.command_line.specs.Commands.{IsCommandOf, default, apart, joined}
use Rattle.command_line.specs.Program.{has_end, program_app, command_alone}
use Rattle.command_line.proofs.Enters.{replay_enters, load_enters}
use Rattle.command_line.proofs.Alone.{Sort, sort, alone_enters, alone_whole}
use Rattle.command_line.proofs.Alone as sorts
use Rattle.command_line.proofs.Turns.{IsPlain, plain_fault, plain_met}
use Rattle.command_line.proofs.Walks.{from, then_words, walked_by}
use Rattle.command_line.proofs.ReplayWords as replays
use Rattle.command_line.proofs.LoadWords as loads

-- the parse takes the words
pub record IsTaken (words : List Text) : Type 0 where
  pub whole : has_end words ≡ false
  pub passes : fault_of program_app words ≡ []

-- a number is no flag
number_plain : (text : Text) → IsNumeral 10 text → IsPlain text
number_plain [] digits = absurd (omega (arith, digits.0))
number_plain (c ∷ cs) digits =
    let is : (c == 45) ≡ false = ne_eqb c 45 (λ e. omega (arith, digit_from_value c digits.1.0)) in
    record { no_end = rw is refl; no_long = rw is refl; no_short = rw is refl }

apart_taken : (text : Text) → IsPlain text → IsTaken (codes "replay" ∷ codes "--threshold" ∷ text ∷ [])
unfolding clap_on_literals
apart_taken text is =
    let waiting : Option (Text × List Text) = Some (codes "threshold", []) in
    let there = walked_by replays.rules [] waiting (option (codes "threshold")) 1 text _
    (plain_met replays.rules (option (codes "threshold")) 1 text replays.first_at.held refl is) in
    let last : from replays.replay replays.first_at (text ∷ []) ≡ [] =
    then_words replays.replay replays.first_at (replays.pending_at text) text [] there
    (plain_fault replays.replay [] waiting (option (codes "threshold")) 1 text refl is) refl in
    let none : from replays.replay (walk_from nothing_held) (codes "--threshold" ∷ text ∷ []) ≡ [] =
    then_words replays.replay (walk_from nothing_held) replays.first_at (codes "--threshold") (text ∷ []) refl refl last in
    record { whole = ap (λ b. b || false) is.no_end; passes = replay_enters.faults (codes "--threshold" ∷ text ∷ []) ∙ none }

joined_taken : (text : Text) → IsTaken (codes "replay" ∷ (codes "--threshold=" ++ text) ∷ [])
unfolding clap_on_literals
joined_taken text =
    let none : from replays.replay (walk_from nothing_held) ((codes "--threshold=" ++ text) ∷ []) ≡ [] = refl in
    record { whole = refl; passes = replay_enters.faults ((codes "--threshold=" ++ text) ∷ []) ∙ none }

load_taken : (a b : Text) → IsPlain a → IsPlain b → IsTaken (codes "load" ∷ a ∷ b ∷ [])
unfolding clap_on_literals
load_taken a b is also =
    let first = walked_by loads.rules [] None idle 1 a _ (plain_met loads.rules idle 1 a nothing_held refl is) in
    let second = walked_by loads.rules [] (Some (codes "seed", a ∷ [])) idle 2 b _
    (plain_met loads.rules idle 2 b (loads.one_at a).held refl also) in
    let last : from loads.load (loads.one_at a) (b ∷ []) ≡ [] =
    then_words loads.load (loads.one_at a) (loads.two_at a b) b [] second
    (plain_fault loads.load [] (Some (codes "seed", a ∷ [])) idle 2 b refl also) refl in
    let none : from loads.load (walk_from nothing_held) (a ∷ b ∷ []) ≡ [] =
    then_words loads.load (walk_from nothing_held) (loads.one_at a) a (b ∷ []) first
    (plain_fault loads.load [] None idle 1 a refl is) last in
    record { whole = ap₂ (λ x y. x || (y || false)) is.no_end also.no_end; passes = load_enters.faults (a ∷ b ∷ []) ∙ none }

bare_taken : IsTaken (codes "replay" ∷ [])
unfolding clap_on_literals
bare_taken = record { whole = refl; passes = replay_enters.faults [] }

alone_taken : (word : Text) (command : Command) → command_alone word ≡ Some command → IsTaken (word ∷ [])
unfolding clap_on_literals
alone_taken word command is = record { whole = alone_whole word command is; passes = (alone_enters word command is).faults [] }

of_sort : (words : List Text) (command : Command) → Sort words command → IsTaken words
of_sort words _ (sorts.replays polls (default are is)) = subst IsTaken (sym are) bare_taken
of_sort words _ (sorts.replays polls (apart text are is)) = subst IsTaken (sym are) (apart_taken text (number_plain text is.number.digits))
of_sort words _ (sorts.replays polls (joined text are is)) = subst IsTaken (sym are) (joined_taken text)
of_sort words _ (sorts.loads made batches is) = subst IsTaken (sym is.words_are)
    (load_taken is.seed_text is.count_text (number_plain is.seed_text is.seed_is.number.digits) (number_plain is.count_text is.count_is.number.digits))
of_sort words _ (sorts.stands word command are is) = subst IsTaken (sym are) (alone_taken word command is)

pub commands_taken : (words : List Text) (command : Command) → IsCommandOf words command → IsTaken words
commands_taken words command is = of_sort words command (sort words command is)
