-- Each line of a script is of a session that it counts, and it counts no more than there may be.
use Rattle.std.proofs.Common.{ℕ, ◌<◌, ◌≤◌, List, [], ◌∷◌, ◌++◌, map, Option, Some, None, sym, arith, subst}
use Rattle.std.specs.Prelude.{max, fold}
use Rattle.std.specs.List.{AllByRecursion, slice_split, onto_first}
use Rattle.std.specs.Option.{option_to_list}
use Rattle.batch_repr.specs.declared.limits.TheConstants.{SESSIONS_MAX}
use Rattle.session_replies.specs.declared.script.Line.{Line}
use Rattle.session_replies.specs.declared.script.Round.{Round}
use Rattle.session_replies.specs.declared.script.Script.{Script}
use Rattle.session_script.specs.declared.saying.Saying.{Saying}
use Rattle.session_script.specs.declared.saying.Saying.TheVariants as sayings
use Rattle.session_script.specs.Lines.{LineSays}
use Rattle.session_script.specs.Script.{LinesSay, ends_round, round_of, rounds_of, sessions_named, sessions_of, halt_if, AreScript}
use Rattle.session_replies.specs.Rounds.{NamesItsSessions}

-- ---- the greatest number

abbrev more_named : ℕ → Saying → ℕ
more_named most saying = max most (sessions_named saying)

-- No more sessions than these are named.
abbrev NameAtMost : ℕ → List Saying → Type 0
NameAtMost top said = AllByRecursion (λ saying. sessions_named saying ≤ top) said

fold_rises : (start : ℕ) (said : List Saying) → start ≤ fold more_named start said
fold_rises start [] = omega arith
fold_rises start (saying ∷ said) = omega (arith, fold_rises (more_named start saying) said)

fold_covers : (start : ℕ) (said : List Saying) → NameAtMost (fold more_named start said) said
fold_covers start [] = tt
fold_covers start (saying ∷ said) = (omega (arith, fold_rises (more_named start saying) said), fold_covers (more_named start saying) said)

fold_stays : (start top : ℕ) (said : List Saying) → start ≤ top → NameAtMost top said → fold more_named start said ≤ top
fold_stays start top [] low named = low
fold_stays start top (saying ∷ said) low named = fold_stays (more_named start saying) top said (omega (arith, low, named.0)) named.1

-- ---- the lines

named_append : (top : ℕ) (a b : List Saying) → NameAtMost top a → NameAtMost top b → NameAtMost top (a ++ b)
named_append top [] b x y = y
named_append top (saying ∷ a) b x y = (x.0, named_append top a b x.1 y)

named_first : (top : ℕ) (a b : List Saying) → NameAtMost top (a ++ b) → NameAtMost top a
named_first top [] b x = tt
named_first top (saying ∷ a) b x = (x.0, named_first top a b x.1)

line_names : (line : List ℕ) (here : Option Saying) → LineSays line here → NameAtMost SESSIONS_MAX (option_to_list here)
line_names line None says = tt
line_names line (Some (sayings.Does x)) says = (omega (arith, says.0), tt)
line_names line (Some (sayings.Stalls x)) says = (omega arith, tt)
line_names line (Some sayings.EndsRound) says = (omega arith, tt)
line_names line (Some sayings.Halts) says = (omega arith, tt)

lines_name : (lines : List (List ℕ)) (said : List Saying) → LinesSay lines said → NameAtMost SESSIONS_MAX said
lines_name [] said h = rw h tt
lines_name (line ∷ lines) said h = subst (NameAtMost SESSIONS_MAX) (sym h.4)
    (named_append SESSIONS_MAX (option_to_list h.0) h.1 (line_names line h.0 h.2) (lines_name lines h.1 h.3))

-- ---- the rounds

-- Each line of the rounds is of a session below this number.
abbrev Within : ℕ → List Round → Type 0
Within top rounds = AllByRecursion (λ (round : Round). AllByRecursion (λ (line : Line). line.session < top) round.lines) rounds

line_within : (top : ℕ) (line : Line) (parts : List (List Saying)) → line.session < top → Within top (map round_of parts)
    → Within top (map round_of (onto_first (sayings.Does line) parts))
line_within top line [] low w = ((low, tt), tt)
line_within top line (part ∷ parts) low w = ((low, w.0), w.1)

stall_within : (top : ℕ) (line : _) (parts : List (List Saying)) → Within top (map round_of parts)
    → Within top (map round_of (onto_first (sayings.Stalls line) parts))
stall_within top line [] w = (tt, tt)
stall_within top line (part ∷ parts) w = w

halt_within : (top : ℕ) (parts : List (List Saying)) → Within top (map round_of parts) → Within top (map round_of (onto_first sayings.Halts parts))
halt_within top [] w = (tt, tt)
halt_within top (part ∷ parts) w = w

rounds_within : (top : ℕ) (said : List Saying) → NameAtMost top said → Within top (map round_of (slice_split ends_round said))
rounds_within top [] named = (tt, tt)
rounds_within top (sayings.Does line ∷ said) named = line_within top line (slice_split ends_round said) (omega (arith, named.0))
    (rounds_within top said named.1)
rounds_within top (sayings.Stalls line ∷ said) named = stall_within top line (slice_split ends_round said) (rounds_within top said named.1)
rounds_within top (sayings.EndsRound ∷ said) named = (tt, rounds_within top said named.1)
rounds_within top (sayings.Halts ∷ said) named = halt_within top (slice_split ends_round said) (rounds_within top said named.1)

pub names_its_sessions : (lines : List (List ℕ)) (script : Script) → AreScript lines script → NamesItsSessions script
unfolding sessions_of rounds_of
names_its_sessions lines script are = record {
  some = omega (arith, are.sessions, fold_rises 1 are.said);
  few = omega (
    arith,
    are.sessions,
    fold_stays 1 SESSIONS_MAX are.said (omega arith)
        (named_first SESSIONS_MAX are.said (halt_if script.halted) (lines_name lines (are.said ++ halt_if script.halted) are.says)),
  );
  within = subst (Within script.sessions) (sym are.rounds)
      (subst (λ (n : ℕ). Within n (rounds_of are.said)) (sym are.sessions) (rounds_within (fold more_named 1 are.said) are.said (fold_covers 1 are.said)));
}
