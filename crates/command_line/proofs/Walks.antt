-- What fails from a place of the walk on, word by word.
use Rattle.std.proofs.Common.{◌≡◌, ◌∙◌, ap, ap₂, sym, refl, subst, ℕ, Bool, true, false, ◌||◌, List, [], ◌∷◌, Option, Some, None}
use Rattle.std.specs.Prelude.{fold}
use Rattle.clap.specs.Walk.{Held, Row, Rule, Step, Text, Waiting, Walk, after_step, finished, settled, walked, word_met}
use Rattle.clap.specs.Simple.{Shape}
use Rattle.clap.specs.Kinds.{Kinds, or_else}
use Rattle.clap.specs.Faults.{check_fault, defaults_fault, option_fault, settle_fault, turn_fault, use_fault, walk_fault}
use Rattle.command_line.proofs.Turns.{at, no_fault}

pub neither : (a b : Bool) → (a || b) ≡ false → (a ≡ false) × (b ≡ false)
neither true b is = cc
neither false b is = (refl, is)

-- what fails from here on, at a command with no subcommands
abbrev pub from : Shape → Walk → List Text → Kinds
from s w words =
    let end = (fold (walked s.rules []) w words).held in
    or_else (walk_fault s [] w words) (or_else (settle_fault s.rules s.args_override_self end)
    (or_else (defaults_fault (settled s.rules end).rows s.rules) (check_fault s (finished s.rules end) false)))

-- neither the word's turn fails nor the words after it
pub word_then : (s : Shape) (w : Walk) (word : Text) (words : List Text) → from s w (word ∷ words) ≡ []
    → (turn_fault s [] w word ≡ []) × (from s (walked s.rules [] w word) words ≡ [])
unfolding walk_fault
word_then s w word words none =
    let end : Held = (fold (walked s.rules []) (walked s.rules [] w word) words).held in
    let later : Kinds = or_else (settle_fault s.rules s.args_override_self end)
    (or_else (defaults_fault (settled s.rules end).rows s.rules) (check_fault s (finished s.rules end) false)) in
    let rest : Kinds = walk_fault s [] (walked s.rules [] w word) words in
    let outer = no_fault (or_else (turn_fault s [] w word) rest) later none in
    let inner = no_fault (turn_fault s [] w word) rest outer.0 in
    (inner.0, ap₂ or_else inner.1 outer.1)

-- an option's turn fails where what is pending fails
pub settles_first : (rules : List Rule) (again : Bool) (a : Rule) (value : Option Text) (h : Held) → option_fault rules again a value h ≡ []
    → settle_fault rules again h ≡ []
settles_first rules again a None h none = none
settles_first rules again a (Some v) h none = (no_fault (settle_fault rules again h) (use_fault again a (v ∷ []) (settled rules h).rows) none).0

-- where the walk stands after a word, by what the word was met as
pub walked_by : (rules : List Rule) (rows : List Row) (pending : Option (Text × List Text)) (waiting : Waiting) (position : ℕ) (word : Text)
    (met : Held × Step) → word_met rules [] false waiting position word (at rows pending waiting position).held ≡ met
    → walked rules [] (at rows pending waiting position) word ≡ after_step rules word (at rows pending waiting position) met.0 met.1
unfolding walked
walked_by rules rows pending waiting position word met is =
    ap (λ (m : Held × Step). after_step rules word (at rows pending waiting position) m.0 m.1) is

-- nothing fails where neither the word's turn does nor the words after it
pub then_words : (s : Shape) (w next : Walk) (word : Text) (words : List Text) → walked s.rules [] w word ≡ next
    → turn_fault s [] w word ≡ [] → from s next words ≡ [] → from s w (word ∷ words) ≡ []
unfolding walk_fault
then_words s w next word words is turn_passes passes =
    let after : Walk = walked s.rules [] w word in
    let end : Held = (fold (walked s.rules []) after words).held in
    let later : Kinds = or_else (settle_fault s.rules s.args_override_self end)
    (or_else (defaults_fault (settled s.rules end).rows s.rules) (check_fault s (finished s.rules end) false)) in
    let there : from s after words ≡ [] = subst (λ v. from s v words ≡ []) (sym is) passes in
    ap (λ kinds. or_else (or_else kinds (walk_fault s [] after words)) later) turn_passes ∙ there
