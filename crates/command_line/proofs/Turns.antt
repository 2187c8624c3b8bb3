-- The turn of one word, of a command with no short options: it goes to an option, to what waits, or to a positional, or it fails.
use Rattle.std.proofs.Common.{◌≡◌, refl, ℕ, Bool, false, zero, suc, List, [], ◌∷◌, length, Option, Some, None}
use Rattle.std.specs.Prelude.{slice_get}
use Rattle.std.specs.Str.{bytes_eq, chars}
use Rattle.clap.specs.Lexer.{long_of, short_of}
use Rattle.clap.specs.Walk.{Held, Names, Row, Rule, Step, Text, Waiting, Walk, arg_by_long, arg_by_short, bundle_met, long_word, short_word, plain, plain_word, subcommand_met, word_met}
use Rattle.clap.specs.Simple.{Shape}
use Rattle.clap.specs.Kinds.{Kinds, or_else}
use Rattle.clap.specs.Faults.{bundle_fault, flags_fault, long_fault, step_fault, turn_fault}

pub no_fault : (a b : Kinds) → or_else a b ≡ [] → (a ≡ []) × (b ≡ [])
no_fault [] b none = (refl, none)
no_fault (k ∷ ks) b none = cc

-- no option has a short name
abbrev pub HasNoShort : List Rule → Type 0
HasNoShort rules = (x : ℕ) → arg_by_short rules x ≡ None

-- a bundle that does not fail has no character, and so does nothing
bundle_idle : (rules : List Rule) (again : Bool) (k : ℕ) (flags : Text) (h : Held) → HasNoShort rules
    → flags_fault rules again k flags 0 h ≡ [] → bundle_met rules k flags 0 plain h ≡ (h, plain)
unfolding bundle_met flags_fault
bundle_idle rules again zero flags h short none = refl
bundle_idle rules again (suc k) flags h short none = go (slice_get (chars flags) 0) refl
  where
    go : (first : Option ℕ) → slice_get (chars flags) 0 ≡ first → bundle_met rules (suc k) flags 0 plain h ≡ (h, plain)
    go None is = rw is refl
    go (Some x) is = let bad = rw (is, short x) at none in cc

-- where the walk stands, with no bundle begun
abbrev pub at : List Row → Option (Text × List Text) → Waiting → ℕ → Walk
at rows pending waiting position = record {
  held = record { rows = rows; pending = pending; skip = 0 };
  waiting = waiting;
  position = position;
  is_trailing = false;
  stopped = None;
}

-- the word's turn does not fail: it is an option, or goes on as what it is
pub data Passes (s : Shape) (names : Names) (w : Walk) (word : Text) : Type 0 where
  as_option : (name : Text) (value : Option Text) → long_of word ≡ Some (name, value)
      → long_fault s.rules s.args_override_self (arg_by_long s.rules name) value w.held ≡ [] → Passes s names w word
  as_value : long_of word ≡ None
      → word_met s.rules names false w.waiting w.position word w.held ≡ plain_word s.rules w.waiting word w.held
      → step_fault s w.position (plain_word s.rules w.waiting word w.held).0 (plain_word s.rules w.waiting word w.held).1 ≡ []
      → Passes s names w word

pub turn : (s : Shape) (names : Names) (rows : List Row) (pending : Option (Text × List Text)) (waiting : Waiting) (position : ℕ) (word : Text)
    → HasNoShort s.rules → subcommand_met names waiting word ≡ None → bytes_eq word (45 ∷ 45 ∷ []) ≡ false
    → turn_fault s names (at rows pending waiting position) word ≡ [] → Passes s names (at rows pending waiting position) word
turn s names rows pending waiting position word short no_name no_end none = go (long_of word) refl
  where
    go_short : (flags : Option Text) → short_of word ≡ flags → long_of word ≡ None → Passes s names (at rows pending waiting position) word
    go_short None is long = as_value long (rw (no_name, no_end, long, is) refl) (rw (no_name, no_end, long, is) at none)
    go_short (Some flags) is long =
        let h : Held = record { rows = rows; pending = pending; skip = 0 } in
        let met : Held × Step = short_word s.rules waiting word flags h in
        let faults = no_fault (bundle_fault s.rules s.args_override_self flags h) (step_fault s position met.0 met.1)
        (rw (no_name, no_end, long, is) at none) in
        let idle = bundle_idle s.rules s.args_override_self (length flags) flags h short faults.0 in
        as_value long (rw (no_name, no_end, long, is, idle) refl) (rw idle at faults.1)

    go : (found : Option (Text × Option Text)) → long_of word ≡ found → Passes s names (at rows pending waiting position) word
    go (Some (name, value)) is =
        let h : Held = record { rows = rows; pending = pending; skip = 0 } in
        let met : Held × Step = long_word s.rules waiting word name value h in
        let faults = no_fault (long_fault s.rules s.args_override_self (arg_by_long s.rules name) value h) (step_fault s position met.0 met.1)
        (rw (no_name, no_end, is) at none) in
        as_option name value is faults.0
    go None is = go_short (short_of word) refl is

-- the word is no flag
pub record IsPlain (word : Text) : Type 0 where
  pub no_end : bytes_eq word (45 ∷ 45 ∷ []) ≡ false
  pub no_long : long_of word ≡ None
  pub no_short : short_of word ≡ None

pub plain_met : (rules : List Rule) (waiting : Waiting) (position : ℕ) (word : Text) (h : Held) → subcommand_met [] waiting word ≡ None
    → IsPlain word → word_met rules [] false waiting position word h ≡ plain_word rules waiting word h
plain_met rules waiting position word h no_name is = rw (no_name, is.no_end, is.no_long, is.no_short) refl

pub plain_fault : (s : Shape) (rows : List Row) (pending : Option (Text × List Text)) (waiting : Waiting) (position : ℕ) (word : Text)
    → subcommand_met [] waiting word ≡ None → IsPlain word
    → turn_fault s [] (at rows pending waiting position) word
    ≡ step_fault s position (plain_word s.rules waiting word (at rows pending waiting position).held).0
    (plain_word s.rules waiting word (at rows pending waiting position).held).1
plain_fault s rows pending waiting position word no_name is = rw (no_name, is.no_end, is.no_long, is.no_short) refl
