-- The commands that are one word alone. What a new one of them changes of the proofs stands here.
use Rattle.std.proofs.Common.{◌≡◌, ◌∙◌, ap, ap₂, sym, refl, subst, ℕ, Bool, true, false, List, [], ◌∷◌, Option, Some, None, codes}
use Rattle.std.specs.Prelude.{find}
use Rattle.std.specs.Borrow.{Bor}
use Rattle.std.specs.Str.{bytes_eq}
use Rattle.std.proofs.lemmas.Slice.Eq.{bytes_eq-Decides}
use Rattle.clap.specs.Walk.{Text, Walk, answers_to, nothing_held, walk_from}
use Rattle.clap.specs.Simple.{built, entered, names_of}
use Rattle.clap.proofs.WalkLemmas.{walk_stopped}
use Rattle.clap.proofs.FaultLemmas.{stopped_fault}
use Rattle.clap.proofs.OnLiterals.{clap_on_literals}
use Rattle.command_line.specs.declared.command.Command.{Command}
use Rattle.command_line.specs.declared.command.Command.TheVariants as commands
use Rattle.command_line.specs.declared.asked.Asked.TheVariants as asks
use Rattle.command_line.specs.Asked.{Means, MeansThreshold}
use Rattle.command_line.specs.Commands.{IsCommandOf, IsSeed, IsCount, AsksToReplay, AsksToLoad}
use Rattle.command_line.specs.Program.{has_end, program_app, bare_app, replay_app, load_app, threshold_rule, command_alone, names_alone}
use Rattle.command_line.proofs.Enters.{Enters, comes_to, or_else_none}

-- what holds of each of them, holds of any
each_alone : (P : Text → Command → Type 0) → P (codes "recover") commands.Recover → P (codes "dump") commands.Dump
    → P (codes "flush") commands.Flush → P (codes "view") commands.View → P (codes "ship") commands.Ship
    → (word : Text) (command : Command) → command_alone word ≡ Some command → P word command
each_alone P recover dump flush view ship word command is = first (bytes_eq word (codes "recover")) refl
  where
    met : (name : Text) (named : Command) → P name named → bytes_eq word name ≡ true → command_alone word ≡ Some named → P word command
    met name named holds same alone =
        let this : named ≡ command = cc (sym alone ∙ is) in
        subst (P word) this (subst (λ w. P w named) (sym ((bytes_eq-Decides word name).0 same)) holds)

    fifth : (same : Bool) → bytes_eq word (codes "ship") ≡ same → bytes_eq word (codes "view") ≡ false
        → bytes_eq word (codes "flush") ≡ false → bytes_eq word (codes "dump") ≡ false → bytes_eq word (codes "recover") ≡ false
        → P word command
    fifth true e d c b a = met (codes "ship") commands.Ship ship e (rw (a, b, c, d, e) refl)
    fifth false e d c b a =
        let none : command_alone word ≡ None = rw (a, b, c, d, e) refl in
        let bad : None ≡ Some command = sym none ∙ is in cc

    fourth : (same : Bool) → bytes_eq word (codes "view") ≡ same → bytes_eq word (codes "flush") ≡ false
        → bytes_eq word (codes "dump") ≡ false → bytes_eq word (codes "recover") ≡ false → P word command
    fourth true d c b a = met (codes "view") commands.View view d (rw (a, b, c, d) refl)
    fourth false d c b a = fifth (bytes_eq word (codes "ship")) refl d c b a

    third : (same : Bool) → bytes_eq word (codes "flush") ≡ same → bytes_eq word (codes "dump") ≡ false
        → bytes_eq word (codes "recover") ≡ false → P word command
    third true c b a = met (codes "flush") commands.Flush flush c (rw (a, b, c) refl)
    third false c b a = fourth (bytes_eq word (codes "view")) refl c b a

    second : (same : Bool) → bytes_eq word (codes "dump") ≡ same → bytes_eq word (codes "recover") ≡ false → P word command
    second true b a = met (codes "dump") commands.Dump dump b (rw (a, b) refl)
    second false b a = third (bytes_eq word (codes "flush")) refl b a

    first : (same : Bool) → bytes_eq word (codes "recover") ≡ same → P word command
    first true a = met (codes "recover") commands.Recover recover a (rw a refl)
    first false a = second (bytes_eq word (codes "dump")) refl a

-- The words are a replay or a load, or one word alone.
pub data Sort (words : List Text) : Command → Type 0 where
  replays : (threshold : ℕ) → AsksToReplay words threshold → Sort words (commands.Replay threshold)
  loads : (seed batches : ℕ) → AsksToLoad words seed batches → Sort words (commands.Load seed batches)
  stands : (word : Text) (command : Command) → words ≡ word ∷ [] → command_alone word ≡ Some command → Sort words command

pub sort : (words : List Text) (command : Command) → IsCommandOf words command → Sort words command
sort words (commands.Replay threshold) is = replays threshold is
sort words commands.Recover is = stands (codes "recover") commands.Recover is refl
sort words commands.Dump is = stands (codes "dump") commands.Dump is refl
sort words (commands.Load seed batches) is = loads seed batches is
sort words commands.Flush is = stands (codes "flush") commands.Flush is refl
sort words commands.View is = stands (codes "view") commands.View is refl
sort words commands.Ship is = stands (codes "ship") commands.Ship is refl

pub alone_is : (words : List Text) (word : Text) (command : Command) → words ≡ word ∷ [] → command_alone word ≡ Some command
    → IsCommandOf words command
alone_is words word command are is =
    subst (λ ws. IsCommandOf ws command) (sym are)
    (each_alone (λ w c. IsCommandOf (w ∷ []) c) refl refl refl refl refl word command is)

-- the texts of a replay mean a replay, and those of a load a load
pub replay_means : (text : Option (Bor (List ℕ))) (command : Command) → Means (asks.Replay text) command
    → (threshold : ℕ) × (command ≡ commands.Replay threshold) × MeansThreshold text threshold
replay_means text (commands.Replay threshold) means = (threshold, refl, means)
replay_means text commands.Recover means = absurd means
replay_means text commands.Dump means = absurd means
replay_means text (commands.Load seed batches) means = absurd means
replay_means text commands.Flush means = absurd means
replay_means text commands.View means = absurd means
replay_means text commands.Ship means = absurd means

pub load_means : (seed_text count_text : Bor (List ℕ)) (command : Command) → Means (asks.Load seed_text count_text) command
    → (seed batches : ℕ) × (command ≡ commands.Load seed batches) × IsSeed seed_text.now seed × IsCount count_text.now batches
load_means seed_text count_text (commands.Replay threshold) means = absurd means
load_means seed_text count_text commands.Recover means = absurd means
load_means seed_text count_text commands.Dump means = absurd means
load_means seed_text count_text (commands.Load seed batches) means = (seed, batches, refl, means.0, means.1)
load_means seed_text count_text commands.Flush means = absurd means
load_means seed_text count_text commands.View means = absurd means
load_means seed_text count_text commands.Ship means = absurd means

-- none of these words is `--`
pub alone_whole : (word : Text) (command : Command) → command_alone word ≡ Some command → has_end (word ∷ []) ≡ false
alone_whole = each_alone (λ w c. has_end (w ∷ []) ≡ false) refl refl refl refl refl

-- no name is met where the word is no command alone
pub none_alone : (word : Text) → command_alone word ≡ None → find (answers_to word) names_alone ≡ None
none_alone word is = first (bytes_eq word (codes "recover")) refl
  where
    other : (name : Text) → bytes_eq word name ≡ false → bytes_eq name word ≡ false
    other name unlike = go (bytes_eq name word) refl
      where
        go : (b : Bool) → bytes_eq name word ≡ b → bytes_eq name word ≡ false
        go true same =
            let equal = (bytes_eq-Decides word name).1 (sym ((bytes_eq-Decides name word).0 same)) in
            let no : true ≡ false = sym equal ∙ unlike in cc
        go false same = same

    fifth : (same : Bool) → bytes_eq word (codes "ship") ≡ same → bytes_eq word (codes "view") ≡ false
        → bytes_eq word (codes "flush") ≡ false → bytes_eq word (codes "dump") ≡ false → bytes_eq word (codes "recover") ≡ false
        → find (answers_to word) names_alone ≡ None
    fifth true e d c b a =
        let some : command_alone word ≡ Some commands.Ship = rw (a, b, c, d, e) refl in
        let bad : None ≡ Some commands.Ship = sym is ∙ some in cc
    fifth false e d c b a =
        rw (
          other (codes "recover") a,
          other (codes "dump") b,
          other (codes "flush") c,
          other (codes "view") d,
          other (codes "ship") e,
        ) refl

    fourth : (same : Bool) → bytes_eq word (codes "view") ≡ same → bytes_eq word (codes "flush") ≡ false
        → bytes_eq word (codes "dump") ≡ false → bytes_eq word (codes "recover") ≡ false → find (answers_to word) names_alone ≡ None
    fourth true d c b a =
        let some : command_alone word ≡ Some commands.View = rw (a, b, c, d) refl in
        let bad : None ≡ Some commands.View = sym is ∙ some in cc
    fourth false d c b a = fifth (bytes_eq word (codes "ship")) refl d c b a

    third : (same : Bool) → bytes_eq word (codes "flush") ≡ same → bytes_eq word (codes "dump") ≡ false
        → bytes_eq word (codes "recover") ≡ false → find (answers_to word) names_alone ≡ None
    third true c b a =
        let some : command_alone word ≡ Some commands.Flush = rw (a, b, c) refl in
        let bad : None ≡ Some commands.Flush = sym is ∙ some in cc
    third false c b a = fourth (bytes_eq word (codes "view")) refl c b a

    second : (same : Bool) → bytes_eq word (codes "dump") ≡ same → bytes_eq word (codes "recover") ≡ false
        → find (answers_to word) names_alone ≡ None
    second true b a =
        let some : command_alone word ≡ Some commands.Dump = rw (a, b) refl in
        let bad : None ≡ Some commands.Dump = sym is ∙ some in cc
    second false b a = third (bytes_eq word (codes "flush")) refl b a

    first : (same : Bool) → bytes_eq word (codes "recover") ≡ same → find (answers_to word) names_alone ≡ None
    first true a =
        let some : command_alone word ≡ Some commands.Recover = rw a refl in
        let bad : None ≡ Some commands.Recover = sym is ∙ some in cc
    first false a = second (bytes_eq word (codes "dump")) refl a

-- ---- by what `clap` finds

recover_enters : Enters (codes "recover") []
unfolding program_app bare_app replay_app load_app threshold_rule clap_on_literals
recover_enters = record {
  faults = λ rest.
      ap₂ comes_to (sym (walk_stopped [] (names_of (built program_app)) (walk_from nothing_held) (codes "recover") [] rest))
      (stopped_fault (built program_app).top (names_of (built program_app)) (walk_from nothing_held) (codes "recover", []) rest)
      ∙ or_else_none _;
  found = λ rest.
      ap (λ (end : Walk). entered (built program_app) end.stopped)
      (sym (walk_stopped [] (names_of (built program_app)) (walk_from nothing_held) (codes "recover") [] rest));
}

dump_enters : Enters (codes "dump") []
unfolding program_app bare_app replay_app load_app threshold_rule clap_on_literals
dump_enters = record {
  faults = λ rest.
      ap₂ comes_to (sym (walk_stopped [] (names_of (built program_app)) (walk_from nothing_held) (codes "dump") [] rest))
      (stopped_fault (built program_app).top (names_of (built program_app)) (walk_from nothing_held) (codes "dump", []) rest)
      ∙ or_else_none _;
  found = λ rest.
      ap (λ (end : Walk). entered (built program_app) end.stopped)
      (sym (walk_stopped [] (names_of (built program_app)) (walk_from nothing_held) (codes "dump") [] rest));
}

flush_enters : Enters (codes "flush") []
unfolding program_app bare_app replay_app load_app threshold_rule clap_on_literals
flush_enters = record {
  faults = λ rest.
      ap₂ comes_to (sym (walk_stopped [] (names_of (built program_app)) (walk_from nothing_held) (codes "flush") [] rest))
      (stopped_fault (built program_app).top (names_of (built program_app)) (walk_from nothing_held) (codes "flush", []) rest)
      ∙ or_else_none _;
  found = λ rest.
      ap (λ (end : Walk). entered (built program_app) end.stopped)
      (sym (walk_stopped [] (names_of (built program_app)) (walk_from nothing_held) (codes "flush") [] rest));
}

view_enters : Enters (codes "view") []
unfolding program_app bare_app replay_app load_app threshold_rule clap_on_literals
view_enters = record {
  faults = λ rest.
      ap₂ comes_to (sym (walk_stopped [] (names_of (built program_app)) (walk_from nothing_held) (codes "view") [] rest))
      (stopped_fault (built program_app).top (names_of (built program_app)) (walk_from nothing_held) (codes "view", []) rest)
      ∙ or_else_none _;
  found = λ rest.
      ap (λ (end : Walk). entered (built program_app) end.stopped)
      (sym (walk_stopped [] (names_of (built program_app)) (walk_from nothing_held) (codes "view") [] rest));
}

ship_enters : Enters (codes "ship") []
unfolding program_app bare_app replay_app load_app threshold_rule clap_on_literals
ship_enters = record {
  faults = λ rest.
      ap₂ comes_to (sym (walk_stopped [] (names_of (built program_app)) (walk_from nothing_held) (codes "ship") [] rest))
      (stopped_fault (built program_app).top (names_of (built program_app)) (walk_from nothing_held) (codes "ship", []) rest)
      ∙ or_else_none _;
  found = λ rest.
      ap (λ (end : Walk). entered (built program_app) end.stopped)
      (sym (walk_stopped [] (names_of (built program_app)) (walk_from nothing_held) (codes "ship") [] rest));
}

pub alone_enters : (word : Text) (command : Command) → command_alone word ≡ Some command → Enters word []
alone_enters = each_alone (λ w c. Enters w []) recover_enters dump_enters flush_enters view_enters ship_enters
