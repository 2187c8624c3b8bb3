-- What is found in words that are taken is what they ask for.
use Rattle.std.proofs.Common.{◌≡◌, ◌∙◌, ap, sym, refl, subst, inl, inr, ℕ, false, List, [], ◌∷◌, Some, None, codes, ◌==◌, get_or, eq-eqb, true≢false}
use Rattle.clap.specs.Walk.{Row, Rule, Text, first_of, nothing_held, rows_after, walk_from}
use Rattle.clap.specs.Simple.{subcommand_of}
use Rattle.clap.specs.Faults.{fault_of}
use Rattle.command_line.specs.declared.asked.Asked.{Asked}
use Rattle.command_line.specs.declared.asked.Asked.TheVariants as asks
use Rattle.command_line.specs.Asked.{IsAskedBy, IsReadFrom, IsReadFromNothing}
use Rattle.command_line.specs.declared.command.Command.{Command}
use Rattle.command_line.specs.Program.{command_alone, has_end, program_app}
use Rattle.command_line.proofs.Alone.{alone_enters}
use Rattle.command_line.proofs.Enters.{Enters, leaf, threshold, seed, count, replay_enters, load_enters}
use Rattle.command_line.proofs.Walks.{from, neither}
use Rattle.command_line.proofs.Names.{Named, begin_named, of_replay, of_load, of_alone}
use Rattle.command_line.proofs.ReplayWords as replays
use Rattle.command_line.proofs.LoadWords as loads
use Rattle.command_line.proofs.NoWords.{takes_none}

-- A command is met, and whatever is read from it is what the words ask for. Something is.
pub record Answers (words : List Text) : Type 0 where
  pub name : Text
  pub rows : List Row
  pub met : subcommand_of program_app words ≡ Some (name, rows)
  pub asks : (asked : Asked) → IsReadFrom name rows asked → IsAskedBy words asked
  pub something : IsReadFromNothing name rows → ⊥

-- where the words behind a name do not fail, they pass as that command's own
passes_behind : (name : Text) (rules : List Rule) (words rest : List Text) → Enters name rules → words ≡ name ∷ rest
    → fault_of program_app words ≡ [] → from (leaf name rules) (walk_from nothing_held) rest ≡ []
passes_behind name rules words rest enters are passes = sym (enters.faults rest) ∙ ap (fault_of program_app) (sym are) ∙ passes

-- two names differ in the letter at a place
differs : {A : Type 0} (place : ℕ) (name other : Text) → name ≡ other → (get_or name place 0 == get_or other place 0) ≡ false → A
differs place name other is apart =
    absurd (true≢false (sym (eq-eqb (get_or name place 0) (get_or other place 0) (ap (λ t. get_or t place 0) is)) ∙ apart))

replay_asks : (rest : List Text) → replays.TakesReplay rest → (asked : Asked)
    → IsReadFrom (codes "replay") (rows_after (threshold ∷ []) [] rest) asked → IsAskedBy (codes "replay" ∷ rest) asked
replay_asks rest (replays.bare are found) (asks.Replay None) read = ap (λ ws. codes "replay" ∷ ws) are
replay_asks rest (replays.bare are found) (asks.Replay (Some text)) read =
    let bad : Some text.now ≡ None = read.1 ∙ ap (first_of (codes "threshold")) found in cc
replay_asks rest (replays.apart text are found) (asks.Replay None) read =
    let bad : None ≡ Some text = read.1 ∙ ap (first_of (codes "threshold")) found in cc
replay_asks rest (replays.apart text are found) (asks.Replay (Some given)) read =
    let same : Some given.now ≡ Some text = read.1 ∙ ap (first_of (codes "threshold")) found in
    inl (ap (λ ws. codes "replay" ∷ ws) are ∙ cc)
replay_asks rest (replays.joined text are found) (asks.Replay None) read =
    let bad : None ≡ Some text = read.1 ∙ ap (first_of (codes "threshold")) found in cc
replay_asks rest (replays.joined text are found) (asks.Replay (Some given)) read =
    let same : Some given.now ≡ Some text = read.1 ∙ ap (first_of (codes "threshold")) found in
    inr (ap (λ ws. codes "replay" ∷ ws) are ∙ cc)
replay_asks rest taken (asks.Load seed_text count_text) read = differs 0 (codes "replay") (codes "load") read.0 refl
replay_asks rest taken (asks.Alone command) read = cc

load_asks : (rest : List Text) → loads.TakesLoad rest → (asked : Asked)
    → IsReadFrom (codes "load") (rows_after (seed ∷ count ∷ []) [] rest) asked → IsAskedBy (codes "load" ∷ rest) asked
load_asks rest taken (asks.Replay text) read = differs 0 (codes "load") (codes "replay") read.0 refl
load_asks rest taken (asks.Load seed_text count_text) read =
    let one : Some seed_text.now ≡ Some taken.seed_text = sym read.1 ∙ ap (first_of (codes "seed")) taken.found in
    let two : Some count_text.now ≡ Some taken.count_text = sym read.2 ∙ ap (first_of (codes "count")) taken.found in
    ap (λ ws. codes "load" ∷ ws) taken.are ∙ cc
load_asks rest taken (asks.Alone command) read = cc

alone_asks : (word : Text) (named : Command) (rows : List Row) (asked : Asked) → command_alone word ≡ Some named → IsReadFrom word rows asked
    → IsAskedBy (word ∷ []) asked
alone_asks word named rows (asks.Replay text) is read =
    let bad : Some named ≡ None = sym is ∙ ap command_alone read.0 in cc
alone_asks word named rows (asks.Load seed_text count_text) is read =
    let bad : Some named ≡ None = sym is ∙ ap command_alone read.0 in cc
alone_asks word named rows (asks.Alone command) is read = (word, refl, read)

pub answers : (words : List Text) → has_end words ≡ false → fault_of program_app words ≡ [] → Answers words
answers words whole passes = go (begin_named words whole passes)
  where
    go : Named words → Answers words
    go (of_replay rest are) =
        let taken = replays.takes_replay rest (subst (λ ws. has_end ws ≡ false) are whole)
        (passes_behind (codes "replay") (threshold ∷ []) words rest replay_enters are passes) in
        record {
          name = codes "replay";
          rows = rows_after (threshold ∷ []) [] rest;
          met = ap (subcommand_of program_app) are ∙ replay_enters.found rest;
          asks = λ asked read. subst (λ ws. IsAskedBy ws asked) (sym are) (replay_asks rest taken asked read);
          something = λ nothing. nothing.0 refl;
        }
    go (of_load rest are) =
        let taken = loads.takes_load rest (subst (λ ws. has_end ws ≡ false) are whole)
        (passes_behind (codes "load") (seed ∷ count ∷ []) words rest load_enters are passes) in
        record {
          name = codes "load";
          rows = rows_after (seed ∷ count ∷ []) [] rest;
          met = ap (subcommand_of program_app) are ∙ load_enters.found rest;
          asks = λ asked read. subst (λ ws. IsAskedBy ws asked) (sym are) (load_asks rest taken asked read);
          something = λ nothing. nothing.2 refl taken.seed_text taken.count_text
              (ap (first_of (codes "seed")) taken.found) (ap (first_of (codes "count")) taken.found);
        }
    go (of_alone word command rest is are) =
        let none = takes_none word rest (neither _ _ (subst (λ ws. has_end ws ≡ false) are whole)).1
        (passes_behind word [] words rest (alone_enters word command is) are passes) in
        record {
          name = word;
          rows = rows_after [] [] rest;
          met = ap (subcommand_of program_app) are ∙ (alone_enters word command is).found rest;
          asks = λ asked read. subst (λ ws. IsAskedBy ws asked) (sym (are ∙ ap (λ ws. word ∷ ws) none))
              (alone_asks word command (rows_after [] [] rest) asked is read);
          something = λ nothing. let bad : Some command ≡ None = sym is ∙ nothing.1 in cc (bad);
        }
