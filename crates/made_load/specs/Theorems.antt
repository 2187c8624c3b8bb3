-- Laws of loads, each as one statement (docs/formats/program.md, "The generated load").
use Rattle.std.specs.Prelude.{◌≡◌, ℕ, ◌+◌, ◌/◌, ◌≤◌, []}
use Rattle.std.specs.List.{AllByRecursion}
use Rattle.session_replies.specs.declared.script.Round.{Round}
use Rattle.session_replies.specs.Rounds.{NamesItsSessions, NameSessions, rounds_numbers, rounds_commits}
use Rattle.made_load.specs.declared.load.TheConstants.{LOAD_SESSIONS}
use Rattle.made_load.specs.Load.{load_rounds, load_script_of}

-- A load commits each of its batches once.
abbrev pub LoadsCommitAll : Type 0
LoadsCommitAll = (seed batches : ℕ) → rounds_commits (load_rounds seed batches) ≡ batches

-- A batch takes one number, and every eighth one takes two.
abbrev pub LoadsTakeFewNumbers : Type 0
LoadsTakeFewNumbers = (seed batches : ℕ) → rounds_numbers (load_rounds seed batches) ≡ batches + batches / 8

-- Each line of a load is of a session that its script counts, of which there are not too many.
abbrev pub LoadsNameTheirSessions : Type 0
LoadsNameTheirSessions = (seed batches : ℕ) → 1 ≤ batches → NamesItsSessions (load_script_of seed batches)

-- Each line of a load is of one of four sessions, however few its batches are.
abbrev pub LoadsNameFourSessions : Type 0
LoadsNameFourSessions = (seed batches : ℕ) → NameSessions LOAD_SESSIONS (load_rounds seed batches)

-- No round of a load stalls a poll.
abbrev pub LoadsStallNothing : Type 0
LoadsStallNothing = (seed batches : ℕ) → AllByRecursion (λ (round : Round). round.stalls ≡ []) (load_rounds seed batches)
