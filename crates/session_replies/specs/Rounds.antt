-- Rounds of what sessions are asked for (docs/formats/program.md, "The whole script").
use Rattle.std.specs.Prelude.{ℕ, ◌<◌, ◌≤◌, sum_by, count_by, Bool, true, false, List}
use Rattle.std.specs.List.{AllByRecursion}
use Rattle.batch_repr.specs.Batches.{count_of}
use Rattle.batch_repr.specs.declared.limits.TheConstants.{SESSIONS_MAX}
use Rattle.session_replies.specs.declared.script.Act.{Act}
use Rattle.session_replies.specs.declared.script.Act.TheVariants.{Commit, Get}
use Rattle.session_replies.specs.declared.script.Line.{Line}
use Rattle.session_replies.specs.declared.script.Round.{Round}
use Rattle.session_replies.specs.declared.script.Script.{Script}

-- ---- what they take

-- how many numbers an act takes
abbrev pub numbers_taken : Act → ℕ
numbers_taken (Commit sync entries) = count_of entries
numbers_taken (Get key) = 0

-- how many numbers the lines of a round take
abbrev pub round_numbers : Round → ℕ
round_numbers round = sum_by (λ (line : Line). numbers_taken line.act) round.lines

-- how many numbers the lines of these rounds take
abbrev pub rounds_numbers : List Round → ℕ
rounds_numbers rounds = sum_by round_numbers rounds

-- how many numbers a script takes
abbrev pub script_numbers : Script → ℕ
script_numbers script = rounds_numbers script.rounds

-- whether an act is a commit
abbrev pub is_commit : Act → Bool
is_commit (Commit sync entries) = true
is_commit (Get key) = false

-- how many commits a round has
abbrev pub round_commits : Round → ℕ
round_commits round = count_by (λ (line : Line). is_commit line.act) round.lines

-- how many commits these rounds have
abbrev pub rounds_commits : List Round → ℕ
rounds_commits rounds = sum_by round_commits rounds

-- ---- whose they are

-- Each line is of one of so many sessions.
abbrev pub LinesAreOfSome : ℕ → List Line → Type 0
LinesAreOfSome sessions lines = AllByRecursion (λ (line : Line). line.session < sessions) lines

-- So is each line of the rounds.
abbrev pub NameSessions : ℕ → List Round → Type 0
NameSessions sessions rounds = AllByRecursion (λ (round : Round). LinesAreOfSome sessions round.lines) rounds

-- There is a session at least, there are not too many, and each line is of one of them.
pub record NamesItsSessions (script : Script) : Type 0 where
  pub some : 1 ≤ script.sessions
  pub few : script.sessions ≤ SESSIONS_MAX
  pub within : NameSessions script.sessions script.rounds
