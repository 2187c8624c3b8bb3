-- Laws of scripts, each as one statement (docs/formats/program.md, "The whole script").
use Rattle.std.specs.Prelude.{◌≡◌, ℕ, ◌+◌, ◌≤◌, List, length}
use Rattle.line_words.specs.Words.{lines_of}
use Rattle.session_replies.specs.declared.script.Script.{Script}
use Rattle.session_replies.specs.Rounds.{NamesItsSessions, script_numbers}
use Rattle.session_script.specs.Script.{IsScript, IsFirstBad}

-- Bytes are one script at most.
abbrev pub BytesAreOneScript : Type 0
BytesAreOneScript = (bytes : List ℕ) (script other : Script) → IsScript bytes script → IsScript bytes other → script ≡ other

-- A script has no bad line.
abbrev pub ScriptsHaveNoBadLine : Type 0
ScriptsHaveNoBadLine = (bytes : List ℕ) (script : Script) (line : ℕ) → IsScript bytes script → IsFirstBad (lines_of bytes) line → ⊥

-- There is one first bad line at most.
abbrev pub OneLineIsFirstBad : Type 0
OneLineIsFirstBad = (bytes : List ℕ) (line other : ℕ) → IsFirstBad (lines_of bytes) line → IsFirstBad (lines_of bytes) other → line ≡ other

-- Each line of a script is of a session that the script counts, of which there are not too many.
abbrev pub ScriptsNameTheirSessions : Type 0
ScriptsNameTheirSessions = (bytes : List ℕ) (script : Script) → IsScript bytes script → NamesItsSessions script

-- A script takes no more numbers than it has bytes, and one.
abbrev pub ScriptsTakeFewNumbers : Type 0
ScriptsTakeFewNumbers = (bytes : List ℕ) (script : Script) → IsScript bytes script → script_numbers script ≤ length bytes + 1
