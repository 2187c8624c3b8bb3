-- The lines of the replies (docs/formats/program.md, "The replies").
use Rattle.std.specs.Prelude.{ℕ, Bool, true, false, List, [], ◌∷◌, ◌++◌, Option, Some, None, codes}
use Rattle.std.specs.Fmt.{decimal}
use Rattle.text_lines.specs.Printed.{printed}
use Rattle.session_replies.specs.declared.replies.RunEnd.{RunEnd}
use Rattle.session_replies.specs.declared.replies.Said.{Said}
use Rattle.session_replies.specs.declared.replies.Said.TheVariants.{Committed, Unsynced, Dead, Limit, Got}

-- ` synced`, or nothing
abbrev pub synced_part : Bool → List ℕ
synced_part true = codes " synced"
synced_part false = []

-- ` = V`, or ` none`
abbrev pub printed_answer : Option (List ℕ) → List ℕ
printed_answer None = codes " none"
printed_answer (Some value) = codes " = " ++ printed value

-- ` commit FIRST COUNT`
abbrev pub numbers_words : ℕ → ℕ → List ℕ
numbers_words first count = codes " commit " ++ decimal first ++ codes " " ++ decimal count

-- ` get K = V @N`, or ` get K none @N`
abbrev pub got_words : List ℕ → Option (List ℕ) → ℕ → List ℕ
got_words key value visible = codes " get " ++ printed key ++ printed_answer value ++ codes " @" ++ decimal visible

-- what follows the session in the line of a reply
abbrev pub said_words : Said → List ℕ
said_words (Committed first count synced) = numbers_words first count ++ synced_part synced
said_words (Unsynced first count) = numbers_words first count ++ codes " unsynced"
said_words Dead = codes " commit dead"
said_words Limit = codes " commit limit"
said_words (Got key value visible) = got_words key value visible

-- `sS`, and these words
abbrev pub session_line : ℕ → List ℕ → List ℕ
session_line session words = codes "s" ++ decimal session ++ words ++ 10 ∷ []

-- the line of a reply to a line of this session
unfoldable pub reply_line : ℕ → Said → List ℕ
reply_line session said = session_line session (said_words said)

-- how a run ended, by whether its journal died and whether the script halted: ` dead`, ` halted` or ` closed`
abbrev pub run_ending : Bool → Bool → List ℕ
run_ending true halted = codes " dead\n"
run_ending false true = codes " halted\n"
run_ending false false = codes " closed\n"

-- `end visible V batches B acked A segments G W`
unfoldable pub end_line : RunEnd → List ℕ
end_line end =
    codes "end visible " ++ decimal end.visible ++ codes " batches " ++ decimal end.batches ++ codes " acked " ++ decimal end.acked ++ codes
    " segments " ++ decimal end.segments ++ run_ending end.died end.halted
