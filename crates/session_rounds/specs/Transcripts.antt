-- What is said to lines, as it is told (docs/formats/program.md, "The text of a replay").
use Rattle.std.specs.Prelude.{◌≡◌, ◌++◌, ◌||◌, ℕ, Bool, false, List, [], Option, Some, None}
use Rattle.std.specs.List.{flat_map, list_any}
use Rattle.session_replies.specs.declared.replies.Said.{Said}
use Rattle.session_replies.specs.Legal.{Replied, replies_text}
use Rattle.session_replies.specs.Replies.{reply_line}
use Rattle.session_replies.specs.Theorems.{tells_limit, limit_told}
use Rattle.session_rounds.specs.declared.transcript.Transcript.{Transcript}

-- the lines of some replies
abbrev pub replies_lines : List Replied → List ℕ
replies_lines replies = flat_map (λ (r : Replied). reply_line r.line.session r.said) replies

-- whether one of them tells of a limit
abbrev pub any_limited : List Replied → Bool
any_limited replies = list_any (λ (r : Replied). tells_limit r.said) replies

-- a text with more lines, where it is kept
abbrev pub with_lines : Option (List ℕ) → List ℕ → Option (List ℕ)
with_lines None lines = None
with_lines (Some text) lines = Some (text ++ lines)

-- Nothing was said.
pub record IsEmptyTranscript (transcript : Transcript) : Type 0 where
  pub text : transcript.text ≡ Some []
  pub limited : transcript.limited ≡ false

-- Nothing was said, and no line is kept.
pub record IsSilentTranscript (transcript : Transcript) : Type 0 where
  pub text : transcript.text ≡ None
  pub limited : transcript.limited ≡ false

-- A reply is added to it.
pub record NotesReply (session : ℕ) (said : Said) (old new : Transcript) : Type 0 where
  pub text : new.text ≡ with_lines old.text (reply_line session said)
  pub limited : new.limited ≡ (old.limited || tells_limit said)

-- Replies are added to it.
pub record NotesReplies (replies : List Replied) (old new : Transcript) : Type 0 where
  pub text : new.text ≡ with_lines old.text (replies_lines replies)
  pub limited : new.limited ≡ (old.limited || any_limited replies)

-- The replies of these rounds are added to it.
pub record NotesRounds (rounds : List (List Replied)) (old new : Transcript) : Type 0 where
  pub text : new.text ≡ with_lines old.text (replies_text rounds)
  pub limited : new.limited ≡ (old.limited || limit_told rounds)

-- ---- joined from parts

-- a transcript with no reply, which keeps lines just where another one does
abbrev pub no_text : Option (List ℕ) → Option (List ℕ)
no_text None = None
no_text (Some text) = Some []

abbrev pub blank_of : Transcript → Transcript
blank_of told = record { text = no_text told.text; limited = false }

-- a text and one after it, where the first is kept
abbrev pub with_text : Option (List ℕ) → Option (List ℕ) → Option (List ℕ)
with_text text None = text
with_text None (Some more) = None
with_text (Some text) (Some more) = Some (text ++ more)

-- the replies of one and then those of another
abbrev pub with_told : Transcript → Transcript → Transcript
with_told told more = record { text = with_text told.text more.text; limited = told.limited || more.limited }
