-- What a line of a script says (docs/formats/program.md, "The whole script").
use Rattle.std.specs.Prelude.{◌≡◌, ◌⊎◌, ℕ, ◌<◌, ◌≤◌, Bool, true, false, List, [], ◌∷◌, length, Option, Some, None, codes, slice_get}
use Rattle.std.specs.Fmt.{decimal}
use Rattle.wal_base.specs.declared.entry.Entry.{Entry}
use Rattle.batch_repr.specs.declared.limits.TheConstants.{KEY_MAX, SESSIONS_MAX}
use Rattle.batch_repr.specs.Batches.{count_of}
use Rattle.batch_repr.specs.Building.{FitsBatch}
use Rattle.disk_face.specs.declared.Side.{Side}
use Rattle.disk_face.specs.declared.Side.TheVariants.{Primary, Secondary}
use Rattle.session_script.specs.declared.saying.TheConstants.{POLLS_MAX}
use Rattle.session_replies.specs.declared.script.Act.{Act}
use Rattle.session_replies.specs.declared.script.Act.TheVariants.{Commit, Get}
use Rattle.session_script.specs.declared.saying.Saying.{Saying}
use Rattle.session_script.specs.declared.saying.Saying.TheVariants as sayings
use Rattle.line_words.specs.Words.{words_of, IsWord}
use Rattle.session_script.specs.Words.{parts_of, SpellEntries}

-- `sync`, or `nosync`
abbrev pub sync_word : Bool → List ℕ
sync_word true = codes "sync"
sync_word false = codes "nosync"

-- `p`, or `s`
abbrev pub side_letter : Side → List ℕ
side_letter Primary = codes "p"
side_letter Secondary = codes "s"

-- `commit S sync E` or `commit S nosync E`: E is one entry or several, joined by `;`, and one at least takes a number
pub record AsksToCommit (words : List (List ℕ)) (session : ℕ) (sync : Bool) (entries : List Entry) : Type 0 where
  pub rest : List (List ℕ)
  pub words_are : words ≡ codes "commit" ∷ decimal session ∷ sync_word sync ∷ rest
  pub spelled : SpellEntries entries (parts_of rest)
  pub counted : 0 < count_of entries
  pub fits : FitsBatch entries

-- `get S K`
pub record AsksToGet (words : List (List ℕ)) (session : ℕ) (key : List ℕ) : Type 0 where
  pub words_are : words ≡ codes "get" ∷ decimal session ∷ key ∷ []
  pub key_word : IsWord key
  pub short : length key ≤ KEY_MAX

abbrev pub AsksToAct : List (List ℕ) → ℕ → Act → Type 0
AsksToAct words session (Commit sync entries) = AsksToCommit words session sync entries
AsksToAct words session (Get key) = AsksToGet words session key

-- The words say this. Sessions and polls are written in decimal digits, without leading zeros.
abbrev pub WordsSay : List (List ℕ) → Saying → Type 0
WordsSay words (sayings.Does line) = (line.session < SESSIONS_MAX) × AsksToAct words line.session line.act
WordsSay words (sayings.Stalls line) = (words ≡ codes "stall" ∷ side_letter line.side ∷ decimal line.polls ∷ []) × (1 ≤ line.polls) × (line.polls ≤ POLLS_MAX)
WordsSay words sayings.EndsRound = words ≡ codes "round" ∷ []
WordsSay words sayings.Halts = words ≡ codes "halt" ∷ []

-- The words say nothing that a line of a script may say.
abbrev pub WordsSayNone : List (List ℕ) → Type 0
WordsSayNone words = (saying : Saying) → WordsSay words saying → ⊥

-- An empty line, and one that begins with #, say nothing.
abbrev pub SaysNothing : List ℕ → Type 0
SaysNothing line = (line ≡ []) ⊎ (slice_get line 0 ≡ Some 35)

-- what a line says: nothing, or what its words say
abbrev pub LineSays : List ℕ → Option Saying → Type 0
LineSays line None = SaysNothing line
LineSays line (Some saying) = WordsSay (words_of line) saying

-- The line is no line of a script.
abbrev pub IsNoLine : List ℕ → Type 0
IsNoLine line = (here : Option Saying) → LineSays line here → ⊥
