-- What comes next among the words of a line, and what is left after it (docs/formats/program.md, "The whole script").
use Rattle.std.specs.Prelude.{◌≡◌, ℕ, ◌<◌, ◌≤◌, Bool, List, [], ◌∷◌, ◌++◌, length}
use Rattle.std.specs.Fmt.{decimal}
use Rattle.wal_base.specs.declared.entry.Entry.{Entry}
use Rattle.batch_repr.specs.declared.limits.TheConstants.{KEY_MAX, SESSIONS_MAX}
use Rattle.disk_face.specs.declared.Side.{Side}
use Rattle.line_words.specs.Words.{IsWord}
use Rattle.session_script.specs.Words.{SpellsOneEntry}
use Rattle.session_script.specs.Lines.{sync_word, side_letter}

-- The next word spells the number of this session.
abbrev pub TakesSession : List (List ℕ) → ℕ → List (List ℕ) → Type 0
TakesSession old session new = (old ≡ decimal session ∷ new) × (session < SESSIONS_MAX)

abbrev pub HasNoSession : List (List ℕ) → Type 0
HasNoSession old = (session : ℕ) (new : List (List ℕ)) → old ≡ decimal session ∷ new → session < SESSIONS_MAX → ⊥

-- The next word says neither that a sync is waited for nor that none is.
abbrev pub HasNoSync : List (List ℕ) → Type 0
HasNoSync old = (sync : Bool) (new : List (List ℕ)) → old ≡ sync_word sync ∷ new → ⊥

-- The next word is the letter of no side.
abbrev pub HasNoSide : List (List ℕ) → Type 0
HasNoSide old = (side : Side) (new : List (List ℕ)) → old ≡ side_letter side ∷ new → ⊥

-- One word is left, and is this key.
abbrev pub EndsWithKey : List (List ℕ) → List ℕ → Type 0
EndsWithKey old key = (old ≡ key ∷ []) × IsWord key × (length key ≤ KEY_MAX)

abbrev pub EndsWithNoKey : List (List ℕ) → Type 0
EndsWithNoKey old = (key : List ℕ) → old ≡ key ∷ [] → IsWord key → length key ≤ KEY_MAX → ⊥

-- The next words spell this entry.
abbrev pub TakesEntry : List (List ℕ) → Entry → List (List ℕ) → Type 0
TakesEntry old entry new = (part : List (List ℕ)) × (old ≡ part ++ new) × SpellsOneEntry entry part

abbrev pub HasNoEntry : List (List ℕ) → Type 0
HasNoEntry old = (entry : Entry) (part new : List (List ℕ)) → old ≡ part ++ new → SpellsOneEntry entry part → ⊥
