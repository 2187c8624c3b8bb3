-- The bytes that a run takes of its source (docs/formats/program.md, "The script").
use Rattle.std.specs.Prelude.{◌≡◌, ℕ, ◌<◌, ◌≤◌, List, [], ◌++◌, length, Option, IfSome, codes}
use Rattle.wal_base.specs.Told.{told_front}
use Rattle.wal_top.specs.declared.reading.TheConstants.{SCRIPT_MAX}

-- So many bytes were taken of the source, and stand after the old ones.
pub record AddsPiece (count : ℕ) (before after : Option (List ℕ)) (old new : List ℕ) : Type 0 where
  pub piece : List ℕ
  pub count_is : length piece ≡ count
  pub taken : before ≡ told_front piece after
  pub added : new ≡ old ++ piece

-- At most so many bytes were taken, where the source tells them.
pub record TookAtMost (most : ℕ) (before after : Option (List ℕ)) : Type 0 where
  pub taken : List ℕ
  pub is : before ≡ told_front taken after
  pub few : length taken ≤ most

-- These bytes were taken, and nothing is left, where the source tells it.
pub record ReadsWhole (before : Option (List ℕ)) (bytes : List ℕ) (after : Option (List ℕ)) : Type 0 where
  pub taken : before ≡ told_front bytes after
  pub at_end : IfSome after (λ rest. rest ≡ [])

-- More bytes stood there than a script may have.
pub record ReadsTooMuch (before after : Option (List ℕ)) : Type 0 where
  pub front : List ℕ
  pub taken : before ≡ told_front front after
  pub past : SCRIPT_MAX < length front

-- the whole text where the source failed
abbrev pub read_fault_text : List ℕ
read_fault_text = codes "read fault\n"
