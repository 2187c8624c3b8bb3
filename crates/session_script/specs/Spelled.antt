-- Entries as their words stand in a script (docs/formats/program.md, "The whole script").
use Rattle.std.specs.Prelude.{ℕ, List}
use Rattle.wal_base.specs.declared.entry.Entry.{Entry}
use Rattle.batch_repr.specs.Building.{MakesBatch}
use Rattle.session_script.specs.Words.{parts_of, SpellEntries}

-- The words are not entries joined by `;`.
abbrev pub SpellNoEntries : List (List ℕ) → Type 0
SpellNoEntries words = (entries : List Entry) → SpellEntries entries (parts_of words) → ⊥

-- The words are entries joined by `;`, which make a batch.
pub record AsksForBatch (words : List (List ℕ)) (entries : List Entry) : Type 0 where
  pub spelled : SpellEntries entries (parts_of words)
  pub makes : MakesBatch entries

abbrev pub AsksForNoBatch : List (List ℕ) → Type 0
AsksForNoBatch words = (entries : List Entry) → AsksForBatch words entries → ⊥
