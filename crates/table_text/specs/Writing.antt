-- Writing a table (docs/formats/table.md, "The text of a table").
use Rattle.crc_chunk.specs.declared.chunk.TheConstants.{BLOCK}
use Rattle.std.specs.Prelude.{◌≡◌, ℕ, ◌%◌, List, [], ◌∷◌, ◌++◌, length, map}
use Rattle.block_record.specs.Framing.{Standing, laid}
use Rattle.table_text.specs.Tables.{unsynced}

-- These records, with the sync offset 0, are what a framer has laid into a text, from its front on.
pub record HasLaid (log : ℕ) (records : List (List ℕ)) (standing : Standing) (text : List ℕ) : Type 0 where
  pub log_is : standing.log ≡ log
  pub place_is : standing.place ≡ length text % BLOCK
  pub text_is : text ≡ laid log 0 (map unsynced records)

-- A framer laid these bytes as one record more after those that it had laid, whichever these are.
abbrev pub LaysMore : List ℕ → Standing → List ℕ → Standing → List ℕ → Type 0
LaysMore bytes old text new more = (log : ℕ) (records : List (List ℕ)) → HasLaid log records old text → HasLaid log (records ++ bytes ∷ []) new more
