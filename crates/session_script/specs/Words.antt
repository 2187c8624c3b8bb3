-- Words cut into entries (docs/formats/program.md, "The whole script").
use Rattle.std.specs.Prelude.{◌≡◌, ℕ, List, [], ◌∷◌, codes}
use Rattle.std.specs.List.{slice_split}
use Rattle.std.specs.Str.{bytes_eq}
use Rattle.line_words.specs.Words.{IsWord}
use Rattle.wal_base.specs.declared.entry.Entry.{Entry}
use Rattle.wal_base.specs.declared.entry.Entry.TheVariants.{Set, Delete, Note, RangeDelete}

-- what stands between the semicolons
unfoldable pub parts_of : List (List ℕ) → List (List (List ℕ))
parts_of words = slice_split (λ word. bytes_eq word (codes ";")) words

-- `set K V`, `del K`, `note T`, `rdel K K`
abbrev pub SpellsOneEntry : Entry → List (List ℕ) → Type 0
SpellsOneEntry (Set key value) words = (words ≡ codes "set" ∷ key ∷ value ∷ []) × IsWord key × IsWord value
SpellsOneEntry (Delete key) words = (words ≡ codes "del" ∷ key ∷ []) × IsWord key
SpellsOneEntry (Note bytes) words = (words ≡ codes "note" ∷ bytes ∷ []) × IsWord bytes
SpellsOneEntry (RangeDelete start end) words = (words ≡ codes "rdel" ∷ start ∷ end ∷ []) × IsWord start × IsWord end

-- Each part spells its entry.
unfoldable pub SpellEntries : List Entry → List (List (List ℕ)) → Type 0
SpellEntries [] [] = Unit {0}
SpellEntries [] (part ∷ parts) = ⊥
SpellEntries (entry ∷ entries) [] = ⊥
SpellEntries (entry ∷ entries) (part ∷ parts) = SpellsOneEntry entry part × SpellEntries entries parts
