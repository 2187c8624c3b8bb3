-- The store that batches leave, as it is printed (docs/formats/program.md, "The text of a store").
use Rattle.std.specs.Prelude.{◌≡◌, ◌↔◌, ℕ, List, [], ◌∷◌, ◌++◌, length, codes, Some, Contains}
use Rattle.std.specs.List.{flat_map}
use Rattle.std.specs.Ordering.{nat_cmp}
use Rattle.std.specs.declared.cmp.Ordering.TheVariants.{Less}
use Rattle.std.specs.Cmp.Lexicographic.{slice_cmp}
use Rattle.batch_repr.specs.declared.batch.Batch.{Batch}
use Rattle.batch_repr.specs.Batches.{answer}
use Rattle.text_lines.specs.Printed.{printed}

-- a key with its value
pub record Held : Type 0 where
  pub key : List ℕ
  pub value : List ℕ

-- The key stands before the other, in order of bytes.
abbrev pub IsKeyBefore : List ℕ → List ℕ → Type 0
IsKeyBefore key other = slice_cmp nat_cmp key other ≡ Less

-- Each key stands before all later ones.
unfoldable pub AscendsByKey : List Held → Type 0
AscendsByKey [] = Unit {0}
AscendsByKey (held ∷ later) = ((other : Held) → Contains later other → IsKeyBefore held.key other.key) × AscendsByKey later

-- These are the keys that have a value after all batches, each with it, in order of bytes.
pub record IsStoreOf (batches : List Batch) (store : List Held) : Type 0 where
  pub ascends : AscendsByKey store
  pub same : (key value : List ℕ) → Contains store (record { key = key; value = value }) ↔ (answer batches (length batches) key ≡ Some value)

-- `K = V`
abbrev pub held_line : Held → List ℕ
held_line held = printed held.key ++ codes " = " ++ printed held.value ++ 10 ∷ []

-- The text has a line for each key that has a value after all batches.
pub record IsStoreText (batches : List Batch) (text : List ℕ) : Type 0 where
  pub store : List Held
  pub is : IsStoreOf batches store
  pub text_is : text ≡ flat_map held_line store
