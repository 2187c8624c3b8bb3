-- Where bytes stand in others (docs/formats/log.md, "Chunk").
use Rattle.std.specs.Prelude.{◌≡◌, ℕ, List, length, take, drop}

-- The part stands in the bytes at this place.
pub record StandsAt (bytes : List ℕ) (at : ℕ) (part : List ℕ) : Type 0 where
  pub is : take (length part) (drop at bytes) ≡ part
