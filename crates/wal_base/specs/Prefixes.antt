-- What a list begins with (docs/formats/disk.md, "Images"; docs/formats/ring.md, "Sessions beside one another").
use Rattle.std.specs.Prelude.{◌≡◌, List, ◌++◌}

-- The whole begins with the part.
abbrev pub IsPrefixOf : {A : Type 0} → List A → List A → Type 0
IsPrefixOf {A} part whole = (rest : List A) × (whole ≡ part ++ rest)
