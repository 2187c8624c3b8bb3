-- The lines of the replies (docs/formats/view.md, "The replies").
use Rattle.std.specs.Prelude.{ℕ, List, [], ◌∷◌, ◌++◌, Option, Some, None, length, codes}
use Rattle.std.specs.List.{flat_map}
use Rattle.std.specs.Fmt.{decimal}
use Rattle.text_lines.specs.Printed.{printed}
use Rattle.snapshot_view.specs.Scans.{KeyValue}

-- `hold I @N`
unfoldable pub hold_line : ℕ → ℕ → List ℕ
hold_line hold at = codes "hold " ++ decimal hold ++ codes " @" ++ decimal at ++ 10 ∷ []

-- `hold above NEXT`
unfoldable pub above_line : ℕ → List ℕ
above_line next = codes "hold above " ++ decimal next ++ 10 ∷ []

-- `hold gone FLOOR`
unfoldable pub gone_line : ℕ → List ℕ
gone_line floor = codes "hold gone " ++ decimal floor ++ 10 ∷ []

-- ` = V`, or ` none`
abbrev pub printed_value : Option (List ℕ) → List ℕ
printed_value None = codes " none"
printed_value (Some value) = codes " = " ++ printed value

-- `get K = V @N`, or `get K none @N`
unfoldable pub got_line : List ℕ → Option (List ℕ) → ℕ → List ℕ
got_line key value at = codes "get " ++ printed key ++ printed_value value ++ codes " @" ++ decimal at ++ 10 ∷ []

-- `K = V`
unfoldable pub pair_line : KeyValue → List ℕ
pair_line pair = printed pair.key ++ codes " = " ++ printed pair.value ++ 10 ∷ []

-- `end scan COUNT @N`
unfoldable pub scan_end : ℕ → ℕ → List ℕ
scan_end count at = codes "end scan " ++ decimal count ++ codes " @" ++ decimal at ++ 10 ∷ []

-- a line for each key with its value, and the one that ends them
abbrev pub scan_lines : List KeyValue → ℕ → List ℕ
scan_lines pairs at = flat_map pair_line pairs ++ scan_end (length pairs) at

-- `release I`
unfoldable pub release_line : ℕ → List ℕ
release_line hold = codes "release " ++ decimal hold ++ 10 ∷ []

-- `purge COUNT`
unfoldable pub purge_line : ℕ → List ℕ
purge_line count = codes "purge " ++ decimal count ++ 10 ∷ []

-- `not held`
unfoldable pub not_held_line : List ℕ
not_held_line = codes "not held\n"
