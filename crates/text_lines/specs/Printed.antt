-- How bytes are printed (docs/formats/program.md, "Printed bytes").
use Rattle.std.specs.Prelude.{ℕ, ◌+◌, ◌/◌, ◌%◌, ◌&&◌, not, ◌==◌, List, [], ◌∷◌, nat_le, nat_lt, if◌then◌else◌}
use Rattle.std.specs.List.{flat_map}

-- a digit from 0 to f
abbrev pub hex_digit : ℕ → ℕ
hex_digit d = if nat_lt d 10 then 48 + d else 87 + d

-- A byte from 0x21 to 0x7E but the backslash as itself, every other one as \x and two digits.
abbrev pub printed_byte : ℕ → List ℕ
printed_byte b = if nat_le 33 b && nat_le b 126 && not (b == 92) then b ∷ [] else 92 ∷ 120 ∷ hex_digit (b / 16) ∷ hex_digit (b % 16) ∷ []

-- how a key, a value or a note is printed; no bytes as \e
abbrev pub printed : List ℕ → List ℕ
printed [] = 92 ∷ 101 ∷ []
printed (b ∷ bytes) = flat_map printed_byte (b ∷ bytes)
