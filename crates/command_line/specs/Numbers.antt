-- The numbers among the words of the command line (docs/formats/program.md, "Commands").
use Rattle.std.specs.Prelude.{◌≡◌, ℕ, ◌≤◌, List, length}
use Rattle.std.specs.Str.Parse.{IsNumeral, digits_value}
use Rattle.command_line.specs.declared.numbers.TheConstants.{DIGITS_MAX}

-- The text is this number, in 1 to 20 decimal digits, of which the first ones may be zeros.
pub record IsNumber (text : List ℕ) (n : ℕ) : Type 0 where
  pub digits : IsNumeral 10 text
  pub short : length text ≤ DIGITS_MAX
  pub value : n ≡ digits_value 10 text

-- The text is this number, which lies in this range.
pub record IsNumberIn (least most : ℕ) (text : List ℕ) (n : ℕ) : Type 0 where
  pub number : IsNumber text n
  pub low : least ≤ n
  pub high : n ≤ most
