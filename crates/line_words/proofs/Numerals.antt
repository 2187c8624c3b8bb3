-- Digits that spell a number are text, and are read as that number.
use Rattle.std.proofs.Common.{◌≡◌, ℕ, ◌<◌, ◌^◌, List, ◌∷◌, Option, Some, None, Result, Ok, Err, Bor, arith, sym, ap, ◌∙◌}
use Rattle.std.specs.Prelude.{MatchResult, IfNone}
use Rattle.std.specs.Fmt.{decimal}
use Rattle.std.specs.Result.{result_ok}
use Rattle.std.specs.Str.{IsUtf8}
use Rattle.std.specs.Str.Parse.{ParsesUnsigned}
use Rattle.std.proofs.lemmas.Fmt.{IsAscii-decimal, parse-decimal, decimal_injective}
use Rattle.std.proofs.lemmas.Str.{IsUtf8-from_ascii}

pub if_none : {X : Type 0} {P : Type 0} (o : Option X) → P → IfNone o P
if_none None p = p
if_none (Some x) p = tt

module _ (n : ℕ) (digits : List ℕ) (low : n < 2 ^ 64) (is : digits ≡ decimal n) where
  pub is_text : {E : Type 0} (Bad : E → Type 0) (r : Result (Bor (List ℕ)) E)
      → MatchResult r (λ s. (s.now ≡ digits) × IsUtf8 digits) (λ e. ¬ (IsUtf8 digits) × Bad e) → None ≡ result_ok r → ⊥
  is_text Bad (Ok s) m none = cc
  is_text Bad (Err e) m none = m.0 (rw is (IsUtf8-from_ascii (decimal n) (IsAscii-decimal n (omega (arith, low)))))

  pub is_number : {E : Type 0} (text : List ℕ) (r : Result ℕ E) → text ≡ digits → ParsesUnsigned 64 10 text r → r ≡ Ok n
  is_number text r same parses = parse-decimal 64 n text r low (omega (arith, low)) (same ∙ is) parses

-- two numbers that one word spells are one
pub one_number : (words rest more : List (List ℕ)) (word : List ℕ) (m n : ℕ) → m < 2 ^ 64 → n < 2 ^ 64 → words ≡ word ∷ rest → word ≡ decimal m
    → words ≡ decimal n ∷ more → m ≡ n
one_number words rest more word m n low high e is other =
    let same : word ∷ rest ≡ decimal n ∷ more = sym e ∙ other in
    let first : word ≡ decimal n = cc in
    decimal_injective m n (omega (arith, low)) (omega (arith, high)) (sym is ∙ first)

pub some_is : {m n : ℕ} → Some m ≡ Some n → m ≡ n
some_is e = cc

-- the text is the bytes that were read
pub text_is : {E : Type 0} (digits : List ℕ) (Bad : E → Type 0) (r : Result (Bor (List ℕ)) E) (text : Bor (List ℕ))
    → MatchResult r (λ s. (s.now ≡ digits) × IsUtf8 digits) (λ e. ¬ (IsUtf8 digits) × Bad e) → Some text ≡ result_ok r → text.now ≡ digits
text_is digits Bad (Ok s) text m e = let same : text ≡ s = cc in ap (λ (b : Bor (List ℕ)). b.now) same ∙ m.0
text_is digits Bad (Err x) text m e = absurd cc

-- a number that is read is below the limit of its type
pub number_fits : {E : Type 0} (text : List ℕ) (r : Result ℕ E) (n : ℕ) → ParsesUnsigned 64 10 text r → Some n ≡ result_ok r → n < 2 ^ 64
number_fits text (Ok m) n parses e = let same : n ≡ m = cc in omega (arith, same, parses.1, parses.0.1)
number_fits text (Err x) n parses e = absurd cc
