-- A byte string that is read stands in the text right before what is left.
use Rattle.std.proofs.Common.{◌≡◌, ℕ, ◌+◌, ◌-◌, ◌≤◌, List, [], ◌∷◌, ◌++◌, length, slice_range, Ok, refl, arith, ap, sym, ◌∙◌, length-append, append_assoc}
use Rattle.std.proofs.lemmas.List.{take_at, drop_at}
use Rattle.batch_repr.specs.Reading.{IsBytes, EndsWith, string_at}
use Rattle.batch_repr.proofs.Fields.{string_takes}

-- The text ends with the string and the rest.
abbrev pub StandsBefore : List ℕ → List ℕ → List ℕ → Type 0
StandsBefore text string rest = (front : List ℕ) × (text ≡ front ++ (string ++ rest))

long : (text string rest : List ℕ) (before : StandsBefore text string rest) → length text ≡ length before.0 + (length string + length rest)
long text string rest before = omega (arith, ap length before.1, length-append before.0 (string ++ rest), length-append string rest)

pub has_room : (text string rest : List ℕ) → StandsBefore text string rest → length string ≤ length text - length rest
has_room text string rest before = omega (arith, long text string rest before)

pub part_is : (text string rest : List ℕ) → StandsBefore text string rest
    → slice_range text (length text - length rest - length string) (length text - length rest) ≡ string
part_is text string rest before =
    let begins : length text - length rest - length string ≡ length before.0 = omega (arith, long text string rest before) in
    let takes : length text - length rest - length before.0 ≡ length string = omega (arith, long text string rest before) in
    rw (begins, takes, before.1, drop_at before.0 (string ++ rest) (length before.0) refl, take_at string rest (length string) refl) refl

pub ends_after : (text string rest : List ℕ) → StandsBefore text string rest → EndsWith text rest
ends_after text string rest before = (before.0 ++ string, before.1 ∙ sym (append_assoc before.0 string rest))

pub ends_after_one : (text : List ℕ) (byte : ℕ) (bytes rest : List ℕ) → EndsWith text bytes → bytes ≡ byte ∷ rest → EndsWith text rest
ends_after_one text byte bytes rest ends e = ends_after text (byte ∷ []) rest (ends.0, ends.1 ∙ ap (λ (b : List ℕ). ends.0 ++ b) e)

-- The text ends with what a string was read from, so it ends with the string and what is left.
pub string_before : (text : List ℕ) (whole entry limit : ℕ) (bytes string rest : List ℕ) → EndsWith text bytes → IsBytes bytes
    → string_at whole entry limit bytes ≡ Ok (string, rest) → StandsBefore text string rest
string_before text whole entry limit bytes string rest ends fits e =
    let t = string_takes whole entry limit bytes string rest fits e in
    let regrouped : bytes ≡ t.is.len ++ (string ++ rest) = t.parts ∙ ap (λ (b : List ℕ). b ++ rest) t.is.is ∙ append_assoc t.is.len string rest in
    (ends.0 ++ t.is.len, ends.1 ∙ ap (λ (b : List ℕ). ends.0 ++ b) regrouped ∙ sym (append_assoc ends.0 t.is.len (string ++ rest)))
