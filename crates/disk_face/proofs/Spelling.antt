-- Digits with zeros in front are read back as their number, and hold no dash.
use Rattle.std.proofs.Common.{◌≡◌, ◌≢◌, ℕ, zero, suc, ◌+◌, ◌-◌, ◌<◌, ◌^◌, List, [], ◌∷◌, ◌++◌, length, get_or, replicate, Option, Some, None, Bor, Result, Ok, Err, take, drop, refl, sym, ◌∙◌, ap, arith}
use Rattle.std.specs.Fmt.{decimal}
use Rattle.std.specs.Str.{IsAscii, IsUtf8}
use Rattle.std.specs.Str.Parse.{AllDigits, digits_value, ParsesUnsigned}
use Rattle.std.proofs.lemmas.Str.Parse.{IsNumeralModel, numerals_by_value, tells_digits, parse_gives, not_in_digits}
use Rattle.std.proofs.lemmas.Fmt.{decimal_nonempty, digits_decimal, digits_value-decimal, IsAscii-from_digits}
use Rattle.std.proofs.lemmas.List.{length-append, append-nil}
use Rattle.std.proofs.Math.Seq.{take-append_seam, drop-append_seam}
use Rattle.std.proofs.lemmas.Str.{IsAscii-append, IsUtf8-from_ascii}
use Rattle.std.proofs.lemmas.Str.Pattern.{IsSplitOnceResult, split_parts, split_after}
use Rattle.std.specs.Option.{MatchOption}
use Rattle.std.specs.Result.{MatchResult, result_ok}
use Rattle.disk_face.specs.declared.SegName.{SegName}
use Rattle.disk_face.specs.Listing.{IsSegmentName}
use Rattle.disk_face.specs.Names.{filled, index_text, stem_text, IsFilled}

get_or_at : (xs : List ℕ) (y : ℕ) (ys : List ℕ) → get_or (xs ++ (y ∷ ys)) (length xs) 0 ≡ y
get_or_at [] y ys = refl
get_or_at (x ∷ xs) y ys = get_or_at xs y ys

own : IsNumeralModel (AllDigits 10) (digits_value 10)
own = numerals_by_value _ tells_digits

zeros_digits : (k : ℕ) (ds : List ℕ) → AllDigits 10 ds → AllDigits 10 (replicate k 48 ++ ds)
zeros_digits zero ds all = all
zeros_digits (suc k) ds all = (omega arith, zeros_digits k ds all)

zeros_value : (k : ℕ) (ds : List ℕ) → digits_value 10 (replicate k 48 ++ ds) ≡ digits_value 10 ds
zeros_value zero ds = refl
zeros_value (suc k) ds = zeros_value k ds

-- they are digits
pub filled_digits : (width n : ℕ) → n < 2 ^ 64 → AllDigits 10 (filled width n)
filled_digits width n low = zeros_digits _ (decimal n) (digits_decimal own n low)

-- they write the number
pub filled_value : (width n : ℕ) → n < 2 ^ 64 → digits_value 10 (filled width n) ≡ n
filled_value width n low = zeros_value (width - length (decimal n)) (decimal n) ∙ digits_value-decimal own n low

-- they are some
pub filled_some : (width n : ℕ) → n < 2 ^ 64 → 0 < length (filled width n)
filled_some width n low = omega (arith, length-append (replicate (width - length (decimal n)) 48) (decimal n), decimal_nonempty n low)

-- reading them gives the number
pub parse_filled : {E : Type 0} (k n : ℕ) (bytes : List ℕ) (r : Result ℕ E) → n < 2 ^ k → n < 2 ^ 64 → IsFilled bytes n → ParsesUnsigned k 10 bytes r → r ≡ Ok n
parse_filled k n bytes r fits low (width, is) parses =
    let given = parse_gives own k (filled width n) r (rw is at parses) (filled_digits width n low) (filled_some width n low)
    (rw (filled_value width n low) fits) in
    given ∙ ap (λ (m : ℕ). Ok m) (filled_value width n low)

-- none of them is a dash
pub no_dash : (width n i : ℕ) → n < 2 ^ 64 → i < length (filled width n) → get_or (filled width n) i 0 ≢ 45
no_dash width n i low below = not_in_digits own (filled width n) 45 (filled_digits width n low) (λ range. absurd (omega (arith, range.0))) i below

pub filled_ascii : (width n : ℕ) → n < 2 ^ 64 → IsAscii (filled width n)
filled_ascii width n low = IsAscii-from_digits (filled width n) (filled_digits width n low)

-- the index is digits after a dash, or not written
pub index_ascii : (index : ℕ) → index < 2 ^ 64 → IsAscii (index_text index)
index_ascii zero low = λ i. omega arith
index_ascii (suc n) low = IsAscii-append (45 ∷ []) (filled 3 (suc n)) dash_ascii (filled_ascii 3 (suc n) low)
  where
    dash_ascii : IsAscii (45 ∷ [])
    dash_ascii zero = omega arith
    dash_ascii (suc i) = omega arith

-- a name is ASCII
pub stem_ascii : (name : SegName) → IsSegmentName name → IsAscii (stem_text name)
stem_ascii name ok = IsAscii-append (filled 6 name.wal) (index_text name.index) (filled_ascii 6 name.wal (omega (arith, ok.0)))
    (index_ascii name.index (omega (arith, ok.1)))

-- cut at its first dash, or whole with index 0, a name gives its two numbers
pub split_stem : (stem : List ℕ) (name : SegName) (r : Option (Bor (List ℕ) × Bor (List ℕ))) → IsSegmentName name → stem ≡ stem_text name
    → IsSplitOnceResult 45 stem r
    → MatchOption r (IsFilled stem name.wal × (name.index ≡ 0)) (λ x. IsFilled x.0.now name.wal × IsFilled x.1.now name.index)
split_stem stem name r ok is cut = go name.index refl r cut
  where
    go : (index : ℕ) → name.index ≡ index → (q : Option (Bor (List ℕ) × Bor (List ℕ))) → IsSplitOnceResult 45 stem q
        → MatchOption q (IsFilled stem name.wal × (name.index ≡ 0)) (λ x. IsFilled x.0.now name.wal × IsFilled x.1.now name.index)
    go zero at None cut = ((6, is ∙ ap (λ (i : ℕ). filled 6 name.wal ++ index_text i) at ∙ append-nil _), at)
    go zero at (Some x) cut =
        let whole : stem ≡ filled 6 name.wal = is ∙ ap (λ (i : ℕ). filled 6 name.wal ++ index_text i) at ∙ append-nil _ in
        let parts = split_parts 45 stem (Some x) cut (omega arith) in
        let whole2 : x.0.now ++ (45 ∷ x.1.now) ≡ filled 6 name.wal = sym parts.0 ∙ whole in
        let there : get_or (x.0.now ++ (45 ∷ x.1.now)) (length x.0.now) 0 ≡ 45 = get_or_at x.0.now 45 x.1.now in
        let size : length (filled 6 name.wal) ≡ length x.0.now + suc (length x.1.now) = ap length (sym whole2) ∙ length-append x.0.now (45 ∷ x.1.now) in
        absurd (no_dash 6 name.wal (length x.0.now) (omega (arith, ok.0)) (omega (arith, size)) (rw whole2 at there))
    go (suc n) at q cut =
        let behind : stem ≡ filled 6 name.wal ++ (45 ∷ filled 3 (suc n)) = is ∙ ap (λ (i : ℕ). filled 6 name.wal ++ index_text i) at in
        finish q (split_after 45 stem (filled 6 name.wal) (filled 3 (suc n)) q cut (omega arith) behind
        (λ i below. no_dash 6 name.wal i (omega (arith, ok.0)) below))
      where
        finish : (q : Option (Bor (List ℕ) × Bor (List ℕ))) → MatchOption q ⊥ (λ x. (x.0.now ≡ filled 6 name.wal) × (x.1.now ≡ filled 3 (suc n)))
            → MatchOption q (IsFilled stem name.wal × (name.index ≡ 0)) (λ x. IsFilled x.0.now name.wal × IsFilled x.1.now name.index)
        finish None m = absurd m
        finish (Some x) m = ((6, m.0), (3, m.1 ∙ ap (filled 3) (sym at)))

-- what stands before an end that is cut off
pub cut_off : (text bytes end stem : List ℕ) → text ≡ bytes ++ end → stem ≡ take (length text - length end) text → stem ≡ bytes
cut_off text bytes end stem is cut =
    let size : length text - length end ≡ length bytes = omega (arith, ap length is ∙ length-append bytes end) in
    cut ∙ ap (λ (n : ℕ). take n text) size ∙ ap (take (length bytes)) is ∙ take-append_seam bytes end

-- the end of a text that ends so
pub end_is : (text bytes end : List ℕ) → text ≡ bytes ++ end → drop (length text - length end) text ≡ end
end_is text bytes end is =
    let size : length text - length end ≡ length bytes = omega (arith, ap length is ∙ length-append bytes end) in
    ap (λ (n : ℕ). drop n text) size ∙ ap (drop (length bytes)) is ∙ drop-append_seam bytes end

-- ASCII is read as text
pub read_ascii : {E : Type 0} (stem bytes : List ℕ) (Bad : E → Type 0) (r : Result (Bor (List ℕ)) E) (o : Option (Bor (List ℕ))) → IsAscii bytes → stem ≡ bytes
    → MatchResult r (λ s. (s.now ≡ stem) × IsUtf8 stem) (λ e. ¬ (IsUtf8 stem) × Bad e) → o ≡ result_ok r → MatchOption o ⊥ (λ s. s.now ≡ bytes)
read_ascii stem bytes Bad (Ok s) o ascii is m e = rw e (m.0 ∙ is)
read_ascii stem bytes Bad (Err x) o ascii is m e = absurd (m.0 (rw is (IsUtf8-from_ascii bytes ascii)))

-- a name with both numbers is the name
pub same_numbers : (wal index : ℕ) (name : SegName) → Some wal ≡ Some name.wal → Some index ≡ Some name.index
    → Some (record { wal = wal; index = index }) ≡ Some name
same_numbers wal index name w x =
    let w_is : wal ≡ name.wal = cc in
    let x_is : index ≡ name.index = cc in
    ap {A = SegName} Some (λ i. record { wal = w_is i; index = x_is i })
