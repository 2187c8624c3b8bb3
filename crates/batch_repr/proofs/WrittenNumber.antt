-- Writing a number byte by byte.
use Rattle.std.proofs.Common.{◌≡◌, ℕ, zero, suc, ◌+◌, ◌*◌, ◌/◌, ◌%◌, ◌^◌, ◌<◌, ◌≤◌, List, [], ◌∷◌, ◌++◌, length, take, refl, sym, ap, ◌∙◌, arith, append_assoc}
use Rattle.std.proofs.lemmas.Bool.{lt-ltb, le-ltb}
use Rattle.std.proofs.Math.Nat.{pow-suc}
use Rattle.std.proofs.lemmas.List.{take-append-le, take_all, length-take}
use Rattle.batch_repr.specs.Written.{varint_within, varint}

-- What stands for the rest completes the whole.
pub record LeftOf (out : List ℕ) (rest : ℕ) (whole : List ℕ) : Type 0 where
  pub bytes : ℕ
  pub small : rest < 128 * 128 ^ bytes
  pub is : out ++ varint_within bytes rest ≡ whole

pub left_first : (out : List ℕ) (n : ℕ) → n < 2 ^ 32 → LeftOf out n (out ++ varint n)
unfolding varint
left_first out n h = record { bytes = 4; small = omega arith; is = refl }

pub left_next : (out out' : List ℕ) (rest b : ℕ) (whole : List ℕ) → 128 ≤ rest → LeftOf out rest whole → b ≡ rest % 128 + 128
    → out' ≡ out ++ b ∷ [] → LeftOf out' (rest / 128) whole
left_next out out' rest b whole high h e f = from h.bytes h.small h.is
  where
    from : (k : ℕ) → rest < 128 * 128 ^ k → out ++ varint_within k rest ≡ whole → LeftOf out' (rest / 128) whole
    from zero small is = absurd (omega arith)
    from (suc k) small is =
        let step : varint_within (suc k) rest ≡ b ∷ varint_within k (rest / 128) = rw (le-ltb rest 128 high, e) refl in
        record {
          bytes = k;
          small = omega (arith, rw pow-suc at small);
          is = ap (λ (t : List ℕ). t ++ varint_within k (rest / 128)) f ∙ append_assoc out (b ∷ []) (varint_within k (rest / 128))
              ∙ ap (λ (t : List ℕ). out ++ t) (sym step) ∙ is;
        }

pub left_last : (out out' : List ℕ) (rest : ℕ) (whole : List ℕ) → rest < 128 → LeftOf out rest whole → out' ≡ out ++ rest ∷ [] → out' ≡ whole
left_last out out' rest whole low h f = from h.bytes h.is
  where
    from : (k : ℕ) → out ++ varint_within k rest ≡ whole → out' ≡ whole
    from zero is = f ∙ is
    from (suc k) is =
        let step : varint_within (suc k) rest ≡ rest ∷ [] = rw (lt-ltb rest 128 low) refl in
        f ∙ ap (λ (t : List ℕ). out ++ t) (sym step) ∙ is

-- The old bytes stay in front.
pub kept_more : (old out out' more : List ℕ) → take (length old) out ≡ old → out' ≡ out ++ more → take (length old) out' ≡ old
kept_more old out out' more kept e =
    let long : length old ≤ length out = omega (arith, ap length kept, length-take (length old) out) in
    ap (take (length old)) e ∙ take-append-le (length old) out more long ∙ kept

pub kept_all : (old : List ℕ) → take (length old) old ≡ old
kept_all old = take_all (length old) old (omega arith)
