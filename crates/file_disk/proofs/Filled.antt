-- A buffer that is filled from the front on: the filled part is what was read, and what stands after it stays.
use Rattle.std.proofs.Common.{◌≡◌, ◌+◌, ◌-◌, ◌≤◌, ℕ, List, Option, length, take, drop, ap, sym, subst, ◌∙◌, arith}
use Rattle.std.specs.Io.KnownBytes.{Consumes}
use Rattle.std.proofs.KnownBytes.{Consumes-trans}
use Rattle.std.proofs.lemmas.List.{drop-drop}
use Rattle.std.proofs.lemmas.Slice.{take-put_mid, drop-put_mid}
use borrow.Rule.Slice.PartMut.{put_mid}

-- Where two lists agree from one place on, they agree from each later one on.
pub from_later : {A : Type 0} (at more : ℕ) (xs ys : List A) → drop at xs ≡ drop at ys → drop (at + more) xs ≡ drop (at + more) ys
from_later at more xs ys same = sym (drop-drop more at xs) ∙ ap (drop more) same ∙ drop-drop more at ys

-- More is put where the filled part ends.
pub filled_on : {A : Type 0} (at count : ℕ) (buf first part : List A) → at + count ≤ length buf → length part ≡ count → drop at buf ≡ drop at first
    → drop (at + count) (put_mid at (at + count - at) buf part) ≡ drop (at + count) first
filled_on at count buf first part within long same =
    drop-put_mid at (at + count - at) buf part (at + count) (omega arith) (omega (arith, within)) (omega (arith, long)) ∙ from_later at count buf first same

-- What was read stands where the filled part ended.
pub read_on : (a b c : Option (List ℕ)) (at count : ℕ) (buf part : List ℕ) → at ≤ length buf → length part ≡ count → Consumes a b (take at buf) → Consumes b c part
    → Consumes a c (take (at + count) (put_mid at (at + count - at) buf part))
read_on a b c at count buf part within long front more =
    subst (Consumes a c) (sym (take-put_mid at (at + count - at) buf part (at + count) (omega (arith, long)) within))
    (Consumes-trans a b c (take at buf) part front more)
