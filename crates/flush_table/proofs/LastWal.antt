-- The last segment of a listing is of its greatest WAL, and of two listings the greater of both.
use Rattle.std.proofs.Common.{◌≡◌, ℕ, ◌≤◌, max, List, [], ◌∷◌, ◌++◌, Contains, inl, inr, subst, refl, arith}
use Rattle.std.proofs.lemmas.List.Elements.{Contains-append_cases, Contains-append_left, Contains-append_right}
use native.Mathlib.Decide.{dec_le}
use Rattle.wal_base.proofs.Laws.{none_within, within_head}
use Rattle.disk_face.specs.declared.Listed.{Listed}
use Rattle.disk_face.specs.Listing.{IsAscending}
use Rattle.wal_recovery.proofs.Laws.{none_after_last}
use Rattle.flush_table.specs.Settling.{AreUpTo, IsGreatestOf}

pub last_greatest : (front : List Listed) (last : Listed) → IsAscending (front ++ last ∷ []) → IsGreatestOf (front ++ last ∷ []) last.name.wal
last_greatest front last up = record {
  item = last;
  listed = Contains-append_right front (last ∷ []) last (within_head last []);
  wal_is = refl;
  greatest = λ item at. none_after_last front last up item at;
}

up_to_both : (ones others : List Listed) (a b wal : ℕ) → AreUpTo a ones → AreUpTo b others → a ≤ wal → b ≤ wal → AreUpTo wal (ones ++ others)
up_to_both ones others a b wal x y low high item at = elim (Contains-append_cases ones others item at) [
  | inl one ↦ omega (arith, x item one, low)
  | inr other ↦ omega (arith, y item other, high)
]

of_ones : (ones others : List Listed) (a b : ℕ) → IsGreatestOf ones a → AreUpTo b others → b ≤ a → IsGreatestOf (ones ++ others) a
of_ones ones others a b x y low = record {
  item = x.item;
  listed = Contains-append_left ones others x.item x.listed;
  wal_is = x.wal_is;
  greatest = up_to_both ones others a b a x.greatest y (omega arith) low;
}

of_others : (ones others : List Listed) (a b : ℕ) → AreUpTo a ones → IsGreatestOf others b → a ≤ b → IsGreatestOf (ones ++ others) b
of_others ones others a b x y low = record {
  item = y.item;
  listed = Contains-append_right ones others y.item y.listed;
  wal_is = y.wal_is;
  greatest = up_to_both ones others a b b x y.greatest low (omega arith);
}

pub greatest_both : (ones others : List Listed) (a b wal : ℕ) → IsGreatestOf ones a → IsGreatestOf others b → wal ≡ max a b
    → IsGreatestOf (ones ++ others) wal
greatest_both ones others a b wal x y is = elim (dec_le a b) [
  | yes low ↦ let e : b ≡ wal = omega (arith, is, low) in subst (IsGreatestOf (ones ++ others)) e (of_others ones others a b x.greatest y low)
  | no above ↦
      let e : a ≡ wal = omega (arith, is, above) in
      subst (IsGreatestOf (ones ++ others)) e (of_ones ones others a b x y.greatest (omega (arith, above)))
]

none_up_to : (names : List Listed) → names ≡ [] → (wal : ℕ) → AreUpTo wal names
none_up_to names empty wal item at = absurd (none_within item (subst (λ (l : List Listed). Contains l item) empty at))

pub greatest_ones : (ones others : List Listed) (a : ℕ) → IsGreatestOf ones a → others ≡ [] → IsGreatestOf (ones ++ others) a
greatest_ones ones others a x empty = of_ones ones others a a x (none_up_to others empty a) (omega arith)

pub greatest_others : (ones others : List Listed) (b : ℕ) → ones ≡ [] → IsGreatestOf others b → IsGreatestOf (ones ++ others) b
greatest_others ones others b empty y = of_others ones others b b (none_up_to ones empty b) y (omega arith)
