-- The order of keys is total, and edges stand in it.
use Rattle.std.proofs.Common.{◌≡◌, ◌≢◌, ◌⊎◌, inl, inr, ℕ, ◌≤◌, true, List, Ordering, Less, Equal, Greater, nat_cmp, refl, sym, ap, ap₂, ◌∙◌, subst, arith, ◌&&◌}
use Rattle.std.specs.Ordering.{ordering_then, ordering_reverse, is_le, is_lt}
use Rattle.std.specs.Cmp.{IsTotalOrder}
use Rattle.std.specs.Cmp.Lexicographic.{slice_cmp}
use Rattle.std.specs.Prelude.{IsTrue}
use Rattle.std.proofs.lemmas.Cmp.{tied_itself, nat_list_cmp_total}
use Rattle.arena_list.specs.Versions.{KeyVersion, GoesBefore}
use Rattle.arena_list.proofs.Laws.{before_cases, same_key_before, keys_equal}
use Rattle.range_cover.specs.declared.mark.RangeMark.{RangeMark}
use Rattle.range_cover.specs.Marks.{StandsBefore, HasKey}
use Rattle.range_cover.specs.Edges.{IsUpTo}

-- ---- two keys

pub key_cases : (one other : List ℕ) → StandsBefore one other ⊎ IsUpTo other one
key_cases one other = go (slice_cmp nat_cmp one other) refl
  where
    go : (o : Ordering) → slice_cmp nat_cmp one other ≡ o → StandsBefore one other ⊎ IsUpTo other one
    go Less is = inl is
    go Equal is = inr (λ less. absurd cc)
    go Greater is = inr (λ less. absurd cc)

pub up_to_itself : (key : List ℕ) → IsUpTo key key
up_to_itself key less = let tied : slice_cmp nat_cmp key key ≡ Equal = tied_itself nat_list_cmp_total key in absurd cc

pub same_up_to : (one other : List ℕ) → one ≡ other → IsUpTo one other
same_up_to one other same = subst (IsUpTo one) same (up_to_itself one)

pub before_both : (one other last : List ℕ) → StandsBefore one other → StandsBefore other last → StandsBefore one last
before_both one other last first second = IsTotalOrder.trans nat_list_cmp_total one other last first second

pub before_is_up_to : (one other : List ℕ) → StandsBefore one other → IsUpTo one other
before_is_up_to one other less back = up_to_itself one (before_both one other one less back)

pub up_to_cases : (one other : List ℕ) → IsUpTo one other → StandsBefore one other ⊎ (one ≡ other)
up_to_cases one other up = go (slice_cmp nat_cmp one other) refl
  where
    go : (o : Ordering) → slice_cmp nat_cmp one other ≡ o → StandsBefore one other ⊎ (one ≡ other)
    go Less is = inl is
    go Equal is = inr (keys_equal one other is)
    go Greater is = absurd (up (IsTotalOrder.antisymm nat_list_cmp_total other one ∙ ap ordering_reverse is))

pub before_up_to : (one other last : List ℕ) → StandsBefore one other → IsUpTo other last → StandsBefore one last
before_up_to one other last less up = elim (up_to_cases other last up) [
  | inl more ↦ before_both one other last less more
  | inr same ↦ subst (StandsBefore one) same less
]

pub up_to_before : (one other last : List ℕ) → IsUpTo one other → StandsBefore other last → StandsBefore one last
up_to_before one other last up less = elim (up_to_cases one other up) [
  | inl more ↦ before_both one other last more less
  | inr same ↦ subst (λ (key : List ℕ). StandsBefore key last) (sym same) less
]

pub up_to_both : (one other last : List ℕ) → IsUpTo one other → IsUpTo other last → IsUpTo one last
up_to_both one other last first second back = second (before_up_to last one other back first)

pub same_from_up_to : (one other : List ℕ) → IsUpTo one other → IsUpTo other one → one ≡ other
same_from_up_to one other up back = elim (up_to_cases one other up) [ inl less ↦ absurd (back less) | inr same ↦ same ]

pub same_or_not : (one other : List ℕ) → (one ≡ other) ⊎ (one ≢ other)
same_or_not one other = elim (key_cases one other) [
  | inl less ↦ inr (λ same. same_up_to other one (sym same) less)
  | inr up ↦ elim (up_to_cases other one up) [
    | inl less ↦ inr (λ same. same_up_to one other same less)
    | inr same ↦ inl (sym same)
  ]
]

-- ---- an edge and the spot of a key

pub goes_up_to : (edge : KeyVersion) (key : List ℕ) (number : ℕ) → GoesBefore edge key number → IsUpTo edge.key key
goes_up_to edge key number goes = elim (before_cases edge key number goes) [
  | inl less ↦ before_is_up_to edge.key key less
  | inr is ↦ same_up_to edge.key key is.0
]

pub before_goes : (edge : KeyVersion) (key : List ℕ) (number : ℕ) → StandsBefore edge.key key → GoesBefore edge key number
before_goes edge key number less = ap (λ (o : Ordering). ordering_then o (nat_cmp number edge.number)) less

pub up_to_goes : (edge : KeyVersion) (key : List ℕ) → 1 ≤ edge.number → IsUpTo edge.key key → GoesBefore edge key 0
up_to_goes edge key some up = elim (up_to_cases edge.key key up) [
  | inl less ↦ before_goes edge key 0 less
  | inr same ↦ same_key_before edge key 0 same (omega (arith, some))
]

pub up_to_late : (edge : KeyVersion) (key : List ℕ) (number : ℕ) → edge.number ≤ number → IsUpTo key edge.key → GoesBefore edge key number → ⊥
up_to_late edge key number fits up goes = elim (before_cases edge key number goes) [
  | inl less ↦ up less
  | inr is ↦ absurd (omega (arith, fits, is.1))
]

pub late_up_to : (edge : KeyVersion) (key : List ℕ) (number : ℕ) → (GoesBefore edge key number → ⊥) → IsUpTo key edge.key
late_up_to edge key number late less = late (before_goes edge key number less)

-- ---- a key and a range

pub within_parts : (mark : RangeMark) (key : List ℕ) → HasKey mark key → IsUpTo mark.start key × StandsBefore key mark.end
within_parts mark key has = go (slice_cmp nat_cmp mark.start key) (slice_cmp nat_cmp key mark.end) refl refl has
  where
    go : (o p : Ordering) → slice_cmp nat_cmp mark.start key ≡ o → slice_cmp nat_cmp key mark.end ≡ p → IsTrue (is_le o && is_lt p)
        → IsUpTo mark.start key × StandsBefore key mark.end
    go Less Less start end h = (before_is_up_to mark.start key start, end)
    go Less Equal start end h = absurd cc
    go Less Greater start end h = absurd cc
    go Equal Less start end h = (same_up_to mark.start key (keys_equal mark.start key start), end)
    go Equal Equal start end h = absurd cc
    go Equal Greater start end h = absurd cc
    go Greater p start end h = absurd cc

pub parts_within : (mark : RangeMark) (key : List ℕ) → IsUpTo mark.start key → StandsBefore key mark.end → HasKey mark key
parts_within mark key start end = elim (up_to_cases mark.start key start) [
  | inl less ↦ ap₂ (λ (o p : Ordering). is_le o && is_lt p) less end
  | inr same ↦ ap₂ (λ (o p : Ordering). is_le o && is_lt p)
      (ap (slice_cmp nat_cmp mark.start) (sym same) ∙ tied_itself nat_list_cmp_total mark.start) end
]

-- ---- as a test tells it

pub less_from : (one other : List ℕ) → is_lt (slice_cmp nat_cmp one other) ≡ true → StandsBefore one other
less_from one other e = go (slice_cmp nat_cmp one other) refl e
  where
    go : (o : Ordering) → slice_cmp nat_cmp one other ≡ o → is_lt o ≡ true → StandsBefore one other
    go Less is e = is
    go Equal is e = absurd cc
    go Greater is e = absurd cc
