-- What is to be told of a key, and how one range delete more changes it.
use Rattle.std.proofs.Common.{◌≡◌, inl, inr, ℕ, ◌-◌, ◌^◌, ◌≤◌, max, List, ◌∷◌, Contains, sym, subst, arith}
use Rattle.std.proofs.lemmas.Bool.{cases_lt}
use Rattle.wal_base.proofs.Laws.{within_head, within_tail, within_cases}
use Rattle.range_cover.specs.declared.mark.RangeMark.{RangeMark}
use Rattle.range_cover.specs.Marks.{HasKey}
use Rattle.range_cover.specs.Edges.{top_of, IsTopOver}

pub top_bounds : (marks : List RangeMark) (key : List ℕ) (top : ℕ) → IsTopOver marks key top → (1 ≤ top) × (top ≤ 2 ^ 64 - 1)
top_bounds marks key top is = (
  is.some,
  elim (is.is) [ inl one ↦ omega (arith, one) | inr of ↦ omega (arith, of.3) ],
)

pub top_moved : (old new : List RangeMark) (key : List ℕ) (top : ℕ) → ((mark : RangeMark) → Contains old mark → Contains new mark)
    → ((mark : RangeMark) → Contains new mark → Contains old mark) → IsTopOver old key top → IsTopOver new key top
top_moved old new key top to from is = record {
  is = elim (is.is) [ inl one ↦ inl one | inr of ↦ inr (of.0, to of.0 of.1, of.2, of.3) ];
  some = is.some;
  most = λ mark h. is.most mark (from mark h);
}

module _ (mark : RangeMark) (marks : List RangeMark) (key : List ℕ) (top : ℕ) (is : IsTopOver marks key top) where
  -- one range delete more that the key is not within changes nothing
  pub top_same : (HasKey mark key → ⊥) → IsTopOver (mark ∷ marks) key top
  top_same out = record {
    is = elim (is.is) [ inl one ↦ inl one | inr of ↦ inr (of.0, within_tail mark marks of.0 of.1, of.2, of.3) ];
    some = is.some;
    most = λ other h has. elim (within_cases mark marks other h) [
      | inl same ↦ absurd (out (subst (λ (it : RangeMark). HasKey it key) (sym same) has))
      | inr rest ↦ is.most other rest has
    ];
  }

  -- one that the key is within raises it
  pub top_raised : (raised : ℕ) → HasKey mark key → raised ≡ max top (top_of mark.number) → IsTopOver (mark ∷ marks) key raised
  top_raised raised has up = record {
    is = elim (cases_lt top (top_of mark.number)) [
      | inl less ↦ inr (mark, within_head mark marks, has, omega (arith, less, up))
      | inr old ↦ elim (is.is) [
        | inl one ↦ inl (omega (arith, old, up, one))
        | inr of ↦ inr (of.0, within_tail mark marks of.0 of.1, of.2, omega (arith, old, up, of.3))
      ]
    ];
    some = omega (arith, is.some, up);
    most = λ other h has_it. elim (within_cases mark marks other h) [
      | inl same ↦ subst (λ (it : RangeMark). top_of it.number ≤ raised) same (omega (arith, up))
      | inr rest ↦ omega (arith, up, is.most other rest has_it)
    ];
  }
