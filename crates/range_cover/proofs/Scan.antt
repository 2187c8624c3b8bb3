-- Range deletes in the order of their numbers, and a scan of those below a bound from the newest one on.
use Rattle.std.proofs.Common.{◌≡◌, refl, inl, inr, ℕ, ◌+◌, ◌<◌, ◌≤◌, true, false, ltb, List, length, Contains, Some, sym, ap, ◌∙◌, subst, arith, get_or, ltb-true, ltb-false}
use Rattle.std.specs.List.Sorted.{IsPartitionPoint}
use Rattle.std.proofs.lemmas.Bool.{cases_lt}
use Rattle.std.proofs.lemmas.List.{get_or_default}
use Rattle.std.proofs.lemmas.List.Elements.{Contains-get_or}
use Rattle.range_cover.specs.declared.mark.RangeMark.{RangeMark}
use Rattle.range_cover.specs.Marks.{HasKey, TellsNewestOver, AreInNumberOrder, IsBoundary}

pub boundary : (marks : List RangeMark) (below place : ℕ)
    → IsPartitionPoint (λ (mark : RangeMark). ltb mark.number below ≡ true) (λ (mark : RangeMark). ltb mark.number below ≡ false) marks place
    → IsBoundary marks below place
boundary marks below place point = (
  λ k d from less. ltb-true (get_or marks k d).number below (point.0 k d from less),
  λ k d from less. ltb-false (get_or marks k d).number below (point.1 k d from less),
)

-- No range delete between two places has the key.
abbrev pub NoneHas : List RangeMark → List ℕ → ℕ → ℕ → Type 0
NoneHas marks key from end = (index : ℕ) (other : RangeMark) → from ≤ index → index < end → HasKey (get_or marks index other) key → ⊥

-- the first one that has the key is the newest one
pub scan_some : (marks : List RangeMark) (key : List ℕ) (below place end : ℕ) (mark : RangeMark) → AreInNumberOrder marks → IsBoundary marks below end
    → NoneHas marks key (place + 1) end → place < end → place < length marks → mark ≡ get_or marks place mark → HasKey mark key
    → TellsNewestOver marks key below (Some mark.number)
scan_some marks key below place end mark order bound none less within is has = record {
  stands = (mark, subst (Contains marks) (sym is) (Contains-get_or marks place mark within), has, refl);
  under = subst (λ (it : RangeMark). it.number < below) (sym is) (bound.0 place mark (omega arith) less);
  last = λ other (k, there, at) has_it low. elim (cases_lt place k) [
    | inl more ↦ elim (cases_lt k end) [
      | inl inside ↦ absurd (none k other (omega (arith, more)) inside (subst (λ (it : RangeMark). HasKey it key) (sym at) has_it))
      | inr past ↦ absurd (omega (arith, low, subst (λ (it : RangeMark). below ≤ it.number) at (bound.1 k other past there)))
    ]
    | inr before ↦ omega (
      arith,
      order k place other before within,
      ap (λ (it : RangeMark). it.number) at,
      ap (λ (it : RangeMark). it.number) (is ∙ get_or_default marks place mark other within),
    )
  ];
}
