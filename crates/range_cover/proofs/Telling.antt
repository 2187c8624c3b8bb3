-- What the edges tell, and that an edge more which tells what was told changes nothing.
use Rattle.std.proofs.Common.{◌≡◌, ◌≢◌, ◌⊎◌, inl, inr, ℕ, ◌-◌, ◌^◌, Bool, true, false, List, Contains, Some, None, refl, sym, ap, ◌∙◌, subst}
use Rattle.std.specs.Bool.{OnFalse}
use Rattle.std.specs.List.Sorted.{IsPermutation}
use Rattle.std.proofs.lemmas.List.Sorted.{Contains-permutation, IsPermutation-sym}
use Rattle.arena_list.specs.Versions.{KeyVersion, version_with, Adds}
use Rattle.arena_list.specs.Spots.{IsLastBefore, IsFirstOf, IsFirstFrom}
use Rattle.arena_list.proofs.Laws.{never_before_itself, before_along}
use Rattle.range_cover.specs.declared.mark.RangeMark.{RangeMark}
use Rattle.range_cover.specs.Marks.{StandsBefore}
use Rattle.range_cover.specs.Edges.{IsUpTo, IsTopOver, IsEdgeOf, HasNoEdgeOf, HasEdge, AreTops, IsCover}
use Rattle.range_cover.specs.Steps.{Tells}
use Rattle.range_cover.proofs.Keys.{key_cases, up_to_itself, same_up_to, up_to_both, same_from_up_to, goes_up_to, up_to_goes, up_to_late, late_up_to}
use Rattle.range_cover.proofs.Tops.{top_bounds, top_moved}

-- each edge is the last one at its own key
pub own_edge : (edges : List KeyVersion) (edge : KeyVersion) → Contains edges edge → IsEdgeOf edges edge.key edge
own_edge edges edge h = record { stands = h; reaches = up_to_itself edge.key; last = λ other k up. up }

pub cover_tops : (edges : List KeyVersion) (marks : List RangeMark) → IsCover edges marks → AreTops edges
cover_tops edges marks cover edge h = top_bounds marks edge.key edge.number (cover.told edge.key edge (own_edge edges edge h))

pub cover_moved : (edges : List KeyVersion) (old new : List RangeMark) → IsPermutation old new → IsCover edges old → IsCover edges new
cover_moved edges old new moved cover = record {
  alone = cover.alone;
  told = λ key edge of. move key edge.number (cover.told key edge of);
  none = λ key none. move key 1 (cover.none key none);
}
  where
    move : (key : List ℕ) (top : ℕ) → IsTopOver old key top → IsTopOver new key top
    move key top is = top_moved old new key top (λ mark h. Contains-permutation old new mark moved h)
        (λ mark h. Contains-permutation new old mark (IsPermutation-sym old new moved) h) is

pub tells_top : (edges : List KeyVersion) (marks : List RangeMark) (key : List ℕ) (top : ℕ) → IsCover edges marks → Tells edges key top → IsTopOver marks key top
tells_top edges marks key top cover (inl (edge, of, is)) = subst (IsTopOver marks key) is (cover.told key edge of)
tells_top edges marks key top cover (inr (none, is)) = subst (IsTopOver marks key) (sym is) (cover.none key none)

-- ---- what stands before the spot of a key and 0

module _ (edges : List KeyVersion) (key : List ℕ) (tops : AreTops edges) where
  pub last_is_edge : (edge : KeyVersion) → IsLastBefore edges key 0 (Some edge) → IsEdgeOf edges key edge
  last_is_edge edge is = record {
    stands = is.stands;
    reaches = goes_up_to edge key 0 is.before;
    last = λ other h up. elim (is.last other h (up_to_goes other key (tops other h).0 up)) [
      | inl same ↦ same_up_to other.key edge.key (ap (λ (v : KeyVersion). v.key) same)
      | inr first ↦ goes_up_to other edge.key edge.number first
    ];
  }

  pub none_is_edge : IsLastBefore edges key 0 None → HasNoEdgeOf edges key
  none_is_edge none edge h = elim (key_cases key edge.key) [
    | inl less ↦ less
    | inr up ↦ absurd (none edge h (up_to_goes edge key (tops edge h).0 up))
  ]

  pub last_absent : (edge : KeyVersion) → IsLastBefore edges key 0 (Some edge) → edge.key ≢ key → HasEdge edges key → ⊥
  last_absent edge is other (one, h, same) =
      let of = last_is_edge edge is in
      let up : IsUpTo one.key edge.key = of.last one h (same_up_to one.key key same) in
      other (same_from_up_to edge.key key of.reaches (subst (λ (k : List ℕ). IsUpTo k edge.key) same up))

  pub none_absent : IsLastBefore edges key 0 None → HasEdge edges key → ⊥
  none_absent none (one, h, same) = up_to_itself key (subst (StandsBefore key) same (none_is_edge none one h))

-- ---- one edge more

module _ (edges new : List KeyVersion) (marks : List RangeMark) (key : List ℕ) (top : ℕ) (absent : HasEdge edges key → ⊥) (tells : Tells edges key top)
    (adds : Adds edges (version_with key top None) new) where
  pub added_tells : IsCover edges marks → IsCover new marks
  added_tells cover = record {
    alone = λ one other h k same. alone one other ((adds one).0 h) ((adds other).0 k) same;
    told = λ at edge of. told at edge of ((adds edge).0 of.stands);
    none = λ at none. cover.none at (λ edge h. none edge (to_new edge h));
  }
    where
      to_new : (edge : KeyVersion) → Contains edges edge → Contains new edge
      to_new edge h = (adds edge).1 (inl h)

      at_key : (edge : KeyVersion) → edge ≡ version_with key top None → edge.key ≡ key
      at_key edge is = ap (λ (v : KeyVersion). v.key) is

      alone : (one other : KeyVersion) → Contains edges one ⊎ (one ≡ version_with key top None) → Contains edges other ⊎ (other ≡ version_with key top None)
          → one.key ≡ other.key → one ≡ other
      alone one other (inl h) (inl k) same = cover.alone one other h k same
      alone one other (inl h) (inr is) same = absurd (absent (one, h, same ∙ at_key other is))
      alone one other (inr is) (inl k) same = absurd (absent (other, k, sym same ∙ at_key one is))
      alone one other (inr is) (inr was) same = is ∙ sym was

      -- what was told at the key is told from there on
      carried : (at : List ℕ) → IsUpTo key at → ((other : KeyVersion) → Contains edges other → IsUpTo other.key at → IsUpTo other.key key)
          → Tells edges key top → IsTopOver marks at top
      carried at up last (inl (edge, of, is)) = subst (IsTopOver marks at) is (cover.told at edge (record {
        stands = of.stands;
        reaches = up_to_both edge.key key at of.reaches up;
        last = λ other h u. of.last other h (last other h u);
      }))
      carried at up last (inr (none, is)) = subst (IsTopOver marks at) (sym is) (cover.none at (λ edge h. elim (key_cases at edge.key) [
        | inl less ↦ less
        | inr u ↦ absurd (last edge h u (none edge h))
      ]))

      told : (at : List ℕ) (edge : KeyVersion) → IsEdgeOf new at edge → Contains edges edge ⊎ (edge ≡ version_with key top None) → IsTopOver marks at edge.number
      told at edge of (inl h) = cover.told at edge (record {
        stands = h;
        reaches = of.reaches;
        last = λ other k. of.last other (to_new other k);
      })
      told at edge of (inr is) = subst (IsTopOver marks at) (sym (ap (λ (v : KeyVersion). v.number) is))
          (carried at (subst (λ (k : List ℕ). IsUpTo k at) (at_key edge is) of.reaches)
          (λ other h u. subst (IsUpTo other.key) (at_key edge is) (of.last other (to_new other h) u)) tells)

-- ---- what stands from the spot of a key on

module _ (edges : List KeyVersion) (key : List ℕ) (tops : AreTops edges) (first : KeyVersion) where
  -- the first edge from the spot of a key and 0 on is the first one behind the key
  pub first_behind : IsFirstOf edges key 0 first → StandsBefore key first.key
  first_behind is = elim (key_cases key first.key) [
    | inl less ↦ less
    | inr up ↦ absurd (is.late (up_to_goes first key (tops first is.stands).0 up))
  ]

  pub first_before : IsFirstOf edges key 0 first → (other : KeyVersion) → Contains edges other → StandsBefore key other.key → IsUpTo first.key other.key
  first_before is other h less = elim (is.first other h (λ goes. goes_up_to other key 0 goes less)) [
    | inl same ↦ same_up_to first.key other.key (sym (ap (λ (v : KeyVersion). v.key) same))
    | inr later ↦ goes_up_to first other.key other.number later
  ]

  pub first_far : (end : List ℕ) → IsFirstOf edges key 0 first → (StandsBefore first.key end → ⊥) → (other : KeyVersion) → Contains edges other
      → StandsBefore key other.key → IsUpTo end other.key
  first_far end is far other h less = up_to_both end first.key other.key far (first_before is other h less)

  -- and from that of a key and the greatest number on, the one at the key
  pub first_at : HasEdge edges key → IsFirstOf edges key (2 ^ 64 - 1) first → first.key ≡ key
  first_at (edge, h, same) is =
      same_from_up_to first.key key
      (elim (is.first edge h (up_to_late edge key (2 ^ 64 - 1) (tops edge h).1 (same_up_to key edge.key (sym same)))) [
        | inl e ↦ same_up_to first.key key (sym (ap (λ (v : KeyVersion). v.key) e) ∙ same)
        | inr later ↦ subst (IsUpTo first.key) same (goes_up_to first edge.key edge.number later)
      ]) (late_up_to first key (2 ^ 64 - 1) is.late)

pub none_far : (edges : List KeyVersion) (key end : List ℕ) → IsFirstFrom edges key 0 None → (other : KeyVersion) → Contains edges other
    → StandsBefore key other.key → IsUpTo end other.key
none_far edges key end all other h less = absurd (goes_up_to other key 0 (all other h) less)

pub some_at : (edges : List KeyVersion) (key : List ℕ) → AreTops edges → HasEdge edges key → IsFirstFrom edges key (2 ^ 64 - 1) None → ⊥
some_at edges key tops (edge, h, same) all =
    up_to_late edge key (2 ^ 64 - 1) (tops edge h).1 (same_up_to key edge.key (sym same)) (all edge h)

pub one_first : (edges : List KeyVersion) (key : List ℕ) (number : ℕ) (one other : KeyVersion) → IsFirstOf edges key number one → IsFirstOf edges key number other
    → one ≡ other
one_first edges key number one other is was = elim (is.first other was.stands was.late) [
  | inl same ↦ sym same
  | inr less ↦ elim (was.first one is.stands is.late) [
    | inl same ↦ same
    | inr more ↦ absurd (never_before_itself one (before_along one other one.key one.number less more))
  ]
]

pub on_false : {P : Type 0} (b : Bool) → (b ≡ false → P) → OnFalse b P
on_false true holds = tt
on_false false holds = holds refl

-- ---- one edge more in place of none

pub has_more : (old new : List KeyVersion) (edge : KeyVersion) → Adds old edge new → (key : List ℕ) → HasEdge old key → HasEdge new key
has_more old new edge adds key (one, h, same) = (one, (adds one).1 (inl h), same)

pub has_it : (old new : List KeyVersion) (edge : KeyVersion) → Adds old edge new → HasEdge new edge.key
has_it old new edge adds = (edge, (adds edge).1 (inr refl), refl)
