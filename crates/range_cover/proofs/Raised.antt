-- One range delete more, edge by edge: what an edge tells is raised from there up to the next edge, and an edge that tells what the one
-- before it tells may go.
use Rattle.std.proofs.Common.{◌≡◌, ◌≢◌, ◌⊎◌, inl, inr, ℕ, max, List, ◌∷◌, Contains, sym, ap, ◌∙◌, subst}
use Rattle.arena_list.specs.Versions.{KeyVersion}
use Rattle.range_cover.specs.declared.mark.RangeMark.{RangeMark}
use Rattle.range_cover.specs.Marks.{StandsBefore, HasKey}
use Rattle.range_cover.specs.Edges.{IsUpTo, top_of, IsTopOver, IsEdgeOf, HasEdge, IsCover}
use Rattle.range_cover.specs.Steps.{IsAmid}
use Rattle.range_cover.proofs.Keys.{key_cases, same_up_to, before_both, before_is_up_to, up_to_both, up_to_before, same_from_up_to, same_or_not, within_parts, parts_within}
use Rattle.range_cover.proofs.Tops.{top_same, top_raised}

-- a key whose edge is within a range is, where an edge stands at the range's end
edge_within : (edges : List KeyVersion) (mark : RangeMark) (key : List ℕ) (edge : KeyVersion) → IsEdgeOf edges key edge → IsUpTo mark.start edge.key
    → StandsBefore edge.key mark.end → HasEdge edges mark.end → HasKey mark key
edge_within edges mark key edge of start before (end, h, at) =
    parts_within mark key (up_to_both mark.start edge.key key start of.reaches)
    (elim (key_cases key mark.end) [
      | inl less ↦ less
      | inr up ↦ absurd (of.last end h (subst (λ (k : List ℕ). IsUpTo k key) (sym at) up) (subst (StandsBefore edge.key) (sym at) before))
    ])

-- ---- it begins before the start

pub begins : (edges : List KeyVersion) (mark : RangeMark) (marks : List RangeMark) → HasEdge edges mark.start → IsCover edges marks
    → IsAmid edges (λ key. StandsBefore key mark.start) mark marks
begins edges mark marks (start, there, at) cover = record {
  alone = cover.alone;
  told = λ key edge of done. top_same mark marks key edge.number (cover.told key edge of)
      (λ has. of.last start there (subst (λ (k : List ℕ). IsUpTo k key) (sym at) (within_parts mark key has).0)
      (subst (StandsBefore edge.key) (sym at) done));
  left = λ key edge of _. cover.told key edge of;
  none = λ key none. top_same mark marks key 1 (cover.none key none)
      (λ has. (within_parts mark key has).0 (subst (StandsBefore key) at (none start there)));
}

-- ---- one edge is raised

module _ (edges new : List KeyVersion) (done then : List ℕ → Type 0) (mark : RangeMark) (marks : List RangeMark) (old raised : KeyVersion)
    (stands : Contains edges old) (undone : done old.key → ⊥) (start : IsUpTo mark.start old.key) (before : StandsBefore old.key mark.end)
    (end : HasEdge edges mark.end) (same : raised.key ≡ old.key) (up : raised.number ≡ max old.number (top_of mark.number))
    (from : (edge : KeyVersion) → Contains new edge → (edge ≡ raised) ⊎ (Contains edges edge × (edge.key ≢ old.key)))
    (to : (edge : KeyVersion) → Contains edges edge → edge.key ≢ old.key → Contains new edge) (there : Contains new raised)
    (was : (edge : KeyVersion) → Contains edges edge → then edge.key → done edge.key ⊎ (edge.key ≡ old.key))
    (more : (edge : KeyVersion) → Contains edges edge → done edge.key → then edge.key) (also : then old.key) where
  -- an edge that stays is the last one at the same keys
  stays : (key : List ℕ) (edge : KeyVersion) → IsEdgeOf new key edge → Contains edges edge → IsEdgeOf edges key edge
  stays key edge of h = record {
    stands = h;
    reaches = of.reaches;
    last = λ other k u. elim (same_or_not other.key old.key) [
      | inl is ↦ subst (λ (k : List ℕ). IsUpTo k edge.key) (same ∙ sym is)
          (of.last raised there (subst (λ (k : List ℕ). IsUpTo k key) (is ∙ sym same) u))
      | inr apart ↦ of.last other (to other k apart) u
    ];
  }

  -- and the old one is where the raised one is
  was_there : (key : List ℕ) (edge : KeyVersion) → IsEdgeOf new key edge → edge.key ≡ old.key → IsEdgeOf edges key old
  was_there key edge of is = record {
    stands = stands;
    reaches = subst (λ (k : List ℕ). IsUpTo k key) is of.reaches;
    last = λ other h u. elim (same_or_not other.key old.key) [
      | inl e ↦ same_up_to other.key old.key e
      | inr apart ↦ subst (IsUpTo other.key) is (of.last other (to other h apart) u)
    ];
  }

  pub edge_raised : IsAmid edges done mark marks → IsAmid new then mark marks
  edge_raised amid = record {
    alone = λ one other h k e. alone one other (from one h) (from other k) e;
    told = λ key edge of d. told key edge of d (from edge of.stands);
    left = λ key edge of d. left key edge of d (from edge of.stands);
    none = λ key none. amid.none key (λ edge h. elim (same_or_not edge.key old.key) [
      | inl is ↦ subst (StandsBefore key) (same ∙ sym is) (none raised there)
      | inr apart ↦ none edge (to edge h apart)
    ]);
  }
    where
      at_old : (edge : KeyVersion) → edge ≡ raised → edge.key ≡ old.key
      at_old edge is = ap (λ (v : KeyVersion). v.key) is ∙ same

      alone : (one other : KeyVersion) → (one ≡ raised) ⊎ (Contains edges one × (one.key ≢ old.key))
          → (other ≡ raised) ⊎ (Contains edges other × (other.key ≢ old.key)) → one.key ≡ other.key → one ≡ other
      alone one other (inl is) (inl was) e = is ∙ sym was
      alone one other (inl is) (inr (k, apart)) e = absurd (apart (sym e ∙ at_old one is))
      alone one other (inr (h, apart)) (inl was) e = absurd (apart (e ∙ at_old other was))
      alone one other (inr (h, _)) (inr (k, _)) e = amid.alone one other h k e

      told : (key : List ℕ) (edge : KeyVersion) → IsEdgeOf new key edge → then edge.key → (edge ≡ raised) ⊎ (Contains edges edge × (edge.key ≢ old.key))
          → IsTopOver (mark ∷ marks) key edge.number
      told key edge of d (inl is) =
          let of_old = was_there key edge of (at_old edge is) in
          subst (IsTopOver (mark ∷ marks) key) (sym (ap (λ (v : KeyVersion). v.number) is))
          (top_raised mark marks key old.number (amid.left key old of_old undone) raised.number
          (edge_within edges mark key old of_old start before end) up)
      told key edge of d (inr (h, apart)) = elim (was edge h d) [
        | inl before ↦ amid.told key edge (stays key edge of h) before
        | inr is ↦ absurd (apart is)
      ]

      left : (key : List ℕ) (edge : KeyVersion) → IsEdgeOf new key edge → (then edge.key → ⊥)
          → (edge ≡ raised) ⊎ (Contains edges edge × (edge.key ≢ old.key)) → IsTopOver marks key edge.number
      left key edge of d (inl is) = absurd (d (subst then (sym (at_old edge is)) also))
      left key edge of d (inr (h, _)) = amid.left key edge (stays key edge of h) (λ e. d (more edge h e))

-- ---- one edge is let go

module _ (edges new : List KeyVersion) (mark : RangeMark) (marks : List RangeMark) (held old : KeyVersion) (holds : Contains edges held)
    (stands : Contains edges old) (start : IsUpTo mark.start held.key) (behind : StandsBefore held.key old.key) (before : StandsBefore old.key mark.end)
    (end : HasEdge edges mark.end) (same : held.number ≡ max old.number (top_of mark.number))
    (first : (edge : KeyVersion) → Contains edges edge → StandsBefore held.key edge.key → IsUpTo old.key edge.key)
    (from : (edge : KeyVersion) → Contains new edge → Contains edges edge)
    (to : (edge : KeyVersion) → Contains edges edge → edge.key ≢ old.key → Contains new edge) where
  still : Contains new held
  still = to held holds (λ e. same_up_to old.key held.key (sym e) behind)

  stays_before : (key : List ℕ) (edge : KeyVersion) → IsEdgeOf new key edge → StandsBefore key old.key ⊎ IsUpTo old.key edge.key → IsEdgeOf edges key edge
  stays_before key edge of side = record {
    stands = from edge of.stands;
    reaches = of.reaches;
    last = λ other h u. elim (same_or_not other.key old.key) [
      | inl is ↦ elim side [
        | inl less ↦ absurd (subst (λ (k : List ℕ). IsUpTo k key) is u less)
        | inr up ↦ subst (λ (k : List ℕ). IsUpTo k edge.key) (sym is) up
      ]
      | inr apart ↦ of.last other (to other h apart) u
    ];
  }

  pub edge_dropped : IsAmid edges (λ key. IsUpTo key held.key) mark marks → IsAmid new (λ key. IsUpTo key held.key) mark marks
  edge_dropped amid = record {
    alone = λ one other h k e. amid.alone one other (from one h) (from other k) e;
    told = λ key edge of d. elim (key_cases key old.key) [
      | inl less ↦ amid.told key edge (stays_before key edge of (inl less)) d
      | inr up ↦ told key edge of d up
    ];
    left = λ key edge of d. elim (key_cases held.key edge.key) [
      | inl less ↦ amid.left key edge (stays_before key edge of (inr (first edge (from edge of.stands) less))) d
      | inr up ↦ absurd (d up)
    ];
    none = λ key none. amid.none key (λ edge h. elim (same_or_not edge.key old.key) [
      | inl is ↦ subst (StandsBefore key) (sym is) (before_both key held.key old.key (none held still) behind)
      | inr apart ↦ none edge (to edge h apart)
    ]);
  }
    where
      told : (key : List ℕ) (edge : KeyVersion) → IsEdgeOf new key edge → IsUpTo edge.key held.key → IsUpTo old.key key → IsTopOver (mark ∷ marks) key edge.number
      told key edge of d up =
          let at : edge.key ≡ held.key =
          same_from_up_to edge.key held.key d
          (of.last held still (up_to_both held.key old.key key (before_is_up_to held.key old.key behind) up)) in
          let is : edge ≡ held = amid.alone edge held (from edge of.stands) holds at in
          let of_old : IsEdgeOf edges key old = record {
            stands = stands;
            reaches = up;
            last = λ other h u. elim (same_or_not other.key old.key) [
              | inl e ↦ same_up_to other.key old.key e
              | inr apart ↦ before_is_up_to other.key old.key
                  (up_to_before other.key held.key old.key (subst (IsUpTo other.key) at (of.last other (to other h apart) u)) behind)
            ];
          } in
          subst (IsTopOver (mark ∷ marks) key) (sym (ap (λ (v : KeyVersion). v.number) is))
          (top_raised mark marks key old.number (amid.left key old of_old (λ u. u behind)) held.number
          (edge_within edges mark key old of_old
          (up_to_both mark.start held.key old.key start (before_is_up_to held.key old.key behind)) before end) same)

-- ---- it ends at the end

pub ends : (edges : List KeyVersion) (done : List ℕ → Type 0) (mark : RangeMark) (marks : List RangeMark)
    → ((edge : KeyVersion) → Contains edges edge → done edge.key ⊎ (IsUpTo mark.end edge.key × (done edge.key → ⊥)))
    → IsAmid edges done mark marks → IsCover edges (mark ∷ marks)
ends edges done mark marks all amid = record {
  alone = amid.alone;
  told = λ key edge of. elim (all edge of.stands) [
    | inl d ↦ amid.told key edge of d
    | inr far ↦ top_same mark marks key edge.number (amid.left key edge of far.1)
        (λ has. up_to_both mark.end edge.key key far.0 of.reaches (within_parts mark key has).1)
  ];
  none = amid.none;
}

-- a range that covers nothing is told too
pub covers_nothing : (edges : List KeyVersion) (mark : RangeMark) (marks : List RangeMark) → (StandsBefore mark.start mark.end → ⊥) → IsCover edges marks
    → IsCover edges (mark ∷ marks)
covers_nothing edges mark marks none cover = record {
  alone = cover.alone;
  told = λ key edge of. top_same mark marks key edge.number (cover.told key edge of) (out key);
  none = λ key no. top_same mark marks key 1 (cover.none key no) (out key);
}
  where
    out : (key : List ℕ) → HasKey mark key → ⊥
    out key has = let parts = within_parts mark key has in none (up_to_before mark.start key mark.end parts.0 parts.1)
