-- Edge by edge from the start to the end, with one edge in hand.
use Rattle.std.proofs.Common.{◌≡◌, ◌≢◌, inl, inr, ℕ, ◌-◌, ◌^◌, ◌<◌, ◌≤◌, true, max, List, ◌∷◌, Contains, None, sym, ap, ◌∙◌, subst}
use Rattle.std.specs.Ordering.{is_lt, nat_cmp}
use Rattle.std.specs.Cmp.Lexicographic.{slice_cmp}
use Rattle.wal_base.proofs.Laws.{within_head, within_tail, within_cases}
use Rattle.arena_list.specs.Versions.{KeyVersion, version_with, IsAt, HoldsVersion, Adds, AscendVersions}
use Rattle.range_cover.specs.declared.mark.RangeMark.{RangeMark}
use Rattle.range_cover.specs.Marks.{StandsBefore}
use Rattle.range_cover.specs.Edges.{IsUpTo, top_of, HasEdge, HaveOwnKeys, AreTops, IsCover}
use Rattle.range_cover.specs.Steps.{CoverSome, HandsEdgeOver, HandsNext, IsAmid, IsMarkHeld, count_behind}
use Rattle.range_cover.proofs.Keys.{key_cases, up_to_itself, same_up_to, before_is_up_to, up_to_cases, up_to_both, same_from_up_to, before_both, less_from}
use Rattle.range_cover.proofs.Telling.{cover_tops}
use Rattle.range_cover.proofs.Fewer.{fewer}
use Rattle.range_cover.proofs.Raised.{begins, edge_raised, edge_dropped, ends}

-- ---- what is left of the edges

module _ (old new : List KeyVersion) (key : List ℕ) (top : ℕ) (taken : HandsEdgeOver old key top new) where
  abbrev gone : KeyVersion
  gone = taken.held.0

  pub at_gone : gone.key ≡ key
  at_gone = taken.held.2.0

  pub stay : (edge : KeyVersion) → Contains old edge → edge.key ≢ key → Contains new edge
  stay edge h apart = (taken.left edge).1 (h, λ at. apart at.0)

  pub were : (edge : KeyVersion) → Contains new edge → Contains old edge
  were edge h = ((taken.left edge).0 h).0

  pub others : HaveOwnKeys old → (edge : KeyVersion) → Contains new edge → edge.key ≢ key
  others alone edge h same =
      let is : edge ≡ gone = alone edge gone (were edge h) taken.held.1 (same ∙ sym at_gone) in
      ((taken.left edge).0 h).1 (subst (λ (v : KeyVersion). IsAt v key top) (sym is) taken.held.2)

  pub tops_left : AreTops old → AreTops new
  tops_left tops edge h = tops edge (were edge h)

  pub edge_stays : (at : List ℕ) → HasEdge old at → at ≢ key → HasEdge new at
  edge_stays at (edge, h, is) apart = (edge, stay edge h (λ same. apart (sym is ∙ same)), is)

before_apart : (one other : List ℕ) → StandsBefore one other → one ≢ other
before_apart one other less same = same_up_to other one (sym same) less

-- ---- the steps

pub held_begins : (first edges : List KeyVersion) (mark : RangeMark) (top raised : ℕ) → StandsBefore mark.start mark.end → CoverSome first
    → HasEdge first mark.end → HandsEdgeOver first mark.start top edges → raised ≡ max top (top_of mark.number) → 1 ≤ raised
    → IsMarkHeld first edges mark.start raised mark
held_begins first edges mark top raised some (marks, cover) end taken up positive = record {
  amid = amid;
  tops = tops_left first edges mark.start top taken (cover_tops first marks cover);
  some = positive;
  apart = λ (edge, h, is). others first edges mark.start top taken cover.alone edge h is;
  start = up_to_itself mark.start;
  before = some;
  end = edge_stays first edges mark.start top taken mark.end end (λ same. before_apart mark.start mark.end some (sym same));
}
  where
    old : KeyVersion
    old = taken.held.0

    held : KeyVersion
    held = version_with mark.start raised None

    at : old.key ≡ mark.start
    at = taken.held.2.0

    amid : (marks : List RangeMark) → IsCover first marks → IsAmid (held ∷ edges) (λ key. IsUpTo key mark.start) mark marks
    amid marks cover =
        edge_raised first (held ∷ edges) (λ key. StandsBefore key mark.start) (λ key. IsUpTo key mark.start) mark marks old held
        taken.held.1 (λ less. up_to_itself mark.start (subst (λ (k : List ℕ). StandsBefore k mark.start) at less))
        (same_up_to mark.start old.key (sym at)) (subst (λ (k : List ℕ). StandsBefore k mark.end) (sym at) some) end (sym at)
        (subst (λ (n : ℕ). raised ≡ max n (top_of mark.number)) (sym taken.held.2.1) up)
        (λ edge h. elim (within_cases held edges edge h) [
          | inl is ↦ inl (sym is)
          | inr rest ↦ inr (
            were first edges mark.start top taken edge rest,
            λ same. others first edges mark.start top taken cover.alone edge rest (same ∙ at),
          )
        ])
        (λ edge h apart. within_tail held edges edge (stay first edges mark.start top taken edge h (λ same. apart (same ∙ sym at))))
        (within_head held edges)
        (λ edge h up. elim (up_to_cases edge.key mark.start up) [ inl less ↦ inl less | inr same ↦ inr (same ∙ sym at) ])
        (λ edge h less. before_is_up_to edge.key mark.start less) (same_up_to old.key mark.start at)
        (begins first mark marks (old, taken.held.1, at) cover)

-- the edges with the one in hand among them
module _ (first edges : List KeyVersion) (key : List ℕ) (top : ℕ) (mark : RangeMark) (is : IsMarkHeld first edges key top mark)
    (some : CoverSome first) where
  abbrev held : KeyVersion
  held = version_with key top None

  alone : HaveOwnKeys edges
  alone one other h k same =
      (is.amid some.0 some.1).alone one other (within_tail held edges one h) (within_tail held edges other k) same

  pub held_end : HasEdge (held ∷ edges) mark.end
  held_end = (is.end.0, within_tail held edges is.end.0 is.end.1, is.end.2)

  module _ (next : List ℕ) (next_top : ℕ) (mid : List KeyVersion) (hands : HandsNext edges key mark.end next next_top mid) where
    abbrev old : KeyVersion
    old = hands.taken.held.0

    at : old.key ≡ next
    at = hands.taken.held.2.0

    behind : StandsBefore key old.key
    behind = subst (StandsBefore key) (sym at) hands.behind

    before : StandsBefore old.key mark.end
    before = subst (λ (k : List ℕ). StandsBefore k mark.end) (sym at) hands.before

    there : Contains (held ∷ edges) old
    there = within_tail held edges old hands.taken.held.1

    next_first : (edge : KeyVersion) → Contains (held ∷ edges) edge → StandsBefore key edge.key → IsUpTo next edge.key
    next_first edge h less = elim (within_cases held edges edge h) [
      | inl same ↦ absurd (up_to_itself key (subst (StandsBefore key) (sym (ap (λ (v : KeyVersion). v.key) same)) less))
      | inr rest ↦ hands.first edge rest less
    ]

    end_stays : HasEdge mid mark.end
    end_stays = edge_stays edges mid next next_top hands.taken mark.end is.end (λ same. before_apart next mark.end hands.before (sym same))

    pub held_raised : (new : List KeyVersion) (raised : ℕ) → raised ≡ max next_top (top_of mark.number) → 1 ≤ raised → top ≤ 2 ^ 64 - 1
        → Adds mid held new → IsMarkHeld first new next raised mark
    held_raised new raised up positive fits adds = record {
      amid = λ marks cover. amid marks (is.amid marks cover);
      tops = λ edge h. elim ((adds edge).0 h) [
        | inl left ↦ tops_left edges mid next next_top hands.taken is.tops edge left
        | inr same ↦ subst (λ (v : KeyVersion). (1 ≤ v.number) × (v.number ≤ 2 ^ 64 - 1)) (sym same) (is.some, fits)
      ];
      some = positive;
      apart = λ (edge, h, same). elim ((adds edge).0 h) [
        | inl left ↦ others edges mid next next_top hands.taken alone edge left same
        | inr e ↦ before_apart key next hands.behind (sym (ap (λ (v : KeyVersion). v.key) e) ∙ same)
      ];
      start = up_to_both mark.start key next is.start (before_is_up_to key next hands.behind);
      before = hands.before;
      end = (end_stays.0, (adds end_stays.0).1 (inl end_stays.1), end_stays.2);
    }
      where
        higher : KeyVersion
        higher = version_with next raised None

        amid : (marks : List RangeMark) → IsAmid (held ∷ edges) (λ k. IsUpTo k key) mark marks → IsAmid (higher ∷ new) (λ k. IsUpTo k next) mark marks
        amid marks was =
            edge_raised (held ∷ edges) (higher ∷ new) (λ k. IsUpTo k key) (λ k. IsUpTo k next) mark marks old higher there
            (λ u. u behind) (up_to_both mark.start key old.key is.start (before_is_up_to key old.key behind)) before held_end (sym at)
            (subst (λ (n : ℕ). raised ≡ max n (top_of mark.number)) (sym hands.taken.held.2.1) up)
            (λ edge h. elim (within_cases higher new edge h) [
              | inl e ↦ inl (sym e)
              | inr rest ↦ elim ((adds edge).0 rest) [
                | inl left ↦ inr (
                  within_tail held edges edge (were edges mid next next_top hands.taken edge left),
                  λ same. others edges mid next next_top hands.taken alone edge left (same ∙ at),
                )
                | inr e ↦ inr (
                  subst (Contains (held ∷ edges)) (sym e) (within_head held edges),
                  λ same. before_apart key old.key behind (sym (ap (λ (v : KeyVersion). v.key) e) ∙ same),
                )
              ]
            ])
            (λ edge h apart. within_tail higher new edge (elim (within_cases held edges edge h) [
              | inl e ↦ (adds edge).1 (inr (sym e))
              | inr rest ↦ (adds edge).1 (inl (stay edges mid next next_top hands.taken edge rest (λ same. apart (same ∙ sym at))))
            ]))
            (within_head higher new)
            (λ edge h u. elim (key_cases key edge.key) [
              | inl less ↦ inr (same_from_up_to edge.key next u (next_first edge h less) ∙ sym at)
              | inr low ↦ inl low
            ])
            (λ edge h low. up_to_both edge.key key next low (before_is_up_to key next hands.behind)) (same_up_to old.key next at) was

    pub held_dropped : top ≡ max next_top (top_of mark.number) → IsMarkHeld first mid key top mark
    held_dropped up = record {
      amid = λ marks cover.
          edge_dropped (held ∷ edges) (held ∷ mid) mark marks held old (within_head held edges) there is.start behind before held_end
          (subst (λ (n : ℕ). top ≡ max n (top_of mark.number)) (sym hands.taken.held.2.1) up)
          (λ edge h less. subst (λ (k : List ℕ). IsUpTo k edge.key) (sym at) (next_first edge h less))
          (λ edge h. elim (within_cases held mid edge h) [
            | inl e ↦ subst (Contains (held ∷ edges)) e (within_head held edges)
            | inr rest ↦ within_tail held edges edge (were edges mid next next_top hands.taken edge rest)
          ])
          (λ edge h apart. elim (within_cases held edges edge h) [
            | inl e ↦ subst (Contains (held ∷ mid)) e (within_head held mid)
            | inr rest ↦ within_tail held mid edge (stay edges mid next next_top hands.taken edge rest (λ same. apart (same ∙ sym at)))
          ])
          (is.amid marks cover);
      tops = tops_left edges mid next next_top hands.taken is.tops;
      some = is.some;
      apart = λ (edge, h, same). is.apart (edge, were edges mid next next_top hands.taken edge h, same);
      start = is.start;
      before = is.before;
      end = end_stays;
    }

    -- fewer edges are behind the one in hand

    next_less : is_lt (slice_cmp nat_cmp key old.key) ≡ true
    next_less = ap is_lt behind

    pub fewer_raised : (new : List KeyVersion) → AscendVersions new → Adds mid held new → count_behind next new < count_behind key edges
    fewer_raised new ascend adds =
        fewer (λ edge. is_lt (slice_cmp nat_cmp next edge.key)) (λ edge. is_lt (slice_cmp nat_cmp key edge.key)) new edges ascend
        (λ edge h e. elim ((adds edge).0 h) [
          | inl left ↦ (
            were edges mid next next_top hands.taken edge left,
            ap is_lt (before_both key next edge.key hands.behind (less_from next edge.key e)),
          )
          | inr same ↦ absurd (up_to_itself key (before_both key next key hands.behind
              (subst (StandsBefore next) (ap (λ (v : KeyVersion). v.key) same) (less_from next edge.key e))))
        ]) old hands.taken.held.1 next_less (λ _ e. up_to_itself next (subst (StandsBefore next) at (less_from next old.key e)))

    pub fewer_dropped : AscendVersions mid → count_behind key mid < count_behind key edges
    fewer_dropped ascend =
        fewer (λ edge. is_lt (slice_cmp nat_cmp key edge.key)) (λ edge. is_lt (slice_cmp nat_cmp key edge.key)) mid edges ascend
        (λ edge h e. (were edges mid next next_top hands.taken edge h, e)) old hands.taken.held.1 next_less
        (λ h _. others edges mid next next_top hands.taken alone old h at)

    -- it can be put back, and tells a number
    pub held_absent : HoldsVersion mid key top → ⊥
    held_absent (edge, h, is_at) = is.apart (edge, were edges mid next next_top hands.taken edge h, is_at.0)

    pub next_fits : next_top ≤ 2 ^ 64 - 1
    next_fits = subst (λ (n : ℕ). n ≤ 2 ^ 64 - 1) hands.taken.held.2.1 (is.tops old hands.taken.held.1).1

  pub held_ends : (new : List KeyVersion) → ((other : KeyVersion) → Contains edges other → StandsBefore key other.key → IsUpTo mark.end other.key)
      → Adds edges held new → (marks : List RangeMark) → IsCover first marks → IsCover new (mark ∷ marks)
  held_ends new far adds marks cover = moved
      (ends (held ∷ edges) (λ k. IsUpTo k key) mark marks
      (λ edge h. elim (key_cases key edge.key) [
        | inl less ↦ inr (
          elim (within_cases held edges edge h) [
            | inl e ↦ absurd (up_to_itself key (subst (StandsBefore key) (sym (ap (λ (v : KeyVersion). v.key) e)) less))
            | inr rest ↦ far edge rest less
          ],
          λ low. low less,
        )
        | inr low ↦ inl low
      ]) (is.amid marks cover))
    where
      to : (edge : KeyVersion) → Contains (held ∷ edges) edge → Contains new edge
      to edge h = (adds edge).1 (elim (within_cases held edges edge h) [ inl e ↦ inr (sym e) | inr rest ↦ inl rest ])

      from : (edge : KeyVersion) → Contains new edge → Contains (held ∷ edges) edge
      from edge h = elim ((adds edge).0 h) [
        | inl rest ↦ within_tail held edges edge rest
        | inr e ↦ subst (Contains (held ∷ edges)) (sym e) (within_head held edges)
      ]

      moved : IsCover (held ∷ edges) (mark ∷ marks) → IsCover new (mark ∷ marks)
      moved was = record {
        alone = λ one other h k same. was.alone one other (from one h) (from other k) same;
        told = λ at edge of. was.told at edge (record {
          stands = from edge of.stands;
          reaches = of.reaches;
          last = λ other h u. of.last other (to other h) u;
        });
        none = λ at none. was.none at (λ edge h. none edge (to edge h));
      }
