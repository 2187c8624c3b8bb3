-- A level that is cut where a search stops, and what stands there.
use Rattle.std.proofs.Common.{◌≡◌, ◌≢◌, ◌⊎◌, inl, inr, ℕ, ◌+◌, ◌-◌, ◌<◌, ◌≤◌, List, [], ◌∷◌, ◌++◌, length, Contains, Some, Ordering, Less, Equal, nat_cmp, refl, sym, ap, ◌∙◌, subst, arith, append_assoc, slice_index}
use Rattle.std.specs.Ordering.{ordering_then}
use Rattle.std.specs.Cmp.Lexicographic.{slice_cmp}
use Rattle.std.proofs.lemmas.Bool.{cases_lt}
use Rattle.std.proofs.lemmas.List.Elements.{Contains-append_left, Contains-append_right, Contains-append_cases}
use Rattle.wal_base.proofs.Laws.{none_within, within_head, within_tail, within_cases}
use Rattle.arena_list.specs.declared.node.TheConstants.{LEVELS}
use Rattle.arena_list.specs.declared.node.Node.{Node}
use Rattle.arena_list.specs.Versions.{KeyVersion, GoesBefore, Precedes, IsAt, HoldsVersion}
use Rattle.arena_list.specs.Newest.{HasNoneOfKey, IsNewestOf}
use Rattle.arena_list.specs.Chains.{LeadsAlong, path, last_of}
use Rattle.arena_list.specs.Nodes.{version_at, next_on, places_on, versions_on, AscendPlaces, IsLevel, IsLinked}
use Rattle.arena_list.specs.Steps.{IsCut, MayGoOn, MayStop, AreCutsTo, AreLastsFor}
use Rattle.arena_list.proofs.Chains.{split_at, follows_rest, follows_after, not_the_end, path_of, last_cases}
use Rattle.arena_list.proofs.Orders.{before_along, before_cases, never_before_itself, same_key_before, keys_tied}
use Rattle.arena_list.proofs.Levels.{mapped, unmapped, ascend_across, ascend_back, within_lowest, within_lower}

-- ---- along a level

-- The places from one on, which the head or one of the level's leads on to.
pub record FollowsOn (nodes : List Node) (level last : ℕ) : Type 0 where
  pub front : List ℕ
  pub back : List ℕ
  pub is : places_on nodes level ≡ front ++ back
  pub follows : LeadsAlong (next_on nodes level) (next_on nodes level last) back
  pub ends : last ≡ last_of 0 front
  pub before : (place : ℕ) → Contains front place → (last ≢ 0) × ((place ≡ last) ⊎ Precedes (version_at nodes place) (version_at nodes last))

last_push : (start last : ℕ) (xs : List ℕ) → last_of start (xs ++ last ∷ []) ≡ last
last_push start last [] = refl
last_push start last (x ∷ xs) = last_push x last xs

pub follow_on : (nodes : List Node) (level last : ℕ) → IsLevel nodes level (places_on nodes level) → (last ≡ 0) ⊎ Contains (places_on nodes level) last
    → FollowsOn nodes level last
follow_on nodes level last lv (inl is) = record {
  front = [];
  back = places_on nodes level;
  is = refl;
  follows = subst (λ (p : ℕ). LeadsAlong (next_on nodes level) (next_on nodes level p) (places_on nodes level)) (sym is) lv.follows;
  ends = is;
  before = λ p h. absurd (none_within p h);
}
follow_on nodes level last lv (inr there) = go (split_at (places_on nodes level) last there)
  where
    go : (front : List ℕ) × (back : List ℕ) × (places_on nodes level ≡ front ++ last ∷ back) → FollowsOn nodes level last
    go (front, back, is) = record {
      front = front ++ last ∷ [];
      back = back;
      is = is ∙ sym (append_assoc front (last ∷ []) back);
      follows = follows_rest (next_on nodes level) (next_on nodes level 0) front back last
          (subst (LeadsAlong (next_on nodes level) (next_on nodes level 0)) is lv.follows);
      ends = sym (last_push 0 last front);
      before = λ p h. (
        not_the_end (next_on nodes level) (next_on nodes level 0) (places_on nodes level) lv.follows last there,
        elim (Contains-append_cases front (last ∷ []) p h) [
          | inl early ↦ inr (ascend_across nodes front (last ∷ back) p last (subst (AscendPlaces nodes) is lv.ascends) early (within_head last back))
          | inr here ↦ elim (within_cases last [] p here) [ inl same ↦ inl (sym same) | inr none ↦ absurd (none_within p none) ]
        ],
      );
    }

stands : (nodes : List Node) (level : ℕ) (key : List ℕ) (number last : ℕ) → MayGoOn nodes level key number last
    → (last ≡ 0) ⊎ Contains (places_on nodes level) last
stands nodes level key number last (inl head) = inl head
stands nodes level key number last (inr there) = inr there.0

-- the place that is led on to, where it is not the end
pub next_there : (next : ℕ → ℕ) (first : ℕ) (back : List ℕ) → LeadsAlong next first back → first ≢ 0
    → (rest : List ℕ) × (back ≡ first ∷ rest) × LeadsAlong next (next first) rest
next_there next first [] f some = absurd (some f)
next_there next first (x ∷ rest) f some =
    (rest, ap (λ (p : ℕ). p ∷ rest) (sym f.0), subst (λ (p : ℕ). LeadsAlong next (next p) rest) (sym f.0) f.2)

module _ (nodes : List Node) (linked : IsLinked nodes) (level : ℕ) (less : level < LEVELS) (key : List ℕ) (number last : ℕ) where
  pub last_there : 0 < length nodes → MayGoOn nodes level key number last → last < length nodes
  last_there some (inl head) = omega (arith, some, head)
  last_there some (inr there) = ((linked.levels level less).held last there.0).0

  pub next_within : MayGoOn nodes level key number last → next_on nodes level last ≢ 0 → Contains (places_on nodes level) (next_on nodes level last)
  next_within goes some =
      let on = follow_on nodes level last (linked.levels level less) (stands nodes level key number last goes) in
      let n = next_there (next_on nodes level) (next_on nodes level last) on.back on.follows some in
      subst (λ (l : List ℕ). Contains l (next_on nodes level last)) (sym on.is)
      (Contains-append_right on.front on.back (next_on nodes level last)
      (subst (λ (l : List ℕ). Contains l (next_on nodes level last)) (sym n.1) (within_head (next_on nodes level last) n.0)))

  pub next_below : MayGoOn nodes level key number last → next_on nodes level last ≢ 0 → next_on nodes level last < length nodes
  next_below goes some = ((linked.levels level less).held (next_on nodes level last) (next_within goes some)).0

  pub goes_on : MayGoOn nodes level key number last → next_on nodes level last ≢ 0 → GoesBefore (version_at nodes (next_on nodes level last)) key number
      → MayGoOn nodes level key number (next_on nodes level last)
  goes_on goes some early = inr (next_within goes some, early)

  -- what is left shrinks
  pub goes_less : MayGoOn nodes level key number last → next_on nodes level last ≢ 0
      → length (path (next_on nodes level) (next_on nodes level (next_on nodes level last)) (length nodes))
      < length (path (next_on nodes level) (next_on nodes level last) (length nodes))
  goes_less goes some =
      let next : ℕ → ℕ = next_on nodes level in
      let on = follow_on nodes level last (linked.levels level less) (stands nodes level key number last goes) in
      let n = next_there next (next last) on.back on.follows some in
      let below : (p : ℕ) → Contains on.back p → p < length nodes =
      λ p h. ((linked.levels level less).held p
      (subst (λ (l : List ℕ). Contains l p) (sym on.is) (Contains-append_right on.front on.back p h))).0 in
      let whole : path next (next last) (length nodes) ≡ on.back = path_of next (next last) on.back (length nodes) on.follows below in
      let rest : path next (next (next last)) (length nodes) ≡ n.0 =
      path_of next (next (next last)) n.0 (length nodes) n.2
      (λ p h. below p (subst (λ (l : List ℕ). Contains l p) (sym n.1) (within_tail (next last) n.0 p h))) in
      omega (arith, ap length whole, ap length rest, ap length n.1)

  -- where a search stops, the level is cut
  pub cut_here : MayGoOn nodes level key number last → MayStop nodes key number (next_on nodes level last) → IsCut nodes level key number last
  cut_here goes stops =
      let lv = linked.levels level less in
      let on = follow_on nodes level last lv (stands nodes level key number last goes) in record {
        before = on.front;
        after = on.back;
        is = on.is;
        ends = on.ends;
        early = λ p h. early goes on p h;
        late = late on.back on.follows (ascend_back nodes on.front on.back (subst (AscendPlaces nodes) on.is lv.ascends)) stops;
      }
    where
      early : MayGoOn nodes level key number last → (on : FollowsOn nodes level last) → (p : ℕ) → Contains on.front p
          → GoesBefore (version_at nodes p) key number
      early (inl head) on p h = absurd ((on.before p h).0 head)
      early (inr there) on p h = elim ((on.before p h).1) [
        | inl same ↦ subst (λ (q : ℕ). GoesBefore (version_at nodes q) key number) (sym same) there.1
        | inr first ↦ before_along (version_at nodes p) (version_at nodes last) key number first there.1
      ]

      late : (back : List ℕ) → LeadsAlong (next_on nodes level) (next_on nodes level last) back → AscendPlaces nodes back
          → MayStop nodes key number (next_on nodes level last) → (p : ℕ) → Contains back p → GoesBefore (version_at nodes p) key number → ⊥
      late [] f a stops p h early = none_within p h
      late (q ∷ back) f a (inl end) p h early = f.1 (sym f.0 ∙ end)
      late (q ∷ back) f a (inr apart) p h early = elim (within_cases q back p h) [
        | inl is ↦ apart (subst (λ (w : ℕ). GoesBefore (version_at nodes w) key number) (sym (f.0 ∙ is)) early)
        | inr rest ↦ apart (subst (λ (w : ℕ). GoesBefore (version_at nodes w) key number) (sym f.0)
            (before_along (version_at nodes q) (version_at nodes p) key number (a.0 p rest) early))
      ]

-- ---- from one level to the next, and what stands at the lowest one

-- a search may go on one level below
pub may_go_on : (nodes : List Node) (level : ℕ) (key : List ℕ) (number last : ℕ) → IsLinked nodes → level + 1 < LEVELS
    → IsCut nodes (level + 1) key number last → MayGoOn nodes level key number last
may_go_on nodes level key number last linked less cut = elim (last_cases 0 cut.before) [
  | inl head ↦ inl (cut.ends ∙ head)
  | inr there ↦
      let here : Contains cut.before last = subst (Contains cut.before) (sym cut.ends) there in
      inr (
        linked.below level last less
            (subst (λ (l : List ℕ). Contains l last) (sym cut.is) (Contains-append_left cut.before cut.after last here)),
        cut.early last here,
      )
]

-- what follows a cut
pub follows_cut : (nodes : List Node) (level : ℕ) (key : List ℕ) (number last : ℕ) → IsLinked nodes → level < LEVELS → (cut : IsCut nodes level key number last)
    → LeadsAlong (next_on nodes level) (next_on nodes level last) cut.after
follows_cut nodes level key number last linked less cut =
    subst (λ (p : ℕ). LeadsAlong (next_on nodes level) (next_on nodes level p) cut.after) (sym cut.ends)
    (follows_after (next_on nodes level) 0 cut.before cut.after
    (subst (LeadsAlong (next_on nodes level) (next_on nodes level 0)) cut.is (linked.levels level less).follows))

-- it stops there
pub may_stop : (nodes : List Node) (level : ℕ) (key : List ℕ) (number last : ℕ) → IsLinked nodes → level < LEVELS → IsCut nodes level key number last
    → MayStop nodes key number (next_on nodes level last)
may_stop nodes level key number last linked less cut = go cut.after (follows_cut nodes level key number last linked less cut) cut.late
  where
    go : (after : List ℕ) → LeadsAlong (next_on nodes level) (next_on nodes level last) after
        → ((p : ℕ) → Contains after p → GoesBefore (version_at nodes p) key number → ⊥) → MayStop nodes key number (next_on nodes level last)
    go [] f late = inl f
    go (q ∷ after) f late = inr (λ early. late q (within_head q after) (subst (λ (w : ℕ). GoesBefore (version_at nodes w) key number) f.0 early))

-- a cut's last place is the head, or holds a version
pub cut_last : (nodes : List Node) (level : ℕ) (key : List ℕ) (number last : ℕ) → IsCut nodes level key number last
    → (last ≡ 0) ⊎ Contains (places_on nodes level) last
cut_last nodes level key number last cut = elim (last_cases 0 cut.before) [
  | inl head ↦ inl (cut.ends ∙ head)
  | inr there ↦ inr (subst (λ (l : List ℕ). Contains l last) (sym cut.is)
      (Contains-append_left cut.before cut.after last (subst (Contains cut.before) (sym cut.ends) there)))
]

-- it is there
pub cut_within : (nodes : List Node) (linked : IsLinked nodes) (level : ℕ) (less : level < LEVELS) (key : List ℕ) (number last : ℕ) → 0 < length nodes
    → IsCut nodes level key number last → last < length nodes
cut_within nodes linked level less key number last some cut = elim (cut_last nodes level key number last cut) [
  | inl head ↦ omega (arith, head, some)
  | inr held ↦ ((linked.levels level less).held last held).0
]

-- what a search tells for a level is the head or holds a version, too, whether it went there or not
pub told_last : (nodes : List Node) (key : List ℕ) (number height : ℕ) (lasts : List ℕ) → AreCutsTo nodes key number height lasts → (level : ℕ) → level < LEVELS
    → (slice_index lasts level ≡ 0) ⊎ Contains (places_on nodes level) (slice_index lasts level)
told_last nodes key number height lasts cuts level less = elim (cuts.high level less) [
  | inl cut ↦ cut_last nodes level key number (slice_index lasts level) cut
  | inr head ↦ inl head
]

pub last_for : (nodes : List Node) (key : List ℕ) (number place : ℕ) (lasts : List ℕ) → AreLastsFor nodes key number place lasts → (level : ℕ) → level < LEVELS
    → (slice_index lasts level ≡ 0) ⊎ Contains (places_on nodes level) (slice_index lasts level)
last_for nodes key number place lasts own level less = elim (own level less) [
  | inl cut ↦ cut_last nodes level key number (slice_index lasts level) cut
  | inr none ↦ inl none.1
]

not_less : (version : KeyVersion) (key : List ℕ) → version.key ≡ key → slice_cmp nat_cmp version.key key ≡ Less → ⊥
not_less version key same less =
    let tied : slice_cmp nat_cmp version.key key ≡ Equal = ap (λ (k : List ℕ). slice_cmp nat_cmp k key) same ∙ keys_tied key in absurd cc

-- a version of the key that goes before a number has a greater one
early_greater : (version : KeyVersion) (key : List ℕ) (number : ℕ) → GoesBefore version key number → version.key ≡ key → number < version.number
early_greater version key number early same = elim (before_cases version key number early) [
  | inl less ↦ absurd (not_less version key same less)
  | inr is ↦ is.1
]

less_before : (version : KeyVersion) (key : List ℕ) (number : ℕ) → slice_cmp nat_cmp version.key key ≡ Less → GoesBefore version key number
less_before version key number less = ap (λ (o : Ordering). ordering_then o (nat_cmp number version.number)) less

module _ (nodes : List Node) (linked : IsLinked nodes) (key : List ℕ) (number last : ℕ) (cut : IsCut nodes 0 key number last) where
  after_ascends : AscendPlaces nodes cut.after
  after_ascends = ascend_back nodes cut.before cut.after (subst (AscendPlaces nodes) cut.is (linked.levels 0 (omega arith)).ascends)

  after_follows : LeadsAlong (next_on nodes 0) (next_on nodes 0 last) cut.after
  after_follows = follows_cut nodes 0 key number last linked (omega arith) cut

  -- the place of a version, on one side of the cut
  pub sides : (p : ℕ) → Contains (places_on nodes 0) p → Contains cut.before p ⊎ Contains cut.after p
  sides p h = Contains-append_cases cut.before cut.after p (subst (λ (l : List ℕ). Contains l p) cut.is h)

  -- what is after the cut is the place that is led on to, or comes after it
  pub after_sides : (p : ℕ) → Contains cut.after p
      → (next_on nodes 0 last ≢ 0) × ((p ≡ next_on nodes 0 last) ⊎ Precedes (version_at nodes (next_on nodes 0 last)) (version_at nodes p))
  after_sides p h = go cut.after after_follows after_ascends h
    where
      go : (after : List ℕ) → LeadsAlong (next_on nodes 0) (next_on nodes 0 last) after → AscendPlaces nodes after → Contains after p
          → (next_on nodes 0 last ≢ 0) × ((p ≡ next_on nodes 0 last) ⊎ Precedes (version_at nodes (next_on nodes 0 last)) (version_at nodes p))
      go [] f a h = absurd (none_within p h)
      go (q ∷ after) f a h = (
        λ e. f.1 (sym f.0 ∙ e),
        elim (within_cases q after p h) [
          | inl is ↦ inl (sym (f.0 ∙ is))
          | inr rest ↦ inr (subst (λ (w : ℕ). Precedes (version_at nodes w) (version_at nodes p)) (sym f.0) (a.0 p rest))
        ],
      )

  pub next_after : next_on nodes 0 last ≢ 0 → Contains cut.after (next_on nodes 0 last)
  next_after some =
      let n = next_there (next_on nodes 0) (next_on nodes 0 last) cut.after after_follows some in
      subst (λ (l : List ℕ). Contains l (next_on nodes 0 last)) (sym n.1) (within_head (next_on nodes 0 last) n.0)

  pub next_held : next_on nodes 0 last ≢ 0 → Contains (places_on nodes 0) (next_on nodes 0 last)
  next_held some =
      subst (λ (l : List ℕ). Contains l (next_on nodes 0 last)) (sym cut.is)
      (Contains-append_right cut.before cut.after (next_on nodes 0 last) (next_after some))

  pub newest_at : next_on nodes 0 last ≢ 0 → (version_at nodes (next_on nodes 0 last)).key ≡ key
      → IsNewestOf (versions_on nodes 0) key (number + 1) (Some (version_at nodes (next_on nodes 0 last)))
  newest_at some same = (
    record {
      stands = mapped (version_at nodes) (places_on nodes 0) (next_on nodes 0 last) (next_held some);
      under = elim (cases_lt number (version_at nodes (next_on nodes 0 last)).number) [
        | inl less ↦ absurd (cut.late (next_on nodes 0 last) (next_after some) (same_key_before (version_at nodes (next_on nodes 0 last)) key number same less))
        | inr less ↦ omega (arith, less)
      ];
      last = λ other h about low. no_newer other (unmapped (version_at nodes) (places_on nodes 0) other h) about low;
    },
    same,
  )
    where
      at : (p : ℕ) → Contains (places_on nodes 0) p → (version_at nodes p).key ≡ (version_at nodes (next_on nodes 0 last)).key
          → (version_at nodes p).number < number + 1 → (version_at nodes p).number ≤ (version_at nodes (next_on nodes 0 last)).number
      at p h about low = elim (sides p h) [
        | inl before ↦ absurd (omega (arith, low, early_greater (version_at nodes p) key number (cut.early p before) (about ∙ same)))
        | inr after ↦ elim ((after_sides p after).1) [
          | inl is ↦
              let e : (version_at nodes p).number ≡ (version_at nodes (next_on nodes 0 last)).number = ap (λ (w : ℕ). (version_at nodes w).number) is in
              omega (arith, e)
          | inr first ↦
              let l : (version_at nodes p).number < (version_at nodes (next_on nodes 0 last)).number =
              early_greater (version_at nodes (next_on nodes 0 last)) (version_at nodes p).key (version_at nodes p).number first (sym about) in
              omega (arith, l)
        ]
      ]

      no_newer : (other : KeyVersion) → (p : ℕ) × Contains (places_on nodes 0) p × (version_at nodes p ≡ other)
          → other.key ≡ (version_at nodes (next_on nodes 0 last)).key → other.number < number + 1
          → other.number ≤ (version_at nodes (next_on nodes 0 last)).number
      no_newer other (p, h, is) =
          subst (λ (v : KeyVersion). v.key ≡ (version_at nodes (next_on nodes 0 last)).key → v.number < number + 1
          → v.number ≤ (version_at nodes (next_on nodes 0 last)).number) is (at p h)

  pub newest_none : (next_on nodes 0 last ≡ 0) ⊎ ((version_at nodes (next_on nodes 0 last)).key ≡ key → ⊥)
      → HasNoneOfKey (versions_on nodes 0) key (number + 1)
  newest_none none other h about = low other (unmapped (version_at nodes) (places_on nodes 0) other h) about
    where
      not_after : (p : ℕ) → (version_at nodes p).key ≡ key → (next_on nodes 0 last ≡ 0) ⊎ ((version_at nodes (next_on nodes 0 last)).key ≡ key → ⊥)
          → Contains cut.after p → ⊥
      not_after p about (inl end) after = (after_sides p after).0 end
      not_after p about (inr apart) after = elim ((after_sides p after).1) [
        | inl is ↦ apart (subst (λ (w : ℕ). (version_at nodes w).key ≡ key) is about)
        | inr first ↦ elim (before_cases (version_at nodes (next_on nodes 0 last)) (version_at nodes p).key (version_at nodes p).number first) [
          | inl less ↦ cut.late (next_on nodes 0 last) (next_after (after_sides p after).0)
              (less_before (version_at nodes (next_on nodes 0 last)) key number
              (subst (λ (k : List ℕ). slice_cmp nat_cmp (version_at nodes (next_on nodes 0 last)).key k ≡ Less) about less))
          | inr is ↦ apart (is.0 ∙ about)
        ]
      ]

      at : (p : ℕ) → Contains (places_on nodes 0) p → (version_at nodes p).key ≡ key → number + 1 ≤ (version_at nodes p).number
      at p h about = elim (sides p h) [
        | inl before ↦
            let l : number < (version_at nodes p).number = early_greater (version_at nodes p) key number (cut.early p before) about in omega (arith, l)
        | inr after ↦ absurd (not_after p about none after)
      ]

      low : (other : KeyVersion) → (p : ℕ) × Contains (places_on nodes 0) p × (version_at nodes p ≡ other) → other.key ≡ key → number + 1 ≤ other.number
      low other (p, h, is) = subst (λ (v : KeyVersion). v.key ≡ key → number + 1 ≤ v.number) is (at p h)

  -- a version that is held stands right after the cut at its key and number
  pub held_next : HoldsVersion (versions_on nodes 0) key number → (next_on nodes 0 last ≢ 0) × IsAt (version_at nodes (next_on nodes 0 last)) key number
  held_next (version, h, at) = go (unmapped (version_at nodes) (places_on nodes 0) version h) at
    where
      itself : (v : KeyVersion) → IsAt v key number → GoesBefore v key number → ⊥
      itself v at early = absurd (omega (arith, at.1, early_greater v key number early at.0))

      place : (p : ℕ) → Contains (places_on nodes 0) p → IsAt (version_at nodes p) key number
          → (next_on nodes 0 last ≢ 0) × IsAt (version_at nodes (next_on nodes 0 last)) key number
      place p h at = elim (sides p h) [
        | inl before ↦ absurd (itself (version_at nodes p) at (cut.early p before))
        | inr after ↦ (
          (after_sides p after).0,
          elim ((after_sides p after).1) [
            | inl is ↦ subst (λ (w : ℕ). IsAt (version_at nodes w) key number) is at
            | inr first ↦ absurd (cut.late (next_on nodes 0 last) (next_after (after_sides p after).0)
                (subst (λ (k : List ℕ). GoesBefore (version_at nodes (next_on nodes 0 last)) k number) at.0
                (subst (GoesBefore (version_at nodes (next_on nodes 0 last)) (version_at nodes p).key) at.1 first)))
          ],
        )
      ]

      go : (p : ℕ) × Contains (places_on nodes 0) p × (version_at nodes p ≡ version) → IsAt version key number
          → (next_on nodes 0 last ≢ 0) × IsAt (version_at nodes (next_on nodes 0 last)) key number
      go (p, h, is) = subst (λ (v : KeyVersion). IsAt v key number → (next_on nodes 0 last ≢ 0) × IsAt (version_at nodes (next_on nodes 0 last)) key number)
          is (place p h)

-- what the lowest level leads on to where it is cut, and another level does not, is not linked at that one
pub not_linked : (nodes : List Node) (linked : IsLinked nodes) (key : List ℕ) (number level last low place : ℕ) → level < LEVELS
    → IsCut nodes level key number last → IsCut nodes 0 key number low → place ≡ next_on nodes 0 low → next_on nodes level last ≢ place
    → Contains (places_on nodes level) place → ⊥
not_linked nodes linked key number level last low place less cut lowest is other h =
    elim (Contains-append_cases cut.before cut.after place (subst (λ (l : List ℕ). Contains l place) cut.is h)) [
      | inl before ↦ late (cut.early place before)
      | inr after ↦ go cut.after (follows_cut nodes level key number last linked less cut)
          (ascend_back nodes cut.before cut.after (subst (AscendPlaces nodes) cut.is (linked.levels level less).ascends))
          (λ x there early. cut.late x there early)
          (λ x there. within_lowest nodes linked level x less
          (subst (λ (l : List ℕ). Contains l x) (sym cut.is) (Contains-append_right cut.before cut.after x there)))
          after
    ]
  where
    some : place ≢ 0
    some = not_the_end (next_on nodes level) (next_on nodes level 0) (places_on nodes level) (linked.levels level less).follows place h

    late : GoesBefore (version_at nodes place) key number → ⊥
    late early = lowest.late (next_on nodes 0 low) (next_after nodes linked key number low lowest (λ e. some (is ∙ e)))
        (subst (λ (p : ℕ). GoesBefore (version_at nodes p) key number) is early)

    go : (after : List ℕ) → LeadsAlong (next_on nodes level) (next_on nodes level last) after → AscendPlaces nodes after
        → ((x : ℕ) → Contains after x → GoesBefore (version_at nodes x) key number → ⊥)
        → ((x : ℕ) → Contains after x → Contains (places_on nodes 0) x) → Contains after place → ⊥
    go [] f a late_of there in_after = none_within place in_after
    go (q ∷ after) f a late_of there in_after = elim (within_cases q after place in_after) [
      | inl same ↦ other (f.0 ∙ same)
      | inr rest ↦ elim (sides nodes linked key number low lowest q (there q (within_head q after))) [
        | inl before ↦ late_of q (within_head q after) (lowest.early q before)
        | inr back ↦ elim ((after_sides nodes linked key number low lowest q back).1) [
          | inl e ↦ never_before_itself (version_at nodes place)
              (subst (λ (w : ℕ). Precedes (version_at nodes w) (version_at nodes place)) (e ∙ sym is) (a.0 place rest))
          | inr later ↦ never_before_itself (version_at nodes q)
              (before_along (version_at nodes q) (version_at nodes place) (version_at nodes q).key (version_at nodes q).number (a.0 place rest)
              (subst (λ (w : ℕ). Precedes (version_at nodes w) (version_at nodes q)) (sym is) later))
        ]
      ]
    ]

-- where the highest level that was searched does not lead on to the place, the place is linked at none from there on
pub lasts_above : (nodes : List Node) (linked : IsLinked nodes) (key : List ℕ) (number level : ℕ) (lasts : List ℕ) (place : ℕ) → level + 1 < LEVELS
    → AreCutsTo nodes key number (level + 1) lasts → place ≡ next_on nodes 0 (slice_index lasts 0) → next_on nodes level (slice_index lasts level) ≢ place
    → AreLastsFor nodes key number place lasts
lasts_above nodes linked key number level lasts place some cuts is other at less = elim (cuts.high at less) [
  | inl cut ↦ inl cut
  | inr head ↦ elim (cases_lt at (level + 1)) [
    | inl low ↦ inl (cuts.low at low)
    | inr up ↦ inr (λ h. none (lower up h), head)
  ]
]
  where
    lower : level + 1 ≤ at → Contains (places_on nodes at) place → Contains (places_on nodes level) place
    lower up h =
        let parts : at ≡ level + (at - level) = omega (arith, up) in
        within_lower nodes linked level (at - level) place (omega (arith, up, less)) (subst (λ (n : ℕ). Contains (places_on nodes n) place) parts h)

    none : Contains (places_on nodes level) place → ⊥
    none = not_linked nodes linked key number level (slice_index lasts level) (slice_index lasts 0) place (omega (arith, some))
        (cuts.low level (omega arith)) (cuts.low 0 (omega arith)) is other
