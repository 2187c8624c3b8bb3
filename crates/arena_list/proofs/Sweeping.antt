-- A walk that takes out what no mark keeps: what holds where it stands, and that each step keeps it.
use Rattle.std.proofs.Common.{◌≡◌, ◌≢◌, ◌⊎◌, ◌↔◌, inl, inr, ℕ, ◌+◌, ◌<◌, ◌≤◌, Bool, true, false, List, [], ◌∷◌, ◌++◌, length, map, Option, Some, None, Contains, Equal, Less, nat_cmp, refl, sym, ap, ◌∙◌, subst, arith, slice_index, append_assoc, length-append}
use Rattle.std.specs.Cmp.Lexicographic.{slice_cmp}
use Rattle.std.specs.Ordering.{ordering_then}
use Rattle.std.proofs.lemmas.Bool.{cases_eq, cases_lt}
use Rattle.std.proofs.lemmas.List.{length-map, map-append}
use Rattle.std.proofs.lemmas.List.Elements.{Contains-append_left, Contains-append_right, Contains-append_cases}
use Rattle.wal_base.proofs.Laws.{none_within, within_head, within_tail, within_cases}
use Rattle.arena_list.specs.declared.node.TheConstants.{LEVELS}
use Rattle.arena_list.specs.declared.node.Node.{Node}
use Rattle.arena_list.specs.declared.links.FreeList.{FreeList}
use Rattle.arena_list.specs.Versions.{KeyVersion, GoesBefore, Precedes, AscendVersions}
use Rattle.arena_list.specs.Marks.{IsKeptFor}
use Rattle.arena_list.specs.Chains.{LeadsAlong, path, last_of}
use Rattle.arena_list.specs.Nodes.{is_vacant, node_at, version_in, version_at, next_on, places_on, versions_on, AscendPlaces, IsLinked, IsArena}
use Rattle.arena_list.specs.Fronts.{IsLed, ShareFront, HaveFront}
use Rattle.arena_list.specs.Steps.{IsCut, AreCuts, AreLastsFor, AreWithin, TakesOut}
use Rattle.arena_list.specs.Keeping.{IsMarkUpTo, IsBetween, IsNewerFor, IsNextNewer, StepsOver, KeepsPlace, Sweeps}
use Rattle.arena_list.proofs.Chains.{follows_distinct, distinct_out, follows_after, follows_same, last_cases, not_the_end, path_of}
use Rattle.arena_list.proofs.Orders.{before_along, before_cases, never_before_itself, keys_tied}
use Rattle.arena_list.proofs.Levels.{map_same, ascend_across, ascend_back, ascend_versions, within_lowest}
use Rattle.arena_list.proofs.Cuts.{next_there}
use Rattle.arena_list.proofs.Left.{version_kept, left_more, level_without, Removal, lasts_within, removal_arena, removal_front}
use Rattle.arena_list.proofs.Passing.{cut_past, cut_left}

-- ---- which versions a mark keeps

ascend_back_versions : (front back : List KeyVersion) → AscendVersions (front ++ back) → AscendVersions back
unfolding AscendVersions
ascend_back_versions [] back a = a
ascend_back_versions (v ∷ front) back a = ascend_back_versions front back a.1

ascend_head : (v : KeyVersion) (back : List KeyVersion) → AscendVersions (v ∷ back) → (later : KeyVersion) → Contains back later → Precedes v later
unfolding AscendVersions
ascend_head v back a = a.0

ascend_over : (front back : List KeyVersion) → AscendVersions (front ++ back) → (x y : KeyVersion) → Contains front x → Contains back y → Precedes x y
unfolding AscendVersions
ascend_over [] back a x y hx hy = absurd (none_within x hx)
ascend_over (v ∷ front) back a x y hx hy = elim (within_cases v front x hx) [
  | inl is ↦ subst (λ (w : KeyVersion). Precedes w y) is (a.0 y (Contains-append_right front back y hy))
  | inr rest ↦ ascend_over front back a.1 x y rest hy
]

-- of two versions of a key the first one has the greater number
pub greater_first : (one other : KeyVersion) → Precedes one other → one.key ≡ other.key → other.number < one.number
greater_first one other p same = elim (before_cases one other.key other.number p) [
  | inl less ↦
      let tied : slice_cmp nat_cmp one.key other.key ≡ Equal = ap (λ (k : List ℕ). slice_cmp nat_cmp k other.key) same ∙ keys_tied other.key in
      absurd cc
  | inr is ↦ is.1
]

module _ (versions front back : List KeyVersion) (version : KeyVersion) (is : versions ≡ front ++ version ∷ back) (ascend : AscendVersions versions) where
  parts : AscendVersions (front ++ version ∷ back)
  parts = subst AscendVersions is ascend

  sides : (other : KeyVersion) → Contains versions other → Contains front other ⊎ ((version ≡ other) ⊎ Contains back other)
  sides other h = elim (Contains-append_cases front (version ∷ back) other (subst (λ (l : List KeyVersion). Contains l other) is h)) [
    | inl early ↦ inl early
    | inr late ↦ inr (within_cases version back other late)
  ]

  in_versions : (other : KeyVersion) → Contains front other → Contains versions other
  in_versions other h = subst (λ (l : List KeyVersion). Contains l other) (sym is) (Contains-append_left front (version ∷ back) other h)

  front_greater : (other : KeyVersion) → Contains front other → other.key ≡ version.key → version.number < other.number
  front_greater other h same =
      greater_first other version (ascend_over front (version ∷ back) parts other version h (within_head version back)) same

  back_less : (other : KeyVersion) → Contains back other → other.key ≡ version.key → other.number < version.number
  back_less other h same =
      greater_first version other (ascend_head version back (ascend_back_versions front (version ∷ back) parts) other h) (sym same)

  pub marked : (marks : List ℕ) (newer : Option ℕ) → IsNextNewer front version newer → IsBetween marks version.number newer → IsKeptFor versions marks version
  marked marks newer next (mark, there, more, up) = (
    mark,
    there,
    record {
      stands = subst (λ (l : List KeyVersion). Contains l version) (sym is)
          (Contains-append_right front (version ∷ back) version (within_head version back));
      under = more;
      last = λ other h same low. elim (sides other h) [
        | inl early ↦ absurd (none newer next up other early same low)
        | inr (inl itself) ↦ let e : version.number ≡ other.number = ap (λ (v : KeyVersion). v.number) itself in omega (arith, e)
        | inr (inr late) ↦ let l : other.number < version.number = back_less other late same in omega (arith, l)
      ];
    },
  )
    where
      none : (newer : Option ℕ) → IsNextNewer front version newer → IsMarkUpTo newer mark → (other : KeyVersion) → Contains front other
          → other.key ≡ version.key → other.number < mark → ⊥
      none None next up other h same low = next other h same
      none (Some least) next up other h same low = omega (arith, next.1 other h same, up, low)

  pub between : (marks : List ℕ) (newer : Option ℕ) → IsNextNewer front version newer → IsKeptFor versions marks version → IsBetween marks version.number newer
  between marks newer next (mark, there, newest) = (mark, there, newest.under, up newer next)
    where
      up : (newer : Option ℕ) → IsNextNewer front version newer → IsMarkUpTo newer mark
      up None next = tt
      up (Some least) ((other, h, same, at), all) = elim (cases_lt least mark) [
        | inl low ↦
            let more : version.number < other.number = front_greater other h same in
            let most : other.number ≤ version.number = newest.last other (in_versions other h) same (omega (arith, at, low)) in
            absurd (omega (arith, more, most))
        | inr high ↦ high
      ]

-- the next newer one of the version that comes next
pub newer_on : (versions front back : List KeyVersion) (version next : KeyVersion) → versions ≡ front ++ version ∷ next ∷ back → AscendVersions versions
    → (newer : Option ℕ) → IsNewerFor version next newer → IsNextNewer (front ++ version ∷ []) next newer
newer_on versions front back version next is ascend newer (inl (same, some)) = subst (IsNextNewer (front ++ version ∷ []) next) (sym some) (
  (version, Contains-append_right front (version ∷ []) version (within_head version []), sym same, refl),
  λ other h about. elim (Contains-append_cases front (version ∷ []) other h) [
    | inl early ↦ let l : version.number < other.number = front_greater versions front (next ∷ back) version is ascend other early (about ∙ same) in omega (arith, l)
    | inr here ↦ elim (within_cases version [] other here) [
      | inl itself ↦ let e : version.number ≡ other.number = ap (λ (v : KeyVersion). v.number) itself in omega (arith, e)
      | inr none ↦ absurd (none_within other none)
    ]
  ],
)
newer_on versions front back version next is ascend newer (inr (apart, none)) = subst (IsNextNewer (front ++ version ∷ []) next) (sym none)
    (λ other h about. elim (Contains-append_cases front (version ∷ []) other h) [
      | inl early ↦ never_before_itself other (before_along other version other.key other.number (first other early) (then other about))
      | inr here ↦ elim (within_cases version [] other here) [
        | inl itself ↦ apart (sym (ap (λ (v : KeyVersion). v.key) itself ∙ about))
        | inr nothing ↦ none_within other nothing
      ]
    ])
  where
    whole : AscendVersions (front ++ version ∷ next ∷ back)
    whole = subst AscendVersions is ascend

    first : (other : KeyVersion) → Contains front other → Precedes other version
    first other h = ascend_over front (version ∷ next ∷ back) whole other version h (within_head version (next ∷ back))

    goes : Precedes version next
    goes = ascend_head version (next ∷ back) (ascend_back_versions front (version ∷ next ∷ back) whole) next (within_head next back)

    less : slice_cmp nat_cmp version.key next.key ≡ Less
    less = elim (before_cases version next.key next.number goes) [ inl l ↦ l | inr is ↦ absurd (apart (sym is.0)) ]

    then : (other : KeyVersion) → other.key ≡ next.key → GoesBefore version other.key other.number
    then other about = ap (λ (o : _). ordering_then o (nat_cmp other.number version.number))
        (ap (λ (k : List ℕ). slice_cmp nat_cmp version.key k) about ∙ less)

-- ---- where the walk stands

pub record Swept (old : List Node) (free : FreeList) (marks : List ℕ) (nodes : List Node) (new_free : FreeList) (lasts : List ℕ) (place : ℕ)
    (newer : Option ℕ) (removed : ℕ) : Type 0 where
  pub arena : IsArena nodes new_free.first new_free.count
  pub len : length nodes ≡ length old
  pub done : List ℕ
  pub rest : List ℕ
  pub front : List KeyVersion
  pub is : places_on nodes 0 ≡ done ++ rest
  pub was : versions_on old 0 ≡ front ++ map (version_at nodes) rest
  pub leads : LeadsAlong (next_on nodes 0) place rest
  pub last : slice_index lasts 0 ≡ last_of 0 done
  pub kept : (version : KeyVersion) → Contains (map (version_at nodes) done) version ↔ (Contains front version × IsKeptFor (versions_on old 0) marks version)
  pub newer_is : place ≢ 0 → IsNextNewer front (version_at nodes place) newer
  pub cuts : place ≢ 0 → AreCuts nodes (version_at nodes place).key (version_at nodes place).number lasts
  pub counted : removed + length done ≡ length front
  pub freed : new_free.count ≡ free.count + removed
  pub linked : (level p : ℕ) → level < LEVELS → Contains (places_on old level) p → KeepsPlace old nodes level p

-- a level is cut before its first place
pub cuts_first : (nodes : List Node) (lasts : List ℕ) → IsLinked nodes → next_on nodes 0 0 ≢ 0 → ((level : ℕ) → slice_index lasts level ≡ 0)
    → AreCuts nodes (version_at nodes (next_on nodes 0 0)).key (version_at nodes (next_on nodes 0 0)).number lasts
cuts_first nodes lasts linked some zeros level less =
    subst (IsCut nodes level (version_at nodes first).key (version_at nodes first).number) (sym (zeros level)) (record {
      before = [];
      after = places_on nodes level;
      is = refl;
      ends = refl;
      early = λ p h. absurd (none_within p h);
      late = λ p h g. late p (within_lowest nodes linked level p less h) g;
    })
  where
    first : ℕ
    first = next_on nodes 0 0

    late : (p : ℕ) → Contains (places_on nodes 0) p → GoesBefore (version_at nodes p) (version_at nodes first).key (version_at nodes first).number → ⊥
    late p h g =
        let n = next_there (next_on nodes 0) first (places_on nodes 0) (linked.levels 0 (omega arith)).follows some in
        let a = subst (AscendPlaces nodes) n.1 (linked.levels 0 (omega arith)).ascends in
        elim (within_cases first n.0 p (subst (λ (l : List ℕ). Contains l p) n.1 h)) [
          | inl itself ↦ never_before_itself (version_at nodes first)
              (subst (λ (q : ℕ). GoesBefore (version_at nodes q) (version_at nodes first).key (version_at nodes first).number) (sym itself) g)
          | inr later ↦ never_before_itself (version_at nodes first)
              (before_along (version_at nodes first) (version_at nodes p) (version_at nodes first).key (version_at nodes first).number (a.0 p later) g)
        ]

pub swept_first : (nodes : List Node) (free : FreeList) (marks lasts : List ℕ) → IsArena nodes free.first free.count
    → ((level : ℕ) → slice_index lasts level ≡ 0) → Swept nodes free marks nodes free lasts (next_on nodes 0 0) None 0
swept_first nodes free marks lasts arena zeros = record {
  arena = arena;
  len = refl;
  done = [];
  rest = places_on nodes 0;
  front = [];
  is = refl;
  was = refl;
  leads = (arena.linked.levels 0 (omega arith)).follows;
  last = zeros 0;
  kept = λ version. (λ h. absurd (none_within version h), λ h. absurd (none_within version h.0));
  newer_is = λ _ other h _. none_within other h;
  cuts = λ some. cuts_first nodes lasts arena.linked some zeros;
  counted = refl;
  freed = omega arith;
  linked = λ level p less h. inl (h, refl);
}

not_both : (b : Bool) → b ≡ true → b ≡ false → ⊥
not_both true e f = absurd cc
not_both false e f = absurd cc

module _ (old : List Node) (free : FreeList) (marks : List ℕ) (nodes : List Node) (now_free : FreeList) (lasts : List ℕ) (place : ℕ)
    (newer : Option ℕ) (removed : ℕ) (old_linked : IsLinked old) (at : Swept old free marks nodes now_free lasts place newer removed) where
  ascend_old : AscendVersions (versions_on old 0)
  ascend_old = ascend_versions old (places_on old 0) (old_linked.levels 0 (omega arith)).ascends

  -- at the end
  pub swept_last : place ≡ 0 → Sweeps old free marks nodes now_free removed
  swept_last end = go at.rest at.is at.was at.leads
    where
      go : (rest : List ℕ) → places_on nodes 0 ≡ at.done ++ rest → versions_on old 0 ≡ at.front ++ map (version_at nodes) rest
          → LeadsAlong (next_on nodes 0) place rest → Sweeps old free marks nodes now_free removed
      go (p ∷ rest) is was leads = absurd (leads.1 (sym leads.0 ∙ end))
      go [] is was leads = record {
        arena = at.arena;
        len = at.len;
        kept = λ version. (
          λ h. ((at.kept version).0 (subst (λ (l : List KeyVersion). Contains l version) (ap (map (version_at nodes)) all) h)).1,
          λ m. subst (λ (l : List KeyVersion). Contains l version) (sym (ap (map (version_at nodes)) all))
              ((at.kept version).1 (subst (λ (l : List KeyVersion). Contains l version) every m.2.stands, m)),
        );
        fewer = omega (arith, ap length all, at.counted, ap length every, length-map (places_on old 0) (version_at old));
        freed = at.freed;
        linked = at.linked;
      }
        where
          all : places_on nodes 0 ≡ at.done
          all = is ∙ no_more at.done
            where
              no_more : (xs : List ℕ) → xs ++ [] ≡ xs
              no_more [] = refl
              no_more (x ∷ xs) = ap (λ (l : List ℕ). x ∷ l) (no_more xs)

          every : versions_on old 0 ≡ at.front
          every = was ∙ no_more at.front
            where
              no_more : (xs : List KeyVersion) → xs ++ [] ≡ xs
              no_more [] = refl
              no_more (x ∷ xs) = ap (λ (l : List KeyVersion). x ∷ l) (no_more xs)

  module _ (some : place ≢ 0) where
    abbrev pub v : KeyVersion
    v = version_at nodes place

    abbrev pub next : ℕ
    next = next_on nodes 0 place

    -- what is left behind the place
    pub left_rest : (rest : List ℕ) × (at.rest ≡ place ∷ rest) × LeadsAlong (next_on nodes 0) next rest
    left_rest = next_there (next_on nodes 0) place at.rest at.leads some

    abbrev pub rest : List ℕ
    rest = left_rest.0

    whole : places_on nodes 0 ≡ at.done ++ place ∷ rest
    whole = at.is ∙ ap (λ (l : List ℕ). at.done ++ l) left_rest.1

    were : versions_on old 0 ≡ at.front ++ v ∷ map (version_at nodes) rest
    were = at.was ∙ ap (λ (l : List ℕ). at.front ++ map (version_at nodes) l) left_rest.1

    pub place_held : Contains (places_on nodes 0) place
    place_held = subst (λ (l : List ℕ). Contains l place) (sym whole) (Contains-append_right at.done (place ∷ rest) place (within_head place rest))

    pub place_within : place < length nodes
    place_within = ((at.arena.linked.levels 0 (omega arith)).held place place_held).0

    pub next_held : next ≢ 0 → Contains (places_on nodes 0) next
    next_held more =
        let n = next_there (next_on nodes 0) next rest left_rest.2 more in
        subst (λ (l : List ℕ). Contains l next) (sym whole)
        (Contains-append_right at.done (place ∷ rest) next (within_tail place rest next
        (subst (λ (l : List ℕ). Contains l next) (sym n.1) (within_head next n.0))))

    pub next_within : next < length nodes
    next_within = elim (cases_eq next 0) [
      | inl end ↦ omega (arith, end, place_within)
      | inr more ↦ ((at.arena.linked.levels 0 (omega arith)).held next (next_held more)).0
    ]

    pub cuts_here : AreCuts nodes v.key v.number lasts
    cuts_here = at.cuts some

    own_here : AreLastsFor nodes v.key v.number place lasts
    own_here level less = inl (cuts_here level less)

    pub wanted_is : IsBetween marks v.number newer ↔ IsKeptFor (versions_on old 0) marks v
    wanted_is = (
      marked (versions_on old 0) at.front (map (version_at nodes) rest) v were ascend_old marks newer (at.newer_is some),
      between (versions_on old 0) at.front (map (version_at nodes) rest) v were ascend_old marks newer (at.newer_is some),
    )

    -- the place that comes next, if one does
    splits : next ≢ 0 → (back : List ℕ) × (rest ≡ next ∷ back)
    splits more = let n = next_there (next_on nodes 0) next rest left_rest.2 more in (n.0, n.1)

    next_newer : (new_newer : Option ℕ) → (next ≢ 0 → IsNewerFor v (version_at nodes next) new_newer) → next ≢ 0
        → IsNextNewer (at.front ++ v ∷ []) (version_at nodes next) new_newer
    next_newer new_newer is more =
        let s = splits more in
        newer_on (versions_on old 0) at.front (map (version_at nodes) s.0) v (version_at nodes next)
        (were ∙ ap (λ (l : List ℕ). at.front ++ v ∷ map (version_at nodes) l) s.1) ascend_old new_newer (is more)

    leads_here : next_on nodes 0 (slice_index lasts 0) ≡ place
    leads_here =
        let f : LeadsAlong (next_on nodes 0) (next_on nodes 0 (last_of 0 at.done)) (place ∷ rest) =
        follows_after (next_on nodes 0) 0 at.done (place ∷ rest)
        (subst (LeadsAlong (next_on nodes 0) (next_on nodes 0 0)) whole (at.arena.linked.levels 0 (omega arith)).follows) in
        ap (next_on nodes 0) at.last ∙ f.0

    push_last : (start : ℕ) (xs : List ℕ) (x : ℕ) → last_of start (xs ++ x ∷ []) ≡ x
    push_last start [] x = refl
    push_last start (y ∷ xs) x = push_last y xs x

    -- the place is kept
    pub swept_kept : IsBetween marks v.number newer → (new_lasts : List ℕ) → StepsOver nodes lasts place LEVELS new_lasts
        → (new_newer : Option ℕ) → (next ≢ 0 → IsNewerFor v (version_at nodes next) new_newer)
        → Swept old free marks nodes now_free new_lasts next new_newer removed
    swept_kept is_wanted new_lasts steps new_newer newer_for = record {
      arena = at.arena;
      len = at.len;
      done = at.done ++ place ∷ [];
      rest = rest;
      front = at.front ++ v ∷ [];
      is = whole ∙ sym (append_assoc at.done (place ∷ []) rest);
      was = were ∙ sym (append_assoc at.front (v ∷ []) (map (version_at nodes) rest));
      leads = left_rest.2;
      last = elim (steps 0 (omega arith)) [
        | inl to ↦ to.1 ∙ sym (push_last 0 at.done place)
        | inr other ↦ absurd (other.0 leads_here)
      ];
      kept = λ version. (to version, from version);
      newer_is = next_newer new_newer newer_for;
      cuts = λ more level less.
          let s = splits more in
          cut_past nodes at.arena.linked at.done s.0 place next (whole ∙ ap (λ (l : List ℕ). at.done ++ place ∷ l) s.1) level
          (slice_index lasts level) (slice_index new_lasts level) less (cuts_here level less) (steps level less);
      counted = omega (arith, at.counted, length-append at.done (place ∷ []), length-append at.front (v ∷ []));
      freed = at.freed;
      linked = at.linked;
    }
      where
        maps : map (version_at nodes) (at.done ++ place ∷ []) ≡ map (version_at nodes) at.done ++ v ∷ []
        maps = map-append (version_at nodes) at.done (place ∷ [])

        to : (version : KeyVersion) → Contains (map (version_at nodes) (at.done ++ place ∷ [])) version
            → Contains (at.front ++ v ∷ []) version × IsKeptFor (versions_on old 0) marks version
        to version h = elim (Contains-append_cases (map (version_at nodes) at.done) (v ∷ []) version
            (subst (λ (l : List KeyVersion). Contains l version) maps h)) [
              | inl before ↦
                  let k = (at.kept version).0 before in (Contains-append_left at.front (v ∷ []) version k.0, k.1)
              | inr here ↦ elim (within_cases v [] version here) [
                | inl is ↦ (
                  Contains-append_right at.front (v ∷ []) version here,
                  subst (IsKeptFor (versions_on old 0) marks) is (wanted_is.0 is_wanted),
                )
                | inr none ↦ absurd (none_within version none)
              ]
            ]

        from : (version : KeyVersion) → Contains (at.front ++ v ∷ []) version × IsKeptFor (versions_on old 0) marks version
            → Contains (map (version_at nodes) (at.done ++ place ∷ [])) version
        from version (h, m) = subst (λ (l : List KeyVersion). Contains l version) (sym maps)
            (elim (Contains-append_cases at.front (v ∷ []) version h) [
              | inl before ↦ Contains-append_left (map (version_at nodes) at.done) (v ∷ []) version ((at.kept version).1 (before, m))
              | inr here ↦ Contains-append_right (map (version_at nodes) at.done) (v ∷ []) version here
            ])

    -- what is left behind the place, once it is taken out
    apart : (x : ℕ) → Contains (at.done ++ rest) x → x ≢ place
    apart x h e =
        (distinct_out at.done rest place
        (follows_distinct (next_on nodes 0) (next_on nodes 0 0) (at.done ++ place ∷ rest)
        (subst (LeadsAlong (next_on nodes 0) (next_on nodes 0 0)) whole (at.arena.linked.levels 0 (omega arith)).follows))).1
        (subst (Contains (at.done ++ rest)) e h)

    ascends : AscendPlaces nodes (at.done ++ place ∷ rest)
    ascends = subst (AscendPlaces nodes) whole (at.arena.linked.levels 0 (omega arith)).ascends

    behind : (x : ℕ) → Contains rest x → x ≡ last_of 0 at.done → ⊥
    behind x h e = elim (last_cases 0 at.done) [
      | inl head ↦ not_the_end (next_on nodes 0) next rest left_rest.2 x h (e ∙ head)
      | inr there ↦ never_before_itself (version_at nodes x)
          (before_along (version_at nodes x) v (version_at nodes x).key (version_at nodes x).number
          (ascend_across nodes at.done (place ∷ rest) x place ascends (subst (Contains at.done) (sym e) there) (within_head place rest))
          ((ascend_back nodes at.done (place ∷ rest) ascends).0 x h))
    ]

    leads_new : (new : List Node) → TakesOut nodes lasts place now_free.first new → LeadsAlong (next_on new 0) next rest
    leads_new new left = follows_same (next_on nodes 0) (next_on new 0) next rest
        (λ x h. left.others 0 x (apart x (Contains-append_right at.done rest x h)) (λ e _ _. absurd (behind x h (e ∙ at.last)))) left_rest.2

    below : (p : ℕ) → Contains (place ∷ rest) p → p < length nodes
    below p h = ((at.arena.linked.levels 0 (omega arith)).held p (subst (λ (l : List ℕ). Contains l p) (sym whole)
        (Contains-append_right at.done (place ∷ rest) p h))).0

    path_here : length (path (next_on nodes 0) place (length nodes)) ≡ length rest + 1
    path_here = omega (
      arith,
      ap length (path_of (next_on nodes 0) place (place ∷ rest) (length nodes)
          (subst (LeadsAlong (next_on nodes 0) place) left_rest.1 at.leads) below),
    )

    pub sweep_less : length (path (next_on nodes 0) next (length nodes)) < length (path (next_on nodes 0) place (length nodes))
    sweep_less = omega (
      arith,
      path_here,
      ap length (path_of (next_on nodes 0) next rest (length nodes) left_rest.2 (λ p h. below p (within_tail place rest p h))),
    )

    pub out_less : (new : List Node) → TakesOut nodes lasts place now_free.first new
        → length (path (next_on new 0) next (length new)) < length (path (next_on nodes 0) place (length nodes))
    out_less new left = omega (
      arith,
      path_here,
      ap length (path_of (next_on new 0) next rest (length new) (leads_new new left)
          (λ p h. subst (λ (n : ℕ). p < n) (sym left.len) (below p (within_tail place rest p h)))),
    )

    removal_here : Removal nodes lasts place now_free.first now_free.count v.key v.number
    removal_here = record { arena = at.arena; own = own_here; held = place_held; at = (refl, refl) }

    pub sweep_within : AreWithin nodes lasts
    sweep_within = lasts_within removal_here

    -- the place is taken out
    pub swept_out : (IsBetween marks v.number newer → ⊥) → (new : List Node) (new_free : FreeList) → TakesOut nodes lasts place now_free.first new
        → new_free.first ≡ place → new_free.count ≡ now_free.count + 1
        → (new_newer : Option ℕ) → (next ≢ 0 → IsNewerFor v (version_at nodes next) new_newer)
        → Swept old free marks new new_free lasts next new_newer (removed + 1)
    swept_out not_wanted new new_free left first_is count_is new_newer newer_for = record {
      arena = subst (λ (p : ℕ). IsArena new p new_free.count) (sym first_is)
          (subst (λ (n : ℕ). IsArena new place n) (sym count_is)
          (removal_arena removal_here left));
      len = left.len ∙ at.len;
      done = at.done;
      rest = rest;
      front = at.front ++ v ∷ [];
      is = level_without nodes new lasts place now_free.first at.arena.linked own_here place_held left 0 (omega arith) at.done rest whole at.last leads_here;
      was = were ∙ sym (append_assoc at.front (v ∷ []) (map (version_at nodes) rest))
          ∙ ap (λ (l : List KeyVersion). (at.front ++ v ∷ []) ++ l)
          (map_same (version_at nodes) (version_at new) rest (λ x h. sym (same x (apart x (Contains-append_right at.done rest x h)))));
      leads = leads_new new left;
      last = at.last;
      kept = λ version. (to version, from version);
      newer_is = λ more. subst (λ (w : KeyVersion). IsNextNewer (at.front ++ v ∷ []) w new_newer) (sym (same next (next_other more)))
          (next_newer new_newer newer_for more);
      cuts = λ more. let s = splits more in
          cut_left nodes at.arena.linked at.done s.0 place next (whole ∙ ap (λ (l : List ℕ). at.done ++ place ∷ l) s.1) new lasts now_free.first cuts_here left;
      counted = omega (arith, at.counted, length-append at.front (v ∷ []));
      freed = omega (arith, at.freed, count_is);
      linked = λ level p less h. stays level p less (at.linked level p less h);
    }
      where
        same : (x : ℕ) → x ≢ place → version_at new x ≡ version_at nodes x
        same x other = version_kept nodes new lasts place now_free.first at.arena.linked own_here place_held left x other

        next_other : next ≢ 0 → next ≢ place
        next_other more =
            let s = splits more in
            apart next (Contains-append_right at.done rest next (subst (λ (l : List ℕ). Contains l next) (sym s.1) (within_head next s.0)))

        maps : map (version_at nodes) at.done ≡ map (version_at new) at.done
        maps = map_same (version_at nodes) (version_at new) at.done (λ x h. sym (same x (apart x (Contains-append_left at.done rest x h))))

        to : (version : KeyVersion) → Contains (map (version_at new) at.done) version
            → Contains (at.front ++ v ∷ []) version × IsKeptFor (versions_on old 0) marks version
        to version h =
            let k = (at.kept version).0 (subst (λ (l : List KeyVersion). Contains l version) (sym maps) h) in
            (Contains-append_left at.front (v ∷ []) version k.0, k.1)

        from : (version : KeyVersion) → Contains (at.front ++ v ∷ []) version × IsKeptFor (versions_on old 0) marks version
            → Contains (map (version_at new) at.done) version
        from version (h, m) = elim (Contains-append_cases at.front (v ∷ []) version h) [
          | inl before ↦ subst (λ (l : List KeyVersion). Contains l version) maps ((at.kept version).1 (before, m))
          | inr here ↦ elim (within_cases v [] version here) [
            | inl is ↦ absurd (not_wanted (wanted_is.1 (subst (IsKeptFor (versions_on old 0) marks) (sym is) m)))
            | inr none ↦ absurd (none_within version none)
          ]
        ]

        stays : (level p : ℕ) → level < LEVELS → KeepsPlace old nodes level p → KeepsPlace old new level p
        stays level p less (inl (there, is)) = elim (cases_eq p place) [
          | inl itself ↦ inr (ap (λ (q : ℕ). is_vacant (node_at new q).held) itself ∙ left.vacant)
          | inr other ↦ inl (
            left_more nodes new lasts place now_free.first at.arena.linked own_here place_held left level p less there other,
            same p other ∙ is,
          )
        ]
        stays level p less (inr vacant) =
            let full : is_vacant (node_at nodes place).held ≡ false = ((at.arena.linked.levels 0 (omega arith)).held place place_held).1 in
            inr (ap is_vacant (left.held p (λ e. not_both (is_vacant (node_at nodes p).held) vacant
            (ap (λ (q : ℕ). is_vacant (node_at nodes q).held) e ∙ full))) ∙ vacant)

    -- ---- the same, by what the node at the place is read as
    module _ (node : Node) (node_is : node ≡ node_at nodes place) where
      pub goes_to : slice_index node.links 0 ≡ next_on nodes 0 place
      goes_to = ap (λ (n : Node). slice_index n.links 0) node_is

      shown : version_in node ≡ version_at nodes place
      shown = ap version_in node_is

      newer_of : (n : Option ℕ)
          → (slice_index node.links 0 ≢ 0 → IsNewerFor (version_at nodes place) (version_at nodes (slice_index node.links 0)) n)
          → next ≢ 0 → IsNewerFor (version_at nodes place) (version_at nodes next) n
      newer_of n is more = subst (λ (p : ℕ). IsNewerFor (version_at nodes place) (version_at nodes p) n) goes_to (is (λ e. more (sym goes_to ∙ e)))

      -- the keys of both have the front
      pub fronts_here : {shared : ℕ} → ShareFront shared nodes → slice_index node.links 0 ≢ 0
          → HaveFront shared (node_at nodes (slice_index node.links 0)) (node_at nodes place)
      fronts_here is more = (
        is.front,
        is.len,
        subst (λ (p : ℕ). IsLed is.front (node_at nodes p)) (sym goes_to) (is.led next (next_held (λ e. more (goes_to ∙ e)))),
        is.led place place_held,
      )

      pub follows_within : slice_index node.links 0 < length nodes
      follows_within = subst (λ (p : ℕ). p < length nodes) (sym goes_to) next_within

      pub step_kept : IsBetween marks node.seq newer → (new_lasts : List ℕ) → StepsOver nodes lasts place LEVELS new_lasts
          → (new_newer : Option ℕ)
          → (slice_index node.links 0 ≢ 0 → IsNewerFor (version_at nodes place) (version_at nodes (slice_index node.links 0)) new_newer)
          → Swept old free marks nodes now_free new_lasts (slice_index node.links 0) new_newer removed
      step_kept is_wanted new_lasts steps new_newer newer_for =
          subst (λ (p : ℕ). Swept old free marks nodes now_free new_lasts p new_newer removed) (sym goes_to)
          (swept_kept (subst (λ (w : KeyVersion). IsBetween marks w.number newer) shown is_wanted) new_lasts steps new_newer (newer_of new_newer newer_for))

      pub step_out : (IsBetween marks node.seq newer → ⊥) → (new : List Node) (new_free : FreeList) → TakesOut nodes lasts place now_free.first new
          → new_free.first ≡ place → new_free.count ≡ now_free.count + 1
          → (new_newer : Option ℕ)
          → (slice_index node.links 0 ≢ 0 → IsNewerFor (version_at nodes place) (version_at nodes (slice_index node.links 0)) new_newer)
          → Swept old free marks new new_free lasts (slice_index node.links 0) new_newer (removed + 1)
      step_out not_wanted new new_free left first_is count_is new_newer newer_for =
          subst (λ (p : ℕ). Swept old free marks new new_free lasts p new_newer (removed + 1)) (sym goes_to)
          (swept_out (λ b. not_wanted (subst (λ (w : KeyVersion). IsBetween marks w.number newer) (sym shown) b)) new new_free left first_is count_is
          new_newer (newer_of new_newer newer_for))

      pub step_less : length (path (next_on nodes 0) (slice_index node.links 0) (length nodes)) < length (path (next_on nodes 0) place (length nodes))
      step_less = subst (λ (p : ℕ). length (path (next_on nodes 0) p (length nodes)) < length (path (next_on nodes 0) place (length nodes)))
          (sym goes_to) sweep_less

      pub step_out_less : (new : List Node) → TakesOut nodes lasts place now_free.first new
          → length (path (next_on new 0) (slice_index node.links 0) (length new)) < length (path (next_on nodes 0) place (length nodes))
      step_out_less new left = subst (λ (p : ℕ). length (path (next_on new 0) p (length new)) < length (path (next_on nodes 0) place (length nodes)))
          (sym goes_to) (out_less new left)

      pub step_out_front : {shared : ℕ} (new : List Node) → TakesOut nodes lasts place now_free.first new → ShareFront shared nodes → ShareFront shared new
      step_out_front new left is = removal_front removal_here left is
