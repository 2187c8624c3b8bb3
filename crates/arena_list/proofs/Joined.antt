-- One place more, linked in at the levels of its tower.
use Rattle.std.proofs.Common.{◌≡◌, ◌≢◌, ◌⊎◌, inl, inr, ℕ, ◌+◌, ◌-◌, ◌^◌, ◌<◌, ◌≤◌, true, false, Option, Some, None, List, [], ◌∷◌, ◌++◌, length, Contains, refl, sym, ap, ◌∙◌, subst, arith, slice_index, length-append, take, drop}
use Rattle.std.proofs.lemmas.Bool.{cases_lt}
use Rattle.std.proofs.lemmas.List.{length-map}
use Rattle.std.proofs.lemmas.List.Elements.{Contains-append_left, Contains-append_right}
use Rattle.wal_base.proofs.Laws.{within_cases}
use Rattle.arena_list.proofs.Fronts.{led_same}
use Rattle.arena_list.specs.Fronts.{AllLed}
use Rattle.arena_list.specs.Leads.{lead_of, AreBytes}
use Rattle.arena_list.specs.declared.node.TheConstants.{LEVELS, GUIDE_HEIGHT}
use Rattle.arena_list.specs.declared.node.Node.{Node}
use Rattle.arena_list.specs.declared.guide.Guide.{Guide}
use Rattle.arena_list.specs.declared.node.Held.TheVariants.{Deletion, Set}
use Rattle.arena_list.specs.declared.links.FreeList.{FreeList}
use Rattle.arena_list.specs.Versions.{KeyVersion, version_with, Precedes, HoldsVersion, Adds}
use Rattle.arena_list.specs.Arena.{UsesPlace}
use Rattle.arena_list.specs.Chains.{LeadsAlong}
use Rattle.arena_list.specs.Nodes.{is_vacant, held_of, version_in, node_at, version_at, next_on, places_on, versions_on, arena_of, AscendPlaces, HasNode, IsLevel, IsLinked, AreFree, IsArena, key_of}
use Rattle.arena_list.specs.Steps.{IsCut, AreCutsTo, AreWithin, AreOtherPlaces, TakesPlace, PutsIn}
use Rattle.arena_list.specs.Tops.{places_of, IsTop, IsTopCut, PutsInTop}
use Rattle.arena_list.proofs.Chains.{amid_there, amid_more, amid_cases, follows_distinct_head, follows_same, not_the_end, spliced_in}
use Rattle.arena_list.proofs.Orders.{after_others}
use Rattle.arena_list.proofs.Levels.{mapped, unmapped, version_same, ascend_same, ascend_in, level_is, level_of, within_lowest}
use Rattle.arena_list.proofs.Cuts.{told_last}
use Rattle.arena_list.proofs.Free.{IsTaken, is_taken}
use Rattle.arena_list.proofs.Tops.{Stays, top_kept, top_more}

-- A place that held nothing has this version now, and is linked in after these so many levels high.
pub record IsJoined (old new : List Node) (lasts : List ℕ) (place height : ℕ) (version : KeyVersion) : Type 0 where
  pub longer : length old ≤ length new
  pub within : place < length new
  pub some : place ≢ 0
  pub fresh : Contains (places_on old 0) place → ⊥
  pub is : version_at new place ≡ version
  pub filled : is_vacant (node_at new place).held ≡ false
  pub held : (other : ℕ) → other ≢ place → (node_at new other).held ≡ (node_at old other).held
  pub seq : (other : ℕ) → other ≢ place → (node_at new other).seq ≡ (node_at old other).seq
  pub to : (level : ℕ) → level < height → next_on new level (slice_index lasts level) ≡ place
  pub on : (level : ℕ) → level < height → next_on new level place ≡ next_on old level (slice_index lasts level)
  pub others : (level other : ℕ) → other ≢ place → (level < height → other ≢ slice_index lasts level) → next_on new level other ≡ next_on old level other

module _ (old new : List Node) (lasts : List ℕ) (place height : ℕ) (version : KeyVersion) (linked : IsLinked old)
    (cuts : AreCutsTo old version.key version.number height lasts) (absent : HoldsVersion (versions_on old 0) version.key version.number → ⊥)
    (joined : IsJoined old new lasts place height version) where
  apart : (level x : ℕ) → level < LEVELS → Contains (places_on old level) x → x ≢ place
  apart level x less h e = joined.fresh (subst (Contains (places_on old 0)) e (within_lowest old linked level x less h))

  version_kept : (x : ℕ) → x ≢ place → version_at new x ≡ version_at old x
  version_kept x other = version_same (node_at new x) (node_at old x) (joined.held x other) (joined.seq x other)

  there : (level x : ℕ) → level < LEVELS → Contains (places_on old level) x → HasNode new false x
  there level x less h =
      let was = (linked.levels level less).held x h in
      let l : x < length new = omega (arith, was.0, joined.longer) in
      (l, ap is_vacant (joined.held x (apart level x less h)) ∙ was.1)

  here : HasNode new false place
  here = (joined.within, joined.filled)

  -- the places with the new one at its place
  pub higher : (level : ℕ) → level < LEVELS → level < height → (cut : IsCut old level version.key version.number (slice_index lasts level))
      → IsLevel new level (cut.before ++ place ∷ cut.after)
  higher level less up cut = record {
    follows = spliced_in (next_on old level) (next_on new level) place 0 cut.before cut.after follows
        (ap (next_on new level) (sym cut.ends) ∙ joined.to level up)
        (joined.on level up ∙ ap (next_on old level) cut.ends)
        joined.some
        (λ x other last. joined.others level x other (λ _ e. last (e ∙ cut.ends)))
        (follows_distinct_head (next_on old level) (next_on old level 0) (cut.before ++ cut.after) follows)
        fresh;
    ascends = ascend_in new cut.before cut.after place
        (ascend_same old new (cut.before ++ cut.after) (λ x h. version_kept x (apart level x less (in_old x h)))
        (subst (AscendPlaces old) cut.is lv.ascends))
        (λ x h. before x h)
        (λ x h. after x h);
    held = λ x h. elim (amid_cases cut.before cut.after place x h) [
      | inl is ↦ subst (HasNode new false) is here
      | inr was ↦ there level x less (in_old x was)
    ];
  }
    where
      lv : IsLevel old level (places_on old level)
      lv = linked.levels level less

      follows : LeadsAlong (next_on old level) (next_on old level 0) (cut.before ++ cut.after)
      follows = subst (LeadsAlong (next_on old level) (next_on old level 0)) cut.is (linked.levels level less).follows

      in_old : (x : ℕ) → Contains (cut.before ++ cut.after) x → Contains (places_on old level) x
      in_old x h = subst (λ (l : List ℕ). Contains l x) (sym cut.is) h

      fresh : Contains (0 ∷ (cut.before ++ cut.after)) place → ⊥
      fresh h = elim (within_cases 0 (cut.before ++ cut.after) place h) [
        | inl e ↦ joined.some (sym e)
        | inr rest ↦ joined.fresh (within_lowest old linked level place less (subst (λ (l : List ℕ). Contains l place) (sym cut.is) rest))
      ]

      before : (x : ℕ) → Contains cut.before x → Precedes (version_at new x) (version_at new place)
      before x h =
          let was : Contains (places_on old level) x =
          subst (λ (l : List ℕ). Contains l x) (sym cut.is) (Contains-append_left cut.before cut.after x h) in
          let e : version_at new x ≡ version_at old x =
          version_same (node_at new x) (node_at old x)
          (joined.held x (λ e. joined.fresh (subst (Contains (places_on old 0)) e (within_lowest old linked level x less was))))
          (joined.seq x (λ e. joined.fresh (subst (Contains (places_on old 0)) e (within_lowest old linked level x less was)))) in
          subst (λ (v : KeyVersion). Precedes v (version_at new place)) (sym e)
          (subst (λ (v : KeyVersion). Precedes (version_at old x) v) (sym joined.is) (cut.early x h))

      after : (x : ℕ) → Contains cut.after x → Precedes (version_at new place) (version_at new x)
      after x h =
          let was : Contains (places_on old level) x =
          subst (λ (l : List ℕ). Contains l x) (sym cut.is) (Contains-append_right cut.before cut.after x h) in
          let low : Contains (places_on old 0) x = within_lowest old linked level x less was in
          let e : version_at new x ≡ version_at old x =
          version_same (node_at new x) (node_at old x)
          (joined.held x (λ e. joined.fresh (subst (Contains (places_on old 0)) e low)))
          (joined.seq x (λ e. joined.fresh (subst (Contains (places_on old 0)) e low))) in
          subst (λ (v : KeyVersion). Precedes (version_at new place) v) (sym e)
          (subst (λ (v : KeyVersion). Precedes v (version_at old x)) (sym joined.is)
          (after_others (version_at old x) version (cut.late x h)
          (λ same. absent (version_at old x, mapped (version_at old) (places_on old 0) x low, same))))

  -- the places as they were, above the tower
  pub above : (level : ℕ) → level < LEVELS → height ≤ level → IsLevel new level (places_on old level)
  above level less up = record {
    follows = subst (λ (p : ℕ). LeadsAlong (next_on new level) p (places_on old level)) (sym head)
        (follows_same (next_on old level) (next_on new level) (next_on old level 0) (places_on old level)
        (λ x h. joined.others level x (λ e. joined.fresh (subst (Contains (places_on old 0)) e (within_lowest old linked level x less h)))
        (λ low _. not_low low)) (linked.levels level less).follows);
    ascends = ascend_same old new (places_on old level) (λ x h. version_kept x (apart level x less h)) (linked.levels level less).ascends;
    held = λ x h. there level x less h;
  }
    where
      not_low : level < height → ⊥
      not_low low = omega (arith, low, up)

      head : next_on new level 0 ≡ next_on old level 0
      head = joined.others level 0 (λ e. joined.some (sym e)) (λ low _. omega (arith, low, up))

  pub joined_level : (level : ℕ) → level < LEVELS → IsLevel new level (places_on new level)
  joined_level level less = elim (cases_lt level height) [
    | inl up ↦ level_of new level ((cuts.low level up).before ++ place ∷ (cuts.low level up).after) (higher level less up (cuts.low level up))
    | inr up ↦ level_of new level (places_on old level) (above level less up)
  ]

  -- what is linked now
  pub joined_cases : (level x : ℕ) → level < LEVELS → Contains (places_on new level) x → Contains (places_on old level) x ⊎ ((x ≡ place) × (level < height))
  joined_cases level x less h = elim (cases_lt level height) [
    | inl up ↦
        let cut = cuts.low level up in
        elim (amid_cases cut.before cut.after place x
        (subst (λ (l : List ℕ). Contains l x) (level_is new level (cut.before ++ place ∷ cut.after) (higher level less up cut)) h)) [
          | inl is ↦ inr (sym is, up)
          | inr was ↦ inl (subst (λ (l : List ℕ). Contains l x) (sym cut.is) was)
        ]
    | inr up ↦ inl (subst (λ (l : List ℕ). Contains l x) (level_is new level (places_on old level) (above level less up)) h)
  ]

  pub joined_more : (level x : ℕ) → level < LEVELS → Contains (places_on old level) x → Contains (places_on new level) x
  joined_more level x less h = elim (cases_lt level height) [
    | inl up ↦
        let cut = cuts.low level up in
        subst (λ (l : List ℕ). Contains l x) (sym (level_is new level (cut.before ++ place ∷ cut.after) (higher level less up cut)))
        (amid_more cut.before cut.after place x (subst (λ (l : List ℕ). Contains l x) cut.is h))
    | inr up ↦ subst (λ (l : List ℕ). Contains l x) (sym (level_is new level (places_on old level) (above level less up))) h
  ]

  pub joined_here : (level : ℕ) → level < LEVELS → level < height → Contains (places_on new level) place
  joined_here level less up =
      let cut = cuts.low level up in
      subst (λ (l : List ℕ). Contains l place) (sym (level_is new level (cut.before ++ place ∷ cut.after) (higher level less up cut)))
      (amid_there cut.before cut.after place)

  pub joined_linked : IsLinked new
  joined_linked = record {
    levels = joined_level;
    below = λ level x less h. below level x less (joined_cases (level + 1) x less h);
  }
    where
      below : (level x : ℕ) → level + 1 < LEVELS → Contains (places_on old (level + 1)) x ⊎ ((x ≡ place) × (level + 1 < height))
          → Contains (places_on new level) x
      below level x less (inl was) = joined_more level x (omega (arith, less)) (linked.below level x less was)
      below level x less (inr is) =
          subst (Contains (places_on new level)) (sym is.0) (joined_here level (omega (arith, less)) (omega (arith, is.1)))

  -- one version more
  pub joined_adds : 0 < height → Adds (versions_on old 0) version (versions_on new 0)
  joined_adds up other = (to, from)
    where
      kept : (x : ℕ) → Contains (places_on old 0) x → version_at new x ≡ version_at old x
      kept x h =
          version_same (node_at new x) (node_at old x)
          (joined.held x (λ e. joined.fresh (subst (Contains (places_on old 0)) e h)))
          (joined.seq x (λ e. joined.fresh (subst (Contains (places_on old 0)) e h)))

      is_new : (x : ℕ) → (x ≡ place) → version_at new x ≡ other → other ≡ version
      is_new x e is = sym is ∙ ap (version_at new) e ∙ joined.is

      to : Contains (versions_on new 0) other → Contains (versions_on old 0) other ⊎ (other ≡ version)
      to h =
          let m = unmapped (version_at new) (places_on new 0) other h in
          elim (joined_cases 0 m.0 (omega arith) m.1) [
            | inl was ↦ inl (subst (Contains (versions_on old 0)) (sym (kept m.0 was) ∙ m.2) (mapped (version_at old) (places_on old 0) m.0 was))
            | inr is ↦ inr (is_new m.0 is.0 m.2)
          ]

      from : Contains (versions_on old 0) other ⊎ (other ≡ version) → Contains (versions_on new 0) other
      from (inl h) =
          let m = unmapped (version_at old) (places_on old 0) other h in
          subst (Contains (versions_on new 0)) (kept m.0 m.1 ∙ m.2) (mapped (version_at new) (places_on new 0) m.0 (joined_more 0 m.0 (omega arith) m.1))
      from (inr is) =
          subst (Contains (versions_on new 0)) (joined.is ∙ sym is)
          (mapped (version_at new) (places_on new 0) place (joined_here 0 (omega arith) up))

  pub joined_longer : 0 < height → length (places_on new 0) ≡ length (places_on old 0) + 1
  joined_longer up =
      let cut = cuts.low 0 up in
      omega (
        arith,
        ap length (level_is new 0 (cut.before ++ place ∷ cut.after) (higher 0 (omega arith) up cut)),
        ap length cut.is,
        length-append cut.before (place ∷ cut.after),
        length-append cut.before cut.after,
      )

  -- other free places stay free
  pub joined_free : (first count : ℕ) (frees : List ℕ) → AreFree old first count frees → (Contains frees place → ⊥) → AreFree new first count frees
  joined_free first count frees free none = record {
    follows = follows_same (next_on old 0) (next_on new 0) first frees
        (λ x h. joined.others 0 x (λ e. none (subst (Contains frees) e h)) (λ _ e. not_last x h e)) free.follows;
    vacant = λ x h.
        let was = free.vacant x h in
        let l : x < length new = omega (arith, was.0, joined.longer) in
        (l, ap is_vacant (joined.held x (λ e. none (subst (Contains frees) e h))) ∙ was.1);
    counted = free.counted;
  }
    where
      not_last : (x : ℕ) → Contains frees x → x ≡ slice_index lasts 0 → ⊥
      not_last x h e = elim (told_last old version.key version.number height lasts cuts 0 (omega arith)) [
        | inl head ↦ not_the_end (next_on old 0) first frees free.follows x h (e ∙ head)
        | inr held ↦
            let vacant : is_vacant (node_at old x).held ≡ true = (free.vacant x h).1 in
            let filled : is_vacant (node_at old x).held ≡ false =
            ((linked.levels 0 (omega arith)).held x (subst (Contains (places_on old 0)) (sym e) held)).1 in
            absurd cc
      ]

-- ---- an insertion as a whole

made_version : (key : List ℕ) (seq : ℕ) (value : Option (List ℕ)) (node : Node) → node.held ≡ held_of key value → node.seq ≡ seq
    → version_in node ≡ version_with key seq value
made_version key seq None node held is = version_same node (record { held = Deletion key; lead = 0; seq = seq; links = [] }) held is
made_version key seq (Some bytes) node held is = version_same node (record { held = Set key bytes; lead = 0; seq = seq; links = [] }) held is

made_filled : (key : List ℕ) (value : Option (List ℕ)) → is_vacant (held_of key value) ≡ false
made_filled key None = refl
made_filled key (Some bytes) = refl

module _ (old mid : List Node) (free left : FreeList) (lasts : List ℕ) (place height : ℕ) (key : List ℕ) (seq : ℕ)
    (arena : IsArena old free.first free.count) (cuts : AreCutsTo old key seq height lasts) (taken : TakesPlace old free place mid left) where
  taken_as : IsTaken old free place mid left
  taken_as = is_taken old mid free left place arena.frees (omega (arith, arena.all)) arena.linked arena.free taken

  pub taken_within : place < length mid
  taken_within = (is_taken old mid free left place arena.frees (omega (arith, arena.all)) arena.linked arena.free taken).within

  pub lasts_within : AreWithin mid lasts
  lasts_within level less = elim (told_last old key seq height lasts cuts level less) [
    | inl head ↦ omega (arith, head, taken_as.longer, arena.all)
    | inr held ↦ omega (arith, ((arena.linked.levels level less).held (slice_index lasts level) held).0, taken_as.longer)
  ]

  pub lasts_apart : AreOtherPlaces lasts place
  lasts_apart level less e = elim (told_last old key seq height lasts cuts level less) [
    | inl head ↦ taken_as.some (sym e ∙ head)
    | inr held ↦ taken_as.fresh (subst (Contains (places_on old 0)) e (within_lowest old arena.linked level (slice_index lasts level) less held))
  ]

  module _ (new : List Node) (value : Option (List ℕ)) (lead : ℕ) (absent : HoldsVersion (versions_on old 0) key seq → ⊥)
      (up : 0 < height) (most : height ≤ LEVELS)
      (put : PutsIn mid lasts place height (held_of key value) lead seq new) where
    joins : IsJoined old new lasts place height (version_with key seq value)
    joins = record {
      longer = omega (arith, taken_as.longer, put.len);
      within = omega (arith, taken_as.within, put.len);
      some = taken_as.some;
      fresh = taken_as.fresh;
      is = made_version key seq value (node_at new place) put.holds put.has;
      filled = ap is_vacant put.holds ∙ made_filled key value;
      held = λ other o. put.kept other o ∙ ap (λ (n : Node). n.held) (taken_as.kept other o);
      seq = λ other o. put.same other o ∙ ap (λ (n : Node). n.seq) (taken_as.kept other o);
      to = put.to;
      on = λ level low. put.on level low
          ∙ ap (λ (n : Node). slice_index n.links level) (taken_as.kept (slice_index lasts level) (lasts_apart level (omega (arith, low, most))));
      others = λ level other o not_last. put.others level other o not_last ∙ ap (λ (n : Node). slice_index n.links level) (taken_as.kept other o);
    }

    pub insertion_arena : IsArena new left.first left.count
    insertion_arena = record {
      linked = joined_linked old new lasts place height (version_with key seq value) arena.linked cuts absent joins;
      frees = taken_as.frees;
      free = joined_free old new lasts place height (version_with key seq value) arena.linked cuts absent joins left.first left.count taken_as.frees
          taken_as.free_left taken_as.none;
      all = all taken_as.counts;
      few = let l : length mid < 2 ^ 32 = taken_as.few arena.few in omega (arith, l, put.len);
    }
      where
        more : length (places_on new 0) ≡ length (places_on old 0) + 1
        more = joined_longer old new lasts place height (version_with key seq value) arena.linked cuts absent joins up

        all : ((0 < free.count) × (left.count + 1 ≡ free.count) × (length mid ≡ length old))
            ⊎ ((free.count ≡ 0) × (left.count ≡ 0) × (length mid ≡ length old + 1)) → length (places_on new 0) + left.count + 1 ≡ length new
        all (inl reused) = omega (arith, more, reused.1, reused.2, put.len, arena.all)
        all (inr made) = omega (arith, more, made.0, made.1, made.2, put.len, arena.all)

    pub insertion_adds : Adds (versions_on old 0) (version_with key seq value) (versions_on new 0)
    insertion_adds = joined_adds old new lasts place height (version_with key seq value) arena.linked cuts absent joins up

    pub insertion_place : UsesPlace (arena_of old free.count) (arena_of new left.count)
    insertion_place = go taken_as.counts
      where
        more : length (versions_on new 0) ≡ length (versions_on old 0) + 1
        more =
            length-map (places_on new 0) (version_at new)
            ∙ joined_longer old new lasts place height (version_with key seq value) arena.linked cuts absent joins up
            ∙ ap (λ (n : ℕ). n + 1) (sym (length-map (places_on old 0) (version_at old)))

        go : ((0 < free.count) × (left.count + 1 ≡ free.count) × (length mid ≡ length old))
            ⊎ ((free.count ≡ 0) × (left.count ≡ 0) × (length mid ≡ length old + 1)) → UsesPlace (arena_of old free.count) (arena_of new left.count)
        go (inl reused) = inl (reused.0, reused.1, omega (arith, more, reused.1))
        go (inr made) = inr (made.0, made.1, omega (arith, more, made.0, made.1))

    -- the entries that a search looks at first
    pub insertion_top : (shared : ℕ) (top new_top : List Guide) (index : ℕ) → IsTop shared old top → IsTopCut old (places_of top) key seq index
        → PutsInTop shared new top index place height new_top → IsTop shared new new_top
    insertion_top shared top new_top index is cut puts = go puts
      where
        stays : (x : ℕ) → Contains (places_of top) x → Stays old new x
        stays x h = (
          version_kept old new lasts place height (version_with key seq value) arena.linked cuts absent joins x
              (apart old new lasts place height (version_with key seq value) arena.linked cuts absent joins (GUIDE_HEIGHT - 1) x (omega arith)
              (is.places.linked x h)),
          λ level less there. joined_more old new lasts place height (version_with key seq value) arena.linked cuts absent joins level x less there,
        )

        go : PutsInTop shared new top index place height new_top → IsTop shared new new_top
        go (inl same) = subst (IsTop shared new) (sym same) (top_kept old new top is stays)
        go (inr (high, guide, to, more)) = subst (IsTop shared new) (sym more)
            (top_more old new top is place height (version_with key seq value) index guide cut stays joins.is
            (λ level less low. joined_here old new lasts place height (version_with key seq value) arena.linked cuts absent joins level less low)
            (λ x h at. absent (
              version_at old x,
              mapped (version_at old) (places_on old 0) x (within_lowest old arena.linked (GUIDE_HEIGHT - 1) x (omega arith) (is.places.linked x h)),
              at,
            )) high to)

    -- the front of the keys, which the new one begins with
    pub insertion_front : (front : List ℕ) → AllLed front old → take (length front) key ≡ front → AreBytes key → lead ≡ lead_of (drop (length front) key)
        → AllLed front new
    insertion_front front is begins bytes led x h = elim (joined_cases old new lasts place height (version_with key seq value) arena.linked cuts absent joins
        0 x (omega arith) h) [
          | inl was ↦
              let other : x ≢ place = λ e. taken_as.fresh (subst (Contains (places_on old 0)) e was) in
              led_same front (node_at old x) (node_at new x) (joins.held x other)
              (put.led x other ∙ ap (λ (n : Node). n.lead) (taken_as.kept x other)) (is x was)
          | inr here ↦
              let has : key_of (node_at new x).held ≡ key =
              ap (λ (p : ℕ). key_of (node_at new p).held) here.0 ∙ ap key_of put.holds ∙ made_key value in record {
                begins = ap (take (length front)) has ∙ begins;
                lead = ap (λ (p : ℕ). (node_at new p).lead) here.0 ∙ put.leads ∙ led ∙ ap (λ (k : List ℕ). lead_of (drop (length front) k)) (sym has);
                bytes = subst AreBytes (sym has) bytes;
              }
        ]
      where
        made_key : (v : Option (List ℕ)) → key_of (held_of key v) ≡ key
        made_key None = refl
        made_key (Some v) = refl
