-- One place less, linked out of each level and put on the free list.
use Rattle.std.proofs.Common.{◌≡◌, ◌≢◌, inl, inr, ℕ, ◌+◌, ◌<◌, true, false, List, [], ◌∷◌, ◌++◌, length, Contains, refl, sym, ap, ◌∙◌, subst, arith, slice_index, length-append}
use Rattle.std.proofs.lemmas.Bool.{cases_eq}
use Rattle.std.proofs.lemmas.List.{length-map}
use Rattle.std.proofs.lemmas.List.Elements.{Contains-append_cases}
use Rattle.wal_base.proofs.Laws.{none_within, within_head, within_cases}
use Rattle.arena_list.specs.declared.node.TheConstants.{LEVELS}
use Rattle.arena_list.specs.declared.node.Node.{Node}
use Rattle.arena_list.specs.declared.guide.Guide.{Guide}
use Rattle.arena_list.specs.Versions.{KeyVersion, GoesBefore, IsAt, LeavesOut}
use Rattle.arena_list.specs.Arena.{places_in}
use Rattle.arena_list.specs.Chains.{LeadsAlong, last_of}
use Rattle.arena_list.specs.Nodes.{is_vacant, node_at, version_at, next_on, places_on, versions_on, arena_of, AscendPlaces, HasNode, IsLevel, IsLinked, AreFree, IsArena}
use Rattle.arena_list.specs.Steps.{IsCut, AreLastsFor, AreWithin, TakesOut}
use Rattle.arena_list.specs.Tops.{places_of, IsTop, IsTopCut, TakesFromTop}
use Rattle.arena_list.proofs.Chains.{amid_more, amid_cases, distinct_out, follows_distinct, follows_distinct_head, follows_same, last_cases, not_the_end, spliced_out}
use Rattle.arena_list.proofs.Orders.{never_before_itself}
use Rattle.arena_list.proofs.Levels.{mapped, unmapped, version_same, ascend_same, ascend_out, ascend_back, ascend_apart, level_is, level_of}
use Rattle.arena_list.proofs.Cuts.{cut_last, last_for, next_there, follows_cut}
use Rattle.arena_list.specs.Fronts.{ShareFront}
use Rattle.arena_list.proofs.Fronts.{front_kept}
use Rattle.arena_list.proofs.Tops.{top_less}

-- The places of a level with one of them left out.
pub record LeavesPlace (old new : List Node) (level place : ℕ) : Type 0 where
  pub places : List ℕ
  pub is : IsLevel new level places
  pub from : (x : ℕ) → Contains places x → Contains (places_on old level) x × (x ≢ place)
  pub to : (x : ℕ) → Contains (places_on old level) x → x ≢ place → Contains places x
  pub shorter : Contains (places_on old level) place → length places + 1 ≡ length (places_on old level)

module _ (old new : List Node) (lasts : List ℕ) (place first : ℕ) (linked : IsLinked old)
    (own : AreLastsFor old (version_at old place).key (version_at old place).number place lasts)
    (held : Contains (places_on old 0) place) (left : TakesOut old lasts place first new) where
  pub version_kept : (x : ℕ) → x ≢ place → version_at new x ≡ version_at old x
  version_kept x other = version_same (node_at new x) (node_at old x) (left.held x other) (left.seq x other)

  there : (level x : ℕ) → level < LEVELS → Contains (places_on old level) x → x ≢ place → HasNode new false x
  there level x less h other =
      let was = (linked.levels level less).held x h in
      let l : x < length new = omega (arith, was.0, left.len) in
      (l, ap is_vacant (left.held x other) ∙ was.1)

  -- the head is another place
  some : place ≢ 0
  some = not_the_end (next_on old 0) (next_on old 0 0) (places_on old 0) (linked.levels 0 (omega arith)).follows place held

  -- the place before it is another place
  last_other : (level : ℕ) → level < LEVELS → slice_index lasts level ≢ place
  last_other level less e = elim (own level less) [ inl cut ↦ go cut | inr none ↦ some (sym e ∙ none.1) ]
    where
      go : IsCut old level (version_at old place).key (version_at old place).number (slice_index lasts level) → ⊥
      go cut = elim (cut_last old level (version_at old place).key (version_at old place).number (slice_index lasts level) cut) [
        | inl head ↦ some (sym e ∙ head)
        | inr in_level ↦ early cut.before cut.ends (λ x h. cut.early x h)
      ]
        where
          early : (before : List ℕ) → slice_index lasts level ≡ last_of 0 before
              → ((x : ℕ) → Contains before x → GoesBefore (version_at old x) (version_at old place).key (version_at old place).number) → ⊥
          early before ends all = elim (last_cases 0 before) [
            | inl head ↦ some (sym e ∙ ends ∙ head)
            | inr in_before ↦ never_before_itself (version_at old place) (all place (subst (Contains before) (sym ends ∙ e) in_before))
          ]

  -- the others are where they were, and none of them is the place
  others_in : (level : ℕ) → level < LEVELS → (before after : List ℕ) → places_on old level ≡ before ++ place ∷ after → (x : ℕ)
      → Contains (before ++ after) x → Contains (places_on old level) x × (x ≢ place)
  others_in level less before after is x h = (
    subst (λ (l : List ℕ). Contains l x) (sym is) (amid_more before after place x h),
    λ e. (distinct_out before after place
        (follows_distinct (next_on old level) (next_on old level 0) (before ++ place ∷ after)
        (subst (LeadsAlong (next_on old level) (next_on old level 0)) is (linked.levels level less).follows))).1
        (subst (Contains (before ++ after)) e h),
  )

  -- the level of the others
  without_is : (level : ℕ) → level < LEVELS → (before after : List ℕ) → places_on old level ≡ before ++ place ∷ after
      → slice_index lasts level ≡ last_of 0 before → next_on old level (slice_index lasts level) ≡ place → IsLevel new level (before ++ after)
  without_is level less before after is ends leads = record {
    follows = spliced_out (next_on old level) (next_on new level) place 0 before after follows
        (ap (next_on new level) (sym ends) ∙ left.to level less (last_other level less) leads)
        (λ x other last. left.others level x other (λ e _. absurd (last (e ∙ ends))))
        (follows_distinct_head (next_on old level) (next_on old level 0) (before ++ place ∷ after) follows);
    ascends = ascend_same old new (before ++ after) (λ x h. version_kept x (others_in level less before after is x h).1)
        (ascend_out old before after place (subst (AscendPlaces old) is (linked.levels level less).ascends));
    held = λ x h. let at = others_in level less before after is x h in there level x less at.0 at.1;
  }
    where
      follows : LeadsAlong (next_on old level) (next_on old level 0) (before ++ place ∷ after)
      follows = subst (LeadsAlong (next_on old level) (next_on old level 0)) is (linked.levels level less).follows

  -- where the last place before it leads on to it, the level is the others
  pub level_without : (level : ℕ) → level < LEVELS → (before after : List ℕ) → places_on old level ≡ before ++ place ∷ after
      → slice_index lasts level ≡ last_of 0 before → next_on old level (slice_index lasts level) ≡ place → places_on new level ≡ before ++ after
  level_without level less before after is ends leads = level_is new level (before ++ after) (without_is level less before after is ends leads)

  -- where the last place before it leads on to it, it is taken out
  taken_out : (level : ℕ) → level < LEVELS → (before after : List ℕ) → places_on old level ≡ before ++ place ∷ after
      → slice_index lasts level ≡ last_of 0 before → next_on old level (slice_index lasts level) ≡ place → LeavesPlace old new level place
  taken_out level less before after is ends leads = record {
    places = before ++ after;
    is = without_is level less before after is ends leads;
    from = others_in level less before after is;
    to = λ x h other. elim (amid_cases before after place x (subst (λ (l : List ℕ). Contains l x) is h)) [
      | inl same ↦ absurd (other (sym same))
      | inr rest ↦ rest
    ];
    shorter = λ _. omega (arith, ap length is, length-append before (place ∷ after), length-append before after);
  }

  -- where it is not in the level, the level stays
  kept : (level : ℕ) → level < LEVELS → (Contains (places_on old level) place → ⊥) → next_on old level (slice_index lasts level) ≢ place
      → LeavesPlace old new level place
  kept level less none leads = record {
    places = places_on old level;
    is = record {
      follows = subst (λ (p : ℕ). LeadsAlong (next_on new level) p (places_on old level)) (sym (link 0 (λ e. some (sym e))))
          (follows_same (next_on old level) (next_on new level) (next_on old level 0) (places_on old level)
          (λ x h. link x (λ e. none (subst (Contains (places_on old level)) e h))) (linked.levels level less).follows);
      ascends = ascend_same old new (places_on old level) (λ x h. version_kept x (λ e. none (subst (Contains (places_on old level)) e h)))
          (linked.levels level less).ascends;
      held = λ x h. there level x less h (λ e. none (subst (Contains (places_on old level)) e h));
    };
    from = λ x h. (h, λ e. none (subst (Contains (places_on old level)) e h));
    to = λ x h other. h;
    shorter = λ h. absurd (none h);
  }
    where
      link : (x : ℕ) → x ≢ place → next_on new level x ≡ next_on old level x
      link x other = left.others level x other (λ e _ to. leads (ap (next_on old level) (sym e) ∙ to))

  pub left_level : (level : ℕ) → level < LEVELS → LeavesPlace old new level place
  left_level level less = elim (own level less) [
    | inl cut ↦ go cut
    | inr none ↦ kept level less none.0 (λ leads. none.0 (first_linked (sym (ap (next_on old level) none.1) ∙ leads)))
  ]
    where
      first_linked : next_on old level 0 ≡ place → Contains (places_on old level) place
      first_linked leads =
          let n = next_there (next_on old level) (next_on old level 0) (places_on old level) (linked.levels level less).follows (λ e. some (sym leads ∙ e)) in
          subst (λ (ps : List ℕ). Contains ps place) (sym n.1) (subst (λ (p : ℕ). Contains (p ∷ n.0) place) (sym leads) (within_head place n.0))

      go : IsCut old level (version_at old place).key (version_at old place).number (slice_index lasts level) → LeavesPlace old new level place
      go cut = at cut.after cut.is (λ x h. cut.late x h)
          (follows_cut old level (version_at old place).key (version_at old place).number (slice_index lasts level) linked less cut)
        where
          not_early : Contains cut.before place → ⊥
          not_early h = never_before_itself (version_at old place) (cut.early place h)

          ascends : (after : List ℕ) → places_on old level ≡ cut.before ++ after → AscendPlaces old after
          ascends after is = ascend_back old cut.before after (subst (AscendPlaces old) is (linked.levels level less).ascends)

          at : (after : List ℕ) → places_on old level ≡ cut.before ++ after
              → ((x : ℕ) → Contains after x → GoesBefore (version_at old x) (version_at old place).key (version_at old place).number → ⊥)
              → LeadsAlong (next_on old level) (next_on old level (slice_index lasts level)) after → LeavesPlace old new level place
          at [] is late f = kept level less
              (λ h. elim (Contains-append_cases cut.before [] place (subst (λ (l : List ℕ). Contains l place) is h)) [
                | inl early ↦ not_early early
                | inr none ↦ none_within place none
              ])
              (λ leads. some (sym leads ∙ f))
          at (q ∷ after) is late f = elim (cases_eq q place) [
            | inl same ↦ taken_out level less cut.before after (is ∙ ap (λ (p : ℕ). cut.before ++ p ∷ after) same) cut.ends (f.0 ∙ same)
            | inr other ↦ kept level less
                (λ h. elim (Contains-append_cases cut.before (q ∷ after) place (subst (λ (l : List ℕ). Contains l place) is h)) [
                  | inl early ↦ not_early early
                  | inr later ↦ elim (within_cases q after place later) [
                    | inl same ↦ other same
                    | inr rest ↦ late q (within_head q after) ((ascends (q ∷ after) is).0 place rest)
                  ]
                ])
                (λ leads. other (sym f.0 ∙ leads))
          ]

  pub left_cases : (level x : ℕ) → level < LEVELS → Contains (places_on new level) x → Contains (places_on old level) x × (x ≢ place)
  left_cases level x less h =
      let l = left_level level less in l.from x (subst (λ (ps : List ℕ). Contains ps x) (level_is new level l.places l.is) h)

  pub left_more : (level x : ℕ) → level < LEVELS → Contains (places_on old level) x → x ≢ place → Contains (places_on new level) x
  left_more level x less h other =
      let l = left_level level less in subst (λ (ps : List ℕ). Contains ps x) (sym (level_is new level l.places l.is)) (l.to x h other)

  pub left_linked : IsLinked new
  left_linked = record {
    levels = λ level less. let l = left_level level less in level_of new level l.places l.is;
    below = λ level x less h.
        let was = left_cases (level + 1) x less h in
        left_more level x (omega (arith, less)) (linked.below level x less was.0) was.1;
  }

  pub left_shorter : length (places_on new 0) + 1 ≡ length (places_on old 0)
  left_shorter =
      let l = left_level 0 (omega arith) in omega (arith, ap length (level_is new 0 l.places l.is), l.shorter held)

  -- the versions but that one
  pub left_leaves : LeavesOut (versions_on old 0) (version_at old place).key (version_at old place).number (versions_on new 0)
  left_leaves other = (to, from)
    where
      -- no other place has the same key and number
      only : (x : ℕ) → Contains (places_on old 0) x → IsAt (version_at old x) (version_at old place).key (version_at old place).number → x ≡ place
      only x h at = elim (ascend_apart old (places_on old 0) x place (linked.levels 0 (omega arith)).ascends h held) [
        | inl same ↦ same
        | inr (inl first) ↦ absurd (never_before_itself (version_at old x)
            (subst (λ (k : List ℕ). GoesBefore (version_at old x) k (version_at old x).number) (sym at.0)
            (subst (GoesBefore (version_at old x) (version_at old place).key) (sym at.1) first)))
        | inr (inr last) ↦ absurd (never_before_itself (version_at old place)
            (subst (λ (k : List ℕ). GoesBefore (version_at old place) k (version_at old place).number) at.0
            (subst (GoesBefore (version_at old place) (version_at old x).key) at.1 last)))
      ]

      to : Contains (versions_on new 0) other
          → Contains (versions_on old 0) other × (IsAt other (version_at old place).key (version_at old place).number → ⊥)
      to h =
          let m = unmapped (version_at new) (places_on new 0) other h in
          let was = left_cases 0 m.0 (omega arith) m.1 in
          let is : version_at old m.0 ≡ other = sym (version_kept m.0 was.1) ∙ m.2 in (
            subst (Contains (versions_on old 0)) is (mapped (version_at old) (places_on old 0) m.0 was.0),
            λ at. was.1 (only m.0 was.0
                (subst (λ (v : KeyVersion). IsAt v (version_at old place).key (version_at old place).number) (sym is) at)),
          )

      from : Contains (versions_on old 0) other × (IsAt other (version_at old place).key (version_at old place).number → ⊥)
          → Contains (versions_on new 0) other
      from (h, apart) =
          let m = unmapped (version_at old) (places_on old 0) other h in
          let o : m.0 ≢ place = λ e. apart (subst (λ (v : KeyVersion). IsAt v (version_at old place).key (version_at old place).number)
          (sym (ap (version_at old) e) ∙ m.2) (refl, refl)) in
          subst (Contains (versions_on new 0)) (version_kept m.0 o ∙ m.2)
          (mapped (version_at new) (places_on new 0) m.0 (left_more 0 m.0 (omega arith) m.1 o))

  -- it leads the free places now
  pub left_free : (count : ℕ) (frees : List ℕ) → AreFree old first count frees → AreFree new place (count + 1) (place ∷ frees)
  left_free count frees free = record {
    follows = (
      refl,
      some,
      subst (λ (p : ℕ). LeadsAlong (next_on new 0) p frees) (sym left.next)
          (follows_same (next_on old 0) (next_on new 0) first frees (λ x h. left.others 0 x (other x h) (λ e _ to. not_last x h e)) free.follows),
    );
    vacant = λ x h. elim (within_cases place frees x h) [
      | inl is ↦ subst (HasNode new true) is (within, left.vacant)
      | inr rest ↦
          let was = free.vacant x rest in
          let l : x < length new = omega (arith, was.0, left.len) in
          (l, ap is_vacant (left.held x (other x rest)) ∙ was.1)
    ];
    counted = omega (arith, free.counted);
  }
    where
      within : place < length new
      within = omega (arith, ((linked.levels 0 (omega arith)).held place held).0, left.len)

      filled : (x : ℕ) → Contains frees x → Contains (places_on old 0) x → ⊥
      filled x h in_level =
          let vacant : is_vacant (node_at old x).held ≡ true = (free.vacant x h).1 in
          let full : is_vacant (node_at old x).held ≡ false = ((linked.levels 0 (omega arith)).held x in_level).1 in
          absurd cc

      other : (x : ℕ) → Contains frees x → x ≢ place
      other x h e =
          let vacant : is_vacant (node_at old x).held ≡ true = (free.vacant x h).1 in
          let full : is_vacant (node_at old x).held ≡ false =
          ((linked.levels 0 (omega arith)).held x (subst (Contains (places_on old 0)) (sym e) held)).1 in
          absurd cc

      not_last : (x : ℕ) → Contains frees x → x ≡ slice_index lasts 0 → ⊥
      not_last x h e = elim (last_for old (version_at old place).key (version_at old place).number place lasts own 0 (omega arith)) [
        | inl head ↦ not_the_end (next_on old 0) first frees free.follows x h (e ∙ head)
        | inr in_level ↦
            let vacant : is_vacant (node_at old x).held ≡ true = (free.vacant x h).1 in
            let full : is_vacant (node_at old x).held ≡ false =
            ((linked.levels 0 (omega arith)).held x (subst (Contains (places_on old 0)) (sym e) in_level)).1 in
            absurd cc
      ]

-- ---- a removal as a whole

-- A place that holds the version of this key and number, with the last place before it on each level.
pub record Removal (nodes : List Node) (lasts : List ℕ) (place first count : ℕ) (key : List ℕ) (seq : ℕ) : Type 0 where
  pub arena : IsArena nodes first count
  pub own : AreLastsFor nodes key seq place lasts
  pub held : Contains (places_on nodes 0) place
  pub at : IsAt (version_at nodes place) key seq

-- what is told of nodes that were read holds of those that are the same
pub removal_of : (read nodes : List Node) (lasts : List ℕ) (place first count : ℕ) (key : List ℕ) (seq : ℕ) → read ≡ nodes
    → IsArena nodes first count → AreLastsFor read key seq place lasts → Contains (places_on read 0) place → IsAt (version_at read place) key seq
    → Removal nodes lasts place first count key seq
removal_of read nodes lasts place first count key seq is arena own held at = record {
  arena = arena;
  own = subst (λ (ns : List Node). AreLastsFor ns key seq place lasts) is own;
  held = subst (λ (ns : List Node). Contains (places_on ns 0) place) is held;
  at = subst (λ (ns : List Node). IsAt (version_at ns place) key seq) is at;
}

module _ {old : List Node} {lasts : List ℕ} {place first count : ℕ} {key : List ℕ} {seq : ℕ} (r : Removal old lasts place first count key seq) where
  own_lasts : AreLastsFor old (version_at old place).key (version_at old place).number place lasts
  own_lasts =
      subst (λ (k : List ℕ). AreLastsFor old k (version_at old place).number place lasts) (sym r.at.0)
      (subst (λ (n : ℕ). AreLastsFor old key n place lasts) (sym r.at.1) r.own)

  pub held_within : place < length old
  held_within = ((r.arena.linked.levels 0 (omega arith)).held place r.held).0

  pub lasts_within : AreWithin old lasts
  lasts_within level less = elim (last_for old key seq place lasts r.own level less) [
    | inl head ↦ omega (arith, head, r.arena.all)
    | inr there ↦ ((r.arena.linked.levels level less).held (slice_index lasts level) there).0
  ]

  module _ {new : List Node} (left : TakesOut old lasts place first new) where
    pub removal_arena : IsArena new place (count + 1)
    removal_arena = record {
      linked = left_linked old new lasts place first r.arena.linked own_lasts r.held left;
      frees = place ∷ r.arena.frees;
      free = left_free old new lasts place first r.arena.linked own_lasts r.held left count r.arena.frees r.arena.free;
      all = omega (arith, left_shorter old new lasts place first r.arena.linked own_lasts r.held left, left.len, r.arena.all);
      few = omega (arith, left.len, r.arena.few);
    }

    pub removal_leaves : LeavesOut (versions_on old 0) key seq (versions_on new 0)
    removal_leaves =
        subst (λ (k : List ℕ). LeavesOut (versions_on old 0) k seq (versions_on new 0)) r.at.0
        (subst (λ (n : ℕ). LeavesOut (versions_on old 0) (version_at old place).key n (versions_on new 0)) r.at.1
        (left_leaves old new lasts place first r.arena.linked own_lasts r.held left))

    pub removal_places : places_in (arena_of new (count + 1)) ≡ places_in (arena_of old count)
    removal_places =
        omega (
          arith,
          left_shorter old new lasts place first r.arena.linked own_lasts r.held left,
          length-map (places_on new 0) (version_at new),
          length-map (places_on old 0) (version_at old),
        )

    -- the entries that a search looks at first
    pub removal_top : {shared : ℕ} (top left_top : List Guide) (index : ℕ) → IsTop shared old top → IsTopCut old (places_of top) key seq index
        → TakesFromTop top index place left_top → IsTop shared new left_top
    removal_top top left_top index is cut drops = top_less old new top is place index left_top
        (subst (λ (k : List ℕ). IsTopCut old (places_of top) k (version_at old place).number index) (sym r.at.0)
        (subst (λ (n : ℕ). IsTopCut old (places_of top) key n index) (sym r.at.1) cut)) drops
        (λ x h other. (
          version_kept old new lasts place first r.arena.linked own_lasts r.held left x other,
          λ level less there. left_more old new lasts place first r.arena.linked own_lasts r.held left level x less there other,
        ))

    -- the front of the keys
    pub removal_front : {shared : ℕ} → ShareFront shared old → ShareFront shared new
    removal_front is = front_kept old new
        (λ x h.
        let was = left_cases old new lasts place first r.arena.linked own_lasts r.held left 0 x (omega arith) h in
        (was.0, left.held x was.1, left.lead x was.1)) is
