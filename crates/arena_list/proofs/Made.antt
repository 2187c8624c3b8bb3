-- A place is made at the end: what is linked stays as it was, and it is the only free place.
use Rattle.std.proofs.Common.{◌≡◌, ◌≢◌, inl, inr, ℕ, ◌+◌, ◌-◌, ◌<◌, true, List, [], ◌∷◌, ◌++◌, length, map, Contains, refl, sym, ap, ap₂, ◌∙◌, subst, arith, slice_index, length-append}
use Rattle.std.specs.List.{range_with_len}
use Rattle.std.proofs.lemmas.List.FromFn.{length-map-range_with_len, get_or-map-range_with_len, fill_by_all}
use Rattle.wal_base.proofs.Laws.{none_within, within_cases}
use Rattle.arena_list.specs.declared.node.TheConstants.{LEVELS, GUIDE_HEIGHT}
use Rattle.arena_list.specs.declared.node.Node.{Node}
use Rattle.arena_list.specs.declared.guide.Guide.{Guide}
use Rattle.arena_list.specs.Versions.{KeyVersion}
use Rattle.arena_list.specs.Arena.{Arena}
use Rattle.arena_list.specs.Chains.{LeadsAlong}
use Rattle.arena_list.specs.Nodes.{is_vacant, version_in, node_at, version_at, next_on, places_on, versions_on, arena_of, HasNode, IsLevel, IsArena}
use Rattle.arena_list.specs.Steps.{MakesPlace}
use Rattle.arena_list.specs.Fronts.{ShareFront}
use Rattle.arena_list.specs.Tops.{IsTop}
use Rattle.arena_list.proofs.Chains.{follows_same}
use Rattle.arena_list.proofs.Levels.{map_same, ascend_same, level_is, level_of}
use Rattle.arena_list.proofs.Free.{node_kept, node_made}
use Rattle.arena_list.proofs.Fronts.{front_kept}
use Rattle.arena_list.proofs.Tops.{top_kept}

module _ (old new : List Node) (place first : ℕ) (arena : IsArena old first 0) (makes : MakesPlace old place new) where
  longer : length new ≡ length old + 1
  longer = omega (arith, ap length makes.is, length-append old (makes.made ∷ []))

  made_here : node_at new place ≡ makes.made
  made_here =
      ap (λ (nodes : List Node). node_at nodes place) makes.is
      ∙ ap (node_at (old ++ makes.made ∷ [])) makes.at
      ∙ node_made old makes.made

  node_same : (other : ℕ) → other < length old → node_at new other ≡ node_at old other
  node_same other less =
      ap (λ (nodes : List Node). node_at nodes other) makes.is ∙ node_kept old makes.made other (λ e. omega (arith, less, e))

  linked_same : (level x : ℕ) → level < LEVELS → Contains (places_on old level) x → node_at new x ≡ node_at old x
  linked_same level x less h = node_same x ((arena.linked.levels level less).held x h).0

  level_same : (level : ℕ) → level < LEVELS → IsLevel new level (places_on old level)
  level_same level less = record {
    follows = subst (λ (p : ℕ). LeadsAlong (next_on new level) p (places_on old level)) (sym head)
        (follows_same (next_on old level) (next_on new level) (next_on old level 0) (places_on old level)
        (λ x h. ap (λ (n : Node). slice_index n.links level) (linked_same level x less h)) (arena.linked.levels level less).follows);
    ascends = ascend_same old new (places_on old level) (λ x h. ap version_in (linked_same level x less h)) (arena.linked.levels level less).ascends;
    held = λ x h.
        let was = (arena.linked.levels level less).held x h in
        let l : x < length new = omega (arith, was.0, longer) in
        (l, ap (λ (n : Node). is_vacant n.held) (linked_same level x less h) ∙ was.1);
  }
    where
      head : next_on new level 0 ≡ next_on old level 0
      head = ap (λ (n : Node). slice_index n.links level) (node_same 0 (omega (arith, arena.all)))

  places_same : (level : ℕ) → level < LEVELS → places_on new level ≡ places_on old level
  places_same level less = level_is new level (places_on old level) (level_same level less)

  versions_same : (level : ℕ) → level < LEVELS → versions_on new level ≡ versions_on old level
  versions_same level less =
      ap (map (version_at new)) (places_same level less)
      ∙ map_same (version_at new) (version_at old) (places_on old level) (λ x h. ap version_in (linked_same level x less h))

  in_new : (level x : ℕ) → level < LEVELS → Contains (places_on old level) x → Contains (places_on new level) x
  in_new level x less h = subst (λ (l : List ℕ). Contains l x) (sym (places_same level less)) h

  pub made_arena : IsArena new place 1
  made_arena = record {
    linked = record {
      levels = λ level less. level_of new level (places_on old level) (level_same level less);
      below = λ level x less h.
          in_new level x (omega (arith, less))
          (arena.linked.below level x less (subst (λ (l : List ℕ). Contains l x) (places_same (level + 1) less) h));
    };
    frees = place ∷ [];
    free = record {
      follows = (refl, some, ap (λ (n : Node). slice_index n.links 0) made_here ∙ makes.ends);
      vacant = λ x h. elim (within_cases place [] x h) [
        | inl is ↦ subst (HasNode new true) is (within, ap (λ (n : Node). is_vacant n.held) made_here ∙ makes.vacant)
        | inr none ↦ absurd (none_within x none)
      ];
      counted = refl;
    };
    all = omega (arith, ap length (places_same 0 (omega arith)), arena.all, longer);
    few = omega (arith, longer, makes.few);
  }
    where
      some : place ≢ 0
      some e = omega (arith, makes.at, arena.all, e)

      within : place < length new
      within = omega (arith, makes.at, longer)

  pub made_top : {shared : ℕ} (top : List Guide) → IsTop shared old top → IsTop shared new top
  made_top top is = top_kept old new top is (λ x h. (
    ap version_in (linked_same (GUIDE_HEIGHT - 1) x (omega arith) (is.places.linked x h)),
    λ level less there. in_new level x less there,
  ))

  pub made_front : {shared : ℕ} → ShareFront shared old → ShareFront shared new
  made_front is = front_kept old new
      (λ x h.
      let was = subst (λ (l : List ℕ). Contains l x) (places_same 0 (omega arith)) h in
      let same = linked_same 0 x (omega arith) was in
      (was, ap (λ (n : Node). n.held) same, ap (λ (n : Node). n.lead) same)) is

  -- no more than the number of free places is seen to differ
  pub made_seen : arena_of new 1 ≡ record (arena_of old 0) { free = 1 }
  made_seen =
      ap₂ (λ (vs : List KeyVersion) (ls : List (List KeyVersion)). let a : Arena = record { versions = vs; levels = ls; free = 1 } in a)
      (versions_same 0 (omega arith)) levels
    where
      levels : map (versions_on new) (range_with_len 0 LEVELS) ≡ map (versions_on old) (range_with_len 0 LEVELS)
      levels = fill_by_all (versions_on old) (map (versions_on new) (range_with_len 0 LEVELS)) LEVELS []
          (length-map-range_with_len (versions_on new) 0 LEVELS)
          (λ level less. get_or-map-range_with_len (versions_on new) 0 LEVELS level level [] less (omega arith) ∙ versions_same level less)
