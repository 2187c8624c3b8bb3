-- What a list is seen as, by its nodes.
use Rattle.std.proofs.Common.{◌≡◌, ◌≢◌, ◌⊎◌, inl, inr, ℕ, zero, suc, ◌+◌, ◌-◌, ◌<◌, List, [], ◌∷◌, ◌++◌, length, map, Contains, refl, sym, ap, ◌∙◌, subst, arith, slice_index, slice_index_or, Some, replicate, get_or}
use Rattle.std.proofs.lemmas.List.{map-append}
use Rattle.std.proofs.lemmas.List.Elements.{Contains-append_right}
use Rattle.wal_base.proofs.Laws.{none_within}
use Rattle.arena_list.specs.Chains.{LeadsAlong, path}
use Rattle.arena_list.proofs.Chains.{path_of}
use Rattle.arena_list.specs.declared.node.TheConstants.{LEVELS}
use Rattle.arena_list.specs.declared.node.Node.{Node}
use Rattle.arena_list.specs.Versions.{KeyVersion, AscendVersions, AreSomeOf, IsAt, HoldsVersion, GoesBefore, IsRestFrom}
use Rattle.arena_list.specs.declared.found.Found.{Found}
use Rattle.arena_list.specs.Newest.{HasNoneOfKey, IsNewestOf, FindsNewestOfKey, version_found}
use Rattle.arena_list.specs.Steps.{IsCut}
use Rattle.arena_list.proofs.Cuts.{cut_last, follows_cut, next_held, newest_at, newest_none, held_next}
use Rattle.arena_list.specs.Arena.{on_level}
use Rattle.arena_list.specs.Nodes.{version_at, next_on, places_on, versions_on, versions_along, arena_of, IsLevel, IsLinked, IsOnLevel, IsArena}
use Rattle.arena_list.specs.Fronts.{ShareFront}
use Rattle.arena_list.proofs.Levels.{mapped, unmapped, ascend_versions, level_is, level_of, on_level_is, read_next}

pub zeros_at : (n i : ℕ) → ◌≡◌ {A = ℕ} (get_or (replicate {A = ℕ} n 0) i 0) 0
zeros_at zero i = refl
zeros_at (suc n) zero = refl
zeros_at (suc n) (suc i) = zeros_at n i

-- ---- levels

pub level_ascends : (nodes : List Node) (count level : ℕ) → IsLinked nodes → level < LEVELS → AscendVersions (on_level (arena_of nodes count) level)
level_ascends nodes count level linked less =
    subst AscendVersions (sym (on_level_is nodes count level less)) (ascend_versions nodes (places_on nodes level) (linked.levels level less).ascends)

pub level_some : (nodes : List Node) (count level : ℕ) → IsLinked nodes → level < LEVELS
    → AreSomeOf (on_level (arena_of nodes count) level) (on_level (arena_of nodes count) (level - 1))
level_some nodes count zero linked less version h = h
level_some nodes count (suc level) linked less version h =
    let low : level < LEVELS = omega (arith, less) in
    let m = unmapped (version_at nodes) (places_on nodes (suc level)) version
    (subst (λ (l : List KeyVersion). Contains l version) (on_level_is nodes count (suc level) less) h) in
    let there : Contains (places_on nodes level) m.0 =
    linked.below level m.0 (omega (arith, less)) (subst (λ (n : ℕ). Contains (places_on nodes n) m.0) (one_more level) m.1) in
    subst (λ (n : ℕ). Contains (on_level (arena_of nodes count) n) version) (one_less level)
    (subst (λ (l : List KeyVersion). Contains l version) (sym (on_level_is nodes count level low))
    (subst (Contains (versions_on nodes level)) m.2 (mapped (version_at nodes) (places_on nodes level) m.0 there)))
  where
    one_more : (n : ℕ) → suc n ≡ n + 1
    one_more n = omega arith

    one_less : (n : ℕ) → n ≡ suc n - 1
    one_less n = omega arith

-- ---- a head alone

module _ (head : Node) (links : (level : ℕ) → slice_index head.links level ≡ 0) where
  alone : (level : ℕ) → IsLevel (head ∷ []) level []
  alone level = record {
    follows = links level;
    ascends = tt;
    held = λ p h. absurd (none_within p h);
  }

  pub alone_none : (level : ℕ) → places_on (head ∷ []) level ≡ []
  alone_none level = level_is (head ∷ []) level [] (alone level)

  pub alone_arena : IsArena (head ∷ []) 0 0
  alone_arena = record {
    linked = record {
      levels = λ level less. level_of (head ∷ []) level [] (alone level);
      below = λ level p less h. absurd (none_within p (subst (λ (l : List ℕ). Contains l p) (alone_none (level + 1)) h));
    };
    frees = [];
    free = record {
      follows = refl;
      vacant = λ p h. absurd (none_within p h);
      counted = refl;
    };
    all = omega (arith, ap length (alone_none 0));
    few = omega arith;
  }

  -- and no key has bytes
  pub alone_front : ShareFront 0 (head ∷ [])
  alone_front = record {
    front = [];
    len = refl;
    led = λ place h. absurd (none_within place (subst (λ (l : List ℕ). Contains l place) (alone_none 0) h));
  }

  pub alone_empty : versions_on (head ∷ []) 0 ≡ []
  alone_empty = ap (map (version_at (head ∷ []))) (alone_none 0)

-- ---- where a search lands

-- What an index reads at the last place before a cut of the lowest level.
pub record LandsAt (nodes : List Node) (last : ℕ) (default : Node) : Type 0 where
  pub within : last < length nodes
  pub is : slice_index (slice_index_or nodes last default).links 0 ≡ next_on nodes 0 last
  pub below : slice_index (slice_index_or nodes last default).links 0 ≢ 0 → slice_index (slice_index_or nodes last default).links 0 < length nodes

pub lands_at : (nodes : List Node) (key : List ℕ) (number last : ℕ) (default : Node) → IsLinked nodes → 0 < length nodes
    → IsCut nodes 0 key number last → LandsAt nodes last default
lands_at nodes key number last default linked some cut =
    let within : last < length nodes = there (cut_last nodes 0 key number last cut) in
    let is : slice_index (slice_index_or nodes last default).links 0 ≡ next_on nodes 0 last = read_next nodes 0 last default within in record {
      within = within;
      is = is;
      below = λ more. subst (λ (p : ℕ). p < length nodes) (sym is)
          ((linked.levels 0 (omega arith)).held (next_on nodes 0 last)
          (next_held nodes linked key number last cut (λ e. more (is ∙ e)))).0;
    }
  where
    there : (last ≡ 0) ⊎ Contains (places_on nodes 0) last → last < length nodes
    there (inl head) = omega (arith, some, head)
    there (inr held) = ((linked.levels 0 (omega arith)).held last held).0

module _ (nodes : List Node) (linked : IsLinked nodes) (key : List ℕ) (number last : ℕ) (cut : IsCut nodes 0 key number last)
    (place : ℕ) (is : place ≡ next_on nodes 0 last) where
  -- the newest version is the one where the search lands
  pub lands_on_newest : (version : KeyVersion) (found : Found) → place ≢ 0 → version ≡ version_at nodes place → version.key ≡ key
      → version_found version.key found ≡ Some version → FindsNewestOfKey (versions_on nodes 0) key (number + 1) found
  lands_on_newest version found some at same tells =
      subst (IsNewestOf (versions_on nodes 0) key (number + 1))
      (sym (subst (λ (k : List ℕ). version_found k found ≡ Some version) same tells ∙ ap (λ (v : KeyVersion). Some v) here))
      (newest_at nodes linked key number last cut (λ e. some (is ∙ e)) (subst (λ (v : KeyVersion). v.key ≡ key) here same))
    where
      here : version ≡ version_at nodes (next_on nodes 0 last)
      here = at ∙ ap (version_at nodes) is

  pub lands_on_none : (place ≡ 0) ⊎ ((version_at nodes place).key ≡ key → ⊥) → HasNoneOfKey (versions_on nodes 0) key (number + 1)
  lands_on_none (inl end) = newest_none nodes linked key number last cut (inl (sym is ∙ end))
  lands_on_none (inr apart) = newest_none nodes linked key number last cut (inr (λ same. apart (ap (λ (p : ℕ). (version_at nodes p).key) is ∙ same)))

  -- a version that is held is the one where the search lands
  pub lands_on_held : HoldsVersion (versions_on nodes 0) key number → (place ≢ 0) × IsAt (version_at nodes place) key number
  lands_on_held holds =
      let h = held_next nodes linked key number last cut holds in
      (λ e. h.0 (sym is ∙ e), subst (λ (p : ℕ). IsAt (version_at nodes p) key number) (sym is) h.1)

  pub landed : place ≢ 0 → Contains (places_on nodes 0) place
  landed some = subst (Contains (places_on nodes 0)) (sym is) (next_held nodes linked key number last cut (λ e. some (is ∙ e)))

-- what follows a cut of the lowest level
pub walk_begins_at : (nodes : List Node) (linked : IsLinked nodes) (key : List ℕ) (number last : ℕ) (cut : IsCut nodes 0 key number last)
    → IsRestFrom (versions_on nodes 0) key number (versions_along nodes 0 (next_on nodes 0 last)) × IsOnLevel nodes 0 (next_on nodes 0 last)
walk_begins_at nodes linked key number last cut = (
  record {
    front = map (version_at nodes) cut.before;
    is = ap (map (version_at nodes)) cut.is ∙ map-append (version_at nodes) cut.before cut.after
        ∙ ap (λ (l : List ℕ). map (version_at nodes) cut.before ++ map (version_at nodes) l) (sym along);
    before = λ version h.
        let m = unmapped (version_at nodes) cut.before version h in
        subst (λ (v : KeyVersion). GoesBefore v key number) m.2 (cut.early m.0 m.1);
    from = λ version h g.
        let m = unmapped (version_at nodes) cut.after version
        (subst (λ (l : List ℕ). Contains (map (version_at nodes) l) version) along h) in
        cut.late m.0 m.1 (subst (λ (v : KeyVersion). GoesBefore v key number) (sym m.2) g);
  },
  record { within = omega arith; rest = cut.after; follows = follows; there = below },
)
  where
    follows : LeadsAlong (next_on nodes 0) (next_on nodes 0 last) cut.after
    follows = follows_cut nodes 0 key number last linked (omega arith) cut

    below : (p : ℕ) → Contains cut.after p → p < length nodes
    below p h = ((linked.levels 0 (omega arith)).held p
        (subst (λ (l : List ℕ). Contains l p) (sym cut.is) (Contains-append_right cut.before cut.after p h))).0

    along : path (next_on nodes 0) (next_on nodes 0 last) (length nodes) ≡ cut.after
    along = path_of (next_on nodes 0) (next_on nodes 0 last) cut.after (length nodes) follows below
