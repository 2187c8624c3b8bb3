-- A list whose leads were made anew: it is seen as it was, and its keys have the shorter front.
use Rattle.std.specs.List.{range_with_len}
use Rattle.std.proofs.Common.{◌≡◌, inl, inr, ℕ, suc, ◌+◌, ◌-◌, ◌<◌, ◌≤◌, IsTrue, List, [], ◌∷◌, length, map, take, drop, Contains, refl, sym, ap, ap₂, ◌∙◌, subst, arith, slice_index, slice_index_or, slice_set, length-set, ◌≢◌}
use Rattle.std.proofs.lemmas.List.{length-take-le, take-take}
use Rattle.std.proofs.lemmas.List.FromFn.{length-map-range_with_len, get_or-map-range_with_len, fill_by_all}
use Rattle.wal_base.proofs.Laws.{none_within, within_head, within_cases}
use Rattle.arena_list.specs.declared.node.TheConstants.{LEVELS, GUIDE_HEIGHT}
use Rattle.arena_list.specs.declared.node.Node.{Node}
use Rattle.arena_list.specs.declared.guide.Guide.{Guide}
use Rattle.arena_list.specs.Versions.{KeyVersion}
use Rattle.arena_list.specs.Arena.{Arena}
use Rattle.arena_list.specs.Chains.{LeadsAlong}
use Rattle.arena_list.specs.Leads.{lead_of, AreBytes}
use Rattle.arena_list.specs.Nodes.{no_node, is_vacant, key_of, node_at, version_at, next_on, places_on, versions_on, arena_of, AscendPlaces, HasNode, IsLevel, IsLinked, IsArena}
use Rattle.arena_list.specs.Fronts.{IsLed, AllLed, ShareFront, KeepsAllButLeads, LeadsAnew}
use Rattle.arena_list.specs.Tops.{places_of, guide_at, no_guide, TellsVersion, IsTop, GuidesAnew}
use Rattle.arena_list.proofs.Chains.{follows_same}
use Rattle.std.proofs.lemmas.List.Elements.{Contains-get_or}
use Rattle.arena_list.proofs.Levels.{map_same, version_same, ascend_same, level_is, level_of, within_lowest, read_at, read_next}
use Rattle.std.proofs.lemmas.Bool.{cases_eq}
use Rattle.std.proofs.lemmas.List.{get_or-set_same, get_or-set_other}
use Rattle.arena_list.proofs.Cuts.{next_there}
use Rattle.arena_list.proofs.Fronts.{parts_len}
use Rattle.arena_list.proofs.Tops.{place_of}

-- ---- no more than leads differ

pub kept_itself : (nodes : List Node) → KeepsAllButLeads nodes nodes
kept_itself nodes = record { len = refl; held = λ _. refl; seq = λ _. refl; links = λ _. refl }

module _ (old new : List Node) (linked : IsLinked old) (kept : KeepsAllButLeads old new) where
  next_same : (level place : ℕ) → next_on new level place ≡ next_on old level place
  next_same level place = ap (λ (links : List ℕ). slice_index links level) (kept.links place)

  pub kept_version : (place : ℕ) → version_at new place ≡ version_at old place
  kept_version place = version_same (node_at new place) (node_at old place) (kept.held place) (kept.seq place)

  there : (vacant : _) (place : ℕ) → HasNode old vacant place → HasNode new vacant place
  there vacant place h =
      let within : place < length new = omega (arith, h.0, kept.len) in
      (within, ap is_vacant (kept.held place) ∙ h.1)

  level_same : (level : ℕ) → level < LEVELS → IsLevel new level (places_on old level)
  level_same level less = record {
    follows = subst (λ (p : ℕ). LeadsAlong (next_on new level) p (places_on old level)) (sym (next_same level 0))
        (follows_same (next_on old level) (next_on new level) (next_on old level 0) (places_on old level) (λ x h. next_same level x)
        (linked.levels level less).follows);
    ascends = ascend_same old new (places_on old level) (λ x h. kept_version x) (linked.levels level less).ascends;
    held = λ x h. there _ x ((linked.levels level less).held x h);
  }

  pub kept_places : (level : ℕ) → level < LEVELS → places_on new level ≡ places_on old level
  kept_places level less = level_is new level (places_on old level) (level_same level less)

  was_linked : (level x : ℕ) → level < LEVELS → Contains (places_on new level) x → Contains (places_on old level) x
  was_linked level x less h = subst (λ (l : List ℕ). Contains l x) (kept_places level less) h

  is_linked : (level x : ℕ) → level < LEVELS → Contains (places_on old level) x → Contains (places_on new level) x
  is_linked level x less h = subst (λ (l : List ℕ). Contains l x) (sym (kept_places level less)) h

  pub kept_linked : IsLinked new
  kept_linked = record {
    levels = λ level less. level_of new level (places_on old level) (level_same level less);
    below = λ level x less h.
        is_linked level x (omega (arith, less)) (linked.below level x less (was_linked (level + 1) x less h));
  }

  pub kept_arena : (first count : ℕ) → IsArena old first count → IsArena new first count
  kept_arena first count arena = record {
    linked = kept_linked;
    frees = arena.frees;
    free = record {
      follows = follows_same (next_on old 0) (next_on new 0) first arena.frees (λ x h. next_same 0 x) arena.free.follows;
      vacant = λ x h. there _ x (arena.free.vacant x h);
      counted = arena.free.counted;
    };
    all = omega (arith, ap length (kept_places 0 (omega arith)), arena.all, kept.len);
    few = omega (arith, kept.len, arena.few);
  }

  kept_versions : (level : ℕ) → level < LEVELS → versions_on new level ≡ versions_on old level
  kept_versions level less =
      ap (map (version_at new)) (kept_places level less)
      ∙ map_same (version_at new) (version_at old) (places_on old level) (λ x h. kept_version x)

  pub kept_seen : (count : ℕ) → arena_of new count ≡ arena_of old count
  kept_seen count =
      ap₂ (λ (vs : List KeyVersion) (ls : List (List KeyVersion)). let a : Arena = record { versions = vs; levels = ls; free = count } in a)
      (kept_versions 0 (omega arith)) levels
    where
      levels : map (versions_on new) (range_with_len 0 LEVELS) ≡ map (versions_on old) (range_with_len 0 LEVELS)
      levels = fill_by_all (versions_on old) (map (versions_on new) (range_with_len 0 LEVELS)) LEVELS []
          (length-map-range_with_len (versions_on new) 0 LEVELS)
          (λ level less. get_or-map-range_with_len (versions_on new) 0 LEVELS level level [] less (omega arith) ∙ kept_versions level less)

  -- ---- the shorter front

  pub lowered_led : (front key : List ℕ) (left : ℕ) → AllLed front old → left ≤ length front → left ≤ length key → take left key ≡ take left front
      → LeadsAnew old left (length old) new → AllLed (take left key) new
  lowered_led front key left led shorter within same anew place h =
      let was : IsLed front (node_at old place) = led place (was_linked 0 place (omega arith) h) in
      let len : left ≡ length (take left key) = sym (length-take-le left key within) in
      let own : List ℕ = key_of (node_at new place).held in
      let here : place < length old = ((linked.levels 0 (omega arith)).held place (was_linked 0 place (omega arith) h)).0 in
      let is_own : own ≡ key_of (node_at old place).held = ap key_of (kept.held place) in
      let begins : take left own ≡ take left key =
      ap (take left) is_own ∙ sym (take-take left (length front) (key_of (node_at old place).held) shorter) ∙ ap (take left) was.begins ∙ sym same in
      record {
        begins = ap (λ (n : ℕ). take n own) (sym len) ∙ begins;
        lead = anew.lead place here ∙ ap (λ (n : ℕ). lead_of (drop n own)) len;
        bytes = subst AreBytes (sym is_own) was.bytes;
      }

  pub lowered_top : (shared left : ℕ) (top new_top : List Guide) → IsTop shared old top → GuidesAnew new left (length top) top new_top → IsTop left new new_top
  lowered_top shared left top new_top is anew = record {
    places = record {
      linked = λ x h. is_linked (GUIDE_HEIGHT - 1) x (omega arith) (is.places.linked x (subst (λ (l : List ℕ). Contains l x) same_places h));
      ascends = subst (AscendPlaces new) (sym same_places)
          (ascend_same old new (places_of top) (λ x h. kept_version x) is.places.ascends);
    };
    tells = λ guide h.
        let at = stands new_top guide h in
        subst (λ (g : Guide). TellsVersion left g (version_at new g.place)) at.2 (anew.tells at.0 (omega (arith, at.1, anew.len)));
    tall = λ guide h tall.
        let at = stands new_top guide h in
        let was : Guide = guide_at top at.0 in
        let there_was : Contains top was = stood top at.0 (omega (arith, at.1, anew.len)) in
        let was_tall : IsTrue was.is_tall = subst IsTrue (anew.tall at.0) (subst (λ (g : Guide). IsTrue g.is_tall) (sym at.2) tall) in
        is_linked (LEVELS - 1) guide.place (omega arith)
        (subst (Contains (places_on old (LEVELS - 1))) (sym (anew.place at.0) ∙ ap (λ (g : Guide). g.place) at.2) (is.tall was there_was was_tall));
  }
    where
      stands : (xs : List Guide) (x : Guide) → Contains xs x → (k : ℕ) × (k < length xs) × (guide_at xs k ≡ x)
      stands [] x h = absurd (none_within x h)
      stands (y ∷ xs) x h = elim (within_cases y xs x h) [
        | inl same ↦ (0, omega arith, same)
        | inr rest ↦ let at = stands xs x rest in (suc at.0, omega (arith, at.1), at.2)
      ]

      stood : (xs : List Guide) (k : ℕ) → k < length xs → Contains xs (guide_at xs k)
      stood xs k less = Contains-get_or xs k no_guide less

      same_places : places_of new_top ≡ places_of top
      same_places = alike new_top top anew.len anew.place
        where
          alike : (xs ys : List Guide) → length xs ≡ length ys → ((k : ℕ) → (guide_at xs k).place ≡ (guide_at ys k).place) → places_of xs ≡ places_of ys
          alike [] [] len each = refl
          alike [] (y ∷ ys) len each = absurd (omega (arith, len))
          alike (x ∷ xs) [] len each = absurd (omega (arith, len))
          alike (x ∷ xs) (y ∷ ys) len each = ap₂ (λ (p : ℕ) (ps : List ℕ). p ∷ ps) (each 0) (alike xs ys (omega (arith, len)) (λ k. each (suc k)))

-- ---- nothing is linked

pub none_led : (next : ℕ → ℕ) (first : ℕ) (places : List ℕ) → LeadsAlong next first places → first ≡ 0 → places ≡ []
none_led next first [] f e = refl
none_led next first (p ∷ ps) f e = absurd (f.1 (sym f.0 ∙ e))

pub nothing_led : (front : List ℕ) (nodes : List Node) → places_on nodes 0 ≡ [] → AllLed front nodes
nothing_led front nodes none place h = absurd (none_within place (subst (λ (l : List ℕ). Contains l place) none h))

pub nothing_guided : (shared left : ℕ) (nodes : List Node) (top : List Guide) → IsLinked nodes → places_on nodes 0 ≡ [] → IsTop shared nodes top → IsTop left nodes top
nothing_guided shared left nodes top linked none is = record {
  places = is.places;
  tells = λ guide h. absurd (none_within guide.place (subst (λ (l : List ℕ). Contains l guide.place) none
      (within_lowest nodes linked (GUIDE_HEIGHT - 1) guide.place (omega arith) (is.places.linked guide.place (place_of top guide h)))));
  tall = is.tall;
}

-- ---- what a first key tells of the front

pub front_len : (front key : List ℕ) (shared : ℕ) → length front ≡ shared → take (length front) key ≡ front → shared ≤ length key
front_len front key shared len begins = omega (arith, len, parts_len front key begins)

pub no_front : (front : List ℕ) (shared : ℕ) → length front ≡ shared → shared ≡ 0 → front ≡ []
no_front [] shared len none = refl
no_front (x ∷ front) shared len none = absurd (omega (arith, len, none))

-- the place that the head leads on to
pub first_held : (nodes : List Node) (d : Node) → IsLinked nodes → 0 < length nodes → slice_index (slice_index_or nodes 0 d).links 0 ≢ 0
    → Contains (places_on nodes 0) (slice_index (slice_index_or nodes 0 d).links 0)
first_held nodes d linked some more =
    let to : slice_index (slice_index_or nodes 0 d).links 0 ≡ next_on nodes 0 0 = read_next nodes 0 0 d some in
    let n = next_there (next_on nodes 0) (next_on nodes 0 0) (places_on nodes 0) (linked.levels 0 (omega arith)).follows (λ e. more (to ∙ e)) in
    subst (Contains (places_on nodes 0)) (sym to)
    (subst (λ (l : List ℕ). Contains l (next_on nodes 0 0)) (sym n.1) (within_head (next_on nodes 0 0) n.0))

-- a key that was read begins with the front
pub front_read : {shared : ℕ} (nodes : List Node) (is : ShareFront shared nodes) (place : ℕ) (node : Node) (key : List ℕ)
    → Contains (places_on nodes 0) place → node ≡ node_at nodes place → key ≡ key_of node.held
    → (take shared key ≡ is.front) × (shared ≤ length key)
front_read {shared} nodes is place node key there node_is key_is =
    let same : key ≡ key_of (node_at nodes place).held =
    key_is ∙ ap (λ (n : Node). key_of n.held) node_is in
    let own = key_of (node_at nodes place).held in
    let begins : take (length is.front) own ≡ is.front = (is.led place there).begins in (
      ap (take shared) same ∙ ap (λ (n : ℕ). take n own) (sym is.len) ∙ begins,
      subst (λ (k : List ℕ). shared ≤ length k) (sym same) (front_len is.front own shared is.len begins),
    )

-- ---- one lead more is made anew

module _ (old nodes : List Node) (shared at : ℕ) (d : Node) (lead : ℕ) (anew : LeadsAnew old shared at nodes) (less : at < length nodes)
    (is : lead ≡ lead_of (drop shared (key_of (slice_index_or nodes at d).held))) where
  abbrev pub renewed : Node
  renewed = record {
    links = (slice_index_or nodes at d).links;
    seq = (slice_index_or nodes at d).seq;
    lead = lead;
    held = (slice_index_or nodes at d).held;
  }

  abbrev pub renewals : List Node
  renewals = slice_set nodes at renewed

  here : node_at renewals at ≡ renewed
  here = get_or-set_same nodes at renewed no_node less

  other_at : (p : ℕ) → p ≢ at → node_at renewals p ≡ node_at nodes p
  other_at p other = get_or-set_other nodes at p renewed no_node other

  was : slice_index_or nodes at d ≡ node_at nodes at
  was = read_at nodes at d less

  pub anew_step : LeadsAnew old shared (at + 1) renewals
  anew_step = record {
    kept = record {
      len = length-set nodes at renewed ∙ anew.kept.len;
      held = λ p. elim (cases_eq p at) [
        | inl e ↦ subst (λ (q : ℕ). (node_at renewals q).held ≡ (node_at old q).held) (sym e)
            (ap (λ (n : Node). n.held) here ∙ ap (λ (n : Node). n.held) was ∙ anew.kept.held at)
        | inr other ↦ ap (λ (n : Node). n.held) (other_at p other) ∙ anew.kept.held p
      ];
      seq = λ p. elim (cases_eq p at) [
        | inl e ↦ subst (λ (q : ℕ). (node_at renewals q).seq ≡ (node_at old q).seq) (sym e)
            (ap (λ (n : Node). n.seq) here ∙ ap (λ (n : Node). n.seq) was ∙ anew.kept.seq at)
        | inr other ↦ ap (λ (n : Node). n.seq) (other_at p other) ∙ anew.kept.seq p
      ];
      links = λ p. elim (cases_eq p at) [
        | inl e ↦ subst (λ (q : ℕ). (node_at renewals q).links ≡ (node_at old q).links) (sym e)
            (ap (λ (n : Node). n.links) here ∙ ap (λ (n : Node). n.links) was ∙ anew.kept.links at)
        | inr other ↦ ap (λ (n : Node). n.links) (other_at p other) ∙ anew.kept.links p
      ];
    };
    lead = λ p low. elim (cases_eq p at) [
      | inl e ↦ subst (λ (q : ℕ). (node_at renewals q).lead ≡ lead_of (drop shared (key_of (node_at renewals q).held))) (sym e)
          (ap (λ (n : Node). n.lead) here ∙ is ∙ ap (λ (n : Node). lead_of (drop shared (key_of n.held))) (sym here))
      | inr other ↦ ap (λ (n : Node). n.lead) (other_at p other) ∙ anew.lead p (omega (arith, low, other))
          ∙ ap (λ (n : Node). lead_of (drop shared (key_of n.held))) (sym (other_at p other))
    ];
  }

-- ---- a lowering as a whole

-- A list is seen as it was, and all its keys begin as this one does, for so many bytes.
pub record IsLowered (old now : List Node) (first count shared : ℕ) (key : List ℕ) (top : List Guide) : Type 0 where
  pub arena : IsArena now first count
  pub seen : arena_of now count ≡ arena_of old count
  pub within : shared ≤ length key
  pub led : AllLed (take shared key) now
  pub guided : IsTop shared now top

pub lowered_as : (old read new now : List Node) (first count shared : ℕ) (read_key key : List ℕ) (top now_top : List Guide) → read ≡ old → now ≡ new
    → read_key ≡ key → now_top ≡ top → IsArena old first count → KeepsAllButLeads read new → shared ≤ length read_key → AllLed (take shared read_key) new
    → IsTop shared new top → IsLowered old now first count shared key now_top
lowered_as old read new now first count shared read_key key top now_top is new_is key_is top_is arena kept within led guided =
    subst (λ (ns : List Node). IsLowered old ns first count shared key now_top) (sym new_is)
    (subst (IsLowered old new first count shared key) (sym top_is) (record {
      arena = kept_arena old new arena.linked keeps first count arena;
      seen = kept_seen old new arena.linked keeps count;
      within = subst (λ (k : List ℕ). shared ≤ length k) key_is within;
      led = subst (λ (k : List ℕ). AllLed (take shared k) new) key_is led;
      guided = guided;
    }))
  where
    keeps : KeepsAllButLeads old new
    keeps = subst (λ (ns : List Node). KeepsAllButLeads ns new) is kept

pub lowered_front : {old now : List Node} {first count shared : ℕ} {key : List ℕ} {top : List Guide} → IsLowered old now first count shared key top
    → ShareFront shared now
lowered_front {old} {now} {first} {count} {shared} {key} low = record { front = take shared key; len = length-take-le shared key low.within; led = low.led }
