-- What stands on either side of a cut: the last version before it, and the first one after it.
use Rattle.std.proofs.Common.{◌≡◌, ◌≢◌, ◌⊎◌, inl, inr, ℕ, ◌-◌, ◌<◌, false, List, [], ◌∷◌, ◌++◌, length, Contains, Option, refl, sym, ap, ◌∙◌, subst, arith, Some, None, take, drop, slice_index, slice_index_or}
use Rattle.std.specs.Prelude.{unwrap_or}
use Rattle.std.proofs.lemmas.List.Elements.{Contains-append_left, Contains-append_right}
use Rattle.std.proofs.lemmas.List.{take-append-drop}
use Rattle.wal_base.proofs.Laws.{none_within, within_head, within_tail, within_cases}
use Rattle.arena_list.specs.declared.node.TheConstants.{LEVELS, GUIDE_HEIGHT}
use Rattle.arena_list.specs.declared.node.Held.{Held}
use Rattle.arena_list.specs.declared.node.Held.TheVariants.{Vacant, Deletion, Set}
use Rattle.arena_list.specs.declared.node.Node.{Node}
use Rattle.arena_list.specs.declared.guide.Guide.{Guide}
use Rattle.arena_list.specs.Versions.{KeyVersion, version_with, GoesBefore, Precedes}
use Rattle.arena_list.specs.Spots.{IsLastBefore, IsFirstFrom}
use Rattle.arena_list.specs.Chains.{last_of}
use Rattle.arena_list.specs.Nodes.{key_of, value_of, is_vacant, held_of, unless_vacant, version_in, no_node, node_at, version_at, next_on, places_on, versions_on, AscendPlaces, IsLinked, IsArena}
use Rattle.arena_list.specs.Steps.{IsCut, AreLastsFor}
use Rattle.arena_list.specs.Tops.{places_of, IsTop, IsTopCut}
use Rattle.arena_list.proofs.Chains.{last_cases, not_the_end}
use Rattle.arena_list.proofs.Orders.{before_along, never_before_itself}
use Rattle.arena_list.proofs.Levels.{mapped, unmapped, ascend_across, within_lowest, read_at, version_read}
use Rattle.arena_list.proofs.Cuts.{cut_last, sides, after_sides, next_after, next_held}
use Rattle.arena_list.proofs.Arenas.{lands_at}
use Rattle.arena_list.proofs.Left.{Removal}

-- of places in order, each is the last one or goes before it
before_last : (nodes : List Node) (start : ℕ) (xs ys : List ℕ) → AscendPlaces nodes (xs ++ ys) → (p : ℕ) → Contains xs p
    → Contains xs (last_of start xs) × ((p ≡ last_of start xs) ⊎ Precedes (version_at nodes p) (version_at nodes (last_of start xs)))
before_last nodes start [] ys a p h = absurd (none_within p h)
before_last nodes start (x ∷ xs) ys a p h = elim (last_cases x xs) [
  | inl is ↦ (
    subst (Contains (x ∷ xs)) (sym is) (within_head x xs),
    elim (within_cases x xs p h) [
      | inl e ↦ inl (sym e ∙ sym is)
      | inr rest ↦ (before_last nodes x xs ys a.1 p rest).1
    ],
  )
  | inr there ↦ (
    within_tail x xs (last_of x xs) there,
    elim (within_cases x xs p h) [
      | inl e ↦ inr (subst (λ (w : ℕ). Precedes (version_at nodes w) (version_at nodes (last_of x xs))) e
          (a.0 (last_of x xs) (Contains-append_left xs ys (last_of x xs) there)))
      | inr rest ↦ (before_last nodes x xs ys a.1 p rest).1
    ],
  )
]

module _ (nodes : List Node) (linked : IsLinked nodes) (key : List ℕ) (number last : ℕ) (cut : IsCut nodes 0 key number last) where
  ascends : AscendPlaces nodes (cut.before ++ cut.after)
  ascends = subst (AscendPlaces nodes) cut.is (linked.levels 0 (omega arith)).ascends

  -- the version of a place, by a fact on places
  at_places : (P : KeyVersion → Type 0) → ((p : ℕ) → Contains (places_on nodes 0) p → P (version_at nodes p))
      → (version : KeyVersion) → Contains (versions_on nodes 0) version → P version
  at_places P all version h =
      let m = unmapped (version_at nodes) (places_on nodes 0) version h in subst P m.2 (all m.0 m.1)

  pub some_before : last ≢ 0 → IsLastBefore (versions_on nodes 0) key number (Some (version_at nodes last))
  some_before some = record {
    stands = mapped (version_at nodes) (places_on nodes 0) last there;
    before = cut.early last in_before;
    last = at_places (λ (v : KeyVersion). GoesBefore v key number → (v ≡ version_at nodes last) ⊎ Precedes v (version_at nodes last))
        (λ p h early. elim (sides nodes linked key number last cut p h) [
          | inl before ↦ elim ((before_last nodes 0 cut.before cut.after ascends p before).1) [
            | inl same ↦ inl (ap (version_at nodes) (same ∙ sym cut.ends))
            | inr first ↦ inr (subst (λ (w : ℕ). Precedes (version_at nodes p) (version_at nodes w)) (sym cut.ends) first)
          ]
          | inr after ↦ absurd (cut.late p after early)
        ]);
  }
    where
      in_before : Contains cut.before last
      in_before = elim (last_cases 0 cut.before) [
        | inl head ↦ absurd (some (cut.ends ∙ head))
        | inr there ↦ subst (Contains cut.before) (sym cut.ends) there
      ]

      there : Contains (places_on nodes 0) last
      there = elim (cut_last nodes 0 key number last cut) [ inl head ↦ absurd (some head) | inr held ↦ held ]

  pub none_before : last ≡ 0 → IsLastBefore (versions_on nodes 0) key number None
  none_before head = at_places (λ (v : KeyVersion). GoesBefore v key number → ⊥)
      (λ p h early. elim (sides nodes linked key number last cut p h) [
        | inl before ↦ not_the_end (next_on nodes 0) (next_on nodes 0 0) (places_on nodes 0) (linked.levels 0 (omega arith)).follows (last_of 0 cut.before)
            (subst (λ (l : List ℕ). Contains l (last_of 0 cut.before)) (sym cut.is)
            (Contains-append_left cut.before cut.after (last_of 0 cut.before) (before_last nodes 0 cut.before cut.after ascends p before).0))
            (sym cut.ends ∙ head)
        | inr after ↦ cut.late p after early
      ])

  pub some_from : next_on nodes 0 last ≢ 0 → IsFirstFrom (versions_on nodes 0) key number (Some (version_at nodes (next_on nodes 0 last)))
  some_from some = record {
    stands = mapped (version_at nodes) (places_on nodes 0) (next_on nodes 0 last) (next_held nodes linked key number last cut some);
    late = cut.late (next_on nodes 0 last) (next_after nodes linked key number last cut some);
    first = at_places
        (λ (v : KeyVersion). (GoesBefore v key number → ⊥)
        → (v ≡ version_at nodes (next_on nodes 0 last)) ⊎ Precedes (version_at nodes (next_on nodes 0 last)) v)
        (λ p h late. elim (sides nodes linked key number last cut p h) [
          | inl before ↦ absurd (late (cut.early p before))
          | inr after ↦ elim ((after_sides nodes linked key number last cut p after).1) [
            | inl same ↦ inl (ap (version_at nodes) same)
            | inr later ↦ inr later
          ]
        ]);
  }

  pub none_from : next_on nodes 0 last ≡ 0 → IsFirstFrom (versions_on nodes 0) key number None
  none_from end = at_places (λ (v : KeyVersion). GoesBefore v key number)
      (λ p h. elim (sides nodes linked key number last cut p h) [
        | inl before ↦ cut.early p before
        | inr after ↦ absurd ((after_sides nodes linked key number last cut p after).0 end)
      ])

  -- ---- what cuts the levels at a key and a number cuts them at the first version from there on, too

  -- a place that goes before the one goes before the other
  early_both : next_on nodes 0 last ≢ 0 → (p : ℕ) → Contains (places_on nodes 0) p → GoesBefore (version_at nodes p) key number
      → Precedes (version_at nodes p) (version_at nodes (next_on nodes 0 last))
  early_both some p h early = elim (sides nodes linked key number last cut p h) [
    | inl before ↦ ascend_across nodes cut.before cut.after p (next_on nodes 0 last) ascends before
        (next_after nodes linked key number last cut some)
    | inr after ↦ absurd (cut.late p after early)
  ]

  late_both : (p : ℕ) → Contains (places_on nodes 0) p → (GoesBefore (version_at nodes p) key number → ⊥)
      → Precedes (version_at nodes p) (version_at nodes (next_on nodes 0 last)) → ⊥
  late_both p h late first = elim (sides nodes linked key number last cut p h) [
    | inl before ↦ late (cut.early p before)
    | inr after ↦ elim ((after_sides nodes linked key number last cut p after).1) [
      | inl same ↦ never_before_itself (version_at nodes (next_on nodes 0 last))
          (subst (λ (w : ℕ). Precedes (version_at nodes w) (version_at nodes (next_on nodes 0 last))) same first)
      | inr later ↦ never_before_itself (version_at nodes (next_on nodes 0 last))
          (before_along (version_at nodes (next_on nodes 0 last)) (version_at nodes p) (version_at nodes (next_on nodes 0 last)).key
          (version_at nodes (next_on nodes 0 last)).number later first)
    ]
  ]

  pub same_cut : next_on nodes 0 last ≢ 0 → (level place : ℕ) → level < LEVELS → IsCut nodes level key number place
      → IsCut nodes level (version_at nodes (next_on nodes 0 last)).key (version_at nodes (next_on nodes 0 last)).number place
  same_cut some level place less one = record {
    before = one.before;
    after = one.after;
    is = one.is;
    ends = one.ends;
    early = λ p h. early_both some p (low p (Contains-append_left one.before one.after p h)) (one.early p h);
    late = λ p h. late_both p (low p (Contains-append_right one.before one.after p h)) (one.late p h);
  }
    where
      low : (p : ℕ) → Contains (one.before ++ one.after) p → Contains (places_on nodes 0) p
      low p h = within_lowest nodes linked level p less (subst (λ (l : List ℕ). Contains l p) (sym one.is) h)

  pub same_top_cut : {shared : ℕ} → next_on nodes 0 last ≢ 0 → (top : List Guide) (index : ℕ) → IsTop shared nodes top → IsTopCut nodes (places_of top) key number index
      → IsTopCut nodes (places_of top) (version_at nodes (next_on nodes 0 last)).key (version_at nodes (next_on nodes 0 last)).number index
  same_top_cut some top index is one = record {
    within = one.within;
    early = λ p h. early_both some p (low p (Contains-append_left (take index (places_of top)) (drop index (places_of top)) p h)) (one.early p h);
    late = λ p h. late_both p (low p (Contains-append_right (take index (places_of top)) (drop index (places_of top)) p h)) (one.late p h);
  }
    where
      low : (p : ℕ) → Contains (take index (places_of top) ++ drop index (places_of top)) p → Contains (places_on nodes 0) p
      low p h = within_lowest nodes linked (GUIDE_HEIGHT - 1) p (omega arith)
          (is.places.linked p (subst (λ (l : List ℕ). Contains l p) (take-append-drop index (places_of top)) h))

-- ---- what a node hands over

handed : (held : Held) (key : List ℕ) (value : Option (List ℕ)) → Some (held_of key value) ≡ unless_vacant held → held_of key value ≡ held
handed Vacant key value e = absurd cc
handed (Deletion own) key value e = ap (λ (o : Option Held). unwrap_or o Vacant) e
handed (Set own bytes) key value e = ap (λ (o : Option Held). unwrap_or o Vacant) e

pub nothing_handed : (held : Held) → None ≡ unless_vacant held → is_vacant held ≡ false → ⊥
nothing_handed Vacant e some = absurd cc
nothing_handed (Deletion own) e some = absurd cc
nothing_handed (Set own bytes) e some = absurd cc

handed_version : (node : Node) (key : List ℕ) (value : Option (List ℕ)) → held_of key value ≡ node.held → version_with key node.seq value ≡ version_in node
handed_version node key None is =
    ap (λ (h : Held). let v : KeyVersion = record { key = key_of h; number = node.seq; value = value_of h } in v) is
handed_version node key (Some bytes) is =
    ap (λ (h : Held). let v : KeyVersion = record { key = key_of h; number = node.seq; value = value_of h } in v) is

handed_over : (nodes : List Node) (place : ℕ) (node : Node) (held : Held) (key : List ℕ) (value : Option (List ℕ)) → place < length nodes
    → node ≡ slice_index_or nodes place node → held ≡ (node_at nodes place).held → Some (held_of key value) ≡ unless_vacant held
    → version_with key node.seq value ≡ version_at nodes place
handed_over nodes place node held key value less is was e =
    let same : node ≡ node_at nodes place = is ∙ read_at nodes place node less in
    handed_version node key value (handed held key value e ∙ was ∙ ap (λ (n : Node). n.held) (sym same)) ∙ ap version_in same

-- ---- what is taken out where a search lands

-- The last place before a cut leads on to this place.
pub record LandsOn (nodes : List Node) (first count : ℕ) (key : List ℕ) (seq last place : ℕ) : Type 0 where
  pub arena : IsArena nodes first count
  pub cut : IsCut nodes 0 key seq last
  pub next_is : place ≡ next_on nodes 0 last

-- what an index reads there, in nodes that are the same
pub lands_on : (read nodes : List Node) (first count : ℕ) (key : List ℕ) (seq last : ℕ) (default : Node) → read ≡ nodes
    → IsArena nodes first count → IsCut read 0 key seq last
    → LandsOn nodes first count key seq last (slice_index (slice_index_or read last default).links 0)
lands_on read nodes first count key seq last default is arena cut =
    let here : IsCut nodes 0 key seq last = subst (λ (ns : List Node). IsCut ns 0 key seq last) is cut in record {
      arena = arena;
      cut = here;
      next_is = ap (λ (ns : List Node). slice_index (slice_index_or ns last default).links 0) is
          ∙ (lands_at nodes key seq last default arena.linked (omega (arith, arena.all)) here).is;
    }

-- the same of the nodes that were read
pub read_lands : (read nodes : List Node) (first count : ℕ) (key : List ℕ) (seq last : ℕ) (default : Node) → read ≡ nodes
    → IsArena nodes first count → IsCut read 0 key seq last
    → LandsOn read first count key seq last (slice_index (slice_index_or read last default).links 0)
read_lands read nodes first count key seq last default is arena cut =
    lands_on read read first count key seq last default refl (subst (λ (ns : List Node). IsArena ns first count) (sym is) arena) cut

-- the last place before a cut is one of those that were read
pub spot_within : (read nodes : List Node) (first count : ℕ) (key : List ℕ) (seq last : ℕ) → read ≡ nodes → IsArena nodes first count
    → IsCut read 0 key seq last → last < length read
spot_within read nodes first count key seq last is arena cut =
    let here : IsArena read first count = subst (λ (ns : List Node). IsArena ns first count) (sym is) arena in
    (lands_at read key seq last no_node here.linked (omega (arith, here.all)) cut).within

module _ {nodes : List Node} {first count : ℕ} {key : List ℕ} {seq last place : ℕ} (at : LandsOn nodes first count key seq last place) where
  pub found_none : place ≡ 0 → IsFirstFrom (versions_on nodes 0) key seq None
  found_none end = none_from nodes at.arena.linked key seq last at.cut (sym at.next_is ∙ end)

  module _ (some : place ≢ 0) where
    goes_on : next_on nodes 0 last ≢ 0
    goes_on e = some (at.next_is ∙ e)

    pub found_held : Contains (places_on nodes 0) place
    found_held = subst (Contains (places_on nodes 0)) (sym at.next_is) (next_held nodes at.arena.linked key seq last at.cut goes_on)

    pub found_within : place < length nodes
    found_within = ((at.arena.linked.levels 0 (omega arith)).held place found_held).0

    pub found_read : (read : List Node) (node : Node) → read ≡ nodes → node ≡ slice_index_or read place node → version_in node ≡ version_at nodes place
    found_read read node same is = version_read nodes place node (is ∙ ap (λ (ns : List Node). slice_index_or ns place node) same) found_within

    pub found_filled : is_vacant (node_at nodes place).held ≡ false
    found_filled = ((at.arena.linked.levels 0 (omega arith)).held place found_held).1

    pub found_first : IsFirstFrom (versions_on nodes 0) key seq (Some (version_at nodes place))
    found_first = subst (λ (p : ℕ). IsFirstFrom (versions_on nodes 0) key seq (Some (version_at nodes p))) (sym at.next_is)
        (some_from nodes at.arena.linked key seq last at.cut goes_on)

    -- it can be taken out
    pub found_removal : (read : List Node) (lasts : List ℕ) → read ≡ nodes → AreLastsFor read key seq place lasts
        → Removal nodes lasts place first count (version_at nodes place).key (version_at nodes place).number
    found_removal read lasts is own =
        let here : AreLastsFor nodes key seq place lasts = subst (λ (ns : List Node). AreLastsFor ns key seq place lasts) is own in record {
          arena = at.arena;
          own = λ level less. elim (here level less) [
            | inl one ↦ inl (subst (λ (p : ℕ). IsCut nodes level (version_at nodes p).key (version_at nodes p).number (slice_index lasts level)) (sym at.next_is)
                (same_cut nodes at.arena.linked key seq last at.cut goes_on level (slice_index lasts level) less one))
            | inr none ↦ inr none
          ];
          held = found_held;
          at = (refl, refl);
        }

    pub found_top : {shared : ℕ} (top : List Guide) (index : ℕ) → IsTop shared nodes top → IsTopCut nodes (places_of top) key seq index
        → IsTopCut nodes (places_of top) (version_at nodes place).key (version_at nodes place).number index
    found_top top index top_is top_cut =
        subst (λ (p : ℕ). IsTopCut nodes (places_of top) (version_at nodes p).key (version_at nodes p).number index) (sym at.next_is)
        (same_top_cut nodes at.arena.linked key seq last at.cut goes_on top index top_is top_cut)

    -- what it hands over is its version
    pub found_handed : (read mid : List Node) (node : Node) (held : Held) (key : List ℕ) (value : Option (List ℕ)) → read ≡ nodes → mid ≡ nodes
        → node ≡ slice_index_or read place node → held ≡ (node_at mid place).held → Some (held_of key value) ≡ unless_vacant held
        → version_with key (slice_index_or read place node).seq value ≡ version_at nodes place
    found_handed read mid node held key value same mid_same is was e =
        ap (λ (n : Node). version_with key n.seq value) (sym is)
        ∙ handed_over nodes place node held key value found_within (is ∙ ap (λ (ns : List Node). slice_index_or ns place node) same)
        (was ∙ ap (λ (ns : List Node). (node_at ns place).held) mid_same) e
