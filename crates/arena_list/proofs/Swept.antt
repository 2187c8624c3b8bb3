-- A list after a walk that took versions out, as it is seen.
use Rattle.std.specs.List.{filter}
use Rattle.std.proofs.Common.{◌≡◌, ◌⊎◌, inl, inr, ℕ, ◌-◌, ◌<◌, ◌&&◌, not, ltb, Bool, true, false, cond, List, [], ◌∷◌, length, Contains, refl, sym, ap, ◌∙◌, subst, arith}
use Rattle.wal_base.proofs.Laws.{none_within, within_tail, within_head, within_cases}
use Rattle.arena_list.specs.declared.node.TheConstants.{LEVELS, GUIDE_HEIGHT}
use Rattle.arena_list.specs.declared.node.Node.{Node}
use Rattle.arena_list.specs.declared.guide.Guide.{Guide}
use Rattle.arena_list.specs.declared.links.FreeList.{FreeList}
use Rattle.arena_list.specs.Nodes.{is_vacant, node_at, version_at, places_on, AscendPlaces}
use Rattle.arena_list.specs.Versions.{Precedes}
use Rattle.arena_list.specs.Tops.{places_of, IsTop}
use Rattle.arena_list.specs.Keeping.{is_full, Sweeps}
use Rattle.arena_list.proofs.Levels.{unmapped}
use Rattle.arena_list.proofs.Tops.{Stays, place_of, top_some}

-- ---- what a filter keeps

kept_by : {X : Type 0} (b : Bool) (x : X) (xs : List X) (y : X) → Contains (cond b (x ∷ xs) xs) y → ((b ≡ true) × (x ≡ y)) ⊎ Contains xs y
kept_by true x xs y h = elim (within_cases x xs y h) [ inl is ↦ inl (refl, is) | inr rest ↦ inr rest ]
kept_by false x xs y h = inr h

filtered : {X : Type 0} (test : X → Bool) (xs : List X) (x : X) → Contains (filter test xs) x → Contains xs x × (test x ≡ true)
filtered test [] x h = absurd (none_within x h)
filtered test (y ∷ xs) x h = elim (kept_by (test y) y (filter test xs) x h) [
  | inl here ↦ (subst (Contains (y ∷ xs)) here.1 (within_head y xs), ap test (sym here.1) ∙ here.0)
  | inr later ↦ let f = filtered test xs x later in (within_tail y xs x f.0, f.1)
]

ascend_kept : (nodes : List Node) (b : Bool) (x : Guide) (xs : List Guide)
    → ((later : ℕ) → Contains (places_of xs) later → Precedes (version_at nodes x.place) (version_at nodes later))
    → AscendPlaces nodes (places_of xs) → AscendPlaces nodes (places_of (cond b (x ∷ xs) xs))
ascend_kept nodes true x xs first rest = (first, rest)
ascend_kept nodes false x xs first rest = rest

ascend_filter : (nodes : List Node) (test : Guide → Bool) (xs : List Guide) → AscendPlaces nodes (places_of xs)
    → AscendPlaces nodes (places_of (filter test xs))
ascend_filter nodes test [] a = tt
ascend_filter nodes test (x ∷ xs) a =
    ascend_kept nodes (test x) x (filter test xs)
    (λ later h.
    let m = unmapped (λ guide. guide.place) (filter test xs) later h in
    a.0 later (subst (Contains (places_of xs)) m.2 (place_of xs m.0 (filtered test xs m.0 m.1).0))) (ascend_filter nodes test xs a.1)

-- ---- the entries that a search looks at first

is_not : (a b : Bool) → (a && not b) ≡ true → b ≡ true → ⊥
is_not true true e f = absurd cc
is_not true false e f = absurd cc
is_not false b e f = absurd cc

pub swept_top : {shared : ℕ} (old : List Node) (free : FreeList) (marks : List ℕ) (new : List Node) (new_free : FreeList) (removed : ℕ) (top : List Guide)
    → Sweeps old free marks new new_free removed → IsTop shared old top → IsTop shared new (filter (λ guide. is_full new guide.place) top)
swept_top old free marks new new_free removed top swept is =
    top_some old new top is (filter (λ guide. is_full new guide.place) top) (ascend_filter old (λ guide. is_full new guide.place) top is.places.ascends)
    (λ guide h. (filtered (λ g. is_full new g.place) top guide h).0) stays
  where
    there : (guide : Guide) → Contains (filter (λ g. is_full new g.place) top) guide → (level : ℕ) → level < LEVELS
        → Contains (places_on old level) guide.place → Contains (places_on new level) guide.place × (version_at new guide.place ≡ version_at old guide.place)
    there guide h level less was = elim (swept.linked level guide.place less was) [
      | inl kept ↦ kept
      | inr vacant ↦ absurd (is_not (ltb guide.place (length new)) (is_vacant (node_at new guide.place).held)
          (filtered (λ g. is_full new g.place) top guide h).1 vacant)
    ]

    stays : (guide : Guide) → Contains (filter (λ g. is_full new g.place) top) guide → Stays old new guide.place
    stays guide h = (
      (there guide h (GUIDE_HEIGHT - 1) (omega arith)
          (is.places.linked guide.place (place_of top guide (filtered (λ g. is_full new g.place) top guide h).0))).1,
      λ level less was. (there guide h level less was).0,
    )
