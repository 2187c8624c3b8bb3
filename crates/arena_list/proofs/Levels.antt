-- The places of a level, in order, as the function tells them.
use Rattle.std.proofs.Common.{◌≡◌, ◌⊎◌, inl, inr, ℕ, zero, suc, ◌+◌, ◌<◌, List, [], ◌∷◌, ◌++◌, length, map, Contains, refl, sym, ap, ap₂, ◌∙◌, subst, arith}
use Rattle.std.specs.Prelude.{slice_index_or, slice_index}
use Rattle.std.proofs.lemmas.List.{get_or_default}
use Rattle.std.proofs.lemmas.List.FromFn.{get_or-map-range_with_len}
use Rattle.std.proofs.lemmas.List.Elements.{Contains-append_right}
use Rattle.wal_base.proofs.Laws.{none_within, within_head, within_tail, within_cases}
use Rattle.arena_list.specs.declared.node.TheConstants.{LEVELS}
use Rattle.arena_list.specs.declared.node.Held.{Held}
use Rattle.arena_list.specs.declared.node.Node.{Node}
use Rattle.arena_list.specs.Versions.{KeyVersion, Precedes, AscendVersions}
use Rattle.arena_list.specs.Arena.{on_level}
use Rattle.arena_list.specs.Nodes.{key_of, value_of, version_in, node_at, version_at, next_on, places_on, versions_on, arena_of, AscendPlaces, IsLevel, IsLinked}
use Rattle.arena_list.proofs.Chains.{path_of, amid_more, amid_cases}

-- ---- elements of a map

pub mapped : {X Y : Type 0} (f : X → Y) (xs : List X) (x : X) → Contains xs x → Contains (map f xs) (f x)
mapped f [] x h = absurd (none_within x h)
mapped {X} {Y} f (w ∷ xs) x h = elim (within_cases w xs x h) [
  | inl is ↦ subst (λ (v : X). Contains (f w ∷ map f xs) (f v)) is (within_head (f w) (map f xs))
  | inr rest ↦ within_tail (f w) (map f xs) (f x) (mapped f xs x rest)
]

pub unmapped : {X Y : Type 0} (f : X → Y) (xs : List X) (y : Y) → Contains (map f xs) y → (x : X) × Contains xs x × (f x ≡ y)
unmapped f [] y h = absurd (none_within y h)
unmapped f (w ∷ xs) y h = elim (within_cases (f w) (map f xs) y h) [
  | inl is ↦ (w, within_head w xs, is)
  | inr rest ↦ let m = unmapped f xs y rest in (m.0, within_tail w xs m.0 m.1, m.2)
]

pub map_same : {X Y : Type 0} (f g : X → Y) (xs : List X) → ((x : X) → Contains xs x → f x ≡ g x) → map f xs ≡ map g xs
map_same f g [] same = refl
map_same f g (x ∷ xs) same = ap₂ ◌∷◌ (same x (within_head x xs)) (map_same f g xs (λ y h. same y (within_tail x xs y h)))

-- ---- versions that ascend

pub version_same : (one other : Node) → one.held ≡ other.held → one.seq ≡ other.seq → version_in one ≡ version_in other
version_same one other held seq =
    ap₂ (λ (h : Held) (n : ℕ). let v : KeyVersion = record { key = key_of h; number = n; value = value_of h } in v) held seq

pub ascend_same : (old new : List Node) (ps : List ℕ) → ((p : ℕ) → Contains ps p → version_at new p ≡ version_at old p)
    → AscendPlaces old ps → AscendPlaces new ps
ascend_same old new [] same a = tt
ascend_same old new (p ∷ ps) same a = (
  λ q h. subst (λ (v : KeyVersion). Precedes v (version_at new q)) (sym (same p (within_head p ps)))
      (subst (λ (v : KeyVersion). Precedes (version_at old p) v) (sym (same q (within_tail p ps q h))) (a.0 q h)),
  ascend_same old new ps (λ q h. same q (within_tail p ps q h)) a.1,
)

pub ascend_across : (nodes : List Node) (xs ys : List ℕ) (x y : ℕ) → AscendPlaces nodes (xs ++ ys) → Contains xs x → Contains ys y
    → Precedes (version_at nodes x) (version_at nodes y)
ascend_across nodes [] ys x y a hx hy = absurd (none_within x hx)
ascend_across nodes (w ∷ xs) ys x y a hx hy = elim (within_cases w xs x hx) [
  | inl is ↦ subst (λ (p : ℕ). Precedes (version_at nodes p) (version_at nodes y)) is (a.0 y (Contains-append_right xs ys y hy))
  | inr rest ↦ ascend_across nodes xs ys x y a.1 rest hy
]

pub ascend_back : (nodes : List Node) (xs ys : List ℕ) → AscendPlaces nodes (xs ++ ys) → AscendPlaces nodes ys
ascend_back nodes [] ys a = a
ascend_back nodes (x ∷ xs) ys a = ascend_back nodes xs ys a.1

pub ascend_in : (nodes : List Node) (xs ys : List ℕ) (p : ℕ) → AscendPlaces nodes (xs ++ ys)
    → ((x : ℕ) → Contains xs x → Precedes (version_at nodes x) (version_at nodes p))
    → ((y : ℕ) → Contains ys y → Precedes (version_at nodes p) (version_at nodes y)) → AscendPlaces nodes (xs ++ p ∷ ys)
ascend_in nodes [] ys p a before after = (after, a)
ascend_in nodes (x ∷ xs) ys p a before after = (
  λ q h. later q h,
  ascend_in nodes xs ys p a.1 (λ w h. before w (within_tail x xs w h)) after,
)
  where
    later : (q : ℕ) → Contains (xs ++ p ∷ ys) q → Precedes (version_at nodes x) (version_at nodes q)
    later q h = elim (amid_cases xs ys p q h) [
      | inl is ↦ subst (λ (w : ℕ). Precedes (version_at nodes x) (version_at nodes w)) is (before x (within_head x xs))
      | inr other ↦ a.0 q other
    ]

pub ascend_out : (nodes : List Node) (xs ys : List ℕ) (p : ℕ) → AscendPlaces nodes (xs ++ p ∷ ys) → AscendPlaces nodes (xs ++ ys)
ascend_out nodes [] ys p a = a.1
ascend_out nodes (x ∷ xs) ys p a = (λ q h. a.0 q (amid_more xs ys p q h), ascend_out nodes xs ys p a.1)

-- of two places one is first
pub ascend_apart : (nodes : List Node) (ps : List ℕ) (x y : ℕ) → AscendPlaces nodes ps → Contains ps x → Contains ps y
    → (x ≡ y) ⊎ (Precedes (version_at nodes x) (version_at nodes y) ⊎ Precedes (version_at nodes y) (version_at nodes x))
ascend_apart nodes [] x y a hx hy = absurd (none_within x hx)
ascend_apart nodes (p ∷ ps) x y a hx hy = go (ascend_apart nodes ps x y a.1) (within_cases p ps x hx) (within_cases p ps y hy)
  where
    go : (Contains ps x → Contains ps y → (x ≡ y) ⊎ (Precedes (version_at nodes x) (version_at nodes y) ⊎ Precedes (version_at nodes y) (version_at nodes x)))
        → (p ≡ x) ⊎ Contains ps x → (p ≡ y) ⊎ Contains ps y
        → (x ≡ y) ⊎ (Precedes (version_at nodes x) (version_at nodes y) ⊎ Precedes (version_at nodes y) (version_at nodes x))
    go rest (inl ex) (inl ey) = inl (sym ex ∙ ey)
    go rest (inl ex) (inr y') = inr (inl (subst (λ (w : ℕ). Precedes (version_at nodes w) (version_at nodes y)) ex (a.0 y y')))
    go rest (inr x') (inl ey) = inr (inr (subst (λ (w : ℕ). Precedes (version_at nodes w) (version_at nodes x)) ey (a.0 x x')))
    go rest (inr x') (inr y') = rest x' y'

pub ascend_versions : (nodes : List Node) (ps : List ℕ) → AscendPlaces nodes ps → AscendVersions (map (version_at nodes) ps)
unfolding AscendVersions
ascend_versions nodes [] a = tt
ascend_versions nodes (p ∷ ps) a = (
  λ v h. let m = unmapped (version_at nodes) ps v h in subst (λ (w : KeyVersion). Precedes (version_at nodes p) w) m.2 (a.0 m.0 m.1),
  ascend_versions nodes ps a.1,
)

-- ---- levels

pub level_is : (nodes : List Node) (level : ℕ) (places : List ℕ) → IsLevel nodes level places → places_on nodes level ≡ places
unfolding places_on
level_is nodes level places is =
    path_of (next_on nodes level) (next_on nodes level 0) places (length nodes) is.follows (λ p h. (is.held p h).0)

-- the level itself, once its places are known
pub level_of : (nodes : List Node) (level : ℕ) (places : List ℕ) → IsLevel nodes level places → IsLevel nodes level (places_on nodes level)
level_of nodes level places is = subst (IsLevel nodes level) (sym (level_is nodes level places is)) is

pub within_lowest : (nodes : List Node) → IsLinked nodes → (level place : ℕ) → level < LEVELS → Contains (places_on nodes level) place
    → Contains (places_on nodes 0) place
within_lowest nodes is zero place less h = h
within_lowest nodes is (suc level) place less h =
    within_lowest nodes is level place (omega (arith, less))
    (is.below level place (omega (arith, less)) (subst (λ (n : ℕ). Contains (places_on nodes n) place) (one_more level) h))
  where
    one_more : (n : ℕ) → suc n ≡ n + 1
    one_more n = omega arith

-- what is linked at a level is linked at each one below
pub within_lower : (nodes : List Node) → IsLinked nodes → (low more place : ℕ) → low + more < LEVELS → Contains (places_on nodes (low + more)) place
    → Contains (places_on nodes low) place
within_lower nodes is low zero place less h = subst (λ (n : ℕ). Contains (places_on nodes n) place) (no_more low) h
  where
    no_more : (n : ℕ) → n + zero ≡ n
    no_more n = omega arith
within_lower nodes is low (suc more) place less h =
    within_lower nodes is low more place (omega (arith, less))
    (is.below (low + more) place (omega (arith, less)) (subst (λ (n : ℕ). Contains (places_on nodes n) place) (one_more low more) h))
  where
    one_more : (m n : ℕ) → m + suc n ≡ m + n + 1
    one_more m n = omega arith

-- what is seen of a level
pub on_level_is : (nodes : List Node) (count level : ℕ) → level < LEVELS → on_level (arena_of nodes count) level ≡ versions_on nodes level
on_level_is nodes count level less = get_or-map-range_with_len (versions_on nodes) 0 LEVELS level level [] less (omega arith)

-- ---- what an index reads

pub read_at : (nodes : List Node) (place : ℕ) (default : Node) → place < length nodes → slice_index_or nodes place default ≡ node_at nodes place
read_at nodes place default less = get_or_default nodes place default (node_at [] 0) less

pub read_next : (nodes : List Node) (level place : ℕ) (default : Node) → place < length nodes
    → slice_index (slice_index_or nodes place default).links level ≡ next_on nodes level place
read_next nodes level place default less = ap (λ (n : Node). slice_index n.links level) (read_at nodes place default less)

pub read_version : (nodes : List Node) (place : ℕ) (default : Node) → place < length nodes
    → version_in (slice_index_or nodes place default) ≡ version_at nodes place
read_version nodes place default less = ap version_in (read_at nodes place default less)

-- the same of what it has read
pub version_read : (nodes : List Node) (place : ℕ) (node : Node) → node ≡ slice_index_or nodes place node → place < length nodes
    → version_in node ≡ version_at nodes place
version_read nodes place node is less = ap version_in is ∙ read_version nodes place node less
