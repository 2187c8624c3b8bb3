-- The free places: the first one is taken off, and a new node is none of them.
use Rattle.std.proofs.Common.{◌≡◌, ◌≢◌, ◌⊎◌, inl, inr, ℕ, ◌+◌, ◌-◌, ◌^◌, ◌<◌, ◌≤◌, true, false, List, [], ◌∷◌, ◌++◌, length, Contains, refl, sym, ap, ◌∙◌, subst, arith, length-append}
use Rattle.std.proofs.lemmas.Bool.{cases_order}
use Rattle.std.proofs.lemmas.List.{get_or_append_left, get_or_past, get_or_at}
use Rattle.wal_base.proofs.Laws.{within_head, within_tail}
use Rattle.arena_list.specs.declared.node.Node.{Node}
use Rattle.arena_list.specs.declared.links.FreeList.{FreeList}
use Rattle.arena_list.specs.Chains.{LeadsAlong}
use Rattle.arena_list.specs.Nodes.{is_vacant, no_node, node_at, next_on, places_on, HasNode, IsLinked, AreFree}
use Rattle.arena_list.specs.Steps.{TakesPlace}
use Rattle.arena_list.proofs.Chains.{never_back}

-- the first free place, where there is one
pub record TakesFirst (nodes : List Node) (first count : ℕ) : Type 0 where
  pub rest : List ℕ
  pub there : HasNode nodes true first
  pub none : Contains rest first → ⊥
  pub free : AreFree nodes (next_on nodes 0 first) (count - 1) rest
  pub some : 0 < count

pub first_free : (nodes : List Node) (first count : ℕ) (frees : List ℕ) → AreFree nodes first count frees → first ≢ 0 → TakesFirst nodes first count
first_free nodes first count [] free some = absurd (some free.follows)
first_free nodes first count (place ∷ rest) free some =
    let follows : LeadsAlong (next_on nodes 0) first (first ∷ rest) =
    subst (λ (p : ℕ). LeadsAlong (next_on nodes 0) first (p ∷ rest)) (sym free.follows.0) free.follows in record {
      rest = rest;
      there = subst (HasNode nodes true) (sym free.follows.0) (free.vacant place (within_head place rest));
      none = never_back (next_on nodes 0) first first rest follows;
      free = record {
        follows = follows.2;
        vacant = λ x h. free.vacant x (within_tail place rest x h);
        counted = omega (arith, free.counted);
      };
      some = omega (arith, free.counted);
    }

-- a node more at the end
pub node_kept : (nodes : List Node) (made : Node) (place : ℕ) → place ≢ length nodes → node_at (nodes ++ made ∷ []) place ≡ node_at nodes place
node_kept nodes made place other = elim (cases_order place (length nodes)) [
  | inl is ↦ absurd (other is)
  | inr (inl less) ↦ get_or_append_left nodes (made ∷ []) no_node place less
  | inr (inr more) ↦
      get_or_past (nodes ++ made ∷ []) place no_node (omega (arith, more, length-append nodes (made ∷ [])))
      ∙ sym (get_or_past nodes place no_node (omega (arith, more)))
]

pub node_made : (nodes : List Node) (made : Node) → node_at (nodes ++ made ∷ []) (length nodes) ≡ made
node_made nodes made = get_or_at nodes made [] no_node (length nodes) refl

-- ---- what taking a place leaves

-- A place was taken: it holds nothing, is not linked, and the other free ones are still free.
pub record IsTaken (old : List Node) (free : FreeList) (place : ℕ) (new : List Node) (left : FreeList) : Type 0 where
  pub longer : length old ≤ length new
  pub within : place < length new
  pub some : place ≢ 0
  pub fresh : Contains (places_on old 0) place → ⊥
  pub kept : (other : ℕ) → other ≢ place → node_at new other ≡ node_at old other
  pub frees : List ℕ
  pub none : Contains frees place → ⊥
  pub free_left : AreFree old left.first left.count frees
  pub counts : ((0 < free.count) × (left.count + 1 ≡ free.count) × (length new ≡ length old))
      ⊎ ((free.count ≡ 0) × (left.count ≡ 0) × (length new ≡ length old + 1))
  pub few : length old < 2 ^ 32 → length new < 2 ^ 32

pub is_taken : (old new : List Node) (free left : FreeList) (place : ℕ) (frees : List ℕ) → 0 < length old → IsLinked old
    → AreFree old free.first free.count frees → TakesPlace old free place new left → IsTaken old free place new left
is_taken old new free left place frees head linked are (inl taken) =
    let f = first_free old free.first free.count frees are taken.0 in
    let count : left.count ≡ free.count - 1 = omega (arith, taken.4) in
    let there : HasNode old true place = subst (HasNode old true) (sym taken.1) f.there in record {
      longer = omega (arith, ap length taken.2);
      within = omega (arith, ap length taken.2, there.0);
      some = λ e. taken.0 (sym taken.1 ∙ e);
      fresh = λ h.
          let vacant : is_vacant (node_at old place).held ≡ true = there.1 in
          let filled : is_vacant (node_at old place).held ≡ false = ((linked.levels 0 (omega arith)).held place h).1 in
          absurd cc;
      kept = λ other o. ap (λ (nodes : List Node). node_at nodes other) taken.2;
      frees = f.rest;
      none = subst (λ (p : ℕ). Contains f.rest p → ⊥) (sym taken.1) f.none;
      free_left = subst (λ (p : ℕ). AreFree old p left.count f.rest) (sym (taken.3 ∙ ap (next_on old 0) taken.1))
          (subst (λ (n : ℕ). AreFree old (next_on old 0 free.first) n f.rest) (sym count) f.free);
      counts = inl (f.some, taken.4, ap length taken.2);
      few = λ less. omega (arith, less, ap length taken.2);
    }
is_taken old new free left place frees head linked are (inr made) = record {
  longer = omega (arith, ap length made.1.is, length-append old (made.1.made ∷ []));
  within = omega (arith, ap length made.1.is, length-append old (made.1.made ∷ []), made.1.at);
  some = λ e. omega (arith, head, made.1.at, e);
  fresh = λ h. omega (arith, ((linked.levels 0 (omega arith)).held place h).0, made.1.at);
  kept = λ other o. ap (λ (nodes : List Node). node_at nodes other) made.1.is ∙ node_kept old made.1.made other (λ e. o (e ∙ sym made.1.at));
  frees = frees;
  none = λ h. omega (arith, (are.vacant place h).0, made.1.at);
  free_left = subst (λ (f : FreeList). AreFree old f.first f.count frees) (sym made.2) are;
  counts = inr (
    none_counted frees are,
    ap (λ (f : FreeList). f.count) made.2 ∙ none_counted frees are,
    omega (arith, ap length made.1.is, length-append old (made.1.made ∷ [])),
  );
  few = λ less. omega (arith, made.1.few, ap length made.1.is, length-append old (made.1.made ∷ []));
}
  where
    none_counted : (places : List ℕ) → AreFree old free.first free.count places → free.count ≡ 0
    none_counted [] a = sym a.counted
    none_counted (p ∷ places) a = absurd (a.follows.1 (sym a.follows.0 ∙ made.0))

-- where some are free there is a first one
pub some_first : (nodes : List Node) (first count : ℕ) (frees : List ℕ) → AreFree nodes first count frees → 0 < count → first ≢ 0
some_first nodes first count [] free some = absurd (omega (arith, free.counted, some))
some_first nodes first count (place ∷ rest) free some = λ e. free.follows.1 (sym free.follows.0 ∙ e)
