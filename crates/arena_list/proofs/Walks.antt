-- A walk along a level: at the end nothing is left, and before it the next version and the rest.
use Rattle.std.proofs.Common.{◌≡◌, ◌≢◌, ℕ, zero, suc, ◌<◌, List, [], ◌∷◌, length, map, Contains, refl, sym, ap, ap₂, ◌∙◌, subst, slice_index, slice_index_or}
use Rattle.wal_base.proofs.Laws.{within_head, within_tail}
use Rattle.arena_list.specs.declared.node.TheConstants.{LEVELS}
use Rattle.arena_list.specs.declared.node.Node.{Node}
use Rattle.arena_list.specs.Versions.{KeyVersion}
use Rattle.arena_list.specs.Chains.{LeadsAlong, path}
use Rattle.arena_list.specs.Nodes.{version_in, version_at, next_on, places_on, versions_on, versions_along, IsLinked, IsOnLevel}
use Rattle.arena_list.proofs.Chains.{path_of}
use Rattle.arena_list.proofs.Levels.{read_next, read_version}

pub walk_begins : (nodes : List Node) (level : ℕ) (default : Node) → IsLinked nodes → level < LEVELS → 0 < length nodes
    → IsOnLevel nodes level (slice_index (slice_index_or nodes 0 default).links level)
walk_begins nodes level default linked less some = record {
  within = less;
  rest = places_on nodes level;
  follows = subst (λ (p : ℕ). LeadsAlong (next_on nodes level) p (places_on nodes level)) (sym (read_next nodes level 0 default some))
      (linked.levels level less).follows;
  there = λ p h. ((linked.levels level less).held p h).0;
}

pub walk_whole : (nodes : List Node) (level : ℕ) (default : Node) → 0 < length nodes
    → versions_along nodes level (slice_index (slice_index_or nodes 0 default).links level) ≡ versions_on nodes level
unfolding places_on
walk_whole nodes level default some = ap (versions_along nodes level) (read_next nodes level 0 default some)

path_none : (next : ℕ → ℕ) (n : ℕ) → path next 0 n ≡ []
unfolding path
path_none next zero = refl
path_none next (suc n) = refl

pub walk_ends : (nodes : List Node) (level at : ℕ) → at ≡ 0 → versions_along nodes level at ≡ []
walk_ends nodes level at end =
    ap (versions_along nodes level) end ∙ ap (map (version_at nodes)) (path_none (next_on nodes level) (length nodes))

-- What a step of a walk meets, and what it leaves.
pub record StepsOn (nodes : List Node) (level at : ℕ) : Type 0 where
  pub there : at < length nodes
  pub on : IsOnLevel nodes level (next_on nodes level at)
  pub is : versions_along nodes level at ≡ version_at nodes at ∷ versions_along nodes level (next_on nodes level at)

pub steps_on : (nodes : List Node) (level at : ℕ) → IsOnLevel nodes level at → at ≢ 0 → StepsOn nodes level at
steps_on nodes level at on some = go on.rest on.follows (λ p h. on.there p h)
  where
    go : (rest : List ℕ) → LeadsAlong (next_on nodes level) at rest → ((p : ℕ) → Contains rest p → p < length nodes) → StepsOn nodes level at
    go [] f there = absurd (some f)
    go (p ∷ rest) f there =
        let next : ℕ → ℕ = next_on nodes level in
        let follows : LeadsAlong next (next at) rest = subst (λ (q : ℕ). LeadsAlong next (next q) rest) (sym f.0) f.2 in
        let whole : path next at (length nodes) ≡ p ∷ rest = path_of next at (p ∷ rest) (length nodes) f there in
        let left : path next (next at) (length nodes) ≡ rest =
        path_of next (next at) rest (length nodes) follows (λ q h. there q (within_tail p rest q h)) in record {
          there = subst (λ (q : ℕ). q < length nodes) (sym f.0) (there p (within_head p rest));
          on = record {
            within = on.within;
            rest = rest;
            follows = follows;
            there = λ q h. there q (within_tail p rest q h);
          };
          is = ap (map (version_at nodes)) (whole ∙ ap (λ (q : ℕ). q ∷ rest) (sym f.0))
              ∙ ap (λ (l : List ℕ). version_at nodes at ∷ map (version_at nodes) l) (sym left);
        }

-- the same of what an index reads
pub step_goes : (nodes : List Node) (level at : ℕ) (default : Node) → IsOnLevel nodes level at → at ≢ 0
    → IsOnLevel nodes level (slice_index (slice_index_or nodes at default).links level)
step_goes nodes level at default on some =
    let s = steps_on nodes level at on some in subst (IsOnLevel nodes level) (sym (read_next nodes level at default s.there)) s.on

pub step_shows : (nodes : List Node) (level at : ℕ) (default : Node) (shown : KeyVersion) → IsOnLevel nodes level at → at ≢ 0
    → shown ≡ version_in (slice_index_or nodes at default)
    → versions_along nodes level at ≡ shown ∷ versions_along nodes level (slice_index (slice_index_or nodes at default).links level)
step_shows nodes level at default shown on some shows =
    let s = steps_on nodes level at on some in
    s.is ∙ ap₂ ◌∷◌ (sym (shows ∙ read_version nodes at default s.there))
    (ap (versions_along nodes level) (sym (read_next nodes level at default s.there)))
