-- Eight shards over batches in a row, as the tests keep them.
use Rattle.std.proofs.Common.{◌≡◌, ℕ, ◌<◌, List, [], ◌∷◌, ◌++◌, length, Some, refl, sym, ap, ◌∙◌, subst, get_or}
use Rattle.std.specs.Prelude.{Contains, slice_get, ◌↔◌}
use Rattle.std.specs.List.{AllByRecursion}
use Rattle.std.proofs.Math.ListN.{set}
use Rattle.std.proofs.lemmas.Option.{slice_get-get_or}
use Rattle.batch_repr.specs.declared.batch.Batch.{Batch}
use Rattle.batch_repr.specs.Batches.{count_of, end_of, IsContiguous, end_after}
use Rattle.memtable_shards.specs.Versions.{Version}
use Rattle.memtable_shards.specs.Versions.{AreShardsOf}
use Rattle.memtable_shards.proofs.Applying.{shards_settled}

pub all_empty : (xs ys : List (List Version)) (x : List Version) → ys ≡ xs ++ x ∷ [] → x ≡ [] → AllByRecursion (λ (l : List Version). l ≡ []) xs
    → AllByRecursion (λ (l : List Version). l ≡ []) ys
all_empty xs ys x is none all = subst (AllByRecursion (λ (l : List Version). l ≡ [])) (sym is) (go xs all)
  where
    go : (xs : List (List Version)) → AllByRecursion (λ (l : List Version). l ≡ []) xs → AllByRecursion (λ (l : List Version). l ≡ []) (xs ++ x ∷ [])
    go [] all = (none, tt)
    go (y ∷ xs) all = (all.0, go xs all.1)

pub no_batch : IsContiguous 10 []
unfolding IsContiguous
no_batch = tt

pub no_end : 10 ≡ end_after 10 []
unfolding end_after
no_end = refl

-- one batch more in the row
pub row_more : (start : ℕ) (batches : List Batch) (batch : Batch) → IsContiguous start batches → batch.first ≡ end_after start batches
    → 0 < count_of batch.entries → IsContiguous start (batches ++ batch ∷ [])
unfolding IsContiguous end_after
row_more start [] batch row first some = (first, some, tt)
row_more start (b ∷ batches) batch row first some = (row.0, row.1, row_more (end_of b) batches batch row.2 first some)

pub end_more : (start : ℕ) (batches : List Batch) (batch : Batch) → end_after start (batches ++ batch ∷ []) ≡ end_of batch
unfolding end_after
end_more start [] batch = refl
end_more start (b ∷ batches) batch = end_more (end_of b) batches batch

-- the shards have some batches, which end here
abbrev pub Rig : List (List Version) → ℕ → Type 0
Rig shards next = (batches : List Batch) × IsContiguous 10 batches × (next ≡ end_after 10 batches) × AreShardsOf shards batches

pub settled_rig : (shards : List (List Version)) (next at : ℕ) (old new : List Version) → Rig shards next → old ≡ get_or shards at old
    → at < length shards → ((v : Version) → Contains new v ↔ Contains old v) → Rig (set shards at new) next
settled_rig shards next at old new rig is within same = (
  rig.0,
  rig.1,
  rig.2,
  shards_settled shards rig.0 at old new rig.3
      (slice_get-get_or shards at old within ∙ ap Some (sym is)) same,
)

-- the shard at a place
pub shard_at : (shards : List (List Version)) (at : ℕ) (shard : List Version) → shard ≡ get_or shards at shard → at < length shards
    → slice_get shards at ≡ Some shard
shard_at shards at shard is within = slice_get-get_or shards at shard within ∙ ap Some (sym is)
