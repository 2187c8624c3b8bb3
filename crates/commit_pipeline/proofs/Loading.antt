-- The versions of a base, in eight shards.
use Rattle.std.proofs.Common.{◌≡◌, ◌∙◌, inl, inr, ℕ, ◌+◌, ◌<◌, List, [], ◌∷◌, ◌++◌, length, take, get_or, Some, ap, sym, subst, arith}
use Rattle.std.specs.Prelude.{Contains, slice_get}
use Rattle.std.proofs.lemmas.List.{take_more}
use Rattle.std.proofs.lemmas.List.Elements.{Contains-append_cases}
use Rattle.std.proofs.lemmas.Option.{slice_get-get_or}
use Rattle.wal_base.proofs.Laws.{none_within}
use Rattle.batch_repr.specs.declared.batch.Batch.{Batch}
use Rattle.batch_repr.specs.Batches.{end_of, IsContiguous, end_after}
use Rattle.batch_repr.proofs.Laws.{end_up}
use Rattle.memtable_shards.specs.Versions.{Version}
use Rattle.memtable_shards.specs.Versions.{versions_of, versions_in, AreShardsOf}
use Rattle.memtable_shards.proofs.Laws.{version_within}
use Rattle.commit_queue.specs.Shards.{NumberedBelow}
use Rattle.commit_pipeline.specs.Openings.{first_number, EndsBefore}
use Rattle.commit_pipeline.specs.Parts.{HaveReached, GainBatch}
use Rattle.commit_pipeline.proofs.EndsBefore.{StandsAt, stands_at}

-- ---- the base, batch by batch

-- where the batch of a turn stands in the base
pub turn : (base : List Batch) (next index : ℕ) (batch : Batch) → EndsBefore base next → index < length base
    → batch ≡ get_or base index batch → StandsAt (first_number next base) next base index batch
turn base next index batch ends low is =
    subst (StandsAt (first_number next base) next base index) (sym is)
    (stands_at (first_number next base) next base index batch ends.contiguous (omega (arith, ends.ends)) low)

-- The shards of the batches before it end where it begins.
pub turn_reached : (base : List Batch) (next index : ℕ) (batch : Batch) (shards : List (List Version))
    → StandsAt (first_number next base) next base index batch → AreShardsOf shards (take index base) → HaveReached batch.first shards
turn_reached base next index batch shards at are = record {
  start = first_number next base;
  batches = take index base;
  contiguous = at.before;
  ends = sym at.first;
  are = are;
}

-- and with it they are the shards of one batch more
pub turn_added : (base : List Batch) (index : ℕ) (batch : Batch) (old new : List (List Version)) → index < length base
    → batch ≡ get_or base index batch → GainBatch batch old new → AreShardsOf old (take index base) → AreShardsOf new (take (index + 1) base)
turn_added base index batch old new low is gains are = subst (AreShardsOf new) more (gains (take index base) are)
  where
    more : take index base ++ batch ∷ [] ≡ take (index + 1) base
    more = ap (λ (b : Batch). take index base ++ b ∷ []) is ∙ sym (take_more base index batch low)

-- ---- numbers

-- A version that batches in a row leave is numbered below their end.
numbered_under : (from : ℕ) (batches : List Batch) (version : Version) → IsContiguous from batches → Contains (versions_in batches) version
    → version.number < end_after from batches
unfolding IsContiguous end_after
numbered_under from [] version row h = absurd (none_within version h)
numbered_under from (b ∷ batches) version row h = elim (Contains-append_cases (versions_of b) (versions_in batches) version h) [
  | inl here ↦ omega (arith, (version_within b version here).1, end_up (end_of b) batches row.2)
  | inr later ↦ numbered_under (end_of b) batches version row.2 later
]

-- The shards of a base have no version numbered as high as the number after it.
pub numbered_below : (base : List Batch) (next : ℕ) (shards : List (List Version)) → EndsBefore base next → AreShardsOf shards base
    → NumberedBelow next shards
numbered_below base next shards ends are shard version at has =
    let here : slice_get shards at.0 ≡ Some shard = slice_get-get_or shards at.0 shard at.1 ∙ ap Some at.2 in
    omega (arith, ends.ends, numbered_under (first_number next base) base version ends.contiguous ((are.own at.0 shard here version).0 has).0)
