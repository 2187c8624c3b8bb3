-- The shards that a batch leaves versions in, and what it leaves in each.
use Rattle.std.proofs.Common.{◌≡◌, ◌≢◌, ◌⊎◌, inl, inr, ℕ, zero, suc, ◌+◌, ◌≤◌, ◌<◌, List, [], ◌∷◌, ◌++◌, length, take, Some, IsTrue, refl, sym, ◌∙◌, subst, arith}
use Rattle.std.specs.Prelude.{Contains, nat_lt, ◌↔◌}
use mathlib.Core.Option.{some, some-injective, some-ne-none}
use lib.ListN.{get_elem?}
use Rattle.std.proofs.lemmas.Bool.Decides.{nat_tests}
use Rattle.std.proofs.lemmas.List.Elements.{Contains-append_left, Contains-append_right, Contains-append_cases}
use Rattle.wal_base.proofs.Laws.{none_within, within_head}
use Rattle.batch_repr.specs.declared.batch.Batch.{Batch}
use Rattle.batch_repr.specs.Batches.{count_of}
use Rattle.memtable_shards.specs.declared.sharding.TheConstants.{SHARDS}
use Rattle.memtable_shards.specs.Versions.{Version}
use Rattle.memtable_shards.specs.Versions.{versions_of, versions_in, IsIn, of_shard, piece_in, touches, HaveBelow}
use Rattle.memtable_shards.specs.Pieces.{PiecesLeft, versions_cut, IsNextPiece, NoPieceIsLeft}
use Rattle.memtable_shards.proofs.Numbers.{number_within}
use Rattle.memtable_shards.proofs.Cutting.{shard_below, kept, kept_from}
use Rattle.memtable_shards.proofs.Answering.{versions_in-append}
use Rattle.memtable_shards.proofs.Applying.{cut_is, piece_of}

-- ---- one batch

-- the numbers of a batch's versions
pub version_within : (batch : Batch) (version : Version) → Contains (versions_of batch) version
    → (batch.first ≤ version.number) × (version.number < batch.first + count_of batch.entries)
version_within batch version h = number_within batch.first batch.entries version h

pub in_piece : (shard : ℕ) (batch : Batch) (version : Version)
    → Contains (piece_in shard batch) version ↔ (Contains (versions_of batch) version × IsIn version shard)
in_piece shard batch version = (kept_from shard (versions_of batch) version, λ h. kept shard (versions_of batch) version h.0 h.1)

pub touched_some : (batch : Batch) (shard : ℕ) → piece_in shard batch ≢ [] → IsTrue (touches batch shard)
touched_some batch shard full = go (piece_in shard batch) full
  where
    go : (versions : List Version) → versions ≢ [] → IsTrue (nat_lt 0 (length versions))
    go [] full = absurd (full refl)
    go (version ∷ versions) full = grind (arith, nat_tests)

pub touched : (shard : ℕ) (batch : Batch) (version : Version) → Contains (piece_in shard batch) version → IsTrue (touches batch shard)
touched shard batch version h = touched_some batch shard (λ none. none_within version (subst (λ (l : List Version). Contains l version) none h))

-- a version that the batch leaves there
touching : (batch : Batch) (shard : ℕ) → IsTrue (touches batch shard) → (version : Version) × Contains (piece_in shard batch) version
touching batch shard touch = go (piece_in shard batch) touch
  where
    go : (versions : List Version) → IsTrue (nat_lt 0 (length versions)) → (version : Version) × Contains versions version
    go [] touch = absurd cc
    go (version ∷ versions) touch = (version, within_head version versions)

-- a version of the batch that belongs to that shard
touching_key : (batch : Batch) (shard : ℕ) → IsTrue (touches batch shard)
    → (version : Version) × Contains (versions_of batch) version × IsIn version shard
touching_key batch shard touch =
    let one = touching batch shard touch in
    let its = (in_piece shard batch one.0).0 one.1 in
    (one.0, its.0, its.1)

pub touches_below : (batch : Batch) (shard : ℕ) → IsTrue (touches batch shard) → shard < SHARDS
touches_below batch shard touch = let one = touching_key batch shard touch in shard_below shard one.0 one.2

-- ---- many batches

pub versions_at : (batches : List Batch) (i : ℕ) (batch : Batch) (version : Version) → get_elem? batches i ≡ some batch
    → Contains (versions_of batch) version → Contains (versions_in batches) version
versions_at [] i batch version at h = absurd (some-ne-none batch (sym at))
versions_at (b ∷ batches) zero batch version at h = Contains-append_left (versions_of b) (versions_in batches) version
    (subst (λ (x : Batch). Contains (versions_of x) version) (sym (some-injective b batch at)) h)
versions_at (b ∷ batches) (suc i) batch version at h =
    Contains-append_right (versions_of b) (versions_in batches) version (versions_at batches i batch version at h)

pub in_versions : (batches : List Batch) (version : Version) → Contains (versions_in batches) version
    → (i : ℕ) × (batch : Batch) × (get_elem? batches i ≡ some batch) × Contains (versions_of batch) version
in_versions [] version h = absurd (none_within version h)
in_versions (b ∷ batches) version h = elim (Contains-append_cases (versions_of b) (versions_in batches) version h) [
  | inl here ↦ (0, b, refl, here)
  | inr later ↦ let found = in_versions batches version later in (suc found.0, found.1, found.2, found.3)
]

-- what stands among the first n, and where
front_at : (n i : ℕ) (batches : List Batch) (batch : Batch) → i < n → get_elem? batches i ≡ some batch → get_elem? (take n batches) i ≡ some batch
front_at zero i batches batch before at = absurd (omega (arith, before))
front_at (suc n) i [] batch before at = at
front_at (suc n) zero (b ∷ batches) batch before at = at
front_at (suc n) (suc i) (b ∷ batches) batch before at = front_at n i batches batch (omega (arith, before)) at

at_front : (n i : ℕ) (batches : List Batch) (batch : Batch) → get_elem? (take n batches) i ≡ some batch → (i < n) × (get_elem? batches i ≡ some batch)
at_front zero i batches batch at = absurd (some-ne-none batch (sym at))
at_front (suc n) i [] batch at = absurd (some-ne-none batch (sym at))
at_front (suc n) zero (b ∷ batches) batch at = (omega arith, at)
at_front (suc n) (suc i) (b ∷ batches) batch at = let rest = at_front n i batches batch at in (omega (arith, rest.0), rest.1)

pub versions_take : (n i : ℕ) (batches : List Batch) (batch : Batch) (version : Version) → i < n → get_elem? batches i ≡ some batch
    → Contains (versions_of batch) version → Contains (versions_in (take n batches)) version
versions_take n i batches batch version before at h = versions_at (take n batches) i batch version (front_at n i batches batch before at) h

pub in_versions_take : (n : ℕ) (batches : List Batch) (version : Version) → Contains (versions_in (take n batches)) version
    → (i : ℕ) × (batch : Batch) × (i < n) × (get_elem? batches i ≡ some batch) × Contains (versions_of batch) version
in_versions_take n batches version h =
    let found = in_versions (take n batches) version h in
    let at = at_front n found.0 batches found.1 found.2 in
    (found.0, found.1, at.0, at.1, found.3)

-- A shard that had the versions of some batches has, below a limit, those of further ones too.
pub below_append : (limit : ℕ) (base batches : List Batch) (shard : ℕ) (versions first : List Version)
    → ((v : Version) → Contains first v ↔ (Contains (versions_in base) v × IsIn v shard))
    → ((v : Version) → v.number < limit → Contains versions v ↔ (Contains first v ⊎ Contains (of_shard shard (versions_in batches)) v))
    → HaveBelow limit (base ++ batches) shard versions
below_append limit base batches shard versions first was has v below = (λ h. to ((has v below).0 h), λ h. (has v below).1 (from h))
  where
    whole : versions_in (base ++ batches) ≡ versions_in base ++ versions_in batches
    whole = versions_in-append base batches

    to : Contains first v ⊎ Contains (of_shard shard (versions_in batches)) v → Contains (versions_in (base ++ batches)) v × IsIn v shard
    to (inl h) = let old = (was v).0 h in
        (subst (λ (l : List Version). Contains l v) (sym whole) (Contains-append_left (versions_in base) (versions_in batches) v old.0), old.1)
    to (inr h) = let more = kept_from shard (versions_in batches) v h in
        (subst (λ (l : List Version). Contains l v) (sym whole) (Contains-append_right (versions_in base) (versions_in batches) v more.0), more.1)

    from : Contains (versions_in (base ++ batches)) v × IsIn v shard → Contains first v ⊎ Contains (of_shard shard (versions_in batches)) v
    from (h, own) = elim (Contains-append_cases (versions_in base) (versions_in batches) v (subst (λ (l : List Version). Contains l v) whole h)) [
      | inl old ↦ inl ((was v).1 (old, own))
      | inr more ↦ inr (kept shard (versions_in batches) v more own)
    ]

-- ---- the pieces of a batch

pub next_is_piece : (pieces : PiecesLeft) (batch : Batch) (shard : ℕ) (versions : List Version) → pieces.entries ≡ batch.entries
    → pieces.first ≡ Some batch.first → IsNextPiece pieces shard versions → (versions ≡ piece_in shard batch) × IsTrue (touches batch shard)
next_is_piece pieces batch shard versions entries first next = (is, touched_some batch shard (λ none. next.some (is ∙ none)))
  where
    is : versions ≡ piece_in shard batch
    is = piece_of pieces batch shard versions entries first next

-- a version of a shard that the batch touches, among those that are cut
cut_key : (pieces : PiecesLeft) (batch : Batch) (shard : ℕ) → pieces.entries ≡ batch.entries → pieces.first ≡ Some batch.first
    → IsTrue (touches batch shard) → (version : Version) × Contains (versions_cut pieces) version × IsIn version shard
cut_key pieces batch shard entries first touch =
    let one = touching_key batch shard touch in
    (one.0, subst (λ (l : List Version). Contains l one.0) (sym (cut_is pieces batch entries first)) one.1, one.2)

pub none_between : (pieces : PiecesLeft) (batch : Batch) (shard : ℕ) (versions : List Version) → pieces.entries ≡ batch.entries
    → pieces.first ≡ Some batch.first → IsNextPiece pieces shard versions → (k : ℕ) → IsTrue (touches batch k) → pieces.from ≤ k → shard ≤ k
none_between pieces batch shard versions entries first next k touch on =
    let one = cut_key pieces batch k entries first touch in
    next.next one.0 k one.1 one.2 on

pub none_left : (pieces : PiecesLeft) (batch : Batch) → pieces.entries ≡ batch.entries → pieces.first ≡ Some batch.first → NoPieceIsLeft pieces
    → (k : ℕ) → IsTrue (touches batch k) → k < pieces.from
none_left pieces batch entries first none k touch =
    let one = cut_key pieces batch k entries first touch in
    none one.0 k one.1 one.2
