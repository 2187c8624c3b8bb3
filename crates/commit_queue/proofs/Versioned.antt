-- The versions of a shard: what keeps them, what a batch adds, and what is seen below the end of the first batches.
use Rattle.std.proofs.Common.{◌≡◌, ◌≢◌, ◌⊎◌, inl, inr, ⊎_elim, ℕ, zero, suc, ◌+◌, ◌≤◌, ◌<◌, List, [], ◌∷◌, ◌++◌, length, take, refl, sym, ap, ◌∙◌, subst, lt_of_not-le, arith}
use Rattle.std.specs.Prelude.{Contains}
use mathlib.Core.Logic.{dite}
use mathlib.Core.Option.{some, some-injective, some-ne-none}
use native.Mathlib.Decide.{dec_le}
use lib.ListN.{get_elem?}
use Rattle.std.proofs.lemmas.Option.{slice_get_within, get_or_from_slice_get}
use Rattle.std.proofs.lemmas.List.Elements.{Contains-append_left, Contains-append_right, Contains-append_cases, filter-append}
use Rattle.wal_base.specs.Prefixes.{IsPrefixOf}
use Rattle.wal_base.proofs.Laws.{none_within, at_prefix}
use Rattle.batch_repr.specs.declared.batch.Batch.{Batch}
use Rattle.batch_repr.specs.Batches.{IsContiguous, end_of}
use Rattle.memtable_shards.specs.Versions.{Version}
use Rattle.memtable_shards.specs.Versions.{versions_of, versions_in, of_shard, piece_in, Gains, HasSameVersions}
use Rattle.memtable_shards.proofs.Laws.{version_within, in_piece, touched}
use Rattle.publish_core.specs.Machine.{Among, ends}
use Rattle.publish_core.proofs.Laws.{ends_mono}
use Rattle.commit_queue.specs.Shards.{NumberedBelow, IsApplied, HasVersions, AreApplied, ShowsBelow, LacksPiece}
use Rattle.commit_queue.specs.Rule.{numbers}
use Rattle.commit_queue.proofs.Becomes.{prefix_at}

-- ---- the pieces of the first batches

-- what a batch leaves in the shard is among what they all leave there
piece_at : (k n i : ℕ) (batches : List Batch) (b : Batch) (v : Version) → i < n → get_elem? batches i ≡ some b → Contains (piece_in k b) v
    → Contains (of_shard k (versions_in (take n batches))) v
piece_at k zero i batches b v near at h = absurd (omega (arith, near))
piece_at k (suc n) i [] b v near at h = absurd (some-ne-none b (sym at))
piece_at k (suc n) zero (x ∷ batches) b v near at h = subst (λ (l : List Version). Contains l v)
    (sym (filter-append _ (versions_of x) (versions_in (take n batches))))
    (Contains-append_left (piece_in k x) (of_shard k (versions_in (take n batches))) v
    (subst (λ (y : Batch). Contains (piece_in k y) v) (sym (some-injective x b at)) h))
piece_at k (suc n) (suc i) (x ∷ batches) b v near at h = subst (λ (l : List Version). Contains l v)
    (sym (filter-append _ (versions_of x) (versions_in (take n batches))))
    (Contains-append_right (piece_in k x) (of_shard k (versions_in (take n batches))) v
    (piece_at k n i batches b v (omega (arith, near)) at h))

-- and each that they leave there is one that some batch of them leaves
at_piece : (k n : ℕ) (batches : List Batch) (v : Version) → Contains (of_shard k (versions_in (take n batches))) v
    → (i : ℕ) × (b : Batch) × (i < n) × (get_elem? batches i ≡ some b) × Contains (piece_in k b) v
at_piece k zero batches v h = absurd (none_within v h)
at_piece k (suc n) [] v h = absurd (none_within v h)
at_piece k (suc n) (x ∷ batches) v h = elim
    (Contains-append_cases (piece_in k x) (of_shard k (versions_in (take n batches))) v
    (subst (λ (l : List Version). Contains l v) (filter-append _ (versions_of x) (versions_in (take n batches))) h)) [
      | inl here ↦ (0, x, omega arith, refl, here)
      | inr later ↦ let rest = at_piece k n batches v later in (suc rest.0, rest.1, omega (arith, rest.2), rest.3, rest.4)
    ]

-- ---- the numbers of batches that begin where the one before ends

-- Each batch begins at the end of those before it, the first one at the base.
abbrev pub BeginInOrder : ℕ → List Batch → Type 0
BeginInOrder base batches = (i : ℕ) (b : Batch) → get_elem? batches i ≡ some b → b.first ≡ ends numbers base batches i

-- a batch ends so many numbers after the one before
pub ends_next : (base : ℕ) (batches : List Batch) (i : ℕ) (b : Batch) → get_elem? batches i ≡ some b
    → ends numbers base batches (suc i) ≡ ends numbers base batches i + numbers b
ends_next base [] i b at = absurd (some-ne-none b (sym at))
ends_next base (x ∷ batches) zero b at = ap (λ (y : Batch). base + numbers y) (some-injective x b at)
ends_next base (x ∷ batches) (suc i) b at = ends_next (base + numbers x) batches i b at

-- Where each of them takes a number too, they are in one row.
pub in_row : (base : ℕ) (batches : List Batch) → BeginInOrder base batches
    → ((i : ℕ) (b : Batch) → get_elem? batches i ≡ some b → 0 < numbers b) → IsContiguous base batches
unfolding IsContiguous
in_row base [] in_order counted = tt
in_row base (b ∷ batches) in_order counted =
    let first : b.first ≡ base = in_order 0 b refl in (
      first,
      counted 0 b refl,
      in_row (end_of b) batches
          (λ i x at. in_order (suc i) x at ∙ ap (λ (n : ℕ). ends numbers (n + numbers b) batches i) (sym first))
          (λ i x at. counted (suc i) x at),
    )

piece_within : (base : ℕ) (batches : List Batch) → BeginInOrder base batches → (i : ℕ) (b : Batch) (k : ℕ) (v : Version)
    → get_elem? batches i ≡ some b → Contains (piece_in k b) v
    → (ends numbers base batches i ≤ v.number) × (v.number < ends numbers base batches (suc i))
piece_within base batches in_order i b k v at h =
    let w = version_within b v ((in_piece k b v).0 h).0 in
    let f = in_order i b at in
    let e = ends_next base batches i b at in
    (omega arith, omega arith)

-- a batch that begins at or below a number below the end of the first n is one of these
among_front : (base : ℕ) (xs more : List Batch) (n i number : ℕ) → number < ends numbers base xs n
    → ends numbers base (xs ++ more) i ≤ number → (i < n) × (i < length xs)
among_front base xs more zero i number below from = let m = ends_mono numbers base (xs ++ more) 0 i (omega arith) in absurd (omega arith)
among_front base [] more (suc n) i number below from = let m = ends_mono numbers base more 0 i (omega arith) in absurd (omega arith)
among_front base (x ∷ xs) more (suc n) zero number below from = (omega arith, omega arith)
among_front base (x ∷ xs) more (suc n) (suc i) number below from =
    let rest = among_front (base + numbers x) xs more n i number below from in
    (omega (arith, rest.0), omega (arith, rest.1))

among_first : (base : ℕ) (xs ys : List Batch) → IsPrefixOf xs ys → (n i number : ℕ) → number < ends numbers base xs n
    → ends numbers base ys i ≤ number → (i < n) × (i < length xs)
among_first base xs ys goes_on n i number below from = among_front base xs goes_on.0 n i number below
    (subst (λ (l : List Batch). ends numbers base l i ≤ number) goes_on.1 from)

-- ---- the versions of a shard

pub same_versions : (opening : List (List Version)) (batches : List Batch) (done : List ℕ) (k : ℕ) (old new : List Version)
    → HasSameVersions old new → HasVersions opening batches done k old → HasVersions opening batches done k new
same_versions opening batches done k old new same has = (
  has.0,
  has.1,
  λ v. ((λ h. (has.2 v).0 ((same v).0 h)), (λ h. (same v).1 ((has.2 v).1 h))),
)

-- one batch more is applied
pub gains_piece : (opening : List (List Version)) (batches : List Batch) (done : List ℕ) (k : ℕ) (old new : List Version) (i : ℕ) (b : Batch)
    → get_elem? batches i ≡ some b → Gains old (piece_in k b) new → HasVersions opening batches done k old
    → HasVersions opening batches (i ∷ done) k new
gains_piece opening batches done k old new i b at gains has = (has.0, has.1, λ v. ((λ h. to v ((gains v).0 h)), (λ h. (gains v).1 (from v h))))
  where
    to : (v : Version) → Contains old v ⊎ Contains (piece_in k b) v → Contains has.0 v ⊎ IsApplied batches (i ∷ done) k v
    to v (inl h) = ⊎_elim (λ first. inl first) (λ a. inr (a.0, a.1, inr a.2, a.3, a.4)) ((has.2 v).0 h)
    to v (inr h) = inr (i, b, inl refl, at, h)

    from : (v : Version) → Contains has.0 v ⊎ IsApplied batches (i ∷ done) k v → Contains old v ⊎ Contains (piece_in k b) v
    from v (inl first) = inl ((has.2 v).1 (inl first))
    from v (inr (j, x, inl same, there, h)) = inr (subst (λ (y : Batch). Contains (piece_in k y) v)
        (some-injective x b (sym there ∙ ap (get_elem? batches) same ∙ at)) h)
    from v (inr (j, x, inr before, there, h)) = inl ((has.2 v).1 (inr (j, x, before, there, h)))

-- Where the first n batches of a history are applied, their versions and those of the opening are what is seen below their end.
pub shows_below : (opening : List (List Version)) (base : ℕ) (history batches : List Batch) (done : List ℕ) (k n : ℕ) (versions : List Version)
    → BeginInOrder base batches → IsPrefixOf history batches → AreApplied history n done k → HasVersions opening batches done k versions
    → ShowsBelow opening history n (ends numbers base history n) k versions
shows_below opening base history batches done k n versions in_order goes_on applied has =
    (has.0, has.1, λ v below. ((λ h. to v below ((has.2 v).0 h)), (λ h. (has.2 v).1 (from v h))))
  where
    to : (v : Version) → v.number < ends numbers base history n → Contains has.0 v ⊎ IsApplied batches done k v
        → Contains has.0 v ⊎ Contains (of_shard k (versions_in (take n history))) v
    to v below (inl first) = inl first
    to v below (inr (i, b, among, at, h)) =
        let near = among_first base history batches goes_on n i v.number below (piece_within base batches in_order i b k v at h).0 in
        inr (piece_at k n i history b v near.0 (prefix_at history batches goes_on i near.1 b at) h)

    from : (v : Version) → Contains has.0 v ⊎ Contains (of_shard k (versions_in (take n history))) v
        → Contains has.0 v ⊎ IsApplied batches done k v
    from v (inl first) = inl first
    from v (inr h) = let its = at_piece k n history v h in
        inr (its.0, its.1, applied its.0 its.1 its.2 its.3 (touched k its.1 v its.4), at_prefix history batches goes_on its.0 its.1 its.3, its.4)

-- a batch that is not applied has numbers of its own
pub lacks_piece : (opening : List (List Version)) (base : ℕ) (batches : List Batch) (done : List ℕ) (k i : ℕ) (b : Batch) (versions : List Version)
    → NumberedBelow base opening → BeginInOrder base batches → get_elem? batches i ≡ some b → (Among i done → ⊥)
    → HasVersions opening batches done k versions → LacksPiece b k versions
lacks_piece opening base batches done k i b versions numbered in_order at new has one other h its same = go ((has.2 one).0 h)
  where
    here : (ends numbers base batches i ≤ other.number) × (other.number < ends numbers base batches (suc i))
    here = piece_within base batches in_order i b k other at its

    go : Contains has.0 one ⊎ IsApplied batches done k one → ⊥
    go (inl first) =
        let standing : Contains opening has.0 = (k, slice_get_within opening k has.0 has.1, get_or_from_slice_get opening k has.0 has.0 has.1) in
        let before = numbered has.0 one standing first in
        let m = ends_mono numbers base batches 0 i (omega arith) in omega (arith, here, before)
    go (inr (j, x, among, there, mine)) =
        let w = piece_within base batches in_order j x k one there mine in
        dite (dec_le (suc j) i)
        (λ l. let m = ends_mono numbers base batches (suc j) i l in omega (arith, here))
        (λ no. let m = ends_mono numbers base batches (suc i) j in
        let apart : j ≢ i = λ e. new (subst (λ (y : ℕ). Among y done) e among) in
        let l : suc i ≤ j = (let near = lt_of_not-le no in omega arith) in let m' = m l in omega (arith, here))
