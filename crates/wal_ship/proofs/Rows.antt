-- Right frames one after another, and what they make of known batches.
use Rattle.std.proofs.Common.{◌≡◌, ℕ, List, [], ◌∷◌, ◌++◌, refl, sym, ap, ◌∙◌, subst, arith, append-nil, append_assoc}
use Rattle.batch_repr.specs.declared.batch.Batch.{Batch}
use Rattle.batch_repr.specs.declared.limits.TheConstants.{NUMBER_FIRST}
use Rattle.batch_repr.specs.Batches.{IsContiguous}
use Rattle.batch_repr.proofs.Laws.{contiguous_push}
use Rattle.wal_ship.specs.declared.fault.FollowFault.{FollowFault}
use Rattle.wal_ship.specs.Following.{AreFrames, IsFrameOf, IsWrongNext, Joins}
use Rattle.wal_ship.specs.Following.Joins.{takes_none, comes_next, there}
use Rattle.wal_ship.specs.Following.IsWrongNext.{gap, conflict}
use Rattle.wal_ship.specs.Following.AreFrames.{none, more}
use Rattle.wal_ship.proofs.Cutting.{same_frame}

-- ---- one batch

pub joins_once : (known : List Batch) (batch : Batch) (one other : List Batch) → Joins known batch one → Joins known batch other → one ≡ other
joins_once known batch _ _ (takes_none z) (takes_none z') = refl
joins_once known batch _ _ (takes_none z) (comes_next s n) = absurd (omega (arith, z, s))
joins_once known batch _ _ (takes_none z) (there s b c) = refl
joins_once known batch _ _ (comes_next s n) (takes_none z) = absurd (omega (arith, z, s))
joins_once known batch _ _ (comes_next s n) (comes_next s' n') = refl
joins_once known batch _ _ (comes_next s n) (there s' b c) = absurd (omega (arith, n, b))
joins_once known batch _ _ (there s b c) (takes_none z) = refl
joins_once known batch _ _ (there s b c) (comes_next s' n) = absurd (omega (arith, n, b))
joins_once known batch _ _ (there s b c) (there s' b' c') = refl

pub joins_or_wrong : (known : List Batch) (at : ℕ) (batch : Batch) (joined : List Batch) (fault : FollowFault) → Joins known batch joined
    → IsWrongNext known at batch fault → ⊥
joins_or_wrong known at batch _ _ (takes_none z) (gap s b) = omega (arith, z, s)
joins_or_wrong known at batch _ _ (takes_none z) (conflict s b c) = omega (arith, z, s)
joins_or_wrong known at batch _ _ (comes_next s n) (gap s' b) = omega (arith, n, b)
joins_or_wrong known at batch _ _ (comes_next s n) (conflict s' b c) = omega (arith, n, b)
joins_or_wrong known at batch _ _ (there s b c) (gap s' b') = omega (arith, b, b')
joins_or_wrong known at batch _ _ (there s b c) (conflict s' b' other) = other c

pub one_wrong : (known : List Batch) (at : ℕ) (batch : Batch) (fault fault' : FollowFault) → IsWrongNext known at batch fault
    → IsWrongNext known at batch fault' → fault ≡ fault'
one_wrong known at batch _ _ (gap s b) (gap s' b') = refl
one_wrong known at batch _ _ (gap s b) (conflict s' b' c) = absurd (omega (arith, b, b'))
one_wrong known at batch _ _ (conflict s b c) (gap s' b') = absurd (omega (arith, b, b'))
one_wrong known at batch _ _ (conflict s b c) (conflict s' b' c') = refl

joins_behind : (known : List Batch) (batch : Batch) (joined : List Batch) → Joins known batch joined → (new : List Batch) × (joined ≡ known ++ new)
joins_behind known batch _ (takes_none z) = ([], sym (append-nil known))
joins_behind known batch _ (comes_next s n) = (batch ∷ [], refl)
joins_behind known batch _ (there s b c) = ([], sym (append-nil known))

joins_contiguous : (known : List Batch) (batch : Batch) (joined : List Batch) → Joins known batch joined → IsContiguous NUMBER_FIRST known
    → IsContiguous NUMBER_FIRST joined
joins_contiguous known batch _ (takes_none z) c = c
joins_contiguous known batch _ (comes_next s n) c = contiguous_push NUMBER_FIRST known batch c n s
joins_contiguous known batch _ (there s b h) c = c

-- ---- rows of frames

-- what was known stands first behind them
pub rows_behind : (known : List Batch) (bytes : List ℕ) (all : List Batch) → AreFrames known bytes all → (new : List Batch) × (all ≡ known ++ new)
rows_behind _ _ _ (none known) = ([], sym (append-nil known))
rows_behind _ _ _ (more known bytes frame batch joined all f j rest) =
    let one = joins_behind known batch joined j in
    let others = rows_behind joined bytes all rest in
    (one.0 ++ others.0, others.1 ∙ ap (λ (l : List Batch). l ++ others.0) one.1 ∙ append_assoc known one.0 others.0)

pub rows_contiguous : (known : List Batch) (bytes : List ℕ) (all : List Batch) → AreFrames known bytes all → IsContiguous NUMBER_FIRST known
    → IsContiguous NUMBER_FIRST all
rows_contiguous _ _ _ (none known) c = c
rows_contiguous _ _ _ (more known bytes frame batch joined all f j rest) c =
    rows_contiguous joined bytes all rest (joins_contiguous known batch joined j c)

-- rows one after another are a row
pub rows_then : (known : List Batch) (bytes : List ℕ) (mid : List Batch) (bytes' : List ℕ) (all : List Batch) → AreFrames known bytes mid
    → AreFrames mid bytes' all → AreFrames known (bytes ++ bytes') all
rows_then _ _ _ bytes' all (none known) r = r
rows_then _ _ _ bytes' all (more known bytes frame batch joined mid f j rest) r =
    subst (λ (l : List ℕ). AreFrames known l all) (sym (append_assoc frame bytes bytes'))
    (more known (bytes ++ bytes') frame batch joined all f j (rows_then joined bytes mid bytes' all rest r))

-- one frame more
pub frames_snoc : (known : List Batch) (bytes : List ℕ) (mid : List Batch) (frame : List ℕ) (batch : Batch) (all : List Batch)
    → AreFrames known bytes mid → IsFrameOf frame batch → Joins mid batch all → AreFrames known (bytes ++ frame) all
frames_snoc known bytes mid frame batch all r f j =
    rows_then known bytes mid frame all r
    (subst (λ (l : List ℕ). AreFrames mid l all) (append-nil frame) (more mid [] frame batch all all f j (none all)))

-- Two rows at the front of the same bytes: one of them goes on where the other ends.
pub data Meet (all : List Batch) (rest : List ℕ) (all' : List Batch) (rest' : List ℕ) : Type 0 where
  sooner : (mid : List ℕ) → rest ≡ mid ++ rest' → AreFrames all mid all' → Meet all rest all' rest'
  later : (mid : List ℕ) → rest' ≡ mid ++ rest → AreFrames all' mid all → Meet all rest all' rest'

pub rows_meet : (known : List Batch) (bytes : List ℕ) (all : List Batch) (rest : List ℕ) (known' : List Batch) (bytes' : List ℕ) (all' : List Batch)
    (rest' : List ℕ)
    → AreFrames known bytes all → AreFrames known' bytes' all' → known ≡ known' → bytes ++ rest ≡ bytes' ++ rest' → Meet all rest all' rest'
rows_meet _ _ _ rest _ bytes' all' rest' (none known) r same is = sooner bytes' is (subst (λ (k : List Batch). AreFrames k bytes' all') (sym same) r)
rows_meet _ _ _ rest _ _ _ rest' (more known bytes frame batch joined all f j r) (none known') same is =
    later (frame ++ bytes) (sym is)
    (subst (λ (k : List Batch). AreFrames k (frame ++ bytes) all) same (more known bytes frame batch joined all f j r))
rows_meet _ _ _ rest _ _ _ rest' (more known bytes frame batch joined all f j r) (more known' bytes' frame' batch' joined' all' f' j' r') same is =
    let one = same_frame frame batch (bytes ++ rest) frame' batch' (bytes' ++ rest') f f'
    (sym (append_assoc frame bytes rest) ∙ is ∙ append_assoc frame' bytes' rest') in
    let joined_same : joined ≡ joined' = joins_once known' batch' joined joined'
    (subst (λ (b : Batch). Joins known' b joined) one.batches (subst (λ (k : List Batch). Joins k batch joined) same j)) j' in
    rows_meet joined bytes all rest joined' bytes' all' rest' r r' joined_same one.rests
