-- WALs that merge, with one more after them; and each listed WAL has a segment.
use Rattle.batch_repr.proofs.Laws.{end_append}
use Rattle.std.proofs.Common.{inl, inr, ℕ, suc, List, [], ◌∷◌, ◌++◌, sym, subst, ap, ◌∙◌, refl}
use Rattle.std.specs.Prelude.{Contains, ◌≢◌}
use Rattle.std.proofs.lemmas.List.{append-nil, append_assoc}
use Rattle.batch_repr.specs.declared.batch.Batch.{Batch}
use Rattle.batch_repr.specs.Batches.{end_after}
use Rattle.segment_merge.proofs.Laws.{none_within, within_head, within_cases}
use Rattle.wal_recovery.specs.Listing.{Stored, Wal, AreByNumber}
use Rattle.wal_recovery.specs.Recovering.{WalMerges, WalsMerge}

pub wals_more : (first : ℕ) (wals : List Wal) (wal : Wal) (base own : List Batch) → WalsMerge first wals base → WalMerges (end_after first base) wal own
    → WalsMerge first (wals ++ wal ∷ []) (base ++ own)
unfolding WalsMerge end_after
wals_more first [] wal base own w m =
    let m' : WalMerges first wal own = subst (λ b. WalMerges (end_after first b) wal own) w m in
    (own, [], m', refl, ap (λ b. b ++ own) w ∙ sym (append-nil own))
wals_more first (old ∷ wals) wal base own w m =
    let front = w.0 in let later = w.1 in
    let m' : WalMerges (end_after (end_after first front) later) wal own = subst (λ n. WalMerges n wal own)
    (ap (end_after first) w.4 ∙ end_append first front later) m in
    (front, later ++ own, w.2, wals_more (end_after first front) wals wal later own w.3 m', ap (λ b. b ++ own) w.4 ∙ append_assoc front later own)

-- a listed WAL has a file
pub listed_some : (low : ℕ) (wals : List Wal) (wal : Wal) → AreByNumber low wals → Contains wals wal → (stored : Stored) × Contains wal.segments stored
unfolding AreByNumber
listed_some low [] wal order h = absurd (none_within wal h)
listed_some low (old ∷ wals) wal order h = elim (within_cases old wals wal h) [
  | inl e ↦ subst (λ (w : Wal). (stored : Stored) × Contains w.segments stored) e (some_of old.segments order.1)
  | inr later ↦ listed_some (suc old.number) wals wal order.3 later
]
  where
    some_of : (segments : List Stored) → segments ≢ [] → (stored : Stored) × Contains segments stored
    some_of [] not = absurd (not refl)
    some_of (stored ∷ segments) not = (stored, within_head stored segments)
