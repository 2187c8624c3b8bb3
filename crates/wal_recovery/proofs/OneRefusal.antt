-- Where no gap is accepted, directories have one answer. Of two WALs that are refused the lesser is merged on the way to the other.
use Rattle.batch_repr.proofs.Laws.{end_append}
use Rattle.batch_repr.specs.declared.limits.TheConstants.{NUMBER_FIRST}
use Rattle.std.proofs.Common.{◌≡◌, ◌⊎◌, inl, inr, ℕ, List, [], ◌∷◌, ◌++◌, sym, subst, ap, ◌∙◌, refl}
use Rattle.disk_face.specs.Image.{log_number}
use Rattle.batch_repr.specs.declared.batch.Batch.{Batch}
use Rattle.batch_repr.specs.declared.fault.BatchFault.{BatchFault}
use Rattle.batch_repr.specs.Batches.{end_after}
use Rattle.segment_merge.specs.declared.fault.MergeFault.{MergeFault}
use Rattle.segment_merge.specs.declared.fault.MergeFault.TheVariants as merges
use Rattle.segment_merge.specs.Merging.{Merged}
use Rattle.segment_merge.specs.Refusals.{IsRowRefused}
use Rattle.segment_merge.proofs.Laws.{one_refusal, merged_or_refused, Places, sooner, one, later, places}
use Rattle.disk_face.specs.View.{Dirs}
use Rattle.wal_recovery.specs.declared.fault.RecoverFault.{RecoverFault}
use Rattle.wal_recovery.specs.declared.fault.RecoverFault.TheVariants as faults
use Rattle.wal_recovery.specs.declared.reports.Mode.{Mode}
use Rattle.wal_recovery.specs.declared.reports.Mode.TheVariants.{Strict}
use Rattle.wal_recovery.specs.Listing.{Stored, Wal, IsDuplicate}
use Rattle.wal_recovery.specs.Recovering.{WalMerges, WalsMerge, RecoversFrom, Recovers}
use Rattle.wal_recovery.specs.Refused.{IsBadBatch, IsCorrupt, Reaches, by_index, IsRefusedFrom, IsRefused}
use Rattle.wal_recovery.specs.Gathered.{named_in_wal}
use Rattle.wal_recovery.specs.OneWal.{HoldsRow, IsRefusedWal}
use Rattle.wal_recovery.proofs.IsReportOf.{batches_by_index}
use Rattle.wal_recovery.proofs.Duplicates.{listed_or_twice, one_duplicate}
use Rattle.wal_recovery.proofs.OneBad.{held_or_bad, held_or_corrupt, one_bad_batch, one_corrupt, not_bad_and_corrupt}
use Rattle.wal_recovery.proofs.OneAnswer.{one_listing, one_row, one_wals}
use Rattle.wal_recovery.proofs.OneReading as reading

-- ---- one WAL

pub same_row : (mode : Mode) (wal : Wal) (a b : HoldsRow mode wal) → a.row ≡ b.row
same_row mode wal a b = one_row reading.one_read reading.one_spelled mode (log_number wal.number) wal.segments a.row b.row a.holds b.holds

merged_or_row_refused : (from : ℕ) (wal : Wal) (own : List Batch) (held : HoldsRow Strict wal) (fault : MergeFault) → WalMerges from wal own
    → IsRowRefused from (by_index wal.segments held.row) fault → ⊥
merged_or_row_refused from wal own held fault m refused =
    let rows : m.row ≡ held.row = same_row Strict wal (record { row = m.row; holds = m.holds }) held in
    let batches = batches_by_index Strict (log_number wal.number) wal.segments held.row held.holds in
    merged_or_refused from (by_index wal.segments held.row) own fault
    (subst (λ (row : List (List Batch)). Merged from row own) (rows ∙ sym batches) m.merges) refused

merged_or_wrong : (from : ℕ) (wal : Wal) (own : List Batch) (fault : RecoverFault) → WalMerges from wal own → IsRefusedWal from wal fault → ⊥
merged_or_wrong from wal own (faults.Disk side) m w = w
merged_or_wrong from wal own (faults.DuplicateSegment number index) m w = w
merged_or_wrong from wal own (faults.BadBatch number index place fault) m w = held_or_bad Strict (log_number wal.number) wal.segments m.row index
    place fault m.holds w.1
merged_or_wrong from wal own (faults.Gap number index expected found) m w = merged_or_row_refused from wal own w.1 (merges.Gap index expected found) m w.2
merged_or_wrong from wal own (faults.Conflict number index first) m w = merged_or_row_refused from wal own w.1 (merges.Conflict index first) m w.2
merged_or_wrong from wal own (faults.Corrupt number index at shown_at) m w = held_or_corrupt (log_number wal.number) wal.segments m.row index
    at shown_at m.holds w.1
merged_or_wrong from wal own faults.NoMemory m w = w

one_row_refused : (from : ℕ) (wal : Wal) (a b : HoldsRow Strict wal) (f g : MergeFault) → IsRowRefused from (by_index wal.segments a.row) f
    → IsRowRefused from (by_index wal.segments b.row) g → f ≡ g
one_row_refused from wal a b f g p q = one_refusal from (by_index wal.segments b.row) f g
    (subst (λ (row : List (List Batch)). IsRowRefused from (by_index wal.segments row) f) (same_row Strict wal a b) p) q

pub bad_or_held : (mode : Mode) (wal : Wal) (index place : ℕ) (fault : BatchFault) → IsBadBatch mode (log_number wal.number) wal.segments index place fault → HoldsRow mode wal → ⊥
bad_or_held mode wal index place fault bad held = held_or_bad mode (log_number wal.number) wal.segments held.row index place fault held.holds bad

corrupt_or_held : (wal : Wal) (index at shown_at : ℕ) → IsCorrupt (log_number wal.number) wal.segments index at shown_at → HoldsRow Strict wal → ⊥
corrupt_or_held wal index at shown_at bad held = held_or_corrupt (log_number wal.number) wal.segments held.row index at shown_at held.holds bad

-- one refusal of the row, so one of the WAL
pub one_named : (number w v : ℕ) (f g : MergeFault) → w ≡ number → v ≡ number → f ≡ g → named_in_wal w f ≡ named_in_wal v g
one_named number w v f g ew ev e = ap (λ (n : ℕ). named_in_wal n f) (ew ∙ sym ev) ∙ ap (named_in_wal v) e

one_wrong : (from : ℕ) (wal : Wal) (f g : RecoverFault) → IsRefusedWal from wal f → IsRefusedWal from wal g → f ≡ g
one_wrong from wal (faults.Disk side) g a b = absurd a
one_wrong from wal (faults.DuplicateSegment w i) g a b = absurd a
one_wrong from wal faults.NoMemory g a b = absurd a
one_wrong from wal (faults.BadBatch w i p f) (faults.Disk side) a b = absurd b
one_wrong from wal (faults.BadBatch w i p f) (faults.DuplicateSegment v j) a b = absurd b
one_wrong from wal (faults.BadBatch w i p f) faults.NoMemory a b = absurd b
one_wrong from wal (faults.BadBatch w i p f) (faults.BadBatch v j q g) a b =
    let same = one_bad_batch Strict (log_number wal.number) wal.segments i p j q f g a.1 b.1 in
    let wals : w ≡ v = a.0 ∙ sym b.0 in
    λ k. faults.BadBatch (wals k) (same.0 k) (same.1 k) (same.2 k)
one_wrong from wal (faults.BadBatch w i p f) (faults.Gap v j e x) a b = absurd (bad_or_held Strict wal i p f a.1 b.1)
one_wrong from wal (faults.BadBatch w i p f) (faults.Conflict v j x) a b = absurd (bad_or_held Strict wal i p f a.1 b.1)
one_wrong from wal (faults.BadBatch w i p f) (faults.Corrupt v j q y) a b =
    absurd (not_bad_and_corrupt (log_number wal.number) wal.segments i p j q y f a.1 b.1)
one_wrong from wal (faults.Corrupt w i p x) (faults.Disk side) a b = absurd b
one_wrong from wal (faults.Corrupt w i p x) (faults.DuplicateSegment v j) a b = absurd b
one_wrong from wal (faults.Corrupt w i p x) faults.NoMemory a b = absurd b
one_wrong from wal (faults.Corrupt w i p x) (faults.BadBatch v j q g) a b =
    absurd (not_bad_and_corrupt (log_number wal.number) wal.segments j q i p x g b.1 a.1)
one_wrong from wal (faults.Corrupt w i p x) (faults.Gap v j e y) a b = absurd (corrupt_or_held wal i p x a.1 b.1)
one_wrong from wal (faults.Corrupt w i p x) (faults.Conflict v j y) a b = absurd (corrupt_or_held wal i p x a.1 b.1)
one_wrong from wal (faults.Corrupt w i p x) (faults.Corrupt v j q y) a b =
    let same = one_corrupt (log_number wal.number) wal.segments i p x j q y a.1 b.1 in
    let wals : w ≡ v = a.0 ∙ sym b.0 in
    λ k. faults.Corrupt (wals k) (same.0 k) (same.1 k) (same.2 k)
one_wrong from wal (faults.Gap w i d x) (faults.Corrupt v j q y) a b = absurd (corrupt_or_held wal j q y b.1 a.1)
one_wrong from wal (faults.Conflict w i x) (faults.Corrupt v j q y) a b = absurd (corrupt_or_held wal j q y b.1 a.1)
one_wrong from wal (faults.Gap w i d x) (faults.Disk side) a b = absurd b
one_wrong from wal (faults.Gap w i d x) (faults.DuplicateSegment v j) a b = absurd b
one_wrong from wal (faults.Gap w i d x) faults.NoMemory a b = absurd b
one_wrong from wal (faults.Gap w i d x) (faults.BadBatch v j q g) a b = absurd (bad_or_held Strict wal j q g b.1 a.1)
one_wrong from wal (faults.Gap w i d x) (faults.Gap v j e y) a b =
    one_named wal.number w v (merges.Gap i d x) (merges.Gap j e y) a.0 b.0 (one_row_refused from wal a.1 b.1 (merges.Gap i d x) (merges.Gap j e y) a.2 b.2)
one_wrong from wal (faults.Gap w i d x) (faults.Conflict v j y) a b =
    let no : merges.Gap i d x ≡ merges.Conflict j y = one_row_refused from wal a.1 b.1 (merges.Gap i d x) (merges.Conflict j y) a.2 b.2 in absurd cc
one_wrong from wal (faults.Conflict w i x) (faults.Disk side) a b = absurd b
one_wrong from wal (faults.Conflict w i x) (faults.DuplicateSegment v j) a b = absurd b
one_wrong from wal (faults.Conflict w i x) faults.NoMemory a b = absurd b
one_wrong from wal (faults.Conflict w i x) (faults.BadBatch v j q g) a b = absurd (bad_or_held Strict wal j q g b.1 a.1)
one_wrong from wal (faults.Conflict w i x) (faults.Gap v j e y) a b =
    let no : merges.Conflict i x ≡ merges.Gap j e y = one_row_refused from wal a.1 b.1 (merges.Conflict i x) (merges.Gap j e y) a.2 b.2 in absurd cc
one_wrong from wal (faults.Conflict w i x) (faults.Conflict v j y) a b =
    one_named wal.number w v (merges.Conflict i x) (merges.Conflict j y) a.0 b.0
    (one_row_refused from wal a.1 b.1 (merges.Conflict i x) (merges.Conflict j y) a.2 b.2)

-- ---- all WALs

-- WALs that merge, up to one of them
record MergesUpTo (first : ℕ) (before : List Wal) (wal : Wal) : Type 0 where
  base : List Batch
  own : List Batch
  merged : WalsMerge first before base
  here : WalMerges (end_after first base) wal own

merges_up_to : (first : ℕ) (before : List Wal) (wal : Wal) (after : List Wal) (merged : List Batch)
    → WalsMerge first (before ++ wal ∷ after) merged → MergesUpTo first before wal
unfolding WalsMerge end_after
merges_up_to first [] wal after merged (own, more, here, rest, is) = record { base = []; own = own; merged = refl; here = here }
merges_up_to first (w ∷ before) wal after merged (own, more, here, rest, is) =
    let r = merges_up_to (end_after first own) before wal after more rest in
    record {
      base = own ++ r.base;
      own = r.own;
      merged = (own, r.base, here, r.merged, refl);
      here = subst (λ (n : ℕ). WalMerges n wal r.own) (sym (end_append first own r.base)) r.here;
    }

-- a WAL of the directories is refused
record IsWrongAt (first : ℕ) (dirs : Dirs) (fault : RecoverFault) : Type 0 where
  wal : Wal
  base : List Batch
  reached : Reaches first dirs wal.number wal.segments base
  wrong : IsRefusedWal (end_after first base) wal fault

-- so no WALs merge that go on after it
wrong_behind : (first : ℕ) (dirs : Dirs) (fault : RecoverFault) (w : IsWrongAt first dirs fault) (wals mid : List Wal) (merged : List Batch)
    → wals ≡ w.reached.before ++ w.wal ∷ mid → WalsMerge first wals merged → ⊥
wrong_behind first dirs fault w wals mid merged is m =
    let cut = merges_up_to first w.reached.before w.wal mid merged (subst (λ (l : List Wal). WalsMerge first l merged) is m) in
    let bases : cut.base ≡ w.base = one_wals reading.one_read reading.one_spelled first w.reached.before cut.base w.base cut.merged w.reached.merged in
    merged_or_wrong (end_after first w.base) w.wal cut.own fault
    (subst (λ (b : List Batch). WalMerges (end_after first b) w.wal cut.own) bases cut.here) w.wrong

recovered_or_wrong : (first : ℕ) (dirs : Dirs) (merged : List Batch) (fault : RecoverFault) → RecoversFrom first dirs merged → IsWrongAt first dirs fault → ⊥
recovered_or_wrong first dirs merged fault r w =
    wrong_behind first dirs fault w r.wals w.reached.after merged (one_listing dirs r.wals (w.reached.before ++ w.wal ∷ w.reached.after) r.listed
    w.reached.listed) r.merges

one_wrong_at : (first : ℕ) (dirs : Dirs) (f g : RecoverFault) → IsWrongAt first dirs f → IsWrongAt first dirs g → f ≡ g
one_wrong_at first dirs f g a b =
    of_places (places a.reached.before a.wal a.reached.after b.reached.before b.wal b.reached.after
    (one_listing dirs (a.reached.before ++ a.wal ∷ a.reached.after) (b.reached.before ++ b.wal ∷ b.reached.after) a.reached.listed b.reached.listed))
  where
    of_places : Places a.reached.before a.wal a.reached.after b.reached.before b.wal b.reached.after → f ≡ g
    of_places (sooner mid is) = absurd (wrong_behind first dirs f a b.reached.before mid b.base is b.reached.merged)
    of_places (one befores wals afters) =
        let merged : WalsMerge first b.reached.before a.base = subst (λ (l : List Wal). WalsMerge first l a.base) befores a.reached.merged in
        let bases : a.base ≡ b.base = one_wals reading.one_read reading.one_spelled first b.reached.before a.base b.base merged b.reached.merged in
        one_wrong (end_after first b.base) b.wal f g
        (subst (λ (x : Wal). IsRefusedWal (end_after first b.base) x f) wals
        (subst (λ (l : List Batch). IsRefusedWal (end_after first l) a.wal f) bases a.wrong)) b.wrong
    of_places (later mid is) = absurd (wrong_behind first dirs g b a.reached.before mid a.base is a.reached.merged)

-- ---- the directories

abbrev pub IsTwiceNamed : Dirs → RecoverFault → Type 0
IsTwiceNamed dirs fault = (w : ℕ) × (i : ℕ) × (fault ≡ faults.DuplicateSegment w i) × IsDuplicate dirs w i

abbrev pub wal_of : ℕ → List Stored → Wal
wal_of number segments = record { number = number; segments = segments }

why : (first : ℕ) (dirs : Dirs) (fault : RecoverFault) → IsRefusedFrom first dirs fault → IsTwiceNamed dirs fault ⊎ IsWrongAt first dirs fault
why first dirs (faults.Disk side) r = absurd r
why first dirs (faults.DuplicateSegment w i) r = inl (w, i, refl, r)
why first dirs (faults.BadBatch w i p f) (segments, base, reached, bad) = inr
    (record { wal = wal_of w segments; base = base; reached = reached; wrong = (refl, bad) })
why first dirs (faults.Corrupt w i p x) (segments, base, reached, bad) = inr
    (record { wal = wal_of w segments; base = base; reached = reached; wrong = (refl, bad) })
why first dirs (faults.Gap w i e x) (r, gap) = inr (record {
  wal = wal_of w r.segments;
  base = r.base;
  reached = r.reached;
  wrong = (refl, record { row = r.row; holds = r.holds }, gap);
})
why first dirs (faults.Conflict w i x) (r, conflict) = inr (record {
  wal = wal_of w r.segments;
  base = r.base;
  reached = r.reached;
  wrong = (refl, record { row = r.row; holds = r.holds }, conflict);
})
why first dirs faults.NoMemory r = absurd r

-- directories that recover are refused by nothing
pub recovered_or_refused_from : (first : ℕ) (dirs : Dirs) (merged : List Batch) (fault : RecoverFault) → RecoversFrom first dirs merged → IsRefusedFrom first dirs fault → ⊥
recovered_or_refused_from first dirs merged fault r refused = elim (why first dirs fault refused) [
  | inl twice ↦ listed_or_twice dirs r.wals twice.0 twice.1 r.listed twice.3.twice
  | inr wrong ↦ recovered_or_wrong first dirs merged fault r wrong
]

-- and directories that are refused are refused for one reason
pub refused_once_from : (first : ℕ) (dirs : Dirs) (f g : RecoverFault) → IsRefusedFrom first dirs f → IsRefusedFrom first dirs g → f ≡ g
refused_once_from first dirs f g a b = elim (why first dirs f a) [
  | inl twice ↦ elim (why first dirs g b) [
    | inl again ↦ twice.2 ∙ one_duplicate dirs twice.0 twice.1 again.0 again.1 twice.3 again.3 ∙ sym again.2
    | inr wrong ↦ absurd (listed_or_twice dirs (wrong.reached.before ++ wrong.wal ∷ wrong.reached.after) twice.0 twice.1 wrong.reached.listed twice.3.twice)
  ]
  | inr wrong ↦ elim (why first dirs g b) [
    | inl again ↦ absurd (listed_or_twice dirs (wrong.reached.before ++ wrong.wal ∷ wrong.reached.after) again.0 again.1 wrong.reached.listed again.3.twice)
    | inr also ↦ one_wrong_at first dirs f g wrong also
  ]
]

-- ---- from the first number of all

pub recovered_or_refused : (dirs : Dirs) (merged : List Batch) (fault : RecoverFault) → Recovers dirs merged → IsRefused dirs fault → ⊥
recovered_or_refused = recovered_or_refused_from NUMBER_FIRST
