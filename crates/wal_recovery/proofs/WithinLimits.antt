-- Batches that were read are within the limits, and so is what is merged of them.
use Rattle.std.proofs.Common.{◌≡◌, ℕ, Bool, List, [], ◌∷◌, ◌++◌, All, map, get_or, sym, subst}
use Rattle.std.specs.List.{AllByRecursion}
use Rattle.std.proofs.lemmas.List.Elements.{All-nil, All-cons, All-append, All-filter, All-contains, Contains-get_or, recursion_from_All}
use Rattle.batch_repr.specs.declared.batch.Batch.{Batch}
use Rattle.batch_repr.proofs.Laws.{spelled_fits}
use Rattle.block_record.specs.declared.records.Rec.{Rec}
use Rattle.segment_merge.specs.declared.segment.SegmentRead.{SegmentRead}
use Rattle.segment_merge.specs.Rows.{batches_in}
use Rattle.segment_merge.specs.Merging.{Merged, all_of}
use Rattle.disk_face.specs.View.{Files}
use Rattle.wal_recovery.specs.declared.listing.Found.{Found}
use Rattle.wal_recovery.specs.declared.reports.Mode.{Mode}
use Rattle.wal_recovery.specs.declared.reports.SegReport.{SegReport}
use Rattle.wal_recovery.specs.Base.{IsBatchWithin, AreWithinLimits}
use Rattle.wal_recovery.specs.Listing.{Stored}
use Rattle.wal_recovery.specs.Recovering.{Spell, takes_number, taking_numbers}
use Rattle.wal_recovery.specs.Refused.{by_index}
use Rattle.wal_recovery.specs.Rows.{stored_in}
use Rattle.wal_recovery.specs.Gathered.{counted_in, GathersWal}

-- what records spell
pub spelled_within : (records : List Rec) (batches : List Batch) → Spell records batches → AreWithinLimits batches
spelled_within [] [] h = All-nil IsBatchWithin
spelled_within [] (b ∷ batches) h = absurd h
spelled_within (r ∷ records) [] h = absurd h
spelled_within (r ∷ records) (b ∷ batches) h = All-cons IsBatchWithin b batches (spelled_fits r.bytes b h.0) (spelled_within records batches h.1)

-- the batches of a row
row_within : (segments : List Stored) (own : List SegReport) → AllByRecursion (λ (r : SegReport). AreWithinLimits r.batches) own
    → AreWithinLimits (all_of (batches_in (by_index segments (counted_in own))))
row_within [] own h = All-nil IsBatchWithin
row_within (s ∷ segments) [] h = All-nil IsBatchWithin
row_within (s ∷ segments) (r ∷ own) h =
    All-append IsBatchWithin (taking_numbers r.batches) (all_of (batches_in (by_index segments (counted_in own))))
    (All-filter takes_number IsBatchWithin r.batches h.0) (row_within segments own h.1)

-- what a row is merged to
pub merged_within : (tells : Bool) (mode : Mode) (files : Files) (segments : List Found) (old new : List SegReport) (row : List SegmentRead) (next : ℕ)
    (merged : List Batch) → GathersWal tells mode files segments old new row → Merged next (batches_in row) merged → AreWithinLimits merged
merged_within tells mode files segments old new row next merged g m k d lt =
    All-contains IsBatchWithin (all_of (batches_in row)) (get_or merged k d) all
    ((m.same (get_or merged k d)).0 (Contains-get_or merged k d lt))
  where
    all : AreWithinLimits (all_of (batches_in row))
    all = subst (λ (r : List SegmentRead). AreWithinLimits (all_of (batches_in r))) (sym g.rows)
        (row_within (map (stored_in files) segments) g.added.own
        (recursion_from_All (λ (r : SegReport). AreWithinLimits r.batches) g.added.own g.added.within))
