-- The WAL at a place of the list: its segments are in order, those before it with it are one WAL more, and what refuses it refuses the directories.
use Rattle.std.proofs.Common.{◌≡◌, ℕ, zero, suc, ◌+◌, ◌<◌, List, [], ◌∷◌, ◌++◌, All, Contains, length, map, take, get_or, subst, sym, ap, ◌∙◌, refl, arith}
use Rattle.std.proofs.lemmas.List.{map_more}
use Rattle.std.proofs.lemmas.List.Elements.{Contains-append_right}
use Rattle.batch_repr.specs.declared.batch.Batch.{Batch}
use Rattle.batch_repr.specs.Batches.{end_after}
use Rattle.segment_merge.proofs.Laws.{within_head}
use Rattle.disk_face.specs.View.{Files, Dirs}
use Rattle.wal_recovery.specs.declared.fault.RecoverFault.{RecoverFault}
use Rattle.wal_recovery.specs.declared.fault.RecoverFault.TheVariants as faults
use Rattle.wal_recovery.specs.declared.reports.Mode.TheVariants.{Strict}
use Rattle.wal_recovery.specs.declared.reports.SegReport.{SegReport}
use Rattle.wal_recovery.specs.declared.wals.FoundWal.{FoundWal}
use Rattle.wal_recovery.specs.Listing.{Wal, AreByIndex, AreByNumber, IsListingOf}
use Rattle.wal_recovery.specs.Recovering.{WalMerges, WalsMerge}
use Rattle.wal_recovery.specs.Refused.{Reaches, ReachesRow, IsRefusedFrom}
use Rattle.wal_recovery.specs.Reports.{ReportOnAll}
use Rattle.wal_recovery.specs.Answers.{DiskMemoryOr}
use Rattle.wal_recovery.specs.Rows.{stored_in, wal_in, wals_in}
use Rattle.wal_recovery.specs.Gathered.{AreAsListed, AreListedWals}
use Rattle.wal_recovery.specs.OneWal.{AddsReports, HoldsRow, IsRefusedWal}
use Rattle.wal_recovery.proofs.WalsMerge.{wals_more}
use Rattle.wal_recovery.proofs.ReportOnAll.{reports_push, by_index_at}

-- The WAL stands at this place.
pub record StandsAt (wals : List FoundWal) (i : ℕ) (wal : FoundWal) : Type 0 where
  pub within : i < length wals
  pub is : wal ≡ get_or wals i wal

pub stands_at : {wals items : List FoundWal} {i : ℕ} {wal : FoundWal} → items ≡ wals → i < length items → wal ≡ get_or items i wal → StandsAt wals i wal
stands_at {i = i} {wal = wal} same within is =
    record { within = subst (λ (l : List FoundWal). i < length l) same within; is = subst (λ (l : List FoundWal). wal ≡ get_or l i wal) same is }

-- what holds of each WAL holds of it
pub at_place : (P : FoundWal → Type 0) (wals : List FoundWal) (i : ℕ) (wal : FoundWal) → StandsAt wals i wal → All P wals → P wal
at_place P wals i wal at all = subst P (sym at.is) (all i wal at.within)

-- no WAL yet
pub merged_none : (files : Files) (wals : List FoundWal) (first : ℕ) → WalsMerge first (wals_in files (take 0 wals)) []
unfolding WalsMerge
merged_none files wals first = refl

pub reports_none : (files : Files) (wals : List FoundWal) → ReportOnAll (wals_in files (take 0 wals)) []
unfolding ReportOnAll
reports_none files wals = refl

module _ (files : Files) where
  pub cut_at : (wals : List FoundWal) (i : ℕ) (wal : FoundWal) → i < length wals → wal ≡ get_or wals i wal
      → (after : List Wal) × (wals_in files wals ≡ wals_in files (take i wals) ++ wal_in files wal ∷ after)
  cut_at [] i wal lt is = absurd (omega (arith, lt))
  cut_at (w ∷ wals) zero wal lt is = (wals_in files wals, ap (λ (x : FoundWal). wal_in files x ∷ wals_in files wals) (sym is))
  cut_at (w ∷ wals) (suc i) wal lt is =
      let rest = cut_at wals i wal (omega (arith, lt)) is in (rest.0, ap (λ (l : List Wal). wal_in files w ∷ l) rest.1)

  module _ (wals : List FoundWal) (i : ℕ) (wal : FoundWal) (at : StandsAt wals i wal) where
    more : wals_in files (take (i + 1) wals) ≡ wals_in files (take i wals) ++ wal_in files wal ∷ []
    more = map_more (wal_in files) wals i wal at.within ∙ ap (λ (x : FoundWal). wals_in files (take i wals) ++ wal_in files x ∷ []) (sym at.is)

    -- its segments stand by their indexes
    pub order_at : AreByNumber 0 (wals_in files wals) → AreByIndex 0 (map (stored_in files) wal.segments.items)
    order_at by =
        let cut = cut_at wals i wal at.within at.is in
        by_index_at 0 (wals_in files wals) (wal_in files wal) by
        (subst (λ (l : List Wal). Contains l (wal_in files wal)) (sym cut.1)
        (Contains-append_right (wals_in files (take i wals)) (wal_in files wal ∷ cut.0) (wal_in files wal)
        (within_head (wal_in files wal) cut.0)))

    -- it is as it was listed
    pub listed_at : (dirs : Dirs) → AreListedWals dirs files wals → AreAsListed files wal.segments.items
    listed_at dirs listed = at_place (λ (w : FoundWal). AreAsListed files w.segments.items) wals i wal at listed.as_listed

    -- those up to it merge
    pub merged_at : (dirs : Dirs) (first next : ℕ) (base own longer : List Batch) → next ≡ end_after first base → longer ≡ base ++ own
        → WalsMerge first (wals_in files (take i wals)) base
        → (AreAsListed files wal.segments.items → WalMerges next (wal_in files wal) own) → AreListedWals dirs files wals
        → WalsMerge first (wals_in files (take (i + 1) wals)) longer
    merged_at dirs first next base own longer from is before here listed =
        subst (WalsMerge first (wals_in files (take (i + 1) wals))) (sym is)
        (subst (λ (l : List Wal). WalsMerge first l (base ++ own)) (sym more)
        (wals_more first (wals_in files (take i wals)) (wal_in files wal) base own before
        (subst (λ (n : ℕ). WalMerges n (wal_in files wal) own) from (here (listed_at dirs listed)))))

    -- the reports up to it
    pub reports_at : (dirs : Dirs) (old new : List SegReport) → ReportOnAll (wals_in files (take i wals)) old
        → (AreAsListed files wal.segments.items → AddsReports (wal_in files wal) old new)
        → AreListedWals dirs files wals → ReportOnAll (wals_in files (take (i + 1) wals)) new
    reports_at dirs old new before here listed =
        let added = here (listed_at dirs listed) in
        subst (ReportOnAll (wals_in files (take (i + 1) wals))) (sym added.reports)
        (subst (λ (l : List Wal). ReportOnAll l (old ++ added.own)) (sym more)
        (reports_push (wals_in files (take i wals)) (wal_in files wal) old added.own before added.on))

    -- what refuses it refuses the directories
    pub refused_at : (dirs : Dirs) (first next : ℕ) (base : List Batch) (fault : RecoverFault) → next ≡ end_after first base
        → WalsMerge first (wals_in files (take i wals)) base
        → (AreAsListed files wal.segments.items → DiskMemoryOr (IsRefusedWal next (wal_in files wal)) fault) → AreListedWals dirs files wals
        → DiskMemoryOr (IsRefusedFrom first dirs) fault
    refused_at dirs first next base fault from before here listed = go fault
        (subst (λ (n : ℕ). DiskMemoryOr (IsRefusedWal n (wal_in files wal)) fault) from (here (listed_at dirs listed)))
      where
        reached : Reaches first dirs wal.number (map (stored_in files) wal.segments.items) base
        reached =
            let cut = cut_at wals i wal at.within at.is in
            record {
              before = wals_in files (take i wals);
              after = cut.0;
              listed = subst (IsListingOf dirs) cut.1 listed.listed;
              merged = before;
            }

        row_of : HoldsRow Strict (wal_in files wal) → ReachesRow first dirs wal.number
        row_of held = record { segments = map (stored_in files) wal.segments.items; base = base; reached = reached; row = held.row; holds = held.holds }

        go : (fault : RecoverFault) → DiskMemoryOr (IsRefusedWal (end_after first base) (wal_in files wal)) fault
            → DiskMemoryOr (IsRefusedFrom first dirs) fault
        go (faults.Disk side) h = tt
        go (faults.DuplicateSegment number index) h = absurd h
        go (faults.BadBatch number index place bad) h =
            subst (λ (n : ℕ). IsRefusedFrom first dirs (faults.BadBatch n index place bad)) (sym h.0)
            (map (stored_in files) wal.segments.items, base, reached, h.1)
        go (faults.Gap number index expected found) h = subst (λ (n : ℕ). IsRefusedFrom first dirs
            (faults.Gap n index expected found)) (sym h.0) (row_of h.1, h.2)
        go (faults.Conflict number index begins) h = subst (λ (n : ℕ). IsRefusedFrom first dirs (faults.Conflict n index begins))
            (sym h.0) (row_of h.1, h.2)
        go (faults.Corrupt number index place shown_at) h =
            subst (λ (n : ℕ). IsRefusedFrom first dirs (faults.Corrupt n index place shown_at)) (sym h.0)
            (map (stored_in files) wal.segments.items, base, reached, h.1)
        go faults.NoMemory h = tt
