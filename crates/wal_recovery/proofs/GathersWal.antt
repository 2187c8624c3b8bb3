-- Segments that are added one after another, and the rows that they make.
use Rattle.std.proofs.Common.{◌≡◌, ℕ, zero, suc, ◌+◌, ◌≤◌, ◌<◌, Bool, List, [], ◌∷◌, ◌++◌, IsTrue, map, length, take, drop, get_or, subst, sym, ap, ◌∙◌, refl, arith, append_assoc}
use Rattle.std.specs.List.{AllZip, AllByRecursion}
use Rattle.std.proofs.lemmas.List.{append-nil, length-append, length_push, get_or_append_left, get_or_push, take_more, drop_more, take-append-drop}
use Rattle.std.proofs.lemmas.List.Elements.{All-push, All-nil, All-from_recursion, recursion_from_All}
use Rattle.batch_repr.specs.declared.batch.Batch.{Batch}
use Rattle.segment_merge.specs.declared.segment.SegmentRead.{SegmentRead}
use Rattle.segment_merge.specs.Rows.{IsNumberedSegment, IndexesAscend, IsRow}
use Rattle.disk_face.specs.View.{Files}
use Rattle.wal_recovery.specs.declared.fault.RecoverFault.{RecoverFault}
use Rattle.wal_recovery.specs.declared.fault.RecoverFault.TheVariants as faults
use Rattle.wal_recovery.specs.declared.listing.Found.{Found}
use Rattle.wal_recovery.specs.declared.reports.Mode.{Mode}
use Rattle.wal_recovery.specs.declared.reports.SegReport.{SegReport}
use Rattle.wal_recovery.specs.Base.{AreWithinLimits}
use Rattle.wal_recovery.specs.Listing.{Stored, AreByIndex}
use Rattle.wal_recovery.specs.Recovering.{taking_numbers}
use Rattle.wal_recovery.specs.Refused.{by_index}
use Rattle.wal_recovery.specs.Answers.{DiskMemoryOr}
use Rattle.wal_recovery.specs.Rows.{place_listed, bytes_at, stored_in}
use Rattle.wal_recovery.specs.Gathered.{IsAsListed, AreAsListed, IsBadIn, IsFirstBadOf, read_as, counted_in, IsNumberedReport, AddsSegment, AddsSegments, GathersWal}

zip_push : {A B : Type 0} (R : A → B → Type 0) (xs : List A) (ys : List B) (x : A) (y : B) → AllZip R xs ys → R x y → AllZip R (xs ++ x ∷ []) (ys ++ y ∷ [])
zip_push R [] [] x y h r = (r, tt)
zip_push R [] (b ∷ ys) x y h r = absurd h
zip_push R (a ∷ xs) [] x y h r = absurd h
zip_push R (a ∷ xs) (b ∷ ys) x y h r = (h.0, zip_push R xs ys x y h.1 r)

mapped_push : {A B : Type 0} (h : A → B) (xs : List A) (x : A) → map h (xs ++ x ∷ []) ≡ map h xs ++ h x ∷ []
mapped_push h [] x = refl
mapped_push h (a ∷ xs) x = ap (λ l. h a ∷ l) (mapped_push h xs x)

listed_front : (files : Files) (front : List Found) (f : Found) → AreAsListed files (front ++ f ∷ []) → AreAsListed files front
listed_front files front f listed k d lt =
    let long : length (front ++ f ∷ []) ≡ length front + 1 = length_push front f in
    subst (IsAsListed files) (get_or_append_left front (f ∷ []) d k lt) (listed k d (omega (arith, lt, long)))

listed_last : (files : Files) (front : List Found) (f : Found) → AreAsListed files (front ++ f ∷ []) → IsAsListed files f
listed_last files front f listed =
    let long : length (front ++ f ∷ []) ≡ length front + 1 = length_push front f in
    subst (IsAsListed files) (get_or_push front f f (length front) refl) (listed (length front) f (omega (arith, long)))

-- each index is at least this number, and above the one before it
abbrev Rises : ℕ → List SegmentRead → Type 0
Rises low [] = Unit {0}
Rises low (segment ∷ row) = (low ≤ segment.index) × Rises (suc segment.index) row

rises_ascend : (low : ℕ) (row : List SegmentRead) → Rises low row → IndexesAscend row
rises_ascend low [] h k d lt = absurd (omega (arith, lt))
rises_ascend low (s ∷ []) h k d lt = absurd (omega (arith, lt))
rises_ascend low (s ∷ t ∷ row) h zero d lt = let up : suc s.index ≤ t.index = h.1.0 in omega (arith, up)
rises_ascend low (s ∷ t ∷ row) h (suc k) d lt =
    let e : suc k + 1 ≡ suc (k + 1) = omega arith in
    subst (λ (n : ℕ). (get_or (t ∷ row) k d).index < (get_or (s ∷ t ∷ row) n d).index) (sym e)
    (rises_ascend (suc s.index) (t ∷ row) h.1 k d (omega (arith, lt)))

module _ (tells : Bool) (mode : Mode) (files : Files) where
  pub adds_none : (old : List SegReport) → AddsSegments tells mode files [] old old
  adds_none old = record { own = []; reports = sym (append-nil old); as_many = refl; numbered = All-nil IsNumberedReport; within = All-nil (λ (r : SegReport). AreWithinLimits r.batches); holds = λ told listed. tt }

  pub adds_more : (front : List Found) (f : Found) (index : ℕ) (old mid new : List SegReport) (row longer : List SegmentRead)
      → AddsSegments tells mode files front old mid → AddsSegment tells mode files f index mid new row longer
      → AddsSegments tells mode files (front ++ f ∷ []) old new
  adds_more front f index old mid new row longer a b = record {
    own = a.own ++ b.report ∷ [];
    reports = b.reports ∙ ap (λ (l : List SegReport). l ++ b.report ∷ []) a.reports ∙ append_assoc old a.own (b.report ∷ []);
    as_many = length_push a.own b.report ∙ ap (λ (n : ℕ). n + 1) a.as_many ∙ sym (length_push front f);
    numbered = All-push IsNumberedReport a.own b.report a.numbered b.numbered;
    within = All-push (λ (r : SegReport). AreWithinLimits r.batches) a.own b.report a.within b.within;
    holds = λ told listed. zip_push _ front a.own f b.report (a.holds told (listed_front files front f listed))
        (b.holds told (listed_last files front f listed));
  }

  by_index_push : (segments : List Stored) (row : List (List Batch)) (s : Stored) (batches : List Batch) → length row ≡ length segments
      → by_index (segments ++ s ∷ []) (row ++ batches ∷ []) ≡ by_index segments row ++ record { index = s.index; batches = batches } ∷ []
  by_index_push [] [] s batches e = refl
  by_index_push [] (b ∷ row) s batches e = absurd (omega (arith, e))
  by_index_push (q ∷ segments) [] s batches e = absurd (omega (arith, e))
  by_index_push (q ∷ segments) (b ∷ row) s batches e = ap (λ (l : List SegmentRead). record { index = q.index; batches = b } ∷ l)
      (by_index_push segments row s batches (omega (arith, e)))

  pub counted_length : (own : List SegReport) → length (counted_in own) ≡ length own
  counted_length [] = refl
  counted_length (r ∷ own) = ap suc (counted_length own)

  pub stored_length : (segments : List Found) → length (map (stored_in files) segments) ≡ length segments
  stored_length [] = refl
  stored_length (f ∷ segments) = ap suc (stored_length segments)

  pub wal_none : (old : List SegReport) → GathersWal tells mode files [] old old []
  unfolding adds_none
  wal_none old = record { added = adds_none old; rows = refl }

  pub wal_more : (front : List Found) (f : Found) (old mid new : List SegReport) (row longer : List SegmentRead)
      → GathersWal tells mode files front old mid row → AddsSegment tells mode files f f.name.index mid new row longer
      → GathersWal tells mode files (front ++ f ∷ []) old new longer
  unfolding adds_more
  wal_more front f old mid new row longer a b = record {
    added = adds_more front f f.name.index old mid new row longer a.added b;
    rows =
        let many : length (counted_in a.added.own) ≡ length (map (stored_in files) front) = counted_length a.added.own ∙ a.added.as_many
        ∙ sym (stored_length front) in
        b.rows ∙ ap (λ (l : List SegmentRead). l ++ read_as f.name.index b.report ∷ []) a.rows
        ∙ sym (by_index_push (map (stored_in files) front) (counted_in a.added.own) (stored_in files f) (taking_numbers b.report.batches) many)
        ∙ ap (λ (l : List Stored). by_index l (counted_in a.added.own ++ taking_numbers b.report.batches ∷ [])) (sym (mapped_push (stored_in files) front f))
        ∙ ap (by_index (map (stored_in files) (front ++ f ∷ []))) (sym (mapped_push (λ (r : SegReport). taking_numbers r.batches) a.added.own b.report));
  }

  -- ---- the rows are fit to be merged

  index_rises : (low : ℕ) (segments : List Stored) (row : List (List Batch)) → AreByIndex low segments → Rises low (by_index segments row)
  unfolding AreByIndex
  index_rises low [] row by = tt
  index_rises low (s ∷ segments) [] by = tt
  index_rises low (s ∷ segments) (b ∷ row) by = (by.0, index_rises (suc s.index) segments row by.1)

  index_numbered : (segments : List Stored) (own : List SegReport) → AllByRecursion IsNumberedReport own
      → AllByRecursion IsNumberedSegment (by_index segments (counted_in own))
  index_numbered [] own h = tt
  index_numbered (s ∷ segments) [] h = tt
  index_numbered (s ∷ segments) (r ∷ own) h = (h.0, index_numbered segments own h.1)

  pub wal_row : (segments : List Found) (old new : List SegReport) (row : List SegmentRead) → AreByIndex 0 (map (stored_in files) segments)
      → GathersWal tells mode files segments old new row → IsRow row
  wal_row segments old new row by g = subst IsRow (sym g.rows) (record {
    indexes = rises_ascend 0 (by_index (map (stored_in files) segments) (counted_in g.added.own))
        (index_rises 0 (map (stored_in files) segments) (counted_in g.added.own) by);
    numbered = All-from_recursion IsNumberedSegment (by_index (map (stored_in files) segments) (counted_in g.added.own))
        (index_numbered (map (stored_in files) segments) g.added.own (recursion_from_All IsNumberedReport g.added.own g.added.numbered));
  })

  -- ---- the segment at a place of a list

  pub wal_step : (before : Files) → before ≡ files → (segments : List Found) (i : ℕ) (d : Found) (old mid new : List SegReport)
      (row longer : List SegmentRead) → i < length segments → GathersWal tells mode files (take i segments) old mid row
      → AddsSegment tells mode before (get_or segments i d) (get_or segments i d).name.index mid new row longer
      → GathersWal tells mode files (take (i + 1) segments) old new longer
  wal_step before same segments i d old mid new row longer lt a added =
      let b : AddsSegment tells mode files (get_or segments i d) (get_or segments i d).name.index mid new row longer = subst
      (λ (fs : Files). AddsSegment tells mode fs (get_or segments i d) (get_or segments i d).name.index mid new row longer) same added in
      subst (λ (l : List Found). GathersWal tells mode files l old new longer) (sym (take_more segments i d lt))
      (wal_more (take i segments) (get_or segments i d) old mid new row longer a b)

  listed_prefix : (xs ys : List Found) → AreAsListed files (xs ++ ys) → AreAsListed files xs
  listed_prefix xs ys listed k d lt =
      let long : length (xs ++ ys) ≡ length xs + length ys = length-append xs ys in
      subst (IsAsListed files) (get_or_append_left xs ys d k lt) (listed k d (omega (arith, lt, long)))

  cut_at : (segments : List Found) (i : ℕ) (d : Found) → i < length segments → segments ≡ take i segments ++ get_or segments i d ∷ drop (i + 1) segments
  cut_at segments i d lt = sym (ap (λ (l : List Found). take i segments ++ l) (sym (drop_more segments i d lt)) ∙ take-append-drop i segments)

  bad_here : (segments : List Found) (i : ℕ) (d : Found) (old mid : List SegReport) (fault : RecoverFault) → i < length segments
      → AddsSegments tells mode files (take i segments) old mid → IsTrue tells → AreAsListed files segments
      → IsBadIn mode (get_or segments i d) (bytes_at files (place_listed (get_or segments i d))) fault → IsFirstBadOf mode files segments fault
  bad_here segments i d old mid fault lt a told listed bad = record {
    before = take i segments;
    here = get_or segments i d;
    after = drop (i + 1) segments;
    cut = cut_at segments i d lt;
    reports = a.own;
    right = a.holds told (listed_prefix (take i segments) (get_or segments i d ∷ drop (i + 1) segments)
        (subst (AreAsListed files) (cut_at segments i d lt) listed));
    bad = bad;
  }

  -- a segment that is refused is the first that is
  pub first_bad : (before : Files) → before ≡ files → (segments : List Found) (i : ℕ) (d : Found) (old mid : List SegReport)
      (fault : RecoverFault) → i < length segments → AddsSegments tells mode files (take i segments) old mid → IsTrue tells
      → AreAsListed files segments
      → (IsAsListed before (get_or segments i d) → DiskMemoryOr
      (IsBadIn mode (get_or segments i d) (bytes_at before (place_listed (get_or segments i d)))) fault)
      → DiskMemoryOr (IsFirstBadOf mode files segments) fault
  first_bad before same segments i d old mid fault lt a told listed bad_before = go fault (bad (listed i d lt))
      (bad_here segments i d old mid fault lt a told listed)
    where
      bad : IsAsListed files (get_or segments i d) → DiskMemoryOr (IsBadIn mode (get_or segments i d) (bytes_at files (place_listed (get_or segments i d)))) fault
      bad = subst (λ (fs : Files). IsAsListed fs (get_or segments i d)
          → DiskMemoryOr (IsBadIn mode (get_or segments i d) (bytes_at fs (place_listed (get_or segments i d)))) fault) same bad_before

      go : (f : RecoverFault) → DiskMemoryOr (IsBadIn mode (get_or segments i d) (bytes_at files (place_listed (get_or segments i d)))) f
          → (IsBadIn mode (get_or segments i d) (bytes_at files (place_listed (get_or segments i d))) f → IsFirstBadOf mode files segments f)
          → DiskMemoryOr (IsFirstBadOf mode files segments) f
      go (faults.Disk side) h k = tt
      go (faults.DuplicateSegment wal index) h k = k h
      go (faults.BadBatch wal index place fault_) h k = k h
      go (faults.Gap wal index expected found) h k = k h
      go (faults.Corrupt wal index at shown_at) h k = k h
      go (faults.Conflict wal index first) h k = k h
      go faults.NoMemory h k = tt
