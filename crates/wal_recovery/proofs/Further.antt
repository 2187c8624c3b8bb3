-- Directories in which one more WAL stands, above all others, recover to what they did and what it merges to.
use Rattle.std.proofs.Common.{◌≡◌, ◌≢◌, inl, inr, ℕ, suc, ◌<◌, ◌≤◌, List, [], ◌∷◌, ◌++◌, ap, sym, subst, ◌∙◌, refl, arith}
use Rattle.std.specs.Prelude.{Contains}
use Rattle.std.proofs.lemmas.List.{append-nil}
use Rattle.std.proofs.lemmas.List.Elements.{Contains-append_left, Contains-push, Contains-push_cases}
use Rattle.batch_repr.specs.declared.batch.Batch.{Batch}
use Rattle.batch_repr.specs.Batches.{end_after}
use Rattle.disk_face.specs.View.{Dirs}
use Rattle.disk_face.specs.Image.{log_number}
use Rattle.disk_face.proofs.Laws.{same_number}
use Rattle.segment_merge.specs.Merging.{Merged}
use Rattle.segment_merge.proofs.Laws.{none_within, within_head, within_tail, one_merged, nothing_merged}
use Rattle.wal_recovery.specs.declared.reports.Mode.TheVariants.{Strict}
use Rattle.wal_recovery.specs.Listing.{Stored, Wal, place_in, AreByIndex, AreByNumber, IsOf, StandsIn, IsListingOf}
use Rattle.wal_recovery.specs.Recovering.{HoldRow, WalMerges, RecoversFrom}
use Rattle.wal_recovery.specs.Further.{IsSameElsewhere, StandBelow, AreSegmentsOf, SegmentsMerge}
use Rattle.wal_recovery.proofs.WalsMerge.{wals_more, listed_some}

-- ---- listings

-- each listed number is below
abbrev AreBelow : ℕ → List Wal → Type 0
AreBelow top wals = (wal : Wal) → Contains wals wal → wal.number < top

order_more : (low top : ℕ) (wals : List Wal) (wal : Wal) → AreByNumber low wals → AreBelow top wals → wal.number ≡ top → low ≤ top
    → wal.segments ≢ [] → AreByIndex 0 wal.segments
    → AreByNumber low (wals ++ wal ∷ [])
unfolding AreByNumber
order_more low top [] wal order below e le some by = (omega (arith, e, le), some, by, tt)
order_more low top (old ∷ wals) wal order below e le some by = (
  order.0,
  order.1,
  order.2,
  order_more (suc old.number) top wals wal order.3 (λ w h. below w (within_tail old wals w h)) e
      (omega (arith, below old (within_head old wals))) some by,
)

all_below : (top : ℕ) (dirs : Dirs) (wals : List Wal) → IsListingOf dirs wals → StandBelow top dirs → AreBelow top wals
all_below top dirs wals listed below wal h =
    let some = listed_some 0 wals wal listed.order h in
    below wal.number some.0 ((listed.same wal.number some.0).0 (wal, h, refl, some.1))

module _ (wal : ℕ) (old dirs : Dirs) (same : IsSameElsewhere wal dirs old) (below : StandBelow wal old) (wals : List Wal) (listed : IsListingOf old wals) where
  -- A segment of another WAL stands in both.
  stands_too : (number : ℕ) (stored : Stored) → number ≢ wal → StandsIn old number stored → StandsIn dirs number stored
  stands_too number stored other stands = (stands.0, same (place_in number stored.side stored.index) other ∙ stands.1)

  stood_too : (number : ℕ) (stored : Stored) → number ≢ wal → StandsIn dirs number stored → StandsIn old number stored
  stood_too number stored other stands = (stands.0, sym (same (place_in number stored.side stored.index) other) ∙ stands.1)

  lower_stands : (number : ℕ) (stored : Stored) → StandsIn old number stored → StandsIn dirs number stored
  lower_stands number stored stands = stands_too number stored (λ e. omega (arith, e, below number stored stands)) stands

  -- One more WAL, above all others, stands in the directories.
  listed_more : (segments : List Stored) → segments ≢ [] → AreSegmentsOf dirs wal segments
      → IsListingOf dirs (wals ++ record { number = wal; segments = segments } ∷ [])
  listed_more segments some are = record {
    order = order_more 0 wal wals (record { number = wal; segments = segments }) listed.order (all_below wal old wals listed below) refl
        (omega arith) some are.order;
    same = λ number stored. (there number stored, here number stored);
  }
    where
      own : Wal
      own = record { number = wal; segments = segments }

      there : (number : ℕ) (stored : Stored) → IsOf (wals ++ own ∷ []) number stored → StandsIn dirs number stored
      there number stored (w, h, is, within) = elim (Contains-push_cases wals own w h) [
        | inl front ↦ lower_stands number stored ((listed.same number stored).0 (w, front, is, within))
        | inr e ↦
            let n : wal ≡ number = ap (λ (x : Wal). x.number) e ∙ is in
            subst (λ (k : ℕ). StandsIn dirs k stored) n ((are.same stored).0 (subst (λ (x : Wal). Contains x.segments stored) (sym e) within))
      ]

      here : (number : ℕ) (stored : Stored) → StandsIn dirs number stored → IsOf (wals ++ own ∷ []) number stored
      here number stored stands = elim (same_number number wal) [
        | inl e ↦ (own, Contains-push wals own, sym e, (are.same stored).1 (subst (λ (k : ℕ). StandsIn dirs k stored) e stands))
        | inr other ↦
            let of = (listed.same number stored).1 (stood_too number stored other stands) in
            (of.0, Contains-append_left wals (own ∷ []) of.0 of.1, of.2, of.3)
      ]

  -- Where the WAL has no segment, the listing stays.
  listed_still : AreSegmentsOf dirs wal [] → IsListingOf dirs wals
  listed_still are = record {
    order = listed.order;
    same = λ number stored. (
      λ h. lower_stands number stored ((listed.same number stored).0 h),
      λ h. elim (same_number number wal) [
        | inl e ↦ absurd (none_within stored ((are.same stored).1 (subst (λ (k : ℕ). StandsIn dirs k stored) e h)))
        | inr other ↦ (listed.same number stored).1 (stood_too number stored other h)
      ],
    );
  }

-- ---- what is recovered

empty_row : (log : ℕ) (row : List (List Batch)) → HoldRow Strict log [] row → row ≡ []
empty_row log [] h = refl
empty_row log (batches ∷ row) h = absurd h

-- A WAL of no segment merges to nothing.
nothing_of_none : (first wal : ℕ) (merged : List Batch) → WalMerges first (record { number = wal; segments = [] }) merged → merged ≡ []
nothing_of_none first wal merged m =
    one_merged first [] merged [] (subst (λ (r : List (List Batch)). Merged first r merged) (empty_row (log_number wal) m.row m.holds)
    m.merges) (nothing_merged first)

module _ (wal first : ℕ) (old dirs : Dirs) (same : IsSameElsewhere wal dirs old) (below : StandBelow wal old) (base own : List Batch)
    (recovers : RecoversFrom first old base) where
  merges_on : (segments : List Stored) → AreSegmentsOf dirs wal segments
      → WalMerges (end_after first base) (record { number = wal; segments = segments }) own → RecoversFrom first dirs (base ++ own)
  merges_on [] are merges =
      let nothing : base ≡ base ++ own = sym (append-nil base) ∙ ap (λ (rest : List Batch). base ++ rest)
      (sym (nothing_of_none (end_after first base) wal own merges)) in
      subst (RecoversFrom first dirs) nothing (record {
        wals = recovers.wals;
        listed = listed_still wal old dirs same below recovers.wals recovers.listed are;
        merges = recovers.merges;
      })
  merges_on (one ∷ more) are merges = record {
    wals = recovers.wals ++ record { number = wal; segments = one ∷ more } ∷ [];
    listed = listed_more wal old dirs same below recovers.wals recovers.listed (one ∷ more) (λ e. cc) are;
    merges = wals_more first recovers.wals (record { number = wal; segments = one ∷ more }) base own recovers.merges merges;
  }

  -- Directories that recover go on to what one more WAL merges to, above all others.
  pub recovers_further : SegmentsMerge dirs wal (end_after first base) own → RecoversFrom first dirs (base ++ own)
  recovers_further merged = merges_on merged.segments merged.are merged.merges
