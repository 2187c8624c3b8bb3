-- Batch by batch: where each begins, and what is taken of them.
use Rattle.std.proofs.Common.{◌≡◌, ◌⊎◌, inl, inr, ℕ, suc, ◌+◌, ◌-◌, ◌<◌, ◌≤◌, List, [], ◌∷◌, ◌++◌, length, take, drop, get_or, refl, sym, ap, ◌∙◌, subst, arith}
use Rattle.std.specs.Prelude.{Contains}
use Rattle.std.proofs.lemmas.List.{take_more, take_all, take-append-drop, append-nil}
use Rattle.std.proofs.lemmas.List.Elements.{Contains-get_or}
use Rattle.batch_repr.specs.declared.batch.Batch.{Batch}
use Rattle.batch_repr.specs.declared.limits.TheConstants.{NUMBER_MAX}
use Rattle.batch_repr.specs.Batches.{count_of, end_of, IsContiguous, end_after}
use Rattle.batch_repr.specs.Versions.{Version, versions_of, versions_in}
use Rattle.batch_repr.proofs.Laws.{contiguous_front, contiguous_back, end_push, place_within}
use Rattle.arena_list.specs.Versions.{KeyVersion}
use Rattle.range_cover.specs.declared.mark.RangeMark.{RangeMark}
use Rattle.wal_base.proofs.Laws.{none_within}
use Rattle.snapshot_view.specs.Views.{CanBeViewed}
use Rattle.snapshot_view.specs.Building.{AreBelow, TakesVersions, TakesRanges}
use Rattle.snapshot_view.proofs.Numbers.{version_within, versions_in-append}
use Rattle.snapshot_view.proofs.Taking.{takes_more, takes_more_ranges, still_below}
use Rattle.snapshot_view.proofs.Keeping.{end_from_floor}

module _ (batches : List Batch) (i : ℕ) (batch : Batch) (here : i < length batches) (is : batch ≡ get_or batches i batch) where
  front_more : take (i + 1) batches ≡ take i batches ++ batch ∷ []
  front_more = take_more batches i batch here ∙ ap (λ (b : Batch). take i batches ++ b ∷ []) (sym is)

  changes_more : versions_in (take i batches) ++ versions_of batch ≡ versions_in (take (i + 1) batches)
  changes_more = ap (λ (vs : List Version). versions_in (take i batches) ++ vs) (sym (append-nil (versions_of batch)))
      ∙ sym (versions_in-append (take i batches) (batch ∷ []))
      ∙ ap versions_in (sym front_more)

  pub batch_taken : (old now new : List KeyVersion) → TakesVersions old (versions_in (take i batches)) now
      → TakesVersions now (versions_of batch) new → TakesVersions old (versions_in (take (i + 1) batches)) new
  batch_taken old now new before then = subst (λ (vs : List Version). TakesVersions old vs new) changes_more
      (takes_more old now new (versions_in (take i batches)) (versions_of batch) before then)

  pub batch_ranges_taken : (old now new : List RangeMark) → TakesRanges old (versions_in (take i batches)) now
      → TakesRanges now (versions_of batch) new → TakesRanges old (versions_in (take (i + 1) batches)) new
  batch_ranges_taken old now new before then = subst (λ (vs : List Version). TakesRanges old vs new) changes_more
      (takes_more_ranges old now new (versions_in (take i batches)) (versions_of batch) before then)

  front_row : (start n : ℕ) → IsContiguous start batches → IsContiguous start (take n batches)
  front_row start n row = contiguous_front start (take n batches) (drop n batches) (subst (IsContiguous start) (sym (take-append-drop n batches)) row)

  -- it begins where those before it end
  begins_at : (start : ℕ) → IsContiguous start batches → batch.first ≡ end_after start (take i batches)
  unfolding IsContiguous
  begins_at start row = (contiguous_back start (take i batches) (batch ∷ [])
      (subst (IsContiguous start) front_more (front_row start (i + 1) row))).0

  pub below_first : (start : ℕ) → IsContiguous start batches → (old now : List KeyVersion) → old ≡ [] → TakesVersions old (versions_in (take i batches)) now
      → AreBelow now batch.first
  below_first start row old now none takes = still_below old now (versions_in (take i batches)) batch.first
      (λ version h. absurd (none_within version (subst (λ (vs : List KeyVersion). Contains vs version) none h))) takes
      (λ change h. omega (arith, begins_at start row, (version_within start (take i batches) change (front_row start i row) h).1))

  pub ends_in_range : (floor : ℕ) → CanBeViewed batches floor → end_of batch ≤ NUMBER_MAX
  ends_in_range floor viewed = omega (arith, viewed.small (omega (arith, here)), (place_within viewed.start batches batch viewed.row there).high)
    where
      there : Contains batches batch
      there = subst (Contains batches) (sym is) (Contains-get_or batches i batch here)

-- the end of all is that of the last one
pub last_end : (batches : List Batch) (batch : Batch) (floor : ℕ) → 0 < length batches → batch ≡ get_or batches (length batches - 1) batch
    → end_of batch ≡ end_after floor batches
last_end batches batch floor some is = sym (end_push floor (take (length batches - 1) batches) batch)
    ∙ ap (end_after floor) (sym (front_more batches (length batches - 1) batch (omega (arith, some)) is)
    ∙ take_all (length batches - 1 + 1) batches (omega (arith, some)))

pub no_end : (batches : List Batch) (floor : ℕ) → length batches ≡ 0 → floor ≡ end_after floor batches
unfolding end_after
no_end [] floor none = refl
no_end (batch ∷ batches) floor none = absurd (omega (arith, none))
