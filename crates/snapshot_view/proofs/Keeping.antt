-- What a view keeps, it keeps through each call.
use Rattle.std.proofs.Common.{◌≡◌, ◌⊎◌, inl, inr, ℕ, ◌+◌, ◌<◌, ◌≤◌, List, [], ◌∷◌, ◌++◌, length, Option, Some, None, slice_set, refl, sym, ap, ◌∙◌, subst, arith}
use Rattle.std.specs.Prelude.{Contains, ◌↔◌}
use Rattle.std.specs.List.Sorted.{IsNonDecreasing}
use Rattle.std.proofs.lemmas.Bool.{cases_lt}
use Rattle.std.proofs.lemmas.List.Elements.{Contains-push_cases}
use Rattle.wal_base.proofs.Laws.{none_within, within_head}
use Rattle.batch_repr.specs.declared.batch.Batch.{Batch}
use Rattle.batch_repr.specs.Batches.{IsContiguous, end_of, end_after}
use Rattle.batch_repr.specs.Versions.{Version, versions_in}
use Rattle.arena_list.specs.Versions.{KeyVersion}
use Rattle.arena_list.specs.Newest.{IsNewestOfKey}
use Rattle.arena_list.specs.Marks.{PutsMark, TakesMark, IsKeptFor, KeepsMarked}
use Rattle.range_cover.specs.declared.mark.RangeMark.{RangeMark}
use Rattle.snapshot_view.specs.Views.{View, CanBeViewed, version_left, LeaveVersion, LeaveRange, HoldsAt, numbers_shown, IsNewestLeft, IsReadAt, IsView}
use Rattle.snapshot_view.proofs.Numbers.{version_within}
use Rattle.snapshot_view.proofs.Holding.{held_there, held_before, is_mark, mark_is, held_mark, marks_first, marks_more, marks_less}

-- ---- the end of batches

-- the end that is counted from the floor is that of the batches
pub end_from_floor : (batches : List Batch) (floor : ℕ) (viewed : CanBeViewed batches floor) → end_after floor batches ≡ end_after viewed.start batches
unfolding end_after
end_from_floor [] floor viewed = let low = viewed.from in let high = viewed.to in omega (arith, low, high)
end_from_floor (batch ∷ batches) floor viewed = refl

pub floor_below : (batches : List Batch) (floor : ℕ) → CanBeViewed batches floor → floor ≤ end_after floor batches
floor_below batches floor viewed = omega (arith, end_from_floor batches floor viewed, viewed.to)

end_from_end : (batches : List Batch) (floor next : ℕ) → next ≡ end_after floor batches → next ≡ end_after next batches
unfolding end_after
end_from_end [] floor next e = refl
end_from_end (batch ∷ batches) floor next e = e

-- the batches can be viewed from their end on, too
viewed_from_end : (batches : List Batch) (floor : ℕ) → CanBeViewed batches floor → CanBeViewed batches (end_after floor batches)
viewed_from_end batches floor viewed = record {
  start = viewed.start;
  row = viewed.row;
  from = omega (arith, viewed.from, floor_below batches floor viewed);
  to = omega (arith, end_from_floor batches floor viewed);
  small = viewed.small;
}

some_batch : (batches : List Batch) (version : Version) → Contains (versions_in batches) version → 0 < length batches
some_batch [] version h = absurd (none_within version h)
some_batch (batch ∷ batches) version h = omega arith

-- ---- each call

module _ (view : View) (ranges : List RangeMark) (marks : List ℕ) (is : IsView view ranges marks) where
  pub floor_to_next : view.floor ≤ view.next
  floor_to_next = omega (arith, is.next, floor_below view.batches view.floor is.viewed)

  -- numbers are small
  pub number_fits : (version : KeyVersion) → Contains view.versions version → version.number ≤ 18446744073709551615
  number_fits version h =
      let within = version_within is.viewed.start view.batches (version_left version) is.viewed.row (is.some version h) in
      omega (arith, within.1, is.viewed.small (some_batch view.batches (version_left version) (is.some version h)))

  -- one hold more, at a number that is offered, or held already
  pub holds_more : (at : ℕ) (new : List ℕ) → PutsMark marks at new → IsNonDecreasing new → at ≤ view.next
      → (at < view.floor → Contains view.holds (Some at)) → IsView (record view { holds = view.holds ++ Some at ∷ [] }) ranges new
  holds_more at new put ascends below among = record {
    viewed = is.viewed;
    next = is.next;
    some = is.some;
    kept = λ number read. is.kept number (was_read number read);
    covers = is.covers;
    held = λ number h. elim (which number h) [ inl same ↦ omega (arith, same, below) | inr before ↦ is.held number before ];
    ascends = ascends;
    marked = marks_more view.next view.holds marks at new is.marked put;
  }
    where
      inner : (number : ℕ) → Some at ≡ Some number → at ≡ number
      inner number e = cc

      which : (number : ℕ) → Contains (view.holds ++ Some at ∷ []) (Some number) → (at ≡ number) ⊎ Contains view.holds (Some number)
      which number h = elim (Contains-push_cases view.holds (Some at) (Some number) h) [ inl before ↦ inr before | inr same ↦ inl (inner number same) ]

      offered : IsReadAt view at
      offered = elim (cases_lt at view.floor) [ inl low ↦ inr (among low) | inr high ↦ inl (high, below) ]

      was_read : (number : ℕ) → IsReadAt (record view { holds = view.holds ++ Some at ∷ [] }) number → IsReadAt view number
      was_read number (inl free) = inl free
      was_read number (inr h) = elim (which number h) [ inl same ↦ subst (IsReadAt view) same offered | inr before ↦ inr before ]

  -- one hold less
  pub holds_less : (id at : ℕ) (new : List ℕ) → HoldsAt view.holds id at → TakesMark marks at new → IsNonDecreasing new
      → IsView (record view { holds = slice_set view.holds id None }) ranges new
  holds_less id at new stands taken ascends = record {
    viewed = is.viewed;
    next = is.next;
    some = is.some;
    kept = λ number read. is.kept number (was_read number read);
    covers = is.covers;
    held = λ number h. is.held number (held_before view.holds id number h);
    ascends = ascends;
    marked = marks_less view.next view.holds marks id at new is.marked stands taken;
  }
    where
      was_read : (number : ℕ) → IsReadAt (record view { holds = slice_set view.holds id None }) number → IsReadAt view number
      was_read number (inl free) = inl free
      was_read number (inr h) = inr (held_before view.holds id number h)

  -- a purge
  pub purged : (versions : List KeyVersion) → KeepsMarked view.versions marks versions
      → IsView (record view { floor = view.next; versions = versions }) ranges marks
  purged versions keeps = record {
    viewed = subst (CanBeViewed view.batches) (sym is.next) (viewed_from_end view.batches view.floor is.viewed);
    next = end_from_end view.batches view.floor view.next is.next;
    some = λ version h. is.some version ((keeps version).0 h).2.stands;
    kept = λ at read version newest. (keeps version).1 (at, mark at read, newest_there at (was_read at read) version newest);
    covers = is.covers;
    held = is.held;
    ascends = is.ascends;
    marked = is.marked;
  }
    where
      was_read : (at : ℕ) → IsReadAt (record view { floor = view.next; versions = versions }) at → IsReadAt view at
      was_read at (inl (from, to)) = inl (omega (arith, from, floor_to_next), to)
      was_read at (inr h) = inr h

      mark : (at : ℕ) → IsReadAt (record view { floor = view.next; versions = versions }) at → Contains marks at
      mark at (inl (from, to)) = let same : view.next ≡ at = omega (arith, from, to) in
          subst (Contains marks) same (is_mark view.next view.holds marks view.next is.marked (within_head view.next _))
      mark at (inr h) = held_mark view.next view.holds marks at is.marked h

      newest_there : (at : ℕ) → IsReadAt view at → (version : KeyVersion) → IsNewestLeft view.batches at version → IsNewestOfKey view.versions at version
      newest_there at read version newest = record {
        stands = is.kept at read version newest;
        under = newest.under;
        last = λ other h. newest.last other (is.some other h);
      }

  -- what is kept for the marks is what is kept for the numbers that are shown
  pub kept_for_shown : (versions : List KeyVersion) → KeepsMarked view.versions marks versions → KeepsMarked view.versions (numbers_shown view) versions
  kept_for_shown versions keeps version = (
    λ h. let k = (keeps version).0 h in (k.0, mark_is view.next view.holds marks k.0 is.marked k.1, k.2),
    λ k. (keeps version).1 (k.0, is_mark view.next view.holds marks k.0 is.marked k.1, k.2),
  )

-- what is built has all that the batches leave
pub built : (batches : List Batch) (floor next : ℕ) (versions : List KeyVersion) (ranges : List RangeMark) (marks : List ℕ)
    → CanBeViewed batches floor → next ≡ end_after floor batches
    → ((version : KeyVersion) → Contains versions version ↔ LeaveVersion batches version)
    → ((mark : RangeMark) → Contains ranges mark ↔ LeaveRange batches mark) → PutsMark [] next marks → IsNonDecreasing marks
    → IsView (record { batches = batches; floor = floor; next = next; holds = []; versions = versions }) ranges marks
built batches floor next versions ranges marks viewed end all over put ascends = record {
  viewed = viewed;
  next = end;
  some = λ version. (all version).0;
  kept = λ at read version newest. (all version).1 newest.stands;
  covers = over;
  held = λ at h. absurd (none_within (Some at) h);
  ascends = ascends;
  marked = marks_first next marks put;
}
