-- What a store answers at a number: the newest version about the key below it decides.
use Rattle.std.proofs.Common.{◌≡◌, inl, inr, ℕ, zero, suc, ◌+◌, ◌≤◌, ◌<◌, Bool, true, false, cond, List, [], ◌∷◌, ◌++◌, length, map, take, drop, Option, None, filter, option_and_then, refl, sym, ap, ◌∙◌, subst, arith}
use Rattle.std.specs.Prelude.{Contains, nat_lt}
use Rattle.std.specs.List.{last_or}
use Rattle.std.proofs.lemmas.Bool.Decides.{nat_tests}
use Rattle.std.proofs.lemmas.List.{take-append-drop}
use Rattle.std.proofs.lemmas.List.Elements.{filter-append}
use Rattle.wal_base.proofs.Laws.{none_within, within_head, within_tail}
use Rattle.wal_base.specs.declared.entry.Entry.{Entry}
use Rattle.wal_base.specs.declared.entry.Entry.TheVariants.{Set, Delete, Note, RangeDelete}
use Rattle.batch_repr.specs.declared.batch.Batch.{Batch}
use Rattle.batch_repr.specs.Batches.{is_counted, IsContiguous, end_after, entries_in, is_about, value_left, answer}
use Rattle.batch_repr.specs.Versions.{Version, versions_from, versions_of, versions_in, entries_below, answer_at}
use Rattle.batch_repr.proofs.Laws.{contiguous_back, contiguous_front}
use Rattle.snapshot_view.specs.Theorems.{EndsAnswerAlike}
use Rattle.snapshot_view.proofs.Numbers.{version_within, ascend_batches, versions_in-append}
use Rattle.snapshot_view.proofs.Newest.{IsNewest, HasNone, last_is, last_none}

-- ---- by the newest version

pub answer_is : (start : ℕ) (batches : List Batch) (at : ℕ) (key : List ℕ) (version : Version) → IsContiguous start batches
    → IsNewest (is_about key) (versions_in batches) at version → answer_at batches at key ≡ value_left version.entry
unfolding answer_at
answer_is start batches at key version row is = ap (option_and_then value_left)
    (last_is (is_about key) at (versions_in batches) None version (ascend_batches start batches row) is)

pub answer_none : (batches : List Batch) (at : ℕ) (key : List ℕ) → HasNone (is_about key) (versions_in batches) at → answer_at batches at key ≡ None
unfolding answer_at
answer_none batches at key none = ap (option_and_then value_left) (last_none (is_about key) at (versions_in batches) None none)

-- ---- at the end of the first batches

abbrev entries_of : List Version → List Entry
entries_of versions = map (λ (v : Version). v.entry) versions

below_true : (n at : ℕ) → n < at → nat_lt n at ≡ true
below_true n at h = grind (arith, nat_tests, h)

below_false : (n at : ℕ) → at ≤ n → nat_lt n at ≡ false
below_false n at h = grind (arith, nat_tests, h)

all_below : (at : ℕ) (versions : List Version) → ((v : Version) → Contains versions v → v.number < at) → entries_below at versions ≡ entries_of versions
all_below at [] low = refl
all_below at (v ∷ versions) low =
    ap (λ (b : Bool). entries_of (cond b (v ∷ filter (λ (w : Version). nat_lt w.number at) versions) (filter (λ (w : Version). nat_lt w.number at) versions)))
    (below_true v.number at (low v (within_head v versions)))
    ∙ ap (λ (t : List Entry). v.entry ∷ t) (all_below at versions (λ w h. low w (within_tail v versions w h)))

none_below : (at : ℕ) (versions : List Version) → ((v : Version) → Contains versions v → at ≤ v.number) → entries_below at versions ≡ []
none_below at [] high = refl
none_below at (v ∷ versions) high =
    ap (λ (b : Bool). entries_of (cond b (v ∷ filter (λ (w : Version). nat_lt w.number at) versions) (filter (λ (w : Version). nat_lt w.number at) versions)))
    (below_false v.number at (high v (within_head v versions)))
    ∙ none_below at versions (λ w h. high w (within_tail v versions w h))

entries-append : (xs ys : List Version) → entries_of (xs ++ ys) ≡ entries_of xs ++ entries_of ys
entries-append [] ys = refl
entries-append (x ∷ xs) ys = ap (λ (t : List Entry). x.entry ∷ t) (entries-append xs ys)

below-append : (at : ℕ) (xs ys : List Version) → entries_below at (xs ++ ys) ≡ entries_below at xs ++ entries_below at ys
below-append at xs ys = ap entries_of (filter-append (λ (w : Version). nat_lt w.number at) xs ys)
    ∙ entries-append (filter (λ (w : Version). nat_lt w.number at) xs) (filter (λ (w : Version). nat_lt w.number at) ys)

append_none : (xs : List Entry) → xs ++ [] ≡ xs
append_none [] = refl
append_none (x ∷ xs) = ap (λ (t : List Entry). x ∷ t) (append_none xs)

-- a note is about no key
about_some : (key : List ℕ) (number : ℕ) (entries : List Entry)
    → filter (is_about key) (entries_of (versions_from number entries)) ≡ filter (is_about key) entries
unfolding versions_from
about_some key number [] = refl
about_some key number (Note bytes ∷ entries) = about_some key number entries
about_some key number (Set k value ∷ entries) =
    ap (λ (t : List Entry). cond (is_about key (Set k value)) (Set k value ∷ t) t) (about_some key (number + 1) entries)
about_some key number (Delete k ∷ entries) =
    ap (λ (t : List Entry). cond (is_about key (Delete k)) (Delete k ∷ t) t) (about_some key (number + 1) entries)
about_some key number (RangeDelete from to ∷ entries) =
    ap (λ (t : List Entry). cond (is_about key (RangeDelete from to)) (RangeDelete from to ∷ t) t) (about_some key (number + 1) entries)

about_in : (key : List ℕ) (batches : List Batch)
    → filter (is_about key) (entries_of (versions_in batches)) ≡ filter (is_about key) (entries_in batches)
about_in key [] = refl
about_in key (batch ∷ batches) =
    ap (filter (is_about key)) (entries-append (versions_of batch) (versions_in batches))
    ∙ filter-append (is_about key) (entries_of (versions_of batch)) (entries_of (versions_in batches))
    ∙ ap (λ (t : List Entry). t ++ filter (is_about key) (entries_of (versions_in batches))) (about_some key batch.first batch.entries)
    ∙ ap (λ (t : List Entry). filter (is_about key) batch.entries ++ t) (about_in key batches)
    ∙ sym (filter-append (is_about key) batch.entries (entries_in batches))

pub ends_alike : EndsAnswerAlike
unfolding answer answer_at
ends_alike start n batches key row = ap (λ (t : List Entry). option_and_then value_left (last_or None t))
    (ap (filter (is_about key)) below ∙ about_in key (take n batches))
  where
    end : ℕ
    end = end_after start (take n batches)

    whole : take n batches ++ drop n batches ≡ batches
    whole = take-append-drop n batches

    front : IsContiguous start (take n batches)
    front = contiguous_front start (take n batches) (drop n batches) (subst (IsContiguous start) (sym whole) row)

    back : IsContiguous end (drop n batches)
    back = contiguous_back start (take n batches) (drop n batches) (subst (IsContiguous start) (sym whole) row)

    below : entries_below end (versions_in batches) ≡ entries_of (versions_in (take n batches))
    below = ap (λ (bs : List Batch). entries_below end (versions_in bs)) (sym whole)
        ∙ ap (entries_below end) (versions_in-append (take n batches) (drop n batches))
        ∙ below-append end (versions_in (take n batches)) (versions_in (drop n batches))
        ∙ ap (λ (t : List Entry). entries_below end (versions_in (take n batches)) ++ t)
        (none_below end (versions_in (drop n batches)) (λ v h. (version_within end (drop n batches) v back h).0))
        ∙ append_none (entries_below end (versions_in (take n batches)))
        ∙ all_below end (versions_in (take n batches)) (λ v h. (version_within start (take n batches) v front h).1)
