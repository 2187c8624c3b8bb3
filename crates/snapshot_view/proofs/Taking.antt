-- What is taken of entries one by one is what is taken of all of them.
use Rattle.std.proofs.Common.{◌≡◌, ◌⊎◌, inl, inr, ℕ, ◌+◌, ◌<◌, ◌≤◌, true, false, List, [], ◌∷◌, ◌++◌, length, take, get_or, Option, Some, None, refl, sym, ap, ◌∙◌, subst, arith}
use Rattle.std.specs.Prelude.{Contains, ◌↔◌}
use Rattle.std.specs.List.Sorted.{IsPermutation}
use Rattle.std.proofs.lemmas.List.Elements.{Contains-append_left, Contains-append_right, Contains-append_cases}
use Rattle.std.proofs.lemmas.List.{take_more, take_all}
use Rattle.std.proofs.lemmas.List.Sorted.{Contains-permutation, IsPermutation-sym}
use Rattle.wal_base.proofs.Laws.{none_within, within_head, within_tail, within_cases}
use Rattle.wal_base.specs.declared.entry.Entry.{Entry}
use Rattle.wal_base.specs.declared.entry.Entry.TheVariants.{Set, Delete, Note, RangeDelete}
use Rattle.batch_repr.specs.declared.batch.Batch.{Batch}
use Rattle.batch_repr.specs.Batches.{is_counted, count_of}
use Rattle.batch_repr.specs.Versions.{Version, versions_from, versions_in}
use Rattle.arena_list.specs.Versions.{KeyVersion, version_with, Adds}
use Rattle.range_cover.specs.declared.mark.RangeMark.{RangeMark}
use Rattle.snapshot_view.specs.Views.{change_of, version_left, range_left, LeaveVersion, LeaveRange}
use Rattle.snapshot_view.specs.Building.{AreBelow, TakesVersions, TakesRanges}
use Rattle.snapshot_view.proofs.Numbers.{number_within, versions-append, count-append, one_more, none_more}

-- ---- one entry

abbrev version_under : Entry → ℕ → Version
version_under entry number = record { entry = entry; number = number }

change_alone : (number : ℕ) (key : List ℕ) (value : Option (List ℕ))
    → versions_from number (change_of key value ∷ []) ≡ version_under (change_of key value) number ∷ []
unfolding versions_from
change_alone number key None = refl
change_alone number key (Some value) = refl

range_alone : (number : ℕ) (start end : List ℕ)
    → versions_from number (RangeDelete start end ∷ []) ≡ version_under (RangeDelete start end) number ∷ []
unfolding versions_from
range_alone number start end = refl

note_alone : (number : ℕ) (bytes : List ℕ) → versions_from number (Note bytes ∷ []) ≡ []
unfolding versions_from
note_alone number bytes = refl

only_one : {X : Type 0} (xs : List X) (x y : X) → xs ≡ x ∷ [] → Contains xs y → x ≡ y
only_one xs x y is h = elim (within_cases x [] y (subst (λ l. Contains l y) is h)) [ inl same ↦ same | inr none ↦ absurd (none_within y none) ]

the_one : {X : Type 0} (xs : List X) (x y : X) → xs ≡ x ∷ [] → x ≡ y → Contains xs y
the_one xs x y is same = subst (λ l. Contains l y) (sym is) (subst (λ z. Contains (x ∷ []) z) same (within_head x []))

-- a change is of one key, with one value, and it is no range delete
same_change : (key other : List ℕ) (value its : Option (List ℕ)) → change_of key value ≡ change_of other its → (key ≡ other) × (value ≡ its)
same_change key other None None e = (cc, refl)
same_change key other None (Some its) e = absurd cc
same_change key other (Some value) None e = absurd cc
same_change key other (Some value) (Some its) e = (cc, cc)

no_range : (key start end : List ℕ) (value : Option (List ℕ)) → change_of key value ≡ RangeDelete start end → ⊥
no_range key start end None e = absurd cc
no_range key start end (Some value) e = absurd cc

pub takes_change : (old new : List KeyVersion) (number : ℕ) (key : List ℕ) (value : Option (List ℕ)) → Adds old (version_with key number value) new
    → TakesVersions old (versions_from number (change_of key value ∷ [])) new
takes_change old new number key value adds version = (
  λ h. elim ((adds version).0 h) [
    | inl before ↦ inl before
    | inr is ↦ inr (the_one (versions_from number (change_of key value ∷ [])) (version_under (change_of key value) number) (version_left version)
        (change_alone number key value) (ap version_left (sym is)))
  ],
  λ h. elim h [
    | inl before ↦ (adds version).1 (inl before)
    | inr one ↦ (adds version).1 (inr (sym (back
        (only_one (versions_from number (change_of key value ∷ [])) (version_under (change_of key value) number) (version_left version)
        (change_alone number key value) one))))
  ],
)
  where
    back : version_under (change_of key value) number ≡ version_left version → version_with key number value ≡ version
    back e = let same = same_change key version.key value version.value (ap (λ (v : Version). v.entry) e) in
        let at : number ≡ version.number = ap (λ (v : Version). v.number) e in
        ap (λ (k : List ℕ). version_with k number value) same.0
        ∙ ap (λ (n : ℕ). version_with version.key n value) at
        ∙ ap (λ (o : Option (List ℕ)). version_with version.key version.number o) same.1

pub change_takes_no_range : (ranges : List RangeMark) (number : ℕ) (key : List ℕ) (value : Option (List ℕ))
    → TakesRanges ranges (versions_from number (change_of key value ∷ [])) ranges
change_takes_no_range ranges number key value mark = (
  λ h. inl h,
  λ h. elim h [
    | inl before ↦ before
    | inr one ↦ absurd (no_range key mark.start mark.end value (ap (λ (v : Version). v.entry)
        (only_one (versions_from number (change_of key value ∷ [])) (version_under (change_of key value) number) (range_left mark)
        (change_alone number key value) one)))
  ],
)

pub takes_range : (old new : List RangeMark) (mark : RangeMark) → IsPermutation (mark ∷ old) new
    → TakesRanges old (versions_from mark.number (RangeDelete mark.start mark.end ∷ [])) new
takes_range old new mark moved other = (
  λ h. elim (within_cases mark old other (Contains-permutation new (mark ∷ old) other (IsPermutation-sym (mark ∷ old) new moved) h)) [
    | inl is ↦ inr (the_one (versions_from mark.number (RangeDelete mark.start mark.end ∷ [])) (range_left mark) (range_left other)
        (range_alone mark.number mark.start mark.end) (ap range_left is))
    | inr before ↦ inl before
  ],
  λ h. Contains-permutation (mark ∷ old) new other moved (elim h [
    | inl before ↦ within_tail mark old other before
    | inr one ↦ subst (λ (m : RangeMark). Contains (mark ∷ old) m)
        (back (only_one (versions_from mark.number (RangeDelete mark.start mark.end ∷ [])) (range_left mark) (range_left other)
        (range_alone mark.number mark.start mark.end) one))
        (within_head mark old)
  ]),
)
  where
    back : range_left mark ≡ range_left other → mark ≡ other
    back e = parts (ap (λ (v : Version). v.entry) e) (ap (λ (v : Version). v.number) e)
      where
        mark_of : List ℕ → List ℕ → ℕ → RangeMark
        mark_of start end number = record { start = start; end = end; number = number }

        parts : RangeDelete mark.start mark.end ≡ RangeDelete other.start other.end → mark.number ≡ other.number → mark ≡ other
        parts range at = let start : mark.start ≡ other.start = cc in let end : mark.end ≡ other.end = cc in
            ap (λ (k : List ℕ). mark_of k mark.end mark.number) start
            ∙ ap (λ (k : List ℕ). mark_of other.start k mark.number) end
            ∙ ap (λ (n : ℕ). mark_of other.start other.end n) at

pub range_takes_no_change : (versions : List KeyVersion) (number : ℕ) (start end : List ℕ)
    → TakesVersions versions (versions_from number (RangeDelete start end ∷ [])) versions
range_takes_no_change versions number start end version = (
  λ h. inl h,
  λ h. elim h [
    | inl before ↦ before
    | inr one ↦ absurd (no_range version.key start end version.value (sym (ap (λ (v : Version). v.entry)
        (only_one (versions_from number (RangeDelete start end ∷ [])) (version_under (RangeDelete start end) number) (version_left version)
        (range_alone number start end) one))))
  ],
)

none_of : {X : Type 0} (xs : List X) (x : X) → xs ≡ [] → Contains xs x → ⊥
none_of xs x is h = none_within x (subst (λ l. Contains l x) is h)

-- nothing is taken of a note
pub note_takes_no_change : (versions : List KeyVersion) (number : ℕ) (bytes : List ℕ) → TakesVersions versions (versions_from number (Note bytes ∷ [])) versions
note_takes_no_change versions number bytes version = (
  λ h. inl h,
  λ h. elim h [ inl before ↦ before | inr one ↦ absurd (none_of (versions_from number (Note bytes ∷ [])) (version_left version) (note_alone number bytes) one) ],
)

pub note_takes_no_range : (ranges : List RangeMark) (number : ℕ) (bytes : List ℕ) → TakesRanges ranges (versions_from number (Note bytes ∷ [])) ranges
note_takes_no_range ranges number bytes mark = (
  λ h. inl h,
  λ h. elim h [ inl before ↦ before | inr one ↦ absurd (none_of (versions_from number (Note bytes ∷ [])) (range_left mark) (note_alone number bytes) one) ],
)

-- ---- more of them

pub takes_none : (versions : List KeyVersion) → TakesVersions versions [] versions
takes_none versions version = (λ h. inl h, λ h. elim h [ inl before ↦ before | inr none ↦ absurd (none_within (version_left version) none) ])

pub takes_no_range : (ranges : List RangeMark) → TakesRanges ranges [] ranges
takes_no_range ranges mark = (λ h. inl h, λ h. elim h [ inl before ↦ before | inr none ↦ absurd (none_within (range_left mark) none) ])

pub takes_more : (old now new : List KeyVersion) (xs ys : List Version) → TakesVersions old xs now → TakesVersions now ys new
    → TakesVersions old (xs ++ ys) new
takes_more old now new xs ys first then version = (
  λ h. elim ((then version).0 h) [
    | inl before ↦ elim ((first version).0 before) [ inl was ↦ inl was | inr here ↦ inr (Contains-append_left xs ys (version_left version) here) ]
    | inr there ↦ inr (Contains-append_right xs ys (version_left version) there)
  ],
  λ h. elim h [
    | inl was ↦ (then version).1 (inl ((first version).1 (inl was)))
    | inr more ↦ elim (Contains-append_cases xs ys (version_left version) more) [
      | inl here ↦ (then version).1 (inl ((first version).1 (inr here)))
      | inr there ↦ (then version).1 (inr there)
    ]
  ],
)

pub takes_more_ranges : (old now new : List RangeMark) (xs ys : List Version) → TakesRanges old xs now → TakesRanges now ys new
    → TakesRanges old (xs ++ ys) new
takes_more_ranges old now new xs ys first then mark = (
  λ h. elim ((then mark).0 h) [
    | inl before ↦ elim ((first mark).0 before) [ inl was ↦ inl was | inr here ↦ inr (Contains-append_left xs ys (range_left mark) here) ]
    | inr there ↦ inr (Contains-append_right xs ys (range_left mark) there)
  ],
  λ h. elim h [
    | inl was ↦ (then mark).1 (inl ((first mark).1 (inl was)))
    | inr more ↦ elim (Contains-append_cases xs ys (range_left mark) more) [
      | inl here ↦ (then mark).1 (inl ((first mark).1 (inr here)))
      | inr there ↦ (then mark).1 (inr there)
    ]
  ],
)

-- the numbers stay below
pub still_below : (old new : List KeyVersion) (changes : List Version) (number : ℕ) → AreBelow old number → TakesVersions old changes new
    → ((change : Version) → Contains changes change → change.number < number) → AreBelow new number
still_below old new changes number below takes low version h = elim ((takes version).0 h) [
  | inl before ↦ below version before
  | inr here ↦ low (version_left version) here
]

-- ---- entry by entry

module _ (entries : List Entry) (i : ℕ) (entry : Entry) (here : i < length entries) (is : entry ≡ get_or entries i entry) where
  front_more : take (i + 1) entries ≡ take i entries ++ entry ∷ []
  front_more = take_more entries i entry here ∙ ap (λ (e : Entry). take i entries ++ e ∷ []) (sym is)

  pub one_counted : is_counted entry ≡ true → count_of (take (i + 1) entries) ≡ count_of (take i entries) + 1
  one_counted e = omega (arith, ap count_of front_more, count-append (take i entries) (entry ∷ []), one_more entry [] e)

  pub none_counted : is_counted entry ≡ false → count_of (take (i + 1) entries) ≡ count_of (take i entries)
  none_counted e = omega (arith, ap count_of front_more, count-append (take i entries) (entry ∷ []), none_more entry [] e)

  changes_more : (first number : ℕ) → number ≡ first + count_of (take i entries)
      → versions_from first (take i entries) ++ versions_from number (entry ∷ []) ≡ versions_from first (take (i + 1) entries)
  changes_more first number at = ap (λ (n : ℕ). versions_from first (take i entries) ++ versions_from n (entry ∷ [])) at
      ∙ sym (versions-append first (take i entries) (entry ∷ []))
      ∙ ap (versions_from first) (sym front_more)

  pub entry_taken : (old now new : List KeyVersion) (first number : ℕ) → number ≡ first + count_of (take i entries)
      → TakesVersions old (versions_from first (take i entries)) now → TakesVersions now (versions_from number (entry ∷ [])) new
      → TakesVersions old (versions_from first (take (i + 1) entries)) new
  entry_taken old now new first number at before then = subst (λ (vs : List Version). TakesVersions old vs new) (changes_more first number at)
      (takes_more old now new (versions_from first (take i entries)) (versions_from number (entry ∷ [])) before then)

  pub range_taken : (old now new : List RangeMark) (first number : ℕ) → number ≡ first + count_of (take i entries)
      → TakesRanges old (versions_from first (take i entries)) now → TakesRanges now (versions_from number (entry ∷ [])) new
      → TakesRanges old (versions_from first (take (i + 1) entries)) new
  range_taken old now new first number at before then = subst (λ (vs : List Version). TakesRanges old vs new) (changes_more first number at)
      (takes_more_ranges old now new (versions_from first (take i entries)) (versions_from number (entry ∷ [])) before then)

-- the numbers so far are below the next one
pub entries_below_next : (old now : List KeyVersion) (first number : ℕ) (entries : List Entry) → AreBelow old first
    → number ≡ first + count_of entries → TakesVersions old (versions_from first entries) now → AreBelow now number
entries_below_next old now first number entries below at takes = still_below old now (versions_from first entries) number
    (λ version h. omega (arith, at, below version h)) takes
    (λ change h. omega (arith, at, (number_within first entries change h).1))

pub takes_first : (versions : List KeyVersion) (first : ℕ) → TakesVersions versions (versions_from first []) versions
unfolding versions_from
takes_first versions first = takes_none versions

pub takes_first_range : (ranges : List RangeMark) (first : ℕ) → TakesRanges ranges (versions_from first []) ranges
unfolding versions_from
takes_first_range ranges first = takes_no_range ranges

-- what stands before a place, where the place is the end
pub all_taken : {X : Type 0} (xs : List X) (i : ℕ) → length xs ≤ i → take i xs ≡ xs
all_taken xs i end = take_all i xs end

-- where there was nothing before, there is what was taken
pub all_versions : (old new : List KeyVersion) (batches : List Batch) → old ≡ [] → TakesVersions old (versions_in batches) new
    → (version : KeyVersion) → Contains new version ↔ LeaveVersion batches version
all_versions old new batches none takes version = (
  λ h. elim ((takes version).0 h) [
    | inl before ↦ absurd (none_within version (subst (λ (vs : List KeyVersion). Contains vs version) none before))
    | inr left ↦ left
  ],
  λ left. (takes version).1 (inr left),
)

pub all_ranges : (old new : List RangeMark) (batches : List Batch) → old ≡ [] → TakesRanges old (versions_in batches) new
    → (mark : RangeMark) → Contains new mark ↔ LeaveRange batches mark
all_ranges old new batches none takes mark = (
  λ h. elim ((takes mark).0 h) [
    | inl before ↦ absurd (none_within mark (subst (λ (ms : List RangeMark). Contains ms mark) none before))
    | inr left ↦ left
  ],
  λ left. (takes mark).1 (inr left),
)
