-- What is read of a view at a number is what its batches answer there.
use Rattle.std.proofs.Common.{◌≡◌, ◌⊎◌, inl, inr, ℕ, ◌≤◌, ◌<◌, Bool, true, false, cond, List, Option, Some, None, IsTrue, refl, sym, ap, ◌∙◌, subst, arith, bytes_eq}
use Rattle.std.specs.Prelude.{Contains, nat_lt}
use Rattle.std.proofs.lemmas.Bool.{cases_lt}
use Rattle.std.proofs.lemmas.Bool.Decides.{nat_tests}
use Rattle.std.proofs.lemmas.Slice.Eq.{bytes_eq-Decides}
use Rattle.wal_base.specs.declared.entry.Entry.{Entry}
use Rattle.wal_base.specs.declared.entry.Entry.TheVariants.{Set, Delete, Note, RangeDelete}
use Rattle.batch_repr.specs.declared.batch.Batch.{Batch}
use Rattle.batch_repr.specs.Batches.{is_about, is_within, value_left}
use Rattle.batch_repr.specs.Versions.{Version, versions_in, answer_at}
use Rattle.arena_list.specs.Versions.{KeyVersion}
use Rattle.arena_list.specs.Newest.{IsNewestOfKey, HasNoneOfKey, IsNewestOf}
use Rattle.range_cover.specs.declared.mark.RangeMark.{RangeMark}
use Rattle.range_cover.specs.Marks.{HasKey, IsNewestOver, TellsNewestOver}
use Rattle.snapshot_view.specs.Scans.{KeyValue, HidesVersion, IsUnhidden, ShowsValue, IsScan}
use Rattle.snapshot_view.specs.Views.{View, change_of, version_left, range_left, LeaveVersion, LeaveRange, value_shown, IsScanOf, IsNewestLeft, IsReadAt, IsView}
use Rattle.snapshot_view.proofs.Numbers.{ascend_batches}
use Rattle.snapshot_view.proofs.Newest.{IsNewest, HasNone, newest_or_none}
use Rattle.snapshot_view.proofs.Answers.{answer_is, answer_none}

-- ---- entries about a key

-- a Set or a Delete of the key
abbrev is_change : List ℕ → Entry → Bool
is_change key (Set k value) = bytes_eq k key
is_change key (Delete k) = bytes_eq k key
is_change key (Note bytes) = false
is_change key (RangeDelete start end) = false

abbrev IsChange : List ℕ → Entry → Type 0
IsChange key entry = (value : Option (List ℕ)) × (entry ≡ change_of key value)

abbrev IsRange : List ℕ → Entry → Type 0
IsRange key entry = (start : List ℕ) × (end : List ℕ) × (entry ≡ RangeDelete start end) × IsTrue (is_within start end key)

change_is : (key : List ℕ) (entry : Entry) → IsTrue (is_change key entry) → IsChange key entry
change_is key (Set k value) is = (Some value, ap (λ (x : List ℕ). Set x value) ((bytes_eq-Decides k key).0 is))
change_is key (Delete k) is = (None, ap (λ (x : List ℕ). Delete x) ((bytes_eq-Decides k key).0 is))
change_is key (Note bytes) is = absurd cc
change_is key (RangeDelete start end) is = absurd cc

its_change : (key : List ℕ) (value : Option (List ℕ)) → IsTrue (is_change key (change_of key value))
its_change key None = (bytes_eq-Decides key key).1 refl
its_change key (Some value) = (bytes_eq-Decides key key).1 refl

about_change : (key : List ℕ) (value : Option (List ℕ)) → IsTrue (is_about key (change_of key value))
about_change key None = (bytes_eq-Decides key key).1 refl
about_change key (Some value) = (bytes_eq-Decides key key).1 refl

about_cases : (key : List ℕ) (entry : Entry) → IsTrue (is_about key entry) → IsChange key entry ⊎ IsRange key entry
about_cases key (Set k value) is = inl (change_is key (Set k value) is)
about_cases key (Delete k) is = inl (change_is key (Delete k) is)
about_cases key (Note bytes) is = absurd cc
about_cases key (RangeDelete start end) is = inr (start, end, refl, is)

value_of_change : (key : List ℕ) (value : Option (List ℕ)) → value_left (change_of key value) ≡ value
value_of_change key None = refl
value_of_change key (Some value) = refl

-- a change of the key, as a version of it; and a range delete, as one
left_version : (batches : List Batch) (key : List ℕ) (value : Option (List ℕ)) (version : Version) → version.entry ≡ change_of key value
    → Contains (versions_in batches) version → LeaveVersion batches (record { key = key; number = version.number; value = value })
left_version batches key value version e h = subst (Contains (versions_in batches))
    (ap (λ (x : Entry). let v : Version = record { entry = x; number = version.number } in v) e) h

left_range : (batches : List Batch) (start end : List ℕ) (version : Version) → version.entry ≡ RangeDelete start end
    → Contains (versions_in batches) version → LeaveRange batches (record { start = start; end = end; number = version.number })
left_range batches start end version e h = subst (Contains (versions_in batches))
    (ap (λ (x : Entry). let v : Version = record { entry = x; number = version.number } in v) e) h

-- ---- a view at a number where it is read

module _ (view : View) (ranges : List RangeMark) (marks : List ℕ) (is : IsView view ranges marks) (at : ℕ) (read : IsReadAt view at) where
  -- where the batches leave a version below the number, there is a newest one of its key, and that one is kept
  record NewestKept (key : List ℕ) (number : ℕ) : Type 0 where
    version : KeyVersion
    there : Contains view.versions version
    about : version.key ≡ key
    newer : number ≤ version.number
    under : version.number < at

  newest_kept : (other : KeyVersion) → LeaveVersion view.batches other → other.number < at → NewestKept other.key other.number
  newest_kept other h low = elim (newest_or_none (is_change other.key) at (versions_in view.batches) (ascend_batches is.viewed.start view.batches is.viewed.row)) [
    | inl found ↦ go found.0 found.1 (change_is other.key found.0.entry found.1.passes)
    | inr none ↦ absurd (omega (arith, low, none (version_left other) h (its_change other.key other.value)))
  ]
    where
      go : (newest : Version) → IsNewest (is_change other.key) (versions_in view.batches) at newest → IsChange other.key newest.entry
          → NewestKept other.key other.number
      go newest found (value, e) = record {
        version = version;
        there = is.kept at read version (record {
          stands = left_version view.batches other.key value newest e found.stands;
          under = found.under;
          last = λ one there same under. found.last (version_left one) there
              (subst (λ (k : List ℕ). IsTrue (is_change k (change_of one.key one.value))) same (its_change one.key one.value)) under;
        });
        about = refl;
        newer = found.last (version_left other) h (its_change other.key other.value) low;
        under = found.under;
      }
        where
          version : KeyVersion
          version = record { key = other.key; number = newest.number; value = value }

  pub newest_left : (version : KeyVersion) → IsNewestOfKey view.versions at version → IsNewestLeft view.batches at version
  newest_left version newest = record {
    stands = is.some version newest.stands;
    under = newest.under;
    last = λ other h same low.
        let best = newest_kept other h low in
        omega (arith, best.newer, newest.last best.version best.there (best.about ∙ same) best.under);
  }

  none_left : (key : List ℕ) → HasNoneOfKey view.versions key at → (other : KeyVersion) → LeaveVersion view.batches other → other.key ≡ key → at ≤ other.number
  none_left key none other h same = elim (cases_lt other.number at) [
    | inl low ↦ let best = newest_kept other h low in absurd (omega (arith, best.under, none best.version best.there (best.about ∙ same)))
    | inr high ↦ high
  ]

  -- the newest version of the key answers, where no range delete is newer
  version_answers : (key : List ℕ) (version : KeyVersion) → IsNewestOfKey view.versions at version → version.key ≡ key
      → ((mark : RangeMark) → Contains ranges mark → HasKey mark key → mark.number < at → mark.number ≤ version.number)
      → answer_at view.batches at key ≡ version.value
  version_answers key version newest same older = answer_is is.viewed.start view.batches at key (version_left version) is.viewed.row (record {
    stands = left.stands;
    passes = subst (λ (k : List ℕ). IsTrue (is_about k (change_of version.key version.value))) same (about_change version.key version.value);
    under = newest.under;
    last = λ other h passes low. elim (about_cases key other.entry passes) [
      | inl change ↦ left.last (record { key = key; number = other.number; value = change.0 })
          (left_version view.batches key change.0 other change.1 h) (sym same) low
      | inr range ↦ older (record { start = range.0; end = range.1; number = other.number })
          ((is.covers (record { start = range.0; end = range.1; number = other.number })).1 (left_range view.batches range.0 range.1 other range.2 h))
          range.3 low
    ];
  }) ∙ value_of_change version.key version.value
    where
      left : IsNewestLeft view.batches at version
      left = newest_left version newest

  -- the newest range delete over the key answers, where no version of the key is newer
  range_answers : (key : List ℕ) (number : ℕ) → IsNewestOver ranges key at number
      → ((version : KeyVersion) → LeaveVersion view.batches version → version.key ≡ key → version.number < at → version.number ≤ number)
      → answer_at view.batches at key ≡ None
  range_answers key number newest older = go newest.stands
    where
      go : (mark : RangeMark) × Contains ranges mark × HasKey mark key × (mark.number ≡ number) → answer_at view.batches at key ≡ None
      go (mark, there, about, same) = answer_is is.viewed.start view.batches at key (range_left mark) is.viewed.row (record {
        stands = (is.covers mark).0 there;
        passes = about;
        under = omega (arith, same, newest.under);
        last = λ other h passes low. elim (about_cases key other.entry passes) [
          | inl change ↦ omega (
            arith,
            same,
            older (record { key = key; number = other.number; value = change.0 })
                (left_version view.batches key change.0 other change.1 h) refl low,
          )
          | inr range ↦ omega (
            arith,
            same,
            newest.last (record { start = range.0; end = range.1; number = other.number })
                ((is.covers (record { start = range.0; end = range.1; number = other.number })).1 (left_range view.batches range.0 range.1 other range.2 h))
                range.3 low,
          )
        ];
      })

  none_answers : (key : List ℕ) → HasNoneOfKey view.versions key at
      → ((mark : RangeMark) → Contains ranges mark → HasKey mark key → at ≤ mark.number) → answer_at view.batches at key ≡ None
  none_answers key none over = answer_none view.batches at key (λ other h passes. elim (about_cases key other.entry passes) [
    | inl change ↦ none_left key none (record { key = key; number = other.number; value = change.0 })
        (left_version view.batches key change.0 other change.1 h) refl
    | inr range ↦ over (record { start = range.0; end = range.1; number = other.number })
        ((is.covers (record { start = range.0; end = range.1; number = other.number })).1 (left_range view.batches range.0 range.1 other range.2 h))
        range.3
  ])

  -- ---- a get

  pub get_answers : (key : List ℕ) (newest : Option KeyVersion) (range : Option ℕ) → IsNewestOf view.versions key at newest
      → TellsNewestOver ranges key at range → value_shown newest range ≡ answer_at view.batches at key
  get_answers key None None none over = sym (none_answers key none over)
  get_answers key None (Some number) none over = sym (range_answers key number over
      (λ version h same low. absurd (omega (arith, low, none_left key none version h same))))
  get_answers key (Some version) None (newest, same) over = sym (version_answers key version newest same
      (λ mark h about low. absurd (omega (arith, low, over mark h about))))
  get_answers key (Some version) (Some number) (newest, same) over = go (nat_lt version.number number) refl
    where
      left : IsNewestLeft view.batches at version
      left = newest_left version newest

      go : (b : Bool) → nat_lt version.number number ≡ b → cond b None version.value ≡ answer_at view.batches at key
      go true e = let older : version.number < number = grind (arith, nat_tests, e) in
          sym (range_answers key number over (λ other h about low. omega (arith, older, left.last other h (about ∙ sym same) low)))
      go false e = let newer : number ≤ version.number = grind (arith, nat_tests, e) in
          sym (version_answers key version newest same (λ mark h about low. omega (arith, newer, over.last mark h about low)))

  -- ---- a scan

  shows : (key value : List ℕ) → ShowsValue view.versions ranges at key value → answer_at view.batches at key ≡ Some value
  shows key value (version, newest, same, has, clear) = version_answers key version newest same
      (λ mark h about low. elim (cases_lt version.number mark.number) [
        | inl newer ↦ absurd (clear mark h (record {
          about = subst (λ (k : List ℕ). HasKey mark k) (sym same) about;
          under = low;
          newer = newer;
        }))
        | inr older ↦ older
      ])
      ∙ has

  shown : (key value : List ℕ) → answer_at view.batches at key ≡ Some value → ShowsValue view.versions ranges at key value
  shown key value answers = elim (newest_or_none (is_about key) at (versions_in view.batches) (ascend_batches is.viewed.start view.batches is.viewed.row)) [
    | inl found ↦ go found.0 found.1 (about_cases key found.0.entry found.1.passes)
    | inr none ↦ absurd (nothing (sym (answer_none view.batches at key none) ∙ answers))
  ]
    where
      nothing : None ≡ Some value → ⊥
      nothing e = absurd cc

      go : (newest : Version) → IsNewest (is_about key) (versions_in view.batches) at newest → IsChange key newest.entry ⊎ IsRange key newest.entry
          → ShowsValue view.versions ranges at key value
      go newest found (inr (start, end, e, within)) = absurd (nothing
          (sym (answer_is is.viewed.start view.batches at key newest is.viewed.row found ∙ ap value_left e) ∙ answers))
      go newest found (inl (left, e)) = (
        version,
        record {
          stands = is.kept at read version (record {
            stands = left_version view.batches key left newest e found.stands;
            under = found.under;
            last = λ other h same low. newer other h same low;
          });
          under = found.under;
          last = λ other h same low. newer other (is.some other h) same low;
        },
        refl,
        sym (answer_is is.viewed.start view.batches at key newest is.viewed.row found ∙ ap value_left e ∙ value_of_change key left) ∙ answers,
        λ mark h hides. absurd (omega (arith, hides.newer, found.last (range_left mark) ((is.covers mark).0 h) hides.about hides.under)),
      )
        where
          version : KeyVersion
          version = record { key = key; number = newest.number; value = left }

          newer : (other : KeyVersion) → LeaveVersion view.batches other → other.key ≡ key → other.number < at → other.number ≤ newest.number
          newer other h same low = found.last (version_left other) h
              (subst (λ (k : List ℕ). IsTrue (is_about k (change_of other.key other.value))) same (about_change other.key other.value)) low

  pub scan_answers : (from : List ℕ) (pairs : List KeyValue) → IsScan view.versions ranges from at pairs → IsScanOf view.batches from at pairs
  scan_answers from pairs scan = record {
    ascend = scan.ascend;
    same = λ key value. (
      λ h. let s = (scan.same key value).0 h in (s.0, shows key value s.1),
      λ h. (scan.same key value).1 (h.0, shown key value h.1),
    );
  }
