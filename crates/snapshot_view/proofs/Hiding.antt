-- A version is hidden exactly where one of the range deletes hides it, and the newest one over its key tells that.
use Rattle.std.proofs.Common.{◌≡◌, inl, inr, ℕ, ◌<◌, nat_lt, ◌&&◌, Bool, true, false, cond, List, [], ◌∷◌, Some, None, Contains, refl, sym, ◌∙◌, subst, arith, ltb-true}
use Rattle.std.proofs.lemmas.Bool.{cond-false, lt-ltb, or_cases, or_left, or_right, and_parts, and_from, both_ways, false_from_ne_true}
use Rattle.std.proofs.lemmas.Bool.Decides.{same_from_decides, Decides-ltb}
use Rattle.wal_base.proofs.Laws.{none_within, within_head, within_tail, within_cases}
use Rattle.batch_repr.specs.Batches.{is_within}
use Rattle.arena_list.specs.Versions.{KeyVersion}
use Rattle.range_cover.specs.declared.mark.RangeMark.{RangeMark}
use Rattle.range_cover.specs.Marks.{TellsNewestOver}
use Rattle.snapshot_view.specs.Scans.{HidesVersion, IsUnhidden, hides, is_hidden, open_value}

module _ (at : ℕ) (version : KeyVersion) where
  one_hides : (mark : RangeMark) → hides mark at version ≡ true → HidesVersion mark at version
  one_hides mark e =
      let parts = and_parts (is_within mark.start mark.end version.key) (nat_lt mark.number at && nat_lt version.number mark.number) e in
      let numbers = and_parts (nat_lt mark.number at) (nat_lt version.number mark.number) parts.1 in
      record {
        about = parts.0;
        under = ltb-true mark.number at numbers.0;
        newer = ltb-true version.number mark.number numbers.1;
      }

  hides_one : (mark : RangeMark) → HidesVersion mark at version → hides mark at version ≡ true
  hides_one mark h = and_from (is_within mark.start mark.end version.key) (nat_lt mark.number at && nat_lt version.number mark.number) h.about
      (and_from (nat_lt mark.number at) (nat_lt version.number mark.number)
      (lt-ltb mark.number at h.under) (lt-ltb version.number mark.number h.newer))

  -- where it is hidden, one of them hides it
  pub some_hides : (ranges : List RangeMark) → is_hidden ranges at version ≡ true
      → (mark : RangeMark) × Contains ranges mark × HidesVersion mark at version
  unfolding is_hidden
  some_hides [] e = absurd cc
  some_hides (mark ∷ ranges) e = elim (or_cases (hides mark at version) (is_hidden ranges at version) e) [
    | inl first ↦ (mark, within_head mark ranges, one_hides mark first)
    | inr later ↦ let some = some_hides ranges later in (some.0, within_tail mark ranges some.0 some.1, some.2)
  ]

  -- where one of them hides it, it is hidden
  pub hidden_by : (ranges : List RangeMark) (mark : RangeMark) → Contains ranges mark → HidesVersion mark at version
      → is_hidden ranges at version ≡ true
  unfolding is_hidden
  hidden_by [] mark h it = absurd (none_within mark h)
  hidden_by (one ∷ ranges) mark h it = elim (within_cases one ranges mark h) [
    | inl same ↦ or_left (hides one at version) (is_hidden ranges at version)
        (hides_one one (subst (λ (m : RangeMark). HidesVersion m at version) (sym same) it))
    | inr later ↦ or_right (hides one at version) (is_hidden ranges at version) (hidden_by ranges mark later it)
  ]

  module _ (ranges : List RangeMark) where
    pub open_from : is_hidden ranges at version ≡ false → IsUnhidden ranges at version
    open_from e mark h it = both_ways (is_hidden ranges at version) e (hidden_by ranges mark h it)

    pub open_is : IsUnhidden ranges at version → is_hidden ranges at version ≡ false
    open_is open_ = false_from_ne_true (is_hidden ranges at version) (λ e. let some = some_hides ranges e in open_ some.0 some.1 some.2)

    -- the newest range delete over its key hides it, or none does
    pub hidden_by_newest : (number : ℕ) → TellsNewestOver ranges version.key at (Some number)
        → nat_lt version.number number ≡ is_hidden ranges at version
    hidden_by_newest number newest = same_from_decides (nat_lt version.number number) (is_hidden ranges at version)
        (Decides-ltb version.number number) (from, to)
      where
        from : is_hidden ranges at version ≡ true → version.number < number
        from e =
            let some = some_hides ranges e in
            omega (arith, newest.last some.0 some.1 some.2.about some.2.under, some.2.newer)

        to : version.number < number → is_hidden ranges at version ≡ true
        to less = let (mark, stands, about, same) = newest.stands in hidden_by ranges mark stands (record {
          about = about;
          under = omega (arith, same, newest.under);
          newer = omega (arith, same, less);
        })

    pub hidden_by_none : TellsNewestOver ranges version.key at None → false ≡ is_hidden ranges at version
    hidden_by_none none = sym (open_is (λ mark h it. omega (arith, it.under, none mark h it.about)))

    -- what an open value is
    pub open_value_shows : (value : List ℕ) → open_value ranges at version ≡ Some value → (version.value ≡ Some value) × IsUnhidden ranges at version
    open_value_shows value = go (is_hidden ranges at version) refl
      where
        go : (b : Bool) → is_hidden ranges at version ≡ b → cond b None version.value ≡ Some value
            → (version.value ≡ Some value) × IsUnhidden ranges at version
        go true e has = absurd cc
        go false e has = (has, open_from e)

    pub shows_open_value : (value : List ℕ) → version.value ≡ Some value → IsUnhidden ranges at version → open_value ranges at version ≡ Some value
    shows_open_value value has open_ = cond-false (is_hidden ranges at version) None version.value (open_is open_) ∙ has
