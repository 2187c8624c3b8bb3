-- The newest version below a number that passes a test: there is one or none, and it is the last of those that pass.
use Rattle.std.proofs.Common.{◌≡◌, ◌⊎◌, inl, inr, ℕ, ◌≤◌, ◌<◌, Bool, true, false, cond, List, [], ◌∷◌, map, Option, Some, IsTrue, filter, refl, sym, ap, ◌∙◌, subst, arith}
use Rattle.std.specs.Prelude.{Contains, nat_lt}
use Rattle.std.specs.List.{last_or}
use Rattle.std.proofs.lemmas.Bool.Decides.{nat_tests}
use Rattle.wal_base.proofs.Laws.{none_within, within_head, within_tail, within_cases}
use Rattle.wal_base.specs.declared.entry.Entry.{Entry}
use Rattle.batch_repr.specs.Versions.{Version, entries_below}
use Rattle.snapshot_view.proofs.Numbers.{AscendNumbers}

-- The version is the newest one below a number whose entry passes.
pub record IsNewest (test : Entry → Bool) (versions : List Version) (at : ℕ) (version : Version) : Type 0 where
  pub stands : Contains versions version
  pub passes : IsTrue (test version.entry)
  pub under : version.number < at
  pub last : (other : Version) → Contains versions other → IsTrue (test other.entry) → other.number < at → other.number ≤ version.number

-- No version below the number has an entry that passes.
abbrev pub HasNone : (Entry → Bool) → List Version → ℕ → Type 0
HasNone test versions at = (other : Version) → Contains versions other → IsTrue (test other.entry) → at ≤ other.number

is_below : (n at : ℕ) → nat_lt n at ≡ true → n < at
is_below n at e = grind (arith, nat_tests, e)

not_below : (n at : ℕ) → nat_lt n at ≡ false → at ≤ n
not_below n at e = grind (arith, nat_tests, e)

below_is : (n at : ℕ) → n < at → nat_lt n at ≡ true
below_is n at h = grind (arith, nat_tests, h)

module _ (test : Entry → Bool) (at : ℕ) where
  -- the same version where there are older ones before the others
  newest_later : (first version : Version) (versions : List Version) → AscendNumbers (first ∷ versions) → IsNewest test versions at version
      → IsNewest test (first ∷ versions) at version
  unfolding AscendNumbers
  newest_later first version versions ascend is = record {
    stands = within_tail first versions version is.stands;
    passes = is.passes;
    under = is.under;
    last = λ other h passes low. elim (within_cases first versions other h) [
      | inl same ↦ let less = ascend.0 version is.stands in omega (arith, less, ap (λ (v : Version). v.number) same)
      | inr later ↦ is.last other later passes low
    ];
  }

  newest_first : (first : Version) (versions : List Version) → IsTrue (test first.entry) → first.number < at → HasNone test versions at
      → IsNewest test (first ∷ versions) at first
  newest_first first versions passes low none = record {
    stands = within_head first versions;
    passes = passes;
    under = low;
    last = λ other h ok under. elim (within_cases first versions other h) [
      | inl same ↦ omega (arith, ap (λ (v : Version). v.number) same)
      | inr later ↦ absurd (omega (arith, none other later ok, under))
    ];
  }

  none_first : (first : Version) (versions : List Version) → (IsTrue (test first.entry) → at ≤ first.number) → HasNone test versions at
      → HasNone test (first ∷ versions) at
  none_first first versions apart none other h passes = elim (within_cases first versions other h) [
    | inl same ↦ subst (λ (v : Version). at ≤ v.number) same (apart (subst (λ (v : Version). IsTrue (test v.entry)) (sym same) passes))
    | inr later ↦ none other later passes
  ]

  pub newest_or_none : (versions : List Version) → AscendNumbers versions
      → ((version : Version) × IsNewest test versions at version) ⊎ HasNone test versions at
  unfolding AscendNumbers
  newest_or_none [] ascend = inr (λ other h passes. absurd (none_within other h))
  newest_or_none (first ∷ versions) ascend = elim (newest_or_none versions ascend.1) [
    | inl found ↦ inl (found.0, newest_later first found.0 versions ascend found.1)
    | inr none ↦ go none (nat_lt first.number at) (test first.entry) refl refl
  ]
    where
      go : HasNone test versions at → (b c : Bool) → nat_lt first.number at ≡ b → test first.entry ≡ c
          → ((version : Version) × IsNewest test (first ∷ versions) at version) ⊎ HasNone test (first ∷ versions) at
      go none true true b c = inl (first, newest_first first versions c (is_below first.number at b) none)
      go none true false b c = inr (none_first first versions (λ passes. absurd cc) none)
      go none false c b d = inr (none_first first versions (λ passes. not_below first.number at b) none)

  -- ---- the last of those that pass

  abbrev last_passing : Option Entry → List Version → Option Entry
  last_passing before versions = last_or before (filter test (entries_below at versions))

  -- what the last one is where the first version is left out
  abbrev after_first : Option Entry → Version → Option Entry
  after_first before first = cond (nat_lt first.number at) (cond (test first.entry) (Some first.entry) before) before

  step : (before : Option Entry) (first : Version) (versions : List Version)
      → last_passing before (first ∷ versions) ≡ last_passing (after_first before first) versions
  step before first versions = under (nat_lt first.number at)
    where
      later : List Version
      later = filter (λ (v : Version). nat_lt v.number at) versions

      entries : List Version → List Entry
      entries vs = map (λ (v : Version). v.entry) vs

      passing : (c : Bool) → last_or before (cond c (first.entry ∷ filter test (entries later)) (filter test (entries later)))
          ≡ last_or (cond c (Some first.entry) before) (filter test (entries later))
      passing true = refl
      passing false = refl

      under : (b : Bool) → last_or before (filter test (entries (cond b (first ∷ later) later)))
          ≡ last_or (cond b (cond (test first.entry) (Some first.entry) before) before) (filter test (entries later))
      under true = passing (test first.entry)
      under false = refl

  pub last_none : (versions : List Version) (before : Option Entry) → HasNone test versions at → last_passing before versions ≡ before
  last_none [] before none = refl
  last_none (first ∷ versions) before none =
      step before first versions
      ∙ ap (λ (b : Option Entry). last_passing b versions) (go (nat_lt first.number at) (test first.entry) refl refl)
      ∙ last_none versions before (λ other h. none other (within_tail first versions other h))
    where
      go : (b c : Bool) → nat_lt first.number at ≡ b → test first.entry ≡ c → cond b (cond c (Some first.entry) before) before ≡ before
      go true true b c = absurd (omega (arith, is_below first.number at b, none first (within_head first versions) c))
      go true false b c = refl
      go false c b d = refl

  pub last_is : (versions : List Version) (before : Option Entry) (version : Version) → AscendNumbers versions → IsNewest test versions at version
      → last_passing before versions ≡ Some version.entry
  unfolding AscendNumbers
  last_is [] before version ascend is = absurd (none_within version is.stands)
  last_is (first ∷ versions) before version ascend is = step before first versions
      ∙ go (λ acc newest. last_is versions acc version ascend.1 newest) (within_cases first versions version is.stands)
    where
      here : first ≡ version → after_first before first ≡ Some version.entry
      here same = ap (after_first before) same
          ∙ ap (λ (b : Bool). cond b (cond (test version.entry) (Some version.entry) before) before) (below_is version.number at is.under)
          ∙ ap (λ (c : Bool). cond c (Some version.entry) before) is.passes

      go : ((acc : Option Entry) → IsNewest test versions at version → last_passing acc versions ≡ Some version.entry)
          → (first ≡ version) ⊎ Contains versions version → last_passing (after_first before first) versions ≡ Some version.entry
      go rest (inl same) = ap (λ (b : Option Entry). last_passing b versions) (here same)
          ∙ last_none versions (Some version.entry) (λ other h passes. older other h passes (nat_lt other.number at) refl)
        where
          older : (other : Version) → Contains versions other → IsTrue (test other.entry) → (b : Bool) → nat_lt other.number at ≡ b → at ≤ other.number
          older other h passes true e = absurd (omega (
            arith,
            ascend.0 other h,
            ap (λ (v : Version). v.number) same,
            is.last other (within_tail first versions other h) passes (is_below other.number at e),
          ))
          older other h passes false e = not_below other.number at e
      go rest (inr later) = rest (after_first before first) (record {
        stands = later;
        passes = is.passes;
        under = is.under;
        last = λ other h. is.last other (within_tail first versions other h);
      })
