-- The newest version of a key, where versions that go before others are taken away or put in front.
use Rattle.std.proofs.Common.{◌≡◌, inl, inr, ℕ, ◌<◌, ◌≤◌, List, [], ◌∷◌, ◌++◌, Contains, sym, ap, ◌∙◌, arith}
use Rattle.std.proofs.lemmas.List.Elements.{Contains-append_right, Contains-append_cases}
use Rattle.wal_base.proofs.Laws.{within_head, within_tail, within_cases}
use Rattle.arena_list.specs.Versions.{KeyVersion, AscendVersions, Precedes}
use Rattle.arena_list.specs.Newest.{IsNewestOfKey}
use Rattle.arena_list.proofs.Laws.{greater_first}

module _ (first : KeyVersion) (later : List KeyVersion) where
  pub tail_ascends : AscendVersions (first ∷ later) → AscendVersions later
  unfolding AscendVersions
  tail_ascends up = up.1

  pub head_precedes : AscendVersions (first ∷ later) → (other : KeyVersion) → Contains later other → Precedes first other
  unfolding AscendVersions
  head_precedes up = up.0

pub back_ascends : (front back : List KeyVersion) → AscendVersions (front ++ back) → AscendVersions back
back_ascends [] back up = up
back_ascends (one ∷ front) back up = back_ascends front back (tail_ascends one (front ++ back) up)

module _ (at : ℕ) (first : KeyVersion) (later : List KeyVersion) where
  -- The first version is its key's newest one, if it is below the number.
  pub newest_first : AscendVersions (first ∷ later) → first.number < at → IsNewestOfKey (first ∷ later) at first
  newest_first up low = record {
    stands = within_head first later;
    under = low;
    last = λ other h same under. elim (within_cases first later other h) [
      | inl is ↦ let n : first.number ≡ other.number = ap (λ (v : KeyVersion). v.number) is in omega (arith, n)
      | inr behind ↦
          let less : other.number < first.number = greater_first first other (head_precedes first later up other behind) (sym same) in
          omega (arith, less)
    ];
  }

  pub newest_tail : (version : KeyVersion) → IsNewestOfKey (first ∷ later) at version → Contains later version → IsNewestOfKey later at version
  newest_tail version newest h = record {
    stands = h;
    under = newest.under;
    last = λ other k. newest.last other (within_tail first later other k);
  }

  -- It changes nothing for other keys, nor where it is not below the number.
  pub newest_behind : (version : KeyVersion) → IsNewestOfKey later at version → (first.key ≡ version.key → at ≤ first.number)
      → IsNewestOfKey (first ∷ later) at version
  newest_behind version newest high = record {
    stands = within_tail first later version newest.stands;
    under = newest.under;
    last = λ other h same low. elim (within_cases first later other h) [
      | inl is ↦
          let n : first.number ≡ other.number = ap (λ (v : KeyVersion). v.number) is in
          let k : first.key ≡ version.key = ap (λ (v : KeyVersion). v.key) is ∙ same in
          absurd (omega (arith, n, low, high k))
      | inr behind ↦ newest.last other behind same low
    ];
  }

  -- A version behind it is not the newest one of the same key.
  pub newest_none_behind : AscendVersions (first ∷ later) → first.number < at → (version : KeyVersion) → IsNewestOfKey (first ∷ later) at version
      → Contains later version → first.key ≡ version.key → ⊥
  newest_none_behind up low version newest h same =
      let less : version.number < first.number = greater_first first version (head_precedes first later up version h) same in
      omega (arith, less, newest.last first (within_head first later) same low)

module _ (at : ℕ) (front back : List KeyVersion) (version : KeyVersion) where
  pub newest_back : IsNewestOfKey (front ++ back) at version → Contains back version → IsNewestOfKey back at version
  newest_back newest h = record {
    stands = h;
    under = newest.under;
    last = λ other k. newest.last other (Contains-append_right front back other k);
  }

  pub newest_whole : IsNewestOfKey back at version → ((other : KeyVersion) → Contains front other → other.key ≡ version.key → ⊥)
      → IsNewestOfKey (front ++ back) at version
  newest_whole newest apart = record {
    stands = Contains-append_right front back version newest.stands;
    under = newest.under;
    last = λ other h same low. elim (Contains-append_cases front back other h) [
      | inl early ↦ absurd (apart other early same)
      | inr late ↦ newest.last other late same low
    ];
  }
