-- What is found in two lists of versions is the newer one of what is found in each.
use Rattle.std.proofs.Common.{◌≡◌, inl, inr, ℕ, ◌≤◌, ◌<◌, List, [], ◌∷◌, ◌++◌, Option, Some, None, sym, ap, subst, arith}
use Rattle.std.specs.Prelude.{Contains, option_map, ◌↔◌}
use Rattle.std.proofs.lemmas.List.Elements.{Contains-append_left, Contains-append_right, Contains-append_cases}
use Rattle.wal_base.proofs.Laws.{none_within, within_head, within_cases}
use Rattle.memtable_shards.specs.Versions.{Version}
use Rattle.memtable_shards.specs.Newest.{IsAbout, HasNoneBelow, Told, told_of, TellsNewest}

abbrev pub number_of : Option Told → Option ℕ
number_of it = option_map (λ (t : Told). t.number) it

-- nothing is found among no versions
pub newest_none : (key : List ℕ) (below : ℕ) → HasNoneBelow [] key below
newest_none key below = λ w h about. absurd (none_within w h)

-- one version, about the key and below the number
pub newest_one : (key : List ℕ) (below : ℕ) (v : Version) (it : Told) → IsAbout v key → v.number < below → told_of v ≡ it
    → TellsNewest (v ∷ []) key below (Some it)
newest_one key below v it about under is = (
  v,
  record {
    stands = within_head v [];
    about = about;
    under = under;
    last = λ w h same low. elim (within_cases v [] w h) [
      | inl e ↦ omega (arith, ap (λ (x : Version). x.number) e)
      | inr no_more ↦ absurd
          (none_within w no_more)
    ];
  },
  is,
)

-- one that is not about the key, or not below the number
pub newest_other : (key : List ℕ) (below : ℕ) (v : Version) → (IsAbout v key → below ≤ v.number) → HasNoneBelow (v ∷ []) key below
newest_other key below v apart = λ w h about. elim (within_cases v [] w h) [
  | inl e ↦ subst (λ (x : Version). below ≤ x.number) e (apart (subst (λ (x : Version). IsAbout x key) (sym e) about))
  | inr no_more ↦ absurd (none_within w no_more)
]

module _ (xs ys : List Version) (key : List ℕ) (below : ℕ) where
  none_both : HasNoneBelow xs key below → HasNoneBelow ys key below → HasNoneBelow (xs ++ ys) key below
  none_both one two = λ w h about. elim (Contains-append_cases xs ys w h) [ inl here ↦ one w here about | inr there ↦ two w there about ]

  -- the newest of one list, where the other has none that is newer
  first : (it : Told) → TellsNewest xs key below (Some it)
      → ((w : Version) → Contains ys w → IsAbout w key → w.number < below → w.number ≤ it.number) → TellsNewest (xs ++ ys) key below (Some it)
  first it is others = (
    is.0,
    record {
      stands = Contains-append_left xs ys is.0 is.1.stands;
      about = is.1.about;
      under = is.1.under;
      last = λ w h same low. elim (Contains-append_cases xs ys w h) [
        | inl here ↦ is.1.last w here same low
        | inr there ↦ omega (arith, others w there same low, ap (λ (t : Told). t.number) is.2)
      ];
    },
    is.2,
  )

  second : (it : Told) → TellsNewest ys key below (Some it)
      → ((w : Version) → Contains xs w → IsAbout w key → w.number < below → w.number ≤ it.number) → TellsNewest (xs ++ ys) key below (Some it)
  second it is others = (
    is.0,
    record {
      stands = Contains-append_right xs ys is.0 is.1.stands;
      about = is.1.about;
      under = is.1.under;
      last = λ w h same low. elim (Contains-append_cases xs ys w h) [
        | inl here ↦ omega (arith, others w here same low, ap (λ (t : Told). t.number) is.2)
        | inr there ↦ is.1.last w there same low
      ];
    },
    is.2,
  )

  pub second_alone : (a b : Option Told) → None ≡ number_of a → TellsNewest xs key below a → TellsNewest ys key below b → TellsNewest (xs ++ ys) key below b
  second_alone (Some a) b other one two = absurd cc
  second_alone None None other one two = none_both one two
  second_alone None (Some b) other one two = second b two (λ w h about low. absurd (omega (arith, one w h about, low)))

  pub first_alone : (a b : Option Told) → None ≡ number_of b → TellsNewest xs key below a → TellsNewest ys key below b → TellsNewest (xs ++ ys) key below a
  first_alone a (Some b) other one two = absurd cc
  first_alone None None other one two = none_both one two
  first_alone (Some a) None other one two = first a one (λ w h about low. absurd (omega (arith, two w h about, low)))

  pub second_newer : (a b : Option Told) (m n : ℕ) → Some m ≡ number_of a → Some n ≡ number_of b → m < n → TellsNewest xs key below a
      → TellsNewest ys key below b → TellsNewest (xs ++ ys) key below b
  second_newer None b m n e f less one two = absurd cc
  second_newer (Some a) None m n e f less one two = absurd cc
  second_newer (Some a) (Some b) m n e f less one two =
      let em : m ≡ a.number = cc in
      let en : n ≡ b.number = cc in
      second b two (λ w h about low. omega (arith, one.1.last w h about low, ap (λ (t : Told). t.number) one.2, em, en, less))

  pub first_newer : (a b : Option Told) (m n : ℕ) → Some m ≡ number_of a → Some n ≡ number_of b → n ≤ m → TellsNewest xs key below a
      → TellsNewest ys key below b → TellsNewest (xs ++ ys) key below a
  first_newer None b m n e f less one two = absurd cc
  first_newer (Some a) None m n e f less one two = absurd cc
  first_newer (Some a) (Some b) m n e f less one two =
      let em : m ≡ a.number = cc in
      let en : n ≡ b.number = cc in
      first a one (λ w h about low. omega (arith, two.1.last w h about low, ap (λ (t : Told). t.number) two.2, em, en, less))

-- The order of the versions says nothing, nor how often each of them stands there.
pub newest_same : (xs ys : List Version) (key : List ℕ) (below : ℕ) (found : Option Told)
    → ((v : Version) → Contains ys v ↔ Contains xs v) → TellsNewest xs key below found → TellsNewest ys key below found
newest_same xs ys key below None same none = λ v h about. none v ((same v).0 h) about
newest_same xs ys key below (Some it) same is = (
  is.0,
  record {
    stands = (same is.0).1 is.1.stands;
    about = is.1.about;
    under = is.1.under;
    last = λ other h about low. is.1.last other ((same other).0 h) about low;
  },
  is.2,
)
