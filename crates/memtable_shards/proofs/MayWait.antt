-- Versions that wait: how many they may be.
use Rattle.std.proofs.Common.{◌≡◌, ◌≢◌, inl, inr, ℕ, ◌≤◌, Bool, true, false, List, [], ◌∷◌, ◌++◌, length, refl, sym, ap, ◌∙◌, subst, arith, eqb, ◌||◌}
use Rattle.std.specs.Prelude.{Contains, map}
use Rattle.std.specs.List.{AllByRecursion, IsDistinct, list_any}
use Rattle.std.proofs.lemmas.Bool.Decides.{nat_tests}
use Rattle.std.proofs.lemmas.List.{length-map}
use Rattle.std.proofs.lemmas.Map.Steps.{length-le_from_distinct_below}
use Rattle.std.proofs.lemmas.List.Elements.{Contains-append_cases}
use Rattle.wal_base.proofs.Laws.{none_within, within_head, within_tail}
use Rattle.batch_repr.specs.declared.limits.TheConstants.{NUMBER_MAX}
use Rattle.memtable_shards.specs.Versions.{Version}
use Rattle.memtable_shards.specs.Parts.{HaveOwnNumbers, MayWait}

-- ---- numbers of their own

pub own_both : (xs ys : List Version) → HaveOwnNumbers xs → HaveOwnNumbers ys
    → ((x y : Version) → Contains xs x → Contains ys y → x.number ≢ y.number) → HaveOwnNumbers (xs ++ ys)
unfolding HaveOwnNumbers
own_both [] ys one two apart = two
own_both (x ∷ xs) ys one two apart = (
  λ w h. elim (Contains-append_cases xs ys w h) [
    | inl here ↦ one.0 w here
    | inr there ↦
        (λ (e : w.number ≡ x.number). apart x w (within_head x xs) there (sym e))
  ],
  own_both xs ys one.1 two (λ v w h k. apart v w (within_tail x xs v h) k),
)

abbrev numbers : List Version → List ℕ
numbers versions = map (λ (v : Version). v.number) versions

unequal : (n : ℕ) (xs : List Version) → ((w : Version) → Contains xs w → w.number ≢ n) → AllByRecursion (λ (m : ℕ). eqb n m ≡ false) (numbers xs)
unequal n [] apart = tt
unequal n (x ∷ xs) apart = (go (eqb n x.number) refl, unequal n xs (λ w h. apart w (within_tail x xs w h)))
  where
    go : (b : Bool) → eqb n x.number ≡ b → b ≡ false
    go false e = refl
    go true e = absurd (apart x (within_head x xs) (grind (arith, nat_tests, e)))

distinct : (xs : List Version) → HaveOwnNumbers xs → IsDistinct eqb (numbers xs)
unfolding HaveOwnNumbers IsDistinct
distinct [] own = tt
distinct (x ∷ xs) own = (unequal x.number xs own.0, distinct xs own.1)

named : (q : ℕ) (xs : List Version) → list_any (eqb q) (numbers xs) ≡ true → (v : Version) × Contains xs v × (v.number ≡ q)
named q [] any = absurd cc
named q (x ∷ xs) any = go (eqb q x.number) refl (named q xs)
  where
    go : (b : Bool) → eqb q x.number ≡ b → (list_any (eqb q) (numbers xs) ≡ true → (v : Version) × Contains xs v × (v.number ≡ q))
        → (v : Version) × Contains (x ∷ xs) v × (v.number ≡ q)
    go true e rest = (x, within_head x xs, grind (arith, nat_tests, e))
    go false e rest = let found = rest (sym (ap (λ (b : Bool). b || list_any (eqb q) (numbers xs)) e) ∙ any) in
        (found.0, within_tail x xs found.0 found.1, found.2)

-- Versions with numbers of their own are not more than there are numbers.
pub few_versions : (xs : List Version) → MayWait xs → length xs ≤ NUMBER_MAX
few_versions xs wait =
    omega (
      arith,
      length-map xs (λ (v : Version). v.number),
      length-le_from_distinct_below (numbers xs) NUMBER_MAX (distinct xs wait.apart)
          (λ q any. let found = named q xs any in omega (arith, wait.numbers found.0 found.1, found.2)),
    )

pub wait_both : (xs ys : List Version) → MayWait xs → MayWait ys → ((x y : Version) → Contains xs x → Contains ys y → x.number ≢ y.number)
    → MayWait (xs ++ ys)
wait_both xs ys one two apart = record {
  numbers = λ v h. elim (Contains-append_cases xs ys v h) [ inl here ↦ one.numbers v here | inr there ↦ two.numbers v there ];
  apart = own_both xs ys one.apart two.apart apart;
}

-- all but the first may wait
pub rest_waits : (waiting rest : List Version) (version : Version) → waiting ≡ version ∷ rest → MayWait waiting → MayWait rest
unfolding HaveOwnNumbers
rest_waits waiting rest version is wait =
    let all : MayWait (version ∷ rest) = subst MayWait is wait in
    record { numbers = λ v h. all.numbers v (within_tail version rest v h); apart = all.apart.1 }

pub none_wait : MayWait []
unfolding HaveOwnNumbers
none_wait = record { numbers = λ v h. absurd (none_within v h); apart = tt }
