-- Of versions in order none stands twice, so that there are fewer of them where one is gone.
use Rattle.std.proofs.Common.{◌≡◌, inl, inr, ◌+◌, ◌<◌, Bool, true, false, cond, List, [], ◌∷◌, ◌++◌, Contains, sym, ap, subst, arith}
use Rattle.std.specs.Prelude.{count_by}
use Rattle.std.proofs.lemmas.Bool.{cases_Bool}
use Rattle.std.proofs.lemmas.List.Sums.{sum_by-cons, sum_by-append}
use Rattle.wal_base.proofs.Laws.{within_head, within_tail}
use Rattle.arena_list.specs.Versions.{KeyVersion, Precedes, AscendVersions}
use Rattle.arena_list.proofs.Laws.{never_before_itself, split_at, amid_cases}

count_first : (p : KeyVersion → Bool) (one : KeyVersion) (rest : List KeyVersion) (b : Bool) → p one ≡ b → count_by p (one ∷ rest) ≡ cond b 1 0 + count_by p rest
count_first p one rest b is = subst (λ (c : Bool). count_by p (one ∷ rest) ≡ cond c 1 0 + count_by p rest) is (sum_by-cons (λ y. cond (p y) 1 0) one rest)

count_amid : (p : KeyVersion → Bool) (front back : List KeyVersion) (one : KeyVersion) → p one ≡ true
    → count_by p (front ++ one ∷ back) ≡ count_by p (front ++ back) + 1
count_amid p front back one passes =
    let whole : count_by p (front ++ one ∷ back) ≡ count_by p front + count_by p (one ∷ back) = sum_by-append (λ y. cond (p y) 1 0) front (one ∷ back) in
    let less : count_by p (front ++ back) ≡ count_by p front + count_by p back = sum_by-append (λ y. cond (p y) 1 0) front back in
    let first : count_by p (one ∷ back) ≡ 1 + count_by p back = count_first p one back true passes in
    omega (arith, whole, less, first)

pub fewer : (p q : KeyVersion → Bool) (new old : List KeyVersion) → AscendVersions new
    → ((one : KeyVersion) → Contains new one → p one ≡ true → Contains old one × (q one ≡ true)) → (gone : KeyVersion) → Contains old gone → q gone ≡ true
    → (Contains new gone → p gone ≡ true → ⊥) → count_by p new < count_by q old
unfolding AscendVersions
fewer p q [] old ascend still gone h passes not =
    let s = split_at old gone h in
    let whole : count_by q old ≡ count_by q (s.0 ++ gone ∷ s.1) = ap (λ (l : List KeyVersion). count_by q l) s.2 in
    omega (arith, whole, count_amid q s.0 s.1 gone passes)
fewer p q (x ∷ xs) old ascend still gone h passes not = elim (cases_Bool (p x)) [
  | inl e ↦
      let was = still x (within_head x xs) e in
      let s = split_at old x was.0 in
      let whole : count_by q old ≡ count_by q (s.0 ++ x ∷ s.1) = ap (λ (l : List KeyVersion). count_by q l) s.2 in
      let rest : count_by p xs < count_by q (s.0 ++ s.1) =
      fewer p q xs (s.0 ++ s.1) ascend.1
      (λ one k passes_it.
      let it = still one (within_tail x xs one k) passes_it in (
        elim (amid_cases s.0 s.1 x one (subst (λ (l : List KeyVersion). Contains l one) s.2 it.0)) [
          | inl same ↦ absurd (never_before_itself x (subst (λ (v : KeyVersion). Precedes x v) (sym same) (ascend.0 one k)))
          | inr other ↦ other
        ],
        it.1,
      )) gone
      (elim (amid_cases s.0 s.1 x gone (subst (λ (l : List KeyVersion). Contains l gone) s.2 h)) [
        | inl same ↦ absurd (not (subst (Contains (x ∷ xs)) same (within_head x xs)) (subst (λ (v : KeyVersion). p v ≡ true) same e))
        | inr other ↦ other
      ]) passes (λ k. not (within_tail x xs gone k)) in
      omega (arith, count_first p x xs true e, whole, count_amid q s.0 s.1 x was.1, rest)
  | inr e ↦
      let rest : count_by p xs < count_by q old =
      fewer p q xs old ascend.1 (λ one k. still one (within_tail x xs one k)) gone h passes (λ k. not (within_tail x xs gone k)) in
      omega (arith, count_first p x xs false e, rest)
]
