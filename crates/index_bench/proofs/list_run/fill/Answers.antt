-- The number of each version is new.
use Rattle.std.proofs.Common.{◌≡◌, ◌⊎◌, inl, inr, ℕ, ◌+◌, ◌<◌, true, false, Result, Ok, Err, ap, subst, refl, arith, List}
use Rattle.std.specs.Prelude.{Contains, OnOk}
use Rattle.std.specs.Result.{is_err}
use Rattle.arena_list.specs.Versions.{KeyVersion}
use Rattle.index_bench.proofs.list_run.fill.Goals as goal

pub loop-number-init : goal.loop-number-init
loop-number-init c = λ version has.
    let none = subst (λ (versions : List KeyVersion). Contains versions version) c.in_ok-list.ensures.versions has in
    absurd (omega (arith, none.1))

pub insert-requires : goal.insert-requires
insert-requires c = record {
  absent = λ held. omega (arith, c.loop-number.invariant held.0 held.1, held.2.1, c.from.ensures);
}

where_ok : {T E : Type 0} (answer : Result T E) (Holds : Type 0) → false ≡ is_err answer → OnOk answer Holds → Holds
where_ok (Ok it) Holds is holds = holds
where_ok (Err fault) Holds is holds = let clash : false ≡ true = is in absurd cc

older_or_new : (next number : ℕ) (old : List KeyVersion) (version new : KeyVersion) → new.number ≡ number → number ≡ next
    → ((v : KeyVersion) → Contains old v → v.number < next) → Contains old version ⊎ (version ≡ new) → version.number < next + 1
older_or_new next number old version new is at older (inl had) = omega (arith, older version had)
older_or_new next number old version new is at older (inr same) = omega (arith, ap (λ (v : KeyVersion). v.number) same, is, at)

pub loop-number-preserved : goal.loop-number-preserved
loop-number-preserved c = λ version has.
    older_or_new c.loop-number.number c.from.result c.loop-number.list.versions version _ refl c.from.ensures c.loop-number.invariant
    ((where_ok c.insert.result _ c.if-is_err.ensures.value c.insert.ensures.added version).0 has)
