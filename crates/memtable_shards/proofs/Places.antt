-- What stands at a place of a list after one item was changed.
use Rattle.std.proofs.Common.{◌≡◌, ◌≢◌, ◌⊎◌, inl, inr, ℕ, ◌<◌, Bool, true, false, List, length, Some, refl, sym, ap, ◌∙◌, subst, arith, eqb, get_or, length-set}
use Rattle.std.specs.Prelude.{slice_get}
use Rattle.std.proofs.lemmas.Bool.Decides.{nat_tests}
use Rattle.std.proofs.Math.ListN.{set}
use Rattle.std.proofs.lemmas.List.{get_or-set_same, get_or-set_other}
use Rattle.std.proofs.lemmas.Option.{slice_get_within, get_or_from_slice_get, slice_get-get_or}
use Rattle.memtable_shards.specs.Versions.{Version}

-- what stands at a place after a change
pub changed : (shards : List (List Version)) (index : ℕ) (old new : List Version) (place : ℕ) (shard : List Version) → slice_get shards index ≡ Some old
    → slice_get (set shards index new) place ≡ Some shard
    → ((place ≡ index) × (shard ≡ new)) ⊎ ((place ≢ index) × (slice_get shards place ≡ Some shard))
changed shards index old new place shard was at = go (eqb place index) refl
  where
    now : get_or (set shards index new) place shard ≡ shard
    now = get_or_from_slice_get (set shards index new) place shard shard at

    within : place < length shards
    within = omega (arith, slice_get_within (set shards index new) place shard at, length-set {A = List Version})

    go : (b : Bool) → eqb place index ≡ b → ((place ≡ index) × (shard ≡ new)) ⊎ ((place ≢ index) × (slice_get shards place ≡ Some shard))
    go true e =
        let same : place ≡ index = grind (arith, nat_tests, e) in
        inl (
          same,
          sym now ∙ subst (λ (n : ℕ). get_or (set shards index new) n shard ≡ new) (sym same)
              (get_or-set_same shards index new shard (slice_get_within shards index old was)),
        )
    go false e =
        let other : place ≢ index = λ (same : place ≡ index). grind (arith, nat_tests, e, same) in
        inr (other, slice_get-get_or shards place shard within ∙ ap Some (sym (get_or-set_other shards index place new shard other) ∙ now))
