-- As a set, what is known behind right frames is what was known, and those of the frames' batches that take a number.
use Rattle.std.proofs.Common.{◌≡◌, ◌⊎◌, inl, inr, ℕ, ◌<◌, List, [], ◌∷◌, refl, sym, subst, arith}
use Rattle.std.specs.Prelude.{◌↔◌, Contains}
use Rattle.std.proofs.lemmas.List.Elements.{Contains-append_left, Contains-push, Contains-push_cases}
use Rattle.wal_base.proofs.Laws.{none_within, within_cases, within_head, within_tail}
use Rattle.batch_repr.specs.declared.batch.Batch.{Batch}
use Rattle.batch_repr.specs.Batches.{count_of}
use Rattle.wal_ship.specs.Following.{AreFrames, Joins}
use Rattle.wal_ship.specs.Following.Joins.{takes_none, comes_next, there}
use Rattle.wal_ship.specs.Following.AreFrames.{none, more}
use Rattle.wal_ship.specs.Theorems.{FramesAreUnion, SpellFrames}
use Rattle.wal_ship.specs.Theorems.SpellFrames.{no_frame, one_frame}
use Rattle.wal_ship.proofs.Cutting.{same_frame, some_frame}

-- the batch is one of these, and takes a number
abbrev IsCountedOf : List Batch → Batch → Type 0
IsCountedOf batches x = Contains batches x × (0 < count_of x.entries)

-- ---- one batch

joined_was : (known : List Batch) (batch : Batch) (joined : List Batch) (x : Batch) → Joins known batch joined → Contains joined x
    → Contains known x ⊎ ((batch ≡ x) × (0 < count_of x.entries))
joined_was known batch _ x (takes_none z) h = inl h
joined_was known batch _ x (comes_next s n) h = elim (Contains-push_cases known batch x h) [
  | inl old ↦ inl old
  | inr new ↦ inr (new, subst (λ (b : Batch). 0 < count_of b.entries) new s)
]
joined_was known batch _ x (there s b c) h = inl h

joined_keeps : (known : List Batch) (batch : Batch) (joined : List Batch) (x : Batch) → Joins known batch joined → Contains known x → Contains joined x
joined_keeps known batch _ x (takes_none z) h = h
joined_keeps known batch _ x (comes_next s n) h = Contains-append_left known (batch ∷ []) x h
joined_keeps known batch _ x (there s b c) h = h

joined_has : (known : List Batch) (batch : Batch) (joined : List Batch) → Joins known batch joined → 0 < count_of batch.entries → Contains joined batch
joined_has known batch _ (takes_none z) s = absurd (omega (arith, z, s))
joined_has known batch _ (comes_next s' n) s = Contains-push known batch
joined_has known batch _ (there s' b c) s = c

-- ---- rows

union_more : (known : List Batch) (batch : Batch) (joined all batches : List Batch) (x : Batch) → Joins known batch joined
    → (Contains all x ↔ (Contains joined x ⊎ IsCountedOf batches x)) → Contains all x ↔ (Contains known x ⊎ IsCountedOf (batch ∷ batches) x)
union_more known batch joined all batches x j rest = (to, from)
  where
    of_joined : Contains known x ⊎ ((batch ≡ x) × (0 < count_of x.entries)) → Contains known x ⊎ IsCountedOf (batch ∷ batches) x
    of_joined (inl old) = inl old
    of_joined (inr (new, s)) = inr (subst (λ (b : Batch). Contains (batch ∷ batches) b) new (within_head batch batches), s)

    of_rest : Contains joined x ⊎ IsCountedOf batches x → Contains known x ⊎ IsCountedOf (batch ∷ batches) x
    of_rest (inl old) = of_joined (joined_was known batch joined x j old)
    of_rest (inr (h, s)) = inr (within_tail batch batches x h, s)

    to : Contains all x → Contains known x ⊎ IsCountedOf (batch ∷ batches) x
    to h = of_rest (rest.0 h)

    of_frame : (batch ≡ x) ⊎ Contains batches x → 0 < count_of x.entries → Contains joined x ⊎ IsCountedOf batches x
    of_frame (inl e) s = inl (subst (λ (b : Batch). Contains joined b) e
        (joined_has known batch joined j (subst (λ (b : Batch). 0 < count_of b.entries) (sym e) s)))
    of_frame (inr h) s = inr (h, s)

    from : Contains known x ⊎ IsCountedOf (batch ∷ batches) x → Contains all x
    from (inl old) = rest.1 (inl (joined_keeps known batch joined x j old))
    from (inr (h, s)) = rest.1 (of_frame (within_cases batch batches x h) s)

rows_union : (known : List Batch) (bytes : List ℕ) (all : List Batch) (bytes' : List ℕ) (batches : List Batch) → AreFrames known bytes all
    → SpellFrames bytes' batches → bytes ≡ bytes' → (x : Batch) → Contains all x ↔ (Contains known x ⊎ IsCountedOf batches x)
rows_union _ _ _ _ _ (none known) no_frame is x = (λ h. inl h, λ h. elim h [ inl old ↦ old | inr new ↦ absurd (none_within x new.0) ])
rows_union _ _ _ _ _ (none known) (one_frame frame' bytes' batch' batches f' s) is x = absurd (some_frame frame' bytes' batch' f' (sym is))
rows_union _ _ _ _ _ (more known bytes frame batch joined all f j r) no_frame is x = absurd (some_frame frame bytes batch f is)
rows_union _ _ _ _ _ (more known bytes frame batch joined all f j r) (one_frame frame' bytes' batch' batches f' s) is x =
    let cut = same_frame frame batch bytes frame' batch' bytes' f f' is in
    union_more known batch' joined all batches x (subst (λ (b : Batch). Joins known b joined) cut.batches j)
    (rows_union joined bytes all bytes' batches r s cut.rests x)

pub frames_are_union : FramesAreUnion
frames_are_union known all bytes batches r s = rows_union known bytes all bytes batches r s refl
