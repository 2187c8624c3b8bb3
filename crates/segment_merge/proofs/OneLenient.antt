-- There is at most one list that is merged with gaps.
use Rattle.std.proofs.Common.{◌≡◌, inl, inr, ℕ, ◌≤◌, ◌<◌, List, [], ◌∷◌, sym, ap, ◌∙◌, refl, arith}
use Rattle.std.specs.Prelude.{Contains}
use Rattle.batch_repr.specs.declared.batch.Batch.{Batch}
use Rattle.batch_repr.specs.Batches.{count_of, end_of}
use Rattle.segment_merge.specs.Merging.{AscendByNumber}
use Rattle.segment_merge.specs.Lenient.{MergedLenient}
use Rattle.wal_base.proofs.Laws.{none_within, within_head, within_tail, within_cases}

low_of : (from : ℕ) (batches : List Batch) (b : Batch) → AscendByNumber from batches → Contains batches b → from ≤ b.first
unfolding AscendByNumber
low_of from [] b up h = absurd (none_within b h)
low_of from (a ∷ batches) b up h = elim (within_cases a batches b h) [
  | inl e ↦ omega (arith, up.0, ap (λ (x : Batch). x.first) e)
  | inr later ↦ omega (arith, up.0, low_of (end_of a) batches b up.2 later)
]

tail_only : (a b : Batch) (ps qs : List Batch) → 0 < count_of a.entries → AscendByNumber (end_of a) ps → a ≡ b
    → ((x : Batch) → Contains (a ∷ ps) x → Contains (b ∷ qs) x)
    → (x : Batch) → Contains ps x → Contains qs x
tail_only a b ps qs some up e sub x h = elim (within_cases b qs x (sub x (within_tail a ps x h))) [
  | inl is ↦ absurd (omega (arith, some, low_of (end_of a) ps x up h, ap (λ (y : Batch). y.first) (e ∙ is)))
  | inr later ↦ later
]

same_ascending : (m n : ℕ) (ps qs : List Batch) → AscendByNumber m ps → AscendByNumber n qs → ((x : Batch) → Contains ps x → Contains qs x)
    → ((x : Batch) → Contains qs x → Contains ps x) → ps ≡ qs
unfolding AscendByNumber
same_ascending m n [] [] up uq pq qp = refl
same_ascending m n [] (b ∷ qs) up uq pq qp = absurd (none_within b (qp b (within_head b qs)))
same_ascending m n (a ∷ ps) [] up uq pq qp = absurd (none_within a (pq a (within_head a ps)))
same_ascending m n (a ∷ ps) (b ∷ qs) up uq pq qp =
    let e : a ≡ b = elim (within_cases b qs a (pq a (within_head a ps))) [
      | inl is ↦ sym is
      | inr later ↦ elim (within_cases a ps b (qp b (within_head b qs))) [
        | inl is ↦ is
        | inr behind ↦ absurd (omega (arith, up.1, uq.1, low_of (end_of b) qs a uq.2 later, low_of (end_of a) ps b up.2 behind))
      ]
    ] in
    ap (λ l. a ∷ l) (same_ascending (end_of a) (end_of b) ps qs up.2 uq.2 (tail_only a b ps qs up.1 up.2 e pq)
    (tail_only b a qs ps uq.1 uq.2 (sym e) qp)) ∙ ap (λ x. x ∷ qs) e

-- There is at most one list that is merged with gaps.
pub one_lenient : (segments : List (List Batch)) (a b : List Batch) → MergedLenient segments a → MergedLenient segments b → a ≡ b
one_lenient segments a b h k = same_ascending 0 0 a b h.ascending k.ascending (λ x m. (k.same x).1 ((h.same x).0 m)) (λ x m. (h.same x).1 ((k.same x).0 m))
