-- Where gaps are accepted the merged batches begin with the base: no batch of a segment comes between those of the base or before them.
use Rattle.std.proofs.Common.{◌≡◌, ◌⊎◌, inl, inr, ℕ, ◌≤◌, ◌<◌, List, [], ◌∷◌, ◌++◌, sym, subst, ap, ◌∙◌, refl, append_assoc, arith}
use Rattle.std.specs.Prelude.{Contains}
use Rattle.std.proofs.lemmas.List.Elements.{Contains-append_left, Contains-append_cases, Contains-push_cases}
use Rattle.batch_repr.specs.declared.batch.Batch.{Batch}
use Rattle.batch_repr.specs.Batches.{end_of}
use Rattle.segment_merge.specs.Rows.{batches_in}
use Rattle.segment_merge.specs.Merging.{all_of, AscendByNumber}
use Rattle.segment_merge.specs.Lenient.{MergedLenient, IsAccepted, IsPast}
use Rattle.segment_merge.proofs.Laws.{none_within, within_head, within_tail, within_cases}
use Rattle.wal_recovery.specs.Base.{IsBaseOf, BeginsWith, front_of}
use Rattle.wal_recovery.proofs.Base.{base_ascends}

-- ---- batches of an ascending list

-- it begins there or above, and takes a number
record IsUp (low : ℕ) (batch : Batch) : Type 0 where
  from : low ≤ batch.first
  some : batch.first < end_of batch

is_up : (low : ℕ) (batches : List Batch) (batch : Batch) → AscendByNumber low batches → Contains batches batch → IsUp low batch
unfolding AscendByNumber
is_up low [] batch a h = absurd (none_within batch h)
is_up low (b ∷ batches) batch a h = elim (within_cases b batches batch h) [
  | inl e ↦ subst (IsUp low) e (record { from = a.0; some = omega (arith, a.1) })
  | inr later ↦ let up = is_up (end_of b) batches batch a.2 later in record { from = omega (arith, a.0, a.1, up.from); some = up.some }
]

-- ---- batches of the base and past it

abbrev IsOfOrPast : List Batch → Batch → Type 0
IsOfOrPast base batch = Contains base batch ⊎ IsPast base batch

module _ (base all : List Batch) (accepted : IsAccepted all) where
  of_or_past : (seen rest : List Batch) → all ≡ base ++ (seen ++ rest) → ((x : Batch) → Contains seen x → IsOfOrPast base x)
      → (x : Batch) → Contains rest x → IsOfOrPast base x
  of_or_past seen [] cut before x h = absurd (none_within x h)
  of_or_past seen (r ∷ rest) cut before x h = elim (within_cases r rest x h) [
    | inl e ↦ subst (IsOfOrPast base) e here
    | inr later ↦ of_or_past (seen ++ r ∷ []) rest (cut ∙ ap (λ (l : List Batch). base ++ l) (sym (append_assoc seen (r ∷ []) rest)))
        (λ y at. elim (Contains-push_cases seen r y at) [
          | inl earlier ↦ before y earlier
          | inr e ↦ subst (IsOfOrPast base) e here
        ]) x later
  ]
    where
      here : IsOfOrPast base r
      here = elim (accepted (base ++ seen) r rest (cut ∙ sym (append_assoc base seen (r ∷ rest)))) [
        | inl kept ↦ elim (Contains-append_cases base seen r kept) [
          | inl own ↦ inl own
          | inr earlier ↦ before r earlier
        ]
        | inr past ↦ inr (λ earlier at. past earlier (Contains-append_left base seen earlier at))
      ]

-- ---- two ascending lists of which one has the other and else only what is past it

kept_first : (low : ℕ) (base merged : List Batch) → AscendByNumber low base → AscendByNumber low merged → ((x : Batch) → Contains base x → Contains merged x)
    → ((x : Batch) → Contains merged x → IsOfOrPast base x) → BeginsWith base merged
unfolding AscendByNumber
kept_first low [] merged a m has only = (merged, refl)
kept_first low (b ∷ base) [] a m has only = absurd (none_within b (has b (within_head b base)))
kept_first low (b ∷ base) (x ∷ merged) a m has only =
    let rest : BeginsWith base merged = kept_first (end_of b) base merged a.2 ends has_later only_later in
    (rest.0, ap (λ (h : Batch). h ∷ merged) (sym same) ∙ ap (λ (l : List Batch). b ∷ l) rest.1)
  where
    clash : end_of b ≤ x.first → ⊥
    clash above = elim (within_cases x merged b (has b (within_head b base))) [
      | inl e ↦ omega (arith, a.1, above, ap (λ (y : Batch). y.first) e)
      | inr later ↦ let up = is_up (end_of x) merged b m.2 later in omega (arith, a.1, m.1, above, up.from)
    ]

    same : b ≡ x
    same = elim (only x (within_head x merged)) [
      | inl of ↦ elim (within_cases b base x of) [
        | inl e ↦ e
        | inr later ↦ absurd (clash (is_up (end_of b) base x a.2 later).from)
      ]
      | inr past ↦ absurd (clash (past b (within_head b base)))
    ]

    ends : AscendByNumber (end_of b) merged
    ends = subst (λ (y : Batch). AscendByNumber (end_of y) merged) (sym same) m.2

    has_later : (y : Batch) → Contains base y → Contains merged y
    has_later y at = elim (within_cases x merged y (has y (within_tail b base y at))) [
      | inl e ↦ absurd (omega (arith, a.1, (is_up (end_of b) base y a.2 at).from, ap (λ (z : Batch). z.first) (same ∙ e)))
      | inr later ↦ later
    ]

    only_later : (y : Batch) → Contains merged y → IsOfOrPast base y
    only_later y at = elim (only y (within_tail x merged y at)) [
      | inl of ↦ elim (within_cases b base y of) [
        | inl e ↦ absurd (omega (arith, a.1, (is_up (end_of b) merged y ends at).from, ap (λ (z : Batch). z.first) e))
        | inr later ↦ inl later
      ]
      | inr past ↦ inr (λ earlier here. past earlier (within_tail b base earlier here))
    ]

-- ---- the base

row_begins : (base : List Batch) (rows : List (List Batch)) (merged : List Batch) → AscendByNumber 0 base → MergedLenient (base ∷ rows) merged → BeginsWith base merged
row_begins base rows merged a m = kept_first 0 base merged a m.ascending
    (λ x at. (m.same x).1 (Contains-append_left base (all_of rows) x at))
    (λ x at. elim (Contains-append_cases base (all_of rows) x ((m.same x).0 at)) [
      | inl own ↦ inl own
      | inr later ↦ of_or_past base (base ++ all_of rows) m.accepted [] (all_of rows) refl (λ y none. absurd (none_within y none)) x later
    ])

pub front_begins : (number : ℕ) (base : List Batch) (rows : List (List Batch)) (merged : List Batch) → IsBaseOf number base
    → MergedLenient (batches_in (front_of base) ++ rows) merged → BeginsWith base merged
front_begins number [] rows merged is m = (merged, refl)
front_begins number (b ∷ base) rows merged is m = row_begins (b ∷ base) rows merged (base_ascends number (b ∷ base) is) m
