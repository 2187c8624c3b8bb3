-- A place is passed: where each level is cut before the next one.
use Rattle.std.proofs.Common.{◌≡◌, ◌≢◌, ◌⊎◌, inl, inr, ℕ, ◌<◌, List, ◌∷◌, ◌++◌, Contains, sym, ◌∙◌, subst, arith, slice_index}
use Rattle.std.proofs.lemmas.Bool.{cases_eq}
use Rattle.std.proofs.lemmas.List.Elements.{Contains-append_left, Contains-append_right, Contains-append_cases}
use Rattle.wal_base.proofs.Laws.{within_head, within_tail, within_cases}
use Rattle.arena_list.specs.declared.node.TheConstants.{LEVELS}
use Rattle.arena_list.specs.declared.node.Node.{Node}
use Rattle.arena_list.specs.Versions.{KeyVersion, GoesBefore, Precedes}
use Rattle.arena_list.specs.Chains.{LeadsAlong}
use Rattle.arena_list.specs.Nodes.{version_at, next_on, places_on, AscendPlaces, IsLinked}
use Rattle.arena_list.specs.Steps.{IsCut, MayGoOn, MayStop, AreCuts, AreLastsFor, TakesOut}
use Rattle.arena_list.proofs.Chains.{split_at, follows_rest, last_cases, not_the_end}
use Rattle.arena_list.proofs.Orders.{before_along, never_before_itself}
use Rattle.arena_list.proofs.Levels.{ascend_across, ascend_back, ascend_apart, within_lowest}
use Rattle.arena_list.proofs.Cuts.{next_there, follows_cut, cut_here}
use Rattle.arena_list.proofs.Left.{left_linked, left_more, version_kept}

-- from a cut a search may go on
pub cut_goes : (nodes : List Node) (level : ℕ) (key : List ℕ) (number last : ℕ) → IsCut nodes level key number last
    → MayGoOn nodes level key number last
cut_goes nodes level key number last cut = elim (last_cases 0 cut.before) [
  | inl head ↦ inl (cut.ends ∙ head)
  | inr there ↦
      let here : Contains cut.before last = subst (Contains cut.before) (sym cut.ends) there in
      inr (subst (λ (l : List ℕ). Contains l last) (sym cut.is) (Contains-append_left cut.before cut.after last here), cut.early last here)
]

-- the place that comes next on the lowest level
module _ (nodes : List Node) (linked : IsLinked nodes) (front back : List ℕ) (place next : ℕ)
    (is : places_on nodes 0 ≡ front ++ place ∷ next ∷ back) where
  ascends : AscendPlaces nodes (front ++ place ∷ next ∷ back)
  ascends = subst (AscendPlaces nodes) is (linked.levels 0 (omega arith)).ascends

  pub goes_next : Precedes (version_at nodes place) (version_at nodes next)
  goes_next = (ascend_back nodes front (place ∷ next ∷ back) ascends).0 next (within_head next back)

  -- what comes after the place does not go before the next one
  pub past : (x : ℕ) → Contains (places_on nodes 0) x → Precedes (version_at nodes place) (version_at nodes x)
      → GoesBefore (version_at nodes x) (version_at nodes next).key (version_at nodes next).number → ⊥
  past x h p g = elim (Contains-append_cases front (place ∷ next ∷ back) x (subst (λ (l : List ℕ). Contains l x) is h)) [
    | inl early ↦ never_before_itself (version_at nodes x)
        (before_along (version_at nodes x) (version_at nodes place) (version_at nodes x).key (version_at nodes x).number
        (ascend_across nodes front (place ∷ next ∷ back) x place ascends early (within_head place (next ∷ back))) p)
    | inr late ↦ elim (within_cases place (next ∷ back) x late) [
      | inl same ↦ never_before_itself (version_at nodes place)
          (subst (λ (y : ℕ). Precedes (version_at nodes place) (version_at nodes y)) (sym same) p)
      | inr later ↦ elim (within_cases next back x later) [
        | inl same ↦ never_before_itself (version_at nodes next)
            (subst (λ (y : ℕ). GoesBefore (version_at nodes y) (version_at nodes next).key (version_at nodes next).number) (sym same) g)
        | inr last ↦ never_before_itself (version_at nodes next)
            (before_along (version_at nodes next) (version_at nodes x) (version_at nodes next).key (version_at nodes next).number
            ((ascend_back nodes front (place ∷ next ∷ back) ascends).1.0 x last) g)
      ]
    ]
  ]

  in_lowest : Contains (places_on nodes 0) place
  in_lowest = subst (λ (l : List ℕ). Contains l place) (sym is)
      (Contains-append_right front (place ∷ next ∷ back) place (within_head place (next ∷ back)))

  pub place_some : place ≢ 0
  place_some = not_the_end (next_on nodes 0) (next_on nodes 0 0) (places_on nodes 0) (linked.levels 0 (omega arith)).follows place in_lowest

  -- what follows the place on a level comes after it
  follows_on : (level : ℕ) → level < LEVELS → Contains (places_on nodes level) place → next_on nodes level place ≢ 0
      → Contains (places_on nodes level) (next_on nodes level place) × Precedes (version_at nodes place) (version_at nodes (next_on nodes level place))
  follows_on level less there some = go (split_at (places_on nodes level) place there)
    where
      go : (before : List ℕ) × (after : List ℕ) × (places_on nodes level ≡ before ++ place ∷ after)
          → Contains (places_on nodes level) (next_on nodes level place) × Precedes (version_at nodes place) (version_at nodes (next_on nodes level place))
      go (before, after, at) =
          let f : LeadsAlong (next_on nodes level) (next_on nodes level place) after =
          follows_rest (next_on nodes level) (next_on nodes level 0) before after place
          (subst (LeadsAlong (next_on nodes level) (next_on nodes level 0)) at (linked.levels level less).follows) in
          let n = next_there (next_on nodes level) (next_on nodes level place) after f some in
          let y : Contains after (next_on nodes level place) =
          subst (λ (l : List ℕ). Contains l (next_on nodes level place)) (sym n.1) (within_head (next_on nodes level place) n.0) in (
            subst (λ (l : List ℕ). Contains l (next_on nodes level place)) (sym at)
                (Contains-append_right before (place ∷ after) (next_on nodes level place) (within_tail place after (next_on nodes level place) y)),
            (ascend_back nodes before (place ∷ after) (subst (AscendPlaces nodes) at (linked.levels level less).ascends)).0
                (next_on nodes level place) y,
          )

  -- where a cut before the place leads on to another one, that one comes after it
  leads_past : (level last : ℕ) → level < LEVELS → IsCut nodes level (version_at nodes place).key (version_at nodes place).number last
      → next_on nodes level last ≢ 0 → next_on nodes level last ≢ place
      → Contains (places_on nodes level) (next_on nodes level last) × Precedes (version_at nodes place) (version_at nodes (next_on nodes level last))
  leads_past level last less cut some other =
      let y = next_on nodes level last in
      let n = next_there (next_on nodes level) y cut.after
      (follows_cut nodes level (version_at nodes place).key (version_at nodes place).number last linked less cut) some in
      let after : Contains cut.after y = subst (λ (l : List ℕ). Contains l y) (sym n.1) (within_head y n.0) in
      let there : Contains (places_on nodes level) y = subst (λ (l : List ℕ). Contains l y) (sym cut.is) (Contains-append_right cut.before cut.after y after) in (
        there,
        elim (ascend_apart nodes (places_on nodes 0) place y (linked.levels 0 (omega arith)).ascends in_lowest (within_lowest nodes linked level y less there)) [
          | inl same ↦ absurd (other (sym same))
          | inr (inl first) ↦ first
          | inr (inr last) ↦ absurd (cut.late y after last)
        ],
      )

  -- a search for the next one stops there
  stops_at : (level y : ℕ) → level < LEVELS
      → ((y ≢ 0) → Contains (places_on nodes level) y × Precedes (version_at nodes place) (version_at nodes y))
      → MayStop nodes (version_at nodes next).key (version_at nodes next).number y
  stops_at level y less after = elim (cases_eq y 0) [
    | inl end ↦ inl end
    | inr some ↦ inr (past y (within_lowest nodes linked level y less (after some).0) (after some).1)
  ]

  -- the cut before the next one, where the place stays
  pub cut_past : (level last new_last : ℕ) → level < LEVELS → IsCut nodes level (version_at nodes place).key (version_at nodes place).number last
      → ((next_on nodes level last ≡ place) × (new_last ≡ place)) ⊎ ((next_on nodes level last ≢ place) × (new_last ≡ last))
      → IsCut nodes level (version_at nodes next).key (version_at nodes next).number new_last
  cut_past level last new_last less cut (inl (leads, to)) =
      let n = next_there (next_on nodes level) (next_on nodes level last) cut.after
      (follows_cut nodes level (version_at nodes place).key (version_at nodes place).number last linked less cut)
      (λ e. place_some (sym leads ∙ e)) in
      let there : Contains (places_on nodes level) place =
      subst (λ (l : List ℕ). Contains l place) (sym cut.is)
      (Contains-append_right cut.before cut.after place
      (subst (λ (l : List ℕ). Contains l place) (sym n.1) (subst (λ (y : ℕ). Contains (next_on nodes level last ∷ n.0) y) leads (within_head (next_on nodes level last) n.0)))) in
      subst (IsCut nodes level (version_at nodes next).key (version_at nodes next).number) (sym to)
      (cut_here nodes linked level less (version_at nodes next).key (version_at nodes next).number place (inr (there, goes_next))
      (stops_at level (next_on nodes level place) less (λ some. follows_on level less there some)))
  cut_past level last new_last less cut (inr (other, to)) =
      subst (IsCut nodes level (version_at nodes next).key (version_at nodes next).number) (sym to)
      (cut_here nodes linked level less (version_at nodes next).key (version_at nodes next).number last
      (goes (cut_goes nodes level (version_at nodes place).key (version_at nodes place).number last cut))
      (stops_at level (next_on nodes level last) less (λ some. leads_past level last less cut some other)))
    where
      goes : MayGoOn nodes level (version_at nodes place).key (version_at nodes place).number last
          → MayGoOn nodes level (version_at nodes next).key (version_at nodes next).number last
      goes (inl head) = inl head
      goes (inr (there, early)) = inr (
        there,
        before_along (version_at nodes last) (version_at nodes place) (version_at nodes next).key (version_at nodes next).number early goes_next,
      )

  -- the cut before the next one, where the place is taken out
  pub cut_left : (new : List Node) (lasts : List ℕ) (first : ℕ) → AreCuts nodes (version_at nodes place).key (version_at nodes place).number lasts
      → TakesOut nodes lasts place first new → AreCuts new (version_at new next).key (version_at new next).number lasts
  cut_left new lasts first cuts left level less =
      subst (λ (v : KeyVersion). IsCut new level v.key v.number (slice_index lasts level)) (sym (same next next_other))
      (cut_here new (left_linked nodes new lasts place first linked own in_lowest left) level less (version_at nodes next).key
      (version_at nodes next).number last (goes (cut_goes nodes level (version_at nodes place).key (version_at nodes place).number last cut)) stops)
    where
      last : ℕ
      last = slice_index lasts level

      cut : IsCut nodes level (version_at nodes place).key (version_at nodes place).number last
      cut = cuts level less

      own : AreLastsFor nodes (version_at nodes place).key (version_at nodes place).number place lasts
      own l low = inl (cuts l low)

      same : (x : ℕ) → x ≢ place → version_at new x ≡ version_at nodes x
      same x other = version_kept nodes new lasts place first linked own in_lowest left x other

      after_other : (x : ℕ) → Precedes (version_at nodes place) (version_at nodes x) → x ≢ place
      after_other x p e = never_before_itself (version_at nodes place) (subst (λ (y : ℕ). Precedes (version_at nodes place) (version_at nodes y)) e p)

      next_other : next ≢ place
      next_other = after_other next goes_next

      last_other : MayGoOn nodes level (version_at nodes place).key (version_at nodes place).number last → last ≢ place
      last_other (inl head) e = place_some (sym e ∙ head)
      last_other (inr (there, early)) e = never_before_itself (version_at nodes place)
          (subst (λ (y : ℕ). GoesBefore (version_at nodes y) (version_at nodes place).key (version_at nodes place).number) e early)

      goes : MayGoOn nodes level (version_at nodes place).key (version_at nodes place).number last
          → MayGoOn new level (version_at nodes next).key (version_at nodes next).number last
      goes (inl head) = inl head
      goes (inr (there, early)) =
          let other : last ≢ place = last_other (inr (there, early)) in
          inr (
            left_more nodes new lasts place first linked own in_lowest left level last less there other,
            subst (λ (v : KeyVersion). GoesBefore v (version_at nodes next).key (version_at nodes next).number) (sym (same last other))
                (before_along (version_at nodes last) (version_at nodes place) (version_at nodes next).key (version_at nodes next).number early goes_next),
          )

      -- what is led on to now
      stop : (y : ℕ) → ((y ≢ 0) → Contains (places_on nodes level) y × Precedes (version_at nodes place) (version_at nodes y)) → next_on new level last ≡ y
          → MayStop new (version_at nodes next).key (version_at nodes next).number (next_on new level last)
      stop y after to = subst (MayStop new (version_at nodes next).key (version_at nodes next).number) (sym to)
          (elim (cases_eq y 0) [
            | inl end ↦ inl end
            | inr some ↦ inr (λ g. past y (within_lowest nodes linked level y less (after some).0) (after some).1
                (subst (λ (v : KeyVersion). GoesBefore v (version_at nodes next).key (version_at nodes next).number)
                (same y (after_other y (after some).1)) g))
          ])

      other_last : last ≢ place
      other_last = last_other (cut_goes nodes level (version_at nodes place).key (version_at nodes place).number last cut)

      stops : MayStop new (version_at nodes next).key (version_at nodes next).number (next_on new level last)
      stops = elim (cases_eq (next_on nodes level last) place) [
        | inl leads ↦ stop (next_on nodes level place) (λ some. follows_on level less (there leads) some) (left.to level less other_last leads)
        | inr other ↦ stop (next_on nodes level last) (λ some. leads_past level last less cut some other)
            (left.others level last other_last (λ _ _. other))
      ]
        where
          there : next_on nodes level last ≡ place → Contains (places_on nodes level) place
          there leads =
              let n = next_there (next_on nodes level) (next_on nodes level last) cut.after
              (follows_cut nodes level (version_at nodes place).key (version_at nodes place).number last linked less cut)
              (λ e. place_some (sym leads ∙ e)) in
              subst (λ (l : List ℕ). Contains l place) (sym cut.is)
              (Contains-append_right cut.before cut.after place
              (subst (λ (l : List ℕ). Contains l place) (sym n.1)
              (subst (λ (y : ℕ). Contains (next_on nodes level last ∷ n.0) y) leads (within_head (next_on nodes level last) n.0))))
