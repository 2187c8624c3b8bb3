-- Round by round, where each is of one session.
use Rattle.std.proofs.Common.{◌≡◌, inl, inr, ℕ, Bool, true, false, cond, List, [], ◌∷◌, ◌++◌, length, map, take, refl, sym, ap, ◌∙◌, subst, arith, ne_eqb}
use Rattle.std.proofs.lemmas.Bool.{eqb-true, eq-eqb}
use Rattle.std.proofs.lemmas.Bool.Decides.{eqb_tells}
use Rattle.std.specs.List.{AllByRecursion}
use Rattle.std.proofs.lemmas.List.{length-append, take_at, take_all, append_cancel_left}
use Rattle.batch_repr.specs.declared.batch.Batch.{Batch}
use Rattle.session_replies.specs.declared.script.Line.{Line}
use Rattle.session_replies.specs.declared.script.Round.{Round}
use Rattle.session_replies.specs.Legal.{Replied, is_of, lines_of_session, replies_of_session, RepliesTo, RepliesToRounds, AreLegalRounds, AreLegal}
use Rattle.session_replies.specs.Theorems.{IsOfOneSession, tells_death, deaths_told, all_but_for_sync}
use Rattle.session_replies.proofs.InOrder.{in_order_alone}
use Rattle.session_replies.proofs.OneAnswer.{IsStore, run_alike}

-- lines of one session have none of another
none_of_other : (session other : ℕ) (lines : List Line) → (session ≡ other → ⊥) → lines_of_session other (lines_of_session session lines) ≡ []
none_of_other session other [] apart = refl
none_of_other session other (line ∷ lines) apart = go (is_of session line) refl (none_of_other session other lines apart)
  where
    go : (b : Bool) → is_of session line ≡ b → lines_of_session other (lines_of_session session lines) ≡ []
        → lines_of_session other (lines_of_session session (line ∷ lines)) ≡ []
    go true e rest =
        let is : line.session ≡ session = eqb-true line.session session e in
        let not_other : is_of other line ≡ false = ne_eqb line.session other (λ same. apart (sym is ∙ same)) in
        ap (λ (c : Bool). lines_of_session other (cond c (line ∷ lines_of_session session lines) (lines_of_session session lines))) e
        ∙ ap (λ (c : Bool). cond c (line ∷ lines_of_session other (lines_of_session session lines))
        (lines_of_session other (lines_of_session session lines))) not_other ∙ rest
    go false e rest = ap (λ (c : Bool). lines_of_session other (cond c (line ∷ lines_of_session session lines) (lines_of_session session lines))) e ∙ rest

-- where no other session has a reply, all are of this one
all_of_one : (session : ℕ) (replies : List Replied) → ((other : ℕ) → (session ≡ other → ⊥) → replies_of_session other replies ≡ [])
    → replies_of_session session replies ≡ replies
all_of_one session [] none = refl
all_of_one session (r ∷ replies) none = elim (eqb_tells r.line.session session) [
  | inl (test, is) ↦
      let here : is_of session r.line ≡ true = test in
      ap (λ (c : Bool). cond c (r ∷ replies_of_session session replies) (replies_of_session session replies)) here
      ∙ ap (λ (t : List Replied). r ∷ t) (all_of_one session replies (λ other apart.
      let away : is_of other r.line ≡ false = ne_eqb r.line.session other (λ same. apart (sym is ∙ same)) in
      sym (ap (λ (c : Bool). cond c (r ∷ replies_of_session other replies) (replies_of_session other replies)) away) ∙ none other apart))
  | inr (test, isnt) ↦
      let none_here = none r.line.session (λ same. isnt (sym same)) in
      let clash : r ∷ replies_of_session r.line.session replies ≡ [] =
      sym (ap (λ (c : Bool). cond c (r ∷ replies_of_session r.line.session replies) (replies_of_session r.line.session replies))
      (eq-eqb r.line.session r.line.session refl)) ∙ none_here in
      absurd cc
]

-- the replies to a round of one session
pub record RepliesToOne (session : ℕ) (lines : List Line) (replies : List Replied) : Type 0 where
  pub alone : replies_of_session session replies ≡ replies
  pub lines_are : map (λ (r : Replied). r.line) replies ≡ lines

nil_of_map : (replies : List Replied) → map (λ (r : Replied). r.line) replies ≡ [] → replies ≡ []
nil_of_map [] e = refl
nil_of_map (r ∷ replies) e = absurd cc

pub of_one : (session : ℕ) (lines : List Line) (replies : List Replied) → lines_of_session session lines ≡ lines → RepliesTo lines replies
    → RepliesToOne session lines replies
of_one session lines replies own to =
    let alone = all_of_one session replies (λ other apart.
    nil_of_map (replies_of_session other replies) (to.same other ∙ ap (lines_of_session other) (sym own) ∙ none_of_other session other lines apart)) in
    record { alone = alone; lines_are = ap (map (λ (r : Replied). r.line)) (sym alone) ∙ to.same session ∙ own }

-- ---- rounds

pub record RoundsAlike (store other : List Batch) (end end' : ℕ) (replies replies' : List (List Replied)) : Type 0 where
  pub same_end : end ≡ end'
  pub same_prefix : take end store ≡ take end other
  pub same_said : all_but_for_sync replies ≡ all_but_for_sync replies'

module _ (from base : ℕ) (store other : List Batch) (one : IsStore from base store) (two : IsStore from base other) (died died' : Bool) where
  rounds_alike : (rounds : List Round) (replies replies' : List (List Replied)) (n end end' : ℕ) → take n store ≡ take n other
      → AllByRecursion IsOfOneSession rounds → RepliesToRounds rounds replies → RepliesToRounds rounds replies'
      → AreLegalRounds from store base died n replies end → AreLegalRounds from other base died' n replies' end'
      → deaths_told replies ≡ deaths_told replies' → RoundsAlike store other end end' replies replies'
  unfolding RepliesToRounds AreLegalRounds
  rounds_alike [] [] [] n end end' prefix ones to to' h h' dead =
      record { same_end = h ∙ sym h'; same_prefix = ap (λ (k : ℕ). take k store) h ∙ prefix ∙ sym (ap (λ (k : ℕ). take k other) h); same_said = refl }
  rounds_alike [] [] (r' ∷ replies') n end end' prefix ones to to' h h' dead = absurd to'
  rounds_alike [] (r ∷ replies) replies' n end end' prefix ones to to' h h' dead = absurd to
  rounds_alike (round ∷ rounds) [] replies' n end end' prefix ones to to' h h' dead = absurd to
  rounds_alike (round ∷ rounds) (r ∷ replies) [] n end end' prefix ones to to' h h' dead = absurd to'
  rounds_alike (round ∷ rounds) (r ∷ replies) (r' ∷ replies') n end end' prefix ones to to' h h' dead =
      let session : ℕ = ones.0.0 in
      let a = of_one session round.lines r ones.0.1 to.0 in
      let b = of_one session round.lines r' ones.0.1 to'.0 in
      let here_dead : map (λ (x : Replied). tells_death x.said) r ≡ map (λ (x : Replied). tells_death x.said) r' = cc in
      let more_dead : deaths_told replies ≡ deaths_told replies' = cc in
      let here = run_alike from base store other one two died died' r r' n h.0 h'.0 prefix
      (in_order_alone from store base died session r n h.0 a.alone h.1) (in_order_alone from other base died' session r' n h'.0 b.alone h'.1)
      (a.lines_are ∙ sym b.lines_are) here_dead in
      let rest = rounds_alike rounds replies replies' h.0 end end' here.same_prefix ones.1 to.1 to'.1 h.2
      (subst (λ (k : ℕ). AreLegalRounds from other base died' k replies' end') (sym here.same_end) h'.2) more_dead in
      record { same_end = rest.same_end; same_prefix = rest.same_prefix; same_said = λ i. here.same_said i ∷ rest.same_said i }

store_of : (from : ℕ) (base : List Batch) (died : Bool) (rounds : List Round) (batches : List Batch) (replies : List (List Replied))
    → AreLegal from base died rounds batches replies → IsStore from (length base) (base ++ batches)
store_of from base died rounds batches replies legal =
    record { numbered = legal.numbered; small = legal.small; few = omega (arith, length-append base batches, legal.few) }

pub one_reply : (from : ℕ) (base : List Batch) (died died' : Bool) (rounds : List Round) (batches batches' : List Batch)
    (replies replies' : List (List Replied)) → AllByRecursion IsOfOneSession rounds → AreLegal from base died rounds batches replies
    → AreLegal from base died' rounds batches' replies' → deaths_told replies ≡ deaths_told replies'
    → (batches ≡ batches') × (all_but_for_sync replies ≡ all_but_for_sync replies')
one_reply from base died died' rounds batches batches' replies replies' ones a b dead =
    let all = rounds_alike from (length base) (base ++ batches) (base ++ batches') (store_of from base died rounds batches replies a)
    (store_of from base died' rounds batches' replies' b) died died' rounds replies replies' (length base) (length (base ++ batches))
    (length (base ++ batches'))
    (take_at base batches (length base) refl ∙ sym (take_at base batches' (length base) refl)) ones a.answered b.answered a.legal b.legal dead in
    let same : base ++ batches ≡ base ++ batches' = sym (take_all (length (base ++ batches)) (base ++ batches) (omega arith)) ∙ all.same_prefix ∙
    take_all (length (base ++ batches)) (base ++ batches') (omega (arith, all.same_end)) in
    (append_cancel_left base batches batches' same, all.same_said)
