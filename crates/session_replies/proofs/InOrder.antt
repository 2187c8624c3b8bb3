-- Answers one after another are legal, and legal answers of one session are one after another.
use Rattle.std.proofs.Common.{◌≡◌, ℕ, zero, suc, ◌+◌, ◌-◌, ◌≤◌, Bool, true, false, cond, List, [], ◌∷◌, length, take, drop, Option, Some, None, refl, sym, ap, ◌∙◌, subst, arith}
use Rattle.std.specs.Prelude.{slice_get}
use Rattle.std.specs.List.{filter_map, cons_option}
use Rattle.std.specs.List.Sorted.{IsPermutation}
use Rattle.std.proofs.lemmas.Option.{slice_get_within}
use Rattle.std.proofs.lemmas.List.{length-take, length-drop}
use Rattle.std.proofs.lemmas.List.Sorted.{IsPermutation-refl, length_permutation}
use Rattle.batch_repr.specs.declared.batch.Batch.{Batch}
use Rattle.session_replies.specs.declared.script.Act.{Act}
use Rattle.session_replies.specs.declared.replies.Said.{Said}
use Rattle.session_replies.specs.Legal.{Replied, is_of, replies_of_session, batch_said, batch_of, Answers, committed, unsynced, dead, past_numbers, past_batches, read, AnswersInOrder, AnswersInTurn, IsLegalRound}

drop_at : {X : Type 0} (xs : List X) (n : ℕ) (x : X) → slice_get xs n ≡ Some x → drop n xs ≡ x ∷ drop (suc n) xs
drop_at [] n x e = absurd cc
drop_at (y ∷ xs) zero x e = let same : y ≡ x = cc in ap (λ z. z ∷ xs) same
drop_at (y ∷ xs) (suc n) x e = drop_at xs n x e

module _ (from : ℕ) (store : List Batch) (base : ℕ) (died : Bool) where
  -- how far an answer goes on: by its batch, if it has one
  abbrev count_said : Option Batch → ℕ
  count_said None = 0
  count_said (Some batch) = 1

  pub moves_on : (n next : ℕ) (act : Act) (said : Said) → Answers from store base died n act next said → next ≡ n + count_said (batch_said act said)
  moves_on n _ _ _ (committed sync batch here) = refl
  moves_on n _ _ _ (unsynced batch here died) = refl
  moves_on n _ _ _ (dead sync entries died) = omega arith
  moves_on n _ _ _ (past_numbers sync entries past) = omega arith
  moves_on n _ _ _ (past_batches sync entries many) = omega arith
  moves_on n _ _ _ (read key) = omega arith

  -- its batch stands in the store
  pub stands_there : (n next : ℕ) (act : Act) (said : Said) (batch : Batch) → Answers from store base died n act next said
      → batch_said act said ≡ Some batch → slice_get store n ≡ Some batch
  stands_there n _ _ _ batch (committed sync other here) e = here ∙ e
  stands_there n _ _ _ batch (unsynced other here died) e = here ∙ e
  stands_there n _ _ _ batch (dead sync entries died) e = absurd cc
  stands_there n _ _ _ batch (past_numbers sync entries past) e = absurd cc
  stands_there n _ _ _ batch (past_batches sync entries many) e = absurd cc
  stands_there n _ _ _ batch (read key) e = absurd cc

  -- ---- from answers one after another

  in_turn : (session : ℕ) (replies : List Replied) (m n end : ℕ) → m ≤ n → AnswersInOrder from store base died n replies end
      → AnswersInTurn from store base died m (replies_of_session session replies) end
  unfolding AnswersInOrder AnswersInTurn
  in_turn session [] m n end le h = omega (arith, le, h)
  in_turn session (reply ∷ replies) m n end le h = go (is_of session reply.line) refl (λ k low. in_turn session replies k h.0 end low h.2)
    where
      on : n ≤ h.0
      on = omega (arith, moves_on n h.0 reply.line.act reply.said h.1)

      go : (b : Bool) → is_of session reply.line ≡ b
          → ((k : ℕ) → k ≤ h.0 → AnswersInTurn from store base died k (replies_of_session session replies) end)
          → AnswersInTurn from store base died m (replies_of_session session (reply ∷ replies)) end
      go true e later =
          subst (λ (c : Bool). AnswersInTurn from store base died m
          (cond c (reply ∷ replies_of_session session replies) (replies_of_session session replies)) end) (sym e)
          (n, h.0, le, h.1, later h.0 (omega arith))
      go false e later =
          subst (λ (c : Bool). AnswersInTurn from store base died m
          (cond c (reply ∷ replies_of_session session replies) (replies_of_session session replies)) end) (sym e)
          (later m (omega (arith, le, on)))

  pub later_in_order : (replies : List Replied) (n end : ℕ) → AnswersInOrder from store base died n replies end → n ≤ end
  unfolding AnswersInOrder
  later_in_order [] n end h = omega (arith, h)
  later_in_order (reply ∷ replies) n end h = omega (arith, moves_on n h.0 reply.line.act reply.said h.1, later_in_order replies h.0 end h.2)

  pub within_store : (replies : List Replied) (n end : ℕ) → n ≤ length store → AnswersInOrder from store base died n replies end → end ≤ length store
  unfolding AnswersInOrder
  within_store [] n end le h = omega (arith, h, le)
  within_store (reply ∷ replies) n end le h = within_store replies h.0 end (go (batch_of reply) refl) h.2
    where
      go : (b : Option Batch) → batch_of reply ≡ b → h.0 ≤ length store
      go None e = omega (arith, moves_on n h.0 reply.line.act reply.said h.1, ap count_said e, le)
      go (Some batch) e =
          omega (
            arith,
            moves_on n h.0 reply.line.act reply.said h.1,
            ap count_said e,
            slice_get_within store n batch (stands_there n h.0 reply.line.act reply.said batch h.1 e),
          )

  -- the batches of the replies are those of the store
  batches_are : (replies : List Replied) (n end : ℕ) → AnswersInOrder from store base died n replies end
      → filter_map batch_of replies ≡ take (end - n) (drop n store)
  unfolding AnswersInOrder
  batches_are [] n end h = let none : end - n ≡ 0 = omega (arith, h) in sym (ap (λ (k : ℕ). take k (drop n store)) none)
  batches_are (reply ∷ replies) n end h = go (batch_of reply) refl (batches_are replies h.0 end h.2)
    where
      go : (b : Option Batch) → batch_of reply ≡ b → filter_map batch_of replies ≡ take (end - h.0) (drop h.0 store)
          → filter_map batch_of (reply ∷ replies) ≡ take (end - n) (drop n store)
      go None e rest =
          let same : h.0 ≡ n = omega (arith, moves_on n h.0 reply.line.act reply.said h.1, ap count_said e) in
          ap (λ (o : Option Batch). cons_option o (filter_map batch_of replies)) e ∙ rest ∙ ap (λ (k : ℕ). take (end - k) (drop k store)) same
      go (Some batch) e rest =
          let next : h.0 ≡ suc n = omega (arith, moves_on n h.0 reply.line.act reply.said h.1, ap count_said e) in
          let there = drop_at store n batch (stands_there n h.0 reply.line.act reply.said batch h.1 e) in
          let one_more : end - n ≡ suc (end - suc n) = omega (arith, next, later_in_order replies h.0 end h.2) in
          ap (λ (o : Option Batch). cons_option o (filter_map batch_of replies)) e ∙ ap (λ (t : List Batch). batch ∷ t)
          (rest ∙ ap (λ (k : ℕ). take (end - k) (drop k store)) next)
          ∙ sym (ap (λ (k : ℕ). take k (drop n store)) one_more ∙ ap (λ (t : List Batch). take (suc (end - suc n)) t) there)

  pub legal_in_order : (replies : List Replied) (n end : ℕ) → n ≤ length store → AnswersInOrder from store base died n replies end
      → IsLegalRound from store base died n replies end
  legal_in_order replies n end le h = record {
    later = later_in_order replies n end h;
    within = within_store replies n end le h;
    own =
        subst (λ (bs : List Batch). IsPermutation (filter_map batch_of replies) bs) (batches_are replies n end h)
        (IsPermutation-refl (filter_map batch_of replies));
    sessions = λ session. in_turn session replies n n end (omega arith) h;
  }

  -- ---- to answers one after another

  -- a session sees each batch of its own
  sees_own : (replies : List Replied) (n end : ℕ) → AnswersInTurn from store base died n replies end → n + length (filter_map batch_of replies) ≤ end
  unfolding AnswersInTurn
  sees_own [] n end h = omega (arith, h)
  sees_own (reply ∷ replies) n end h = go (batch_of reply) refl (sees_own replies h.1 end h.4)
    where
      go : (b : Option Batch) → batch_of reply ≡ b → h.1 + length (filter_map batch_of replies) ≤ end → n + length (filter_map batch_of (reply ∷ replies)) ≤ end
      go None e rest =
          omega (
            arith,
            ap (λ (o : Option Batch). length (cons_option o (filter_map batch_of replies))) e,
            moves_on h.0 h.1 reply.line.act reply.said h.3,
            ap count_said e,
            h.2,
            rest,
          )
      go (Some batch) e rest =
          omega (
            arith,
            ap (λ (o : Option Batch). length (cons_option o (filter_map batch_of replies))) e,
            moves_on h.0 h.1 reply.line.act reply.said h.3,
            ap count_said e,
            h.2,
            rest,
          )

  -- where all are its own, nothing comes between
  pub no_more_seen : (replies : List Replied) (n end : ℕ) → AnswersInTurn from store base died n replies end
      → end ≡ n + length (filter_map batch_of replies) → AnswersInOrder from store base died n replies end
  unfolding AnswersInTurn AnswersInOrder
  no_more_seen [] n end h all = omega (arith, all)
  no_more_seen (reply ∷ replies) n end h all =
      (h.1, subst (λ (k : ℕ). Answers from store base died k reply.line.act h.1 reply.said) here h.3, no_more_seen replies h.1 end h.4 rest)
    where
      counted : (b : Option Batch) → batch_of reply ≡ b
          → length (filter_map batch_of (reply ∷ replies)) ≡ count_said (batch_of reply) + length (filter_map batch_of replies)
      counted None e = omega (arith, ap (λ (o : Option Batch). length (cons_option o (filter_map batch_of replies))) e, ap count_said e)
      counted (Some batch) e = omega (arith, ap (λ (o : Option Batch). length (cons_option o (filter_map batch_of replies))) e, ap count_said e)

      here : h.0 ≡ n
      here = omega (arith, counted (batch_of reply) refl, moves_on h.0 h.1 reply.line.act reply.said h.3, h.2, sees_own replies h.1 end h.4, all)

      rest : end ≡ h.1 + length (filter_map batch_of replies)
      rest = omega (arith, counted (batch_of reply) refl, moves_on h.0 h.1 reply.line.act reply.said h.3, here, all)

  pub in_order_alone : (session : ℕ) (replies : List Replied) (n end : ℕ) → replies_of_session session replies ≡ replies
      → IsLegalRound from store base died n replies end → AnswersInOrder from store base died n replies end
  in_order_alone session replies n end alone legal =
      no_more_seen replies n end (subst (λ (rs : List Replied). AnswersInTurn from store base died n rs end) alone (legal.sessions session))
      (omega (
        arith,
        legal.later,
        legal.within,
        length_permutation (filter_map batch_of replies) (take (end - n) (drop n store)) legal.own,
        length-take (end - n) (drop n store),
        length-drop n store,
      ))
