-- Where each round is of one session, the replies are fixed by the script, the base, and which of them found the journal dead.
use Rattle.std.proofs.Common.{◌≡◌, ◌⊎◌, inl, inr, ℕ, zero, suc, ◌+◌, ◌≤◌, ◌<◌, Bool, true, false, List, [], ◌∷◌, ◌++◌, length, map, take, Some, None, refl, sym, ap, ◌∙◌, subst, arith}
use Rattle.std.specs.Prelude.{slice_get, filter, option_and_then}
use Rattle.std.specs.List.{last_or}
use Rattle.std.proofs.lemmas.Option.{slice_get_within}
use Rattle.wal_base.specs.declared.entry.Entry.{Entry}
use Rattle.batch_repr.specs.declared.batch.Batch.{Batch}
use Rattle.batch_repr.specs.declared.limits.TheConstants.{NUMBER_MAX, BATCHES_MAX}
use Rattle.batch_repr.specs.Batches.{count_of, end_of, IsContiguous, end_after, answer, is_about, value_left, entries_in}
use Rattle.batch_repr.proofs.Laws.{end_up}
use Rattle.session_replies.specs.declared.script.Act.{Act}
use Rattle.session_replies.specs.declared.script.Act.TheVariants.{Commit, Get}
use Rattle.session_replies.specs.declared.script.Line.{Line}
use Rattle.session_replies.specs.declared.replies.Said.{Said}
use Rattle.session_replies.specs.declared.replies.Said.TheVariants.{Committed, Dead, Limit, Got}
use Rattle.session_replies.specs.Legal.{Replied, visible_after, Answers, committed, unsynced, dead, past_numbers, past_batches, read, AnswersInOrder}
use Rattle.session_replies.specs.Theorems.{but_for_sync, tells_death}

-- ---- numbers of a contiguous list

pub number_at : (from : ℕ) (xs : List Batch) (n : ℕ) (x : Batch) → IsContiguous from xs → slice_get xs n ≡ Some x → x.first ≡ end_after from (take n xs)
unfolding IsContiguous end_after
number_at from [] n x h e = absurd cc
number_at from (y ∷ xs) zero x h e = let same : y ≡ x = cc in ap (λ (b : Batch). b.first) (sym same) ∙ h.0
number_at from (y ∷ xs) (suc n) x h e = number_at (end_of y) xs n x h.2 e

pub end_within : (from : ℕ) (xs : List Batch) (n : ℕ) (x : Batch) → IsContiguous from xs → slice_get xs n ≡ Some x → end_of x ≤ end_after from xs
unfolding IsContiguous end_after
end_within from [] n x h e = absurd cc
end_within from (y ∷ xs) zero x h e = let same : y ≡ x = cc in subst (λ (b : Batch). end_of b ≤ end_after (end_of y) xs) same (end_up (end_of y) xs h.2)
end_within from (y ∷ xs) (suc n) x h e = end_within (end_of y) xs n x h.2 e

take_push : {X : Type 0} (xs : List X) (n : ℕ) (x : X) → slice_get xs n ≡ Some x → take (suc n) xs ≡ take n xs ++ x ∷ []
take_push [] n x e = absurd cc
take_push (y ∷ xs) zero x e = let same : y ≡ x = cc in ap (λ z. z ∷ []) same
take_push (y ∷ xs) (suc n) x e = ap (λ zs. y ∷ zs) (take_push xs n x e)

-- ---- one line

-- what an answer comes to
data Outcome (from : ℕ) (store : List Batch) (base n : ℕ) (act : Act) (next : ℕ) (said : Said) : Type 0 where
  numbers : (sync : Bool) (batch : Batch) → slice_get store n ≡ Some batch → act ≡ Commit sync batch.entries → next ≡ n + 1
      → but_for_sync said ≡ Committed batch.first (count_of batch.entries) false → tells_death said ≡ false → Outcome from store base n act next said
  dies : (sync : Bool) (entries : List Entry) → act ≡ Commit sync entries → next ≡ n → but_for_sync said ≡ Dead → tells_death said ≡ true
      → Outcome from store base n act next said
  ends : (sync : Bool) (entries : List Entry) → (NUMBER_MAX < visible_after from store base false n + count_of entries) ⊎ (n ≡ base + BATCHES_MAX)
      → act ≡ Commit sync entries → next ≡ n → but_for_sync said ≡ Limit → tells_death said ≡ false → Outcome from store base n act next said
  reads : (key : List ℕ) → act ≡ Get key → next ≡ n → but_for_sync said ≡ Got key (answer store n key) (visible_after from store base false n)
      → tells_death said ≡ false → Outcome from store base n act next said

outcome : (from : ℕ) (store : List Batch) (base : ℕ) (died : Bool) (n : ℕ) (act : Act) (next : ℕ) (said : Said)
    → Answers from store base died n act next said → Outcome from store base n act next said
outcome from store base died n _ _ _ (committed sync batch here) = numbers sync batch here refl refl refl refl
outcome from store base died n _ _ _ (unsynced batch here has_died) = numbers true batch here refl refl refl refl
outcome from store base died n _ _ _ (dead sync entries has_died) = dies sync entries refl refl refl refl
outcome from store base died n _ _ _ (past_numbers sync entries past) = ends sync entries (inl past) refl refl refl refl
outcome from store base died n _ _ _ (past_batches sync entries many) = ends sync entries (inr many) refl refl refl refl
outcome from store base died n _ _ _ (read key) = reads key refl refl refl refl

-- two stores over one base
pub record IsStore (from base : ℕ) (store : List Batch) : Type 0 where
  pub numbered : IsContiguous from store
  pub small : end_after from store ≤ NUMBER_MAX
  pub few : length store ≤ base + BATCHES_MAX

-- Both go on alike.
pub record GoAlike (store other : List Batch) (next next' : ℕ) (said said' : Said) : Type 0 where
  pub same_next : next ≡ next'
  pub same_prefix : take next store ≡ take next other
  pub same_said : but_for_sync said ≡ but_for_sync said'

-- a batch of the store is under no limit
no_limit : (from base : ℕ) (store : List Batch) (n : ℕ) (batch : Batch) (seen : ℕ) → IsStore from base store → slice_get store n ≡ Some batch
    → seen ≡ end_after from (take n store) → (NUMBER_MAX < seen + count_of batch.entries) ⊎ (n ≡ base + BATCHES_MAX) → ⊥
no_limit from base store n batch seen is here same (inl past) =
    omega (arith, past, same, number_at from store n batch is.numbered here, end_within from store n batch is.numbered here, is.small)
no_limit from base store n batch seen is here same (inr many) = omega (arith, many, slice_get_within store n batch here, is.few)

module _ (from base : ℕ) (store other : List Batch) (one : IsStore from base store) (two : IsStore from base other) (n : ℕ)
    (prefix : take n store ≡ take n other) where
  stays : (next next' : ℕ) (said said' : Said) → next ≡ n → next' ≡ n → but_for_sync said ≡ but_for_sync said' → GoAlike store other next next' said said'
  stays next next' said said' e e' same = record {
    same_next = e ∙ sym e';
    same_prefix = ap (λ (k : ℕ). take k store) e ∙ prefix ∙ sym (ap (λ (k : ℕ). take k other) e);
    same_said = same;
  }

  got : (key key' : List ℕ) → key ≡ key' → Got key (answer store n key) (end_after from (take n store)) ≡ Got key' (answer other n key')
      (end_after from (take n other))
  unfolding answer
  got key key' e =
      ap (λ (k : List ℕ). Got k (answer store n k) (end_after from (take n store))) e ∙ ap
      (λ (t : List Batch). Got key' (option_and_then value_left (last_or None (filter (is_about key') (entries_in t)))) (end_after from t)) prefix

  alike : (act act' : Act) (next next' : ℕ) (said said' : Said) → Outcome from store base n act next said
      → Outcome from other base n act' next' said' → act ≡ act' → tells_death said ≡ tells_death said' → GoAlike store other next next' said said'
  alike act act' next next' said said' (numbers sync batch here a s shows lives) (numbers sync' batch' here' a' s' shows' lives') e d =
      let acts : Commit sync batch.entries ≡ Commit sync' batch'.entries = sym a ∙ e ∙ a' in
      let entries : batch.entries ≡ batch'.entries = cc in
      let first : batch.first ≡ batch'.first = number_at from store n batch one.numbered here ∙ ap (end_after from) prefix ∙ sym
      (number_at from other n batch' two.numbered here') in
      let same : batch ≡ batch' = λ i. record { first = first i; entries = entries i } in
      record {
        same_next = s ∙ sym s';
        same_prefix =
            ap (λ (k : ℕ). take k store) (s ∙ next_is) ∙ take_push store n batch here ∙ (λ i. prefix i ++ same i ∷ []) ∙ sym
            (ap (λ (k : ℕ). take k other) (s ∙ next_is) ∙ take_push other n batch' here');
        same_said = shows ∙ ap (λ (b : Batch). Committed b.first (count_of b.entries) false) same ∙ sym shows';
      }
    where
      next_is : n + 1 ≡ suc n
      next_is = omega arith
  alike act act' next next' said said' (numbers sync batch here a s shows lives) (dies sync' entries' a' s' shows' died') e d =
      let clash : false ≡ true = sym lives ∙ d ∙ died' in absurd cc
  alike act act' next next' said said' (numbers sync batch here a s shows lives) (ends sync' entries' limit' a' s' shows' lives') e d =
      let acts : Commit sync batch.entries ≡ Commit sync' entries' = sym a ∙ e ∙ a' in
      let entries : batch.entries ≡ entries' = cc in
      absurd (no_limit from base store n batch (end_after from (take n other)) one here (ap (end_after from) (sym prefix))
      (subst (λ (es : List Entry). (NUMBER_MAX < end_after from (take n other) + count_of es) ⊎ (n ≡ base + BATCHES_MAX)) (sym entries) limit'))
  alike act act' next next' said said' (numbers sync batch here a s shows lives) (reads key' a' s' shows' lives') e d =
      let acts : Commit sync batch.entries ≡ Get key' = sym a ∙ e ∙ a' in absurd cc
  alike act act' next next' said said' (dies sync entries a s shows died) (numbers sync' batch' here' a' s' shows' lives') e d =
      let clash : true ≡ false = sym died ∙ d ∙ lives' in absurd cc
  alike act act' next next' said said' (dies sync entries a s shows died) (dies sync' entries' a' s' shows' died') e d =
      stays next next' said said' s s' (shows ∙ sym shows')
  alike act act' next next' said said' (dies sync entries a s shows died) (ends sync' entries' limit' a' s' shows' lives') e d =
      let clash : true ≡ false = sym died ∙ d ∙ lives' in absurd cc
  alike act act' next next' said said' (dies sync entries a s shows died) (reads key' a' s' shows' lives') e d =
      let acts : Commit sync entries ≡ Get key' = sym a ∙ e ∙ a' in absurd cc
  alike act act' next next' said said' (ends sync entries limit a s shows lives) (numbers sync' batch' here' a' s' shows' lives') e d =
      let acts : Commit sync entries ≡ Commit sync' batch'.entries = sym a ∙ e ∙ a' in
      let same : entries ≡ batch'.entries = cc in
      absurd (no_limit from base other n batch' (end_after from (take n store)) two here' (ap (end_after from) prefix)
      (subst (λ (es : List Entry). (NUMBER_MAX < end_after from (take n store) + count_of es) ⊎ (n ≡ base + BATCHES_MAX)) same limit))
  alike act act' next next' said said' (ends sync entries limit a s shows lives) (dies sync' entries' a' s' shows' died') e d =
      let clash : false ≡ true = sym lives ∙ d ∙ died' in absurd cc
  alike act act' next next' said said' (ends sync entries limit a s shows lives) (ends sync' entries' limit' a' s' shows' lives') e d =
      stays next next' said said' s s' (shows ∙ sym shows')
  alike act act' next next' said said' (ends sync entries limit a s shows lives) (reads key' a' s' shows' lives') e d =
      let acts : Commit sync entries ≡ Get key' = sym a ∙ e ∙ a' in absurd cc
  alike act act' next next' said said' (reads key a s shows lives) (numbers sync' batch' here' a' s' shows' lives') e d =
      let acts : Get key ≡ Commit sync' batch'.entries = sym a ∙ e ∙ a' in absurd cc
  alike act act' next next' said said' (reads key a s shows lives) (dies sync' entries' a' s' shows' died') e d =
      let acts : Get key ≡ Commit sync' entries' = sym a ∙ e ∙ a' in absurd cc
  alike act act' next next' said said' (reads key a s shows lives) (ends sync' entries' limit' a' s' shows' lives') e d =
      let acts : Get key ≡ Commit sync' entries' = sym a ∙ e ∙ a' in absurd cc
  alike act act' next next' said said' (reads key a s shows lives) (reads key' a' s' shows' lives') e d =
      let acts : Get key ≡ Get key' = sym a ∙ e ∙ a' in
      let keys : key ≡ key' = cc in
      stays next next' said said' s s' (shows ∙ got key key' keys ∙ sym shows')

-- ---- all lines

pub record RunAlike (store other : List Batch) (end end' : ℕ) (replies replies' : List Replied) : Type 0 where
  pub same_end : end ≡ end'
  pub same_prefix : take end store ≡ take end other
  pub same_said : map (λ (r : Replied). but_for_sync r.said) replies ≡ map (λ (r : Replied). but_for_sync r.said) replies'

module _ (from base : ℕ) (store other : List Batch) (one : IsStore from base store) (two : IsStore from base other) where
  pub run_alike : (died died' : Bool) (replies replies' : List Replied) (n end end' : ℕ) → take n store ≡ take n other
      → AnswersInOrder from store base died n replies end → AnswersInOrder from other base died' n replies' end'
      → map (λ (r : Replied). r.line) replies ≡ map (λ (r : Replied). r.line) replies'
      → map (λ (r : Replied). tells_death r.said) replies ≡ map (λ (r : Replied). tells_death r.said) replies'
      → RunAlike store other end end' replies replies'
  unfolding AnswersInOrder
  run_alike died died' [] [] n end end' prefix h h' lines deaths_told =
      record { same_end = h ∙ sym h'; same_prefix = ap (λ (k : ℕ). take k store) h ∙ prefix ∙ sym (ap (λ (k : ℕ). take k other) h); same_said = refl }
  run_alike died died' [] (r' ∷ replies') n end end' prefix h h' lines deaths_told = absurd cc
  run_alike died died' (r ∷ replies) [] n end end' prefix h h' lines deaths_told = absurd cc
  run_alike died died' (r ∷ replies) (r' ∷ replies') n end end' prefix h h' lines deaths_told =
      let line : r.line ≡ r'.line = cc in
      let more : map (λ (r : Replied). r.line) replies ≡ map (λ (r : Replied). r.line) replies' = cc in
      let death : tells_death r.said ≡ tells_death r'.said = cc in
      let others : map (λ (r : Replied). tells_death r.said) replies ≡ map (λ (r : Replied). tells_death r.said) replies' = cc in
      let here = alike from base store other one two n prefix r.line.act r'.line.act h.0 h'.0 r.said r'.said
      (outcome from store base died n r.line.act h.0 r.said h.1) (outcome from other base died' n r'.line.act h'.0 r'.said h'.1)
      (ap (λ (l : Line). l.act) line) death in
      let rest = run_alike died died' replies replies' h.0 end end' here.same_prefix h.2
      (subst (λ (k : ℕ). AnswersInOrder from other base died' k replies' end') (sym here.same_next) h'.2) more others in
      record { same_end = rest.same_end; same_prefix = rest.same_prefix; same_said = λ i. here.same_said i ∷ rest.same_said i }
