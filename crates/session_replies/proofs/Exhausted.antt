-- A run takes what its rounds ask for, but for what is lost by replies of a limit and of a dead journal.
use Rattle.std.proofs.Common.{◌≡◌, ◌⊎◌, inl, inr, ℕ, ◌+◌, ◌-◌, ◌≤◌, ◌<◌, Bool, true, false, cond, ◌||◌, List, [], ◌∷◌, ◌++◌, length, take, drop, Option, Some, None, refl, sym, ap, ◌∙◌, subst, arith}
use Rattle.std.specs.Prelude.{sum_by}
use Rattle.std.specs.List.{AllByRecursion, filter_map, cons_option, list_any}
use Rattle.std.proofs.Math.Seq.{take-add}
use Rattle.std.proofs.lemmas.List.{length-append, take_at, take_all, take-append-drop}
use Rattle.std.proofs.lemmas.List.Sums.{sum_by-cons, sum_by-append}
use Rattle.std.proofs.lemmas.List.Sorted.{sum_by-IsPermutation}
use Rattle.wal_base.specs.declared.entry.Entry.{Entry}
use Rattle.batch_repr.specs.declared.batch.Batch.{Batch}
use Rattle.batch_repr.specs.declared.limits.TheConstants.{NUMBER_MAX, BATCHES_MAX}
use Rattle.batch_repr.specs.Batches.{count_of, end_of, IsContiguous, end_after}
use Rattle.batch_repr.proofs.Laws.{contiguous_back, end_append, end_up}
use Rattle.session_replies.specs.declared.script.Act.{Act}
use Rattle.session_replies.specs.declared.script.Act.TheVariants.{Commit, Get}
use Rattle.session_replies.specs.declared.script.Line.{Line}
use Rattle.session_replies.specs.declared.script.Round.{Round}
use Rattle.session_replies.specs.declared.replies.Said.{Said}
use Rattle.session_replies.specs.declared.replies.Said.TheVariants.{Committed, Unsynced, Dead, Limit, Got}
use Rattle.session_replies.specs.Rounds.{numbers_taken, is_commit, rounds_numbers, rounds_commits}
use Rattle.session_replies.specs.Legal.{Replied, replies_of_session, RepliesTo, RepliesToRounds, batch_said, batch_of, Answers, committed, unsynced, dead, past_numbers, past_batches, read, AnswersInTurn, IsLegalRound, AreLegalRounds, AreLegal}
use Rattle.session_replies.specs.Theorems.{tells_limit, limit_told, AsksTooMuch, IsLimitedExactly}
use Rattle.session_replies.proofs.InOrder.{moves_on}
use Rattle.session_replies.proofs.SessionSums.{sum_of_replies, all_of_sessions}

-- ---- what acts ask for, and what is lost of it

-- An act asks for so much. Of a commit it does not matter whether it asks for a sync.
module _ (asked : Act → ℕ) where
  -- what a batch takes
  abbrev taken_by : Batch → ℕ
  taken_by batch = asked (Commit true batch.entries)

  abbrev taken_if : Option Batch → ℕ
  taken_if None = 0
  taken_if (Some batch) = taken_by batch

  -- what an act asked for and its batch, if there is one, does not take
  abbrev lost : Act → Said → ℕ
  lost act said = asked act - taken_if (batch_said act said)

  abbrev lost_in : List Replied → ℕ
  lost_in replies = sum_by (λ (r : Replied). lost r.line.act r.said) replies

  abbrev asked_in : Round → ℕ
  asked_in round = sum_by (λ (line : Line). asked line.act) round.lines

  with_first : (first : Option Batch) (batches : List Batch) → sum_by taken_by (cons_option first batches) ≡ taken_if first + sum_by taken_by batches
  with_first None batches = omega arith
  with_first (Some batch) batches = sum_by-cons taken_by batch batches

  module _ (sync_free : (sync : Bool) (entries : List Entry) → asked (Commit sync entries) ≡ asked (Commit true entries)) where
    taken_or_lost : (act : Act) (said : Said) → taken_if (batch_said act said) + lost act said ≡ asked act
    taken_or_lost (Commit sync entries) (Committed first count synced) = omega (arith, sync_free sync entries)
    taken_or_lost (Commit sync entries) (Unsynced first count) = omega (arith, sync_free sync entries)
    taken_or_lost (Commit sync entries) Dead = omega arith
    taken_or_lost (Commit sync entries) Limit = omega arith
    taken_or_lost (Commit sync entries) (Got key value visible) = omega arith
    taken_or_lost (Get key) said = omega arith

    replies_account : (replies : List Replied)
        → sum_by taken_by (filter_map batch_of replies) + lost_in replies ≡ sum_by (λ (r : Replied). asked r.line.act) replies
    replies_account [] = refl
    replies_account (r ∷ replies) =
        omega (
          arith,
          with_first (batch_of r) (filter_map batch_of replies),
          sum_by-cons (λ (s : Replied). lost s.line.act s.said) r replies,
          sum_by-cons (λ (s : Replied). asked s.line.act) r replies,
          taken_or_lost r.line.act r.said,
          replies_account replies,
        )

    module _ (from : ℕ) (store : List Batch) (base : ℕ) (died : Bool) where
      -- what the first batches of the store take
      abbrev taken_until : ℕ → ℕ
      taken_until n = sum_by taken_by (take n store)

      part_taken : (n end : ℕ) → n ≤ end → taken_until n + sum_by taken_by (take (end - n) (drop n store)) ≡ taken_until end
      part_taken n end le =
          let whole : n + (end - n) ≡ end = omega (arith, le) in
          sym (sum_by-append taken_by (take n store) (take (end - n) (drop n store)))
          ∙ ap (sum_by taken_by) (sym (take-add n (end - n) store) ∙ ap (λ (k : ℕ). take k store) whole)

      round_account : (round : Round) (replies : List Replied) (n end : ℕ) → RepliesTo round.lines replies
          → IsLegalRound from store base died n replies end → taken_until end + lost_in replies ≡ taken_until n + asked_in round
      round_account round replies n end to legal =
          omega (
            arith,
            part_taken n end legal.later,
            sum_by-IsPermutation taken_by (filter_map batch_of replies) (take (end - n) (drop n store)) legal.own,
            replies_account replies,
            sum_of_replies (λ (line : Line). asked line.act) round.lines replies to,
          )

      rounds_account : (rounds : List Round) (replies : List (List Replied)) (n end : ℕ) → RepliesToRounds rounds replies
          → AreLegalRounds from store base died n replies end → taken_until end + sum_by lost_in replies ≡ taken_until n + sum_by asked_in rounds
      unfolding RepliesToRounds AreLegalRounds
      rounds_account [] [] n end to legal = omega (arith, ap taken_until legal)
      rounds_account [] (replies ∷ more) n end to legal = absurd to
      rounds_account (round ∷ rounds) [] n end to legal = absurd to
      rounds_account (round ∷ rounds) (replies ∷ more) n end to legal =
          omega (
            arith,
            round_account round replies n legal.0 to.0 legal.1,
            rounds_account rounds more legal.0 end to.1 legal.2,
            sum_by-cons lost_in replies more,
            sum_by-cons asked_in round rounds,
          )

    account : (from : ℕ) (base : List Batch) (died : Bool) (rounds : List Round) (batches : List Batch) (replies : List (List Replied))
        → AreLegal from base died rounds batches replies → sum_by taken_by batches + sum_by lost_in replies ≡ sum_by asked_in rounds
    account from base died rounds batches replies legal =
        omega (
          arith,
          rounds_account from (base ++ batches) (length base) died rounds replies (length base) (length (base ++ batches)) legal.answered legal.legal,
          ap (sum_by taken_by) (take_at base batches (length base) refl),
          ap (sum_by taken_by) (take_all (length (base ++ batches)) (base ++ batches) (omega arith)),
          sum_by-append taken_by base batches,
        )

-- ---- numbers and batches

abbrev batch_count : Batch → ℕ
batch_count batch = count_of batch.entries

end_sum : (from : ℕ) (batches : List Batch) → IsContiguous from batches → end_after from batches ≡ from + sum_by batch_count batches
unfolding IsContiguous end_after
end_sum from [] c = omega arith
end_sum from (b ∷ batches) c = omega (arith, c.0, end_sum (end_of b) batches c.2, sum_by-cons batch_count b batches)

-- as one batch
abbrev as_one : Act → ℕ
as_one act = cond (is_commit act) 1 0

length_sum : (batches : List Batch) → sum_by (λ (b : Batch). 1) batches ≡ length batches
length_sum [] = refl
length_sum (b ∷ batches) = omega (arith, sum_by-cons (λ (x : Batch). 1) b batches, length_sum batches)

numbers_lost : List (List Replied) → ℕ
numbers_lost replies = sum_by (lost_in numbers_taken) replies

batches_lost : List (List Replied) → ℕ
batches_lost replies = sum_by (lost_in as_one) replies

-- the two accounts of a run
record Account (from : ℕ) (base : List Batch) (rounds : List Round) (batches : List Batch) (replies : List (List Replied)) : Type 0 where
  numbers : end_after from (base ++ batches) + numbers_lost replies ≡ end_after from base + rounds_numbers rounds
  commits : length batches + batches_lost replies ≡ rounds_commits rounds

accounted : (from : ℕ) (base : List Batch) (died : Bool) (rounds : List Round) (batches : List Batch) (replies : List (List Replied))
    → AreLegal from base died rounds batches replies → Account from base rounds batches replies
unfolding numbers_lost batches_lost
accounted from base died rounds batches replies legal = record {
  numbers =
      omega (
        arith,
        end_append from base batches,
        end_sum (end_after from base) batches (contiguous_back from base batches legal.numbered),
        account numbers_taken (λ sync entries. refl) from base died rounds batches replies legal,
      );
  commits = omega (arith, length_sum batches, account as_one (λ sync entries. refl) from base died rounds batches replies legal);
}

-- ---- where each reply stands

visible_within : (from : ℕ) (store : List Batch) (n : ℕ) → IsContiguous from store → end_after from (take n store) ≤ end_after from store
visible_within from store n c =
    let whole = take-append-drop n store in
    omega (
      arith,
      end_append from (take n store) (drop n store),
      ap (end_after from) whole,
      end_up (end_after from (take n store)) (drop n store)
          (contiguous_back from (take n store) (drop n store) (subst (IsContiguous from) (sym whole) c)),
    )

module _ (from : ℕ) (store : List Batch) (base : ℕ) (died : Bool) where
  record Stands (reply : Replied) : Type 0 where
    place : ℕ
    next : ℕ
    within : place ≤ length store
    answers : Answers from store base died place reply.line.act next reply.said

  turn_up : (replies : List Replied) (n end : ℕ) → AnswersInTurn from store base died n replies end → n ≤ end
  unfolding AnswersInTurn
  turn_up [] n end h = h
  turn_up (r ∷ replies) n end h =
      omega (arith, h.2, moves_on from store base died h.0 h.1 r.line.act r.said h.3, turn_up replies h.1 end h.4)

  turn_stands : (replies : List Replied) (n end : ℕ) → end ≤ length store → AnswersInTurn from store base died n replies end → AllByRecursion Stands replies
  unfolding AnswersInTurn
  turn_stands [] n end le h = tt
  turn_stands (r ∷ replies) n end le h = (
    record {
      place = h.0;
      next = h.1;
      within = omega (arith, moves_on from store base died h.0 h.1 r.line.act r.said h.3, turn_up replies h.1 end h.4, le);
      answers = h.3;
    },
    turn_stands replies h.1 end le h.4,
  )

  rounds_stand : (replies : List (List Replied)) (n end : ℕ) → AreLegalRounds from store base died n replies end
      → AllByRecursion (AllByRecursion Stands) replies
  unfolding AreLegalRounds
  rounds_stand [] n end legal = tt
  rounds_stand (round ∷ replies) n end legal = (
    all_of_sessions Stands round (λ session. turn_stands (replies_of_session session round) n legal.0 legal.1.within (legal.1.sessions session)),
    rounds_stand replies legal.0 end legal.2,
  )

  -- ---- no limit

  nothing_lost : (asked : Act → ℕ) → ((sync : Bool) (entries : List Entry) → asked (Commit sync entries) ≡ asked (Commit true entries))
      → ((key : List ℕ) → asked (Get key) ≡ 0) → died ≡ false → (n next : ℕ) (act : Act) (said : Said) → Answers from store base died n act next said
      → tells_limit said ≡ false → lost asked act said ≡ 0
  nothing_lost asked sync_free reads_free lives n _ _ _ (committed sync batch here) e = omega (arith, sync_free sync batch.entries)
  nothing_lost asked sync_free reads_free lives n _ _ _ (unsynced batch here has_died) e = omega arith
  nothing_lost asked sync_free reads_free lives n _ _ _ (dead sync entries has_died) e =
      let clash : true ≡ false = sym has_died ∙ lives in absurd cc
  nothing_lost asked sync_free reads_free lives n _ _ _ (past_numbers sync entries past) e = absurd cc
  nothing_lost asked sync_free reads_free lives n _ _ _ (past_batches sync entries many) e = absurd cc
  nothing_lost asked sync_free reads_free lives n _ _ _ (read key) e = omega (arith, reads_free key)

  -- ---- a limit

  -- Beyond the store so many numbers and so many batches are asked for, and that is too much.
  abbrev IsPast : ℕ → ℕ → Type 0
  IsPast numbers commits = (NUMBER_MAX < end_after from store + numbers) ⊎ ((base + BATCHES_MAX ≤ length store) × (1 ≤ commits))

  limit_here : IsContiguous from store → (n next : ℕ) (act : Act) (said : Said) → n ≤ length store → Answers from store base died n act next said
      → tells_limit said ≡ true → IsPast (lost numbers_taken act said) (lost as_one act said)
  limit_here c n _ _ _ le (committed sync batch here) e = absurd cc
  limit_here c n _ _ _ le (unsynced batch here has_died) e = absurd cc
  limit_here c n _ _ _ le (dead sync entries has_died) e = absurd cc
  limit_here c n _ _ _ le (past_numbers sync entries past) e = inl (omega (arith, past, visible_within from store n c))
  limit_here c n _ _ _ le (past_batches sync entries many) e = inr (omega (arith, many, le), omega arith)
  limit_here c n _ _ _ le (read key) e = absurd cc

  more_past : (numbers commits numbers' commits' : ℕ) → numbers ≤ numbers' → commits ≤ commits' → IsPast numbers commits → IsPast numbers' commits'
  more_past numbers commits numbers' commits' le le' (inl past) = inl (omega (arith, le, past))
  more_past numbers commits numbers' commits' le le' (inr past) = inr (past.0, omega (arith, le', past.1))

  module _ {X : Type 0} (P : X → Type 0) (test : X → Bool) where
    none_in : (f : X → ℕ) → ((x : X) → P x → test x ≡ false → f x ≡ 0) → (xs : List X) → AllByRecursion P xs → list_any test xs ≡ false
        → sum_by f xs ≡ 0
    none_in f zeros [] all none = refl
    none_in f zeros (x ∷ xs) all none = go (test x) refl (none_in f zeros xs all.1)
      where
        go : (b : Bool) → test x ≡ b → (list_any test xs ≡ false → sum_by f xs ≡ 0) → sum_by f (x ∷ xs) ≡ 0
        go true e rest = let clash : true ≡ false = sym (ap (λ (t : Bool). t || list_any test xs) e) ∙ none in absurd cc
        go false e rest =
            omega (arith, sum_by-cons f x xs, zeros x all.0 e, rest (sym (ap (λ (t : Bool). t || list_any test xs) e) ∙ none))

    past_in : (f g : X → ℕ) → ((x : X) → P x → test x ≡ true → IsPast (f x) (g x)) → (xs : List X) → AllByRecursion P xs
        → list_any test xs ≡ true → IsPast (sum_by f xs) (sum_by g xs)
    past_in f g past [] all some = absurd cc
    past_in f g past (x ∷ xs) all some = go (test x) refl (past_in f g past xs all.1)
      where
        go : (b : Bool) → test x ≡ b → (list_any test xs ≡ true → IsPast (sum_by f xs) (sum_by g xs)) → IsPast (sum_by f (x ∷ xs)) (sum_by g (x ∷ xs))
        go true e rest =
            more_past (f x) (g x) (sum_by f (x ∷ xs)) (sum_by g (x ∷ xs)) (omega (arith, sum_by-cons f x xs)) (omega (arith, sum_by-cons g x xs))
            (past x all.0 e)
        go false e rest =
            more_past (sum_by f xs) (sum_by g xs) (sum_by f (x ∷ xs)) (sum_by g (x ∷ xs)) (omega (arith, sum_by-cons f x xs))
            (omega (arith, sum_by-cons g x xs))
            (rest (sym (ap (λ (t : Bool). t || list_any test xs) e) ∙ some))

  abbrev limited : Replied → Bool
  limited r = tells_limit r.said

  all_taken : (asked : Act → ℕ) → ((sync : Bool) (entries : List Entry) → asked (Commit sync entries) ≡ asked (Commit true entries))
      → ((key : List ℕ) → asked (Get key) ≡ 0) → died ≡ false → (replies : List (List Replied)) → AllByRecursion (AllByRecursion Stands) replies
      → limit_told replies ≡ false → sum_by (lost_in asked) replies ≡ 0
  all_taken asked sync_free reads_free lives replies stand none =
      none_in (AllByRecursion Stands) (list_any limited) (lost_in asked) (λ round all no.
      none_in Stands limited (λ (r : Replied). lost asked r.line.act r.said) (λ r s e.
      nothing_lost asked sync_free reads_free lives s.place s.next r.line.act r.said s.answers e) round all no) replies stand none

  past_all : IsContiguous from store → (replies : List (List Replied)) → AllByRecursion (AllByRecursion Stands) replies → limit_told replies ≡ true
      → IsPast (numbers_lost replies) (batches_lost replies)
  unfolding numbers_lost batches_lost
  past_all c replies stand some =
      past_in (AllByRecursion Stands) (list_any limited) (lost_in numbers_taken) (lost_in as_one) (λ round all yes.
      past_in Stands limited (λ (r : Replied). lost numbers_taken r.line.act r.said) (λ (r : Replied). lost as_one r.line.act r.said) (λ r s e.
      limit_here c s.place s.next r.line.act r.said s.within s.answers e) round all yes) replies stand some

-- ---- the law

module _ (from : ℕ) (base : List Batch) (died : Bool) (rounds : List Round) (batches : List Batch) (replies : List (List Replied))
    (legal : AreLegal from base died rounds batches replies) where
  stand : AllByRecursion (AllByRecursion (Stands from (base ++ batches) (length base) died)) replies
  stand = rounds_stand from (base ++ batches) (length base) died replies (length base) (length (base ++ batches)) legal.legal

  its_account : Account from base rounds batches replies
  its_account = accounted from base died rounds batches replies legal

  none_numbers_lost : died ≡ false → limit_told replies ≡ false → numbers_lost replies ≡ 0
  unfolding numbers_lost
  none_numbers_lost lives none =
      all_taken from (base ++ batches) (length base) died numbers_taken (λ sync entries. refl) (λ key. refl) lives replies stand none

  none_batches_lost : died ≡ false → limit_told replies ≡ false → batches_lost replies ≡ 0
  unfolding batches_lost
  none_batches_lost lives none =
      all_taken from (base ++ batches) (length base) died as_one (λ sync entries. refl) (λ key. refl) lives replies stand none

  too_much : limit_told replies ≡ true → AsksTooMuch from base rounds
  too_much some = elim (past_all from (base ++ batches) (length base) died legal.numbered replies stand some) [
    | inl past ↦ inl (omega (arith, past, its_account.numbers))
    | inr past ↦ inr (omega (arith, past.0, past.1, its_account.commits, length-append base batches))
  ]

  within_limits : end_after from base + rounds_numbers rounds ≤ NUMBER_MAX → rounds_commits rounds ≤ BATCHES_MAX → limit_told replies ≡ false
  within_limits numbers commits = go (limit_told replies) refl
    where
      clash : AsksTooMuch from base rounds → ⊥
      clash (inl past) = omega (arith, past, numbers)
      clash (inr past) = omega (arith, past, commits)

      go : (b : Bool) → limit_told replies ≡ b → limit_told replies ≡ false
      go true e = absurd (clash (too_much e))
      go false e = e

  over_limits : died ≡ false → AsksTooMuch from base rounds → limit_told replies ≡ true
  over_limits lives past = go (limit_told replies) refl
    where
      clash : limit_told replies ≡ false → AsksTooMuch from base rounds → ⊥
      clash none (inl much) = omega (arith, much, legal.small, its_account.numbers, none_numbers_lost lives none)
      clash none (inr much) = omega (arith, much, legal.few, its_account.commits, none_batches_lost lives none)

      go : (b : Bool) → limit_told replies ≡ b → limit_told replies ≡ true
      go true e = e
      go false e = absurd (clash e past)

  pub limited_exactly : IsLimitedExactly from base died rounds batches replies
  limited_exactly = record {
    numbers_asked = omega (arith, its_account.numbers);
    batches_asked = omega (arith, its_account.commits);
    cause = too_much;
    none = within_limits;
    all_numbers = λ lives none. omega (arith, its_account.numbers, none_numbers_lost lives none);
    all_batches = λ lives none. omega (arith, its_account.commits, none_batches_lost lives none);
    some = over_limits;
  }
