-- Replies that are not legal, each with one thing wrong.
use Rattle.std.proofs.Common.{◌≡◌, ◌⊎◌, inl, inr, ℕ, zero, suc, ◌+◌, ◌-◌, ◌<◌, ◌≤◌, Bool, true, false, List, [], ◌∷◌, ◌++◌, length, take, drop, get_or, Option, Some, None, refl, sym, ap, ◌∙◌, subst, arith}
use Rattle.std.specs.Prelude.{codes, filter, slice_get, option_and_then, unwrap_or, IsTrue}
use Rattle.std.specs.List.{filter_map, last_or}
use Rattle.std.proofs.lemmas.Option.{slice_get_within}
use Rattle.std.proofs.lemmas.List.{length-append, length-take, length-drop, take_all}
use Rattle.std.proofs.lemmas.List.Sorted.{length_permutation}
use Rattle.wal_base.specs.declared.entry.Entry.{Entry}
use Rattle.wal_base.specs.declared.entry.Entry.TheVariants.{Set, Delete, Note, RangeDelete}
use Rattle.batch_repr.specs.declared.batch.Batch.{Batch}
use Rattle.batch_repr.specs.declared.limits.TheConstants.{NUMBER_MAX, BATCHES_MAX}
use Rattle.batch_repr.specs.Batches.{count_of, end_of, answer, end_after, IsContiguous, is_about, value_left, entries_in}
use Rattle.session_replies.specs.declared.script.Act.{Act}
use Rattle.session_replies.specs.declared.script.Act.TheVariants.{Commit, Get}
use Rattle.session_replies.specs.declared.script.Line.{Line}
use Rattle.session_replies.specs.declared.replies.Said.{Said}
use Rattle.session_replies.specs.declared.replies.Said.TheVariants.{Committed, Dead, Limit, Got}
use Rattle.session_replies.specs.Legal.{Replied, AreBySession, RepliesToRounds, batch_of, visible_after, Answers, committed, unsynced, dead, past_numbers, past_batches, read, AnswersInTurn, IsLegalRound, AreLegalRounds, AreLegal}
use Rattle.session_replies.proofs.InOrder.{stands_there, moves_on}

-- a line of a session that commits this Set
abbrev sets : ℕ → List ℕ → List ℕ → Line
sets session key value = record { session = session; act = Commit false (Set key value ∷ []) }

-- a line of a session that reads `a`
abbrev reads_a : ℕ → Line
reads_a session = record { session = session; act = Get (codes "a") }

-- a batch of this Set
abbrev set_at : ℕ → List ℕ → List ℕ → Batch
set_at first key value = record { first = first; entries = Set key value ∷ [] }

-- the reply to a commit of one Set
abbrev numbered : ℕ → Said
numbered first = Committed first 1 false

-- what is read after so many batches
read_is : (from : ℕ) (store : List Batch) (base : ℕ) (died : Bool) (n next : ℕ) (act : Act) (said : Said) (key : List ℕ) (value : Option (List ℕ)) (visible : ℕ)
    → Answers from store base died n act next said → said ≡ Got key value visible
    → (value ≡ answer store n key) × (visible ≡ visible_after from store base died n)
read_is from store base died n _ _ _ key value visible (committed sync batch here) e = absurd cc
read_is from store base died n _ _ _ key value visible (unsynced batch here dies) e = absurd cc
read_is from store base died n _ _ _ key value visible (dead sync entries dies) e = absurd cc
read_is from store base died n _ _ _ key value visible (past_numbers sync entries past) e = absurd cc
read_is from store base died n _ _ _ key value visible (past_batches sync entries many) e = absurd cc
read_is from store base died n _ _ _ key value visible (read asked) e =
    let same : asked ≡ key = cc in
    let found : answer store n asked ≡ value = cc in
    (sym found ∙ ap (answer store n) same, cc)

-- where a journal is told to be dead, it died
dead_is : (from : ℕ) (store : List Batch) (base : ℕ) (died : Bool) (n next : ℕ) (act : Act) (said : Said)
    → Answers from store base died n act next said → said ≡ Dead → IsTrue died
dead_is from store base died n _ _ _ (committed sync batch here) e = absurd cc
dead_is from store base died n _ _ _ (unsynced batch here dies) e = absurd cc
dead_is from store base died n _ _ _ (dead sync entries dies) e = dies
dead_is from store base died n _ _ _ (past_numbers sync entries past) e = absurd cc
dead_is from store base died n _ _ _ (past_batches sync entries many) e = absurd cc
dead_is from store base died n _ _ _ (read asked) e = absurd cc

-- where a limit is told, one is reached
limit_is : (from : ℕ) (store : List Batch) (base : ℕ) (died : Bool) (n next : ℕ) (act : Act) (said : Said) (sync : Bool) (entries : List Entry)
    → Answers from store base died n act next said → said ≡ Limit → act ≡ Commit sync entries
    → (NUMBER_MAX < visible_after from store base died n + count_of entries) ⊎ (n ≡ base + BATCHES_MAX)
limit_is from store base died n _ _ _ sync entries (committed s batch here) e is = absurd cc
limit_is from store base died n _ _ _ sync entries (unsynced batch here dies) e is = absurd cc
limit_is from store base died n _ _ _ sync entries (dead s other dies) e is = absurd cc
limit_is from store base died n _ _ _ sync entries (past_numbers s other past) e is =
    let same : other ≡ entries = cc in
    inl (subst (λ (es : List Entry). NUMBER_MAX < visible_after from store base died n + count_of es) same past)
limit_is from store base died n _ _ _ sync entries (past_batches s other many) e is = inr many
limit_is from store base died n _ _ _ sync entries (read asked) e is = absurd cc

-- where all is seen, the answer is that of the whole store
answer_all : (store : List Batch) (n : ℕ) (key : List ℕ) → length store ≤ n → answer store n key ≡ answer store (length store) key
unfolding answer
answer_all store n key all =
    ap (λ (bs : List Batch). option_and_then value_left (last_or None (filter (is_about key) (entries_in bs))))
    (take_all n store all ∙ sym (take_all (length store) store (omega arith)))

-- a batch of another number than the first of two is the second
second : (x y : Batch) (n : ℕ) (batch : Batch) → slice_get (x ∷ y ∷ []) n ≡ Some batch → (x.first ≡ batch.first → ⊥) → n ≡ 1
second x y zero batch e apart = let same : x ≡ batch = cc in absurd (apart (ap (λ (b : Batch). b.first) same))
second x y (suc zero) batch e apart = refl
second x y (suc (suc n)) batch e apart = absurd (omega (arith, slice_get_within (x ∷ y ∷ []) (suc (suc n)) batch e))

-- a batch has no number below that of the first
lowest : (from : ℕ) (store : List Batch) (n : ℕ) (batch : Batch) → IsContiguous from store → slice_get store n ≡ Some batch → from ≤ batch.first
unfolding IsContiguous
lowest from [] n batch h e = absurd cc
lowest from (x ∷ store) zero batch h e = let same : x ≡ batch = cc in omega (arith, h.0, ap (λ (b : Batch). b.first) same)
lowest from (x ∷ store) (suc n) batch h e = omega (arith, h.0, lowest (end_of x) store n batch h.2 e)

-- that of the first is its own alone
lowest_is_first : (from : ℕ) (store : List Batch) (n : ℕ) (batch : Batch) → IsContiguous from store → slice_get store n ≡ Some batch
    → batch.first ≡ from → n ≡ 0
unfolding IsContiguous
lowest_is_first from [] n batch h e is = absurd cc
lowest_is_first from (x ∷ store) zero batch h e is = refl
lowest_is_first from (x ∷ store) (suc n) batch h e is = absurd (omega (arith, h.0, h.1, is, lowest (end_of x) store n batch h.2 e))

-- ---- runs of one round

-- No batches make these replies to one round over this base legal, whether the journal died or not.
abbrev NeverLegal : List Batch → List Line → List Replied → Type 0
NeverLegal base lines replies =
    (died : Bool) (batches : List Batch) → AreLegal 10 base died (record { stalls = []; lines = lines } ∷ []) batches (replies ∷ []) → ⊥

-- the round, which ends with the store
module _ (base : List Batch) (died : Bool) (lines : List Line) (batches : List Batch) (replies : List Replied)
    (legal : AreLegal 10 base died (record { stalls = []; lines = lines } ∷ []) batches (replies ∷ [])) where
  the_round : IsLegalRound 10 (base ++ batches) (length base) died (length base) replies (length (base ++ batches))
  unfolding AreLegalRounds
  the_round =
      subst (λ (end : ℕ). IsLegalRound 10 (base ++ batches) (length base) died (length base) replies end) (sym legal.legal.2) legal.legal.1

  -- There are as many batches as replies with a number.
  as_many : length batches ≡ length (filter_map batch_of replies)
  as_many =
      let n = length base in
      let end = length (base ++ batches) in
      let own = length_permutation (filter_map batch_of replies) (take (end - n) (drop n (base ++ batches))) the_round.own in
      omega (arith, own, length-take (end - n) (drop n (base ++ batches)), length-drop n (base ++ batches), length-append base batches)

  -- They stand by session.
  by_session : AreBySession 0 replies
  unfolding RepliesToRounds
  by_session = legal.answered.0.by_session

-- a store of one batch, and of two
all_of_one : (store : List Batch) (x : Batch) (n : ℕ) → length store ≡ 1 → slice_get store n ≡ Some x → store ≡ x ∷ []
all_of_one [] x n size here = absurd (omega (arith, size))
all_of_one (y ∷ []) x zero size here = let same : y ≡ x = cc in ap (λ (b : Batch). b ∷ []) same
all_of_one (y ∷ []) x (suc n) size here = absurd (omega (arith, slice_get_within (y ∷ []) (suc n) x here))
all_of_one (y ∷ z ∷ store) x n size here = absurd (omega (arith, size))

all_of_two : (store : List Batch) (x y : Batch) (n : ℕ) → length store ≡ 2 → slice_get store 0 ≡ Some x → slice_get store n ≡ Some y
    → (x.first ≡ y.first → ⊥) → store ≡ x ∷ y ∷ []
all_of_two [] x y n size here there apart = absurd (omega (arith, size))
all_of_two (v ∷ store) x y zero size here there apart = let same : x ≡ y = cc in absurd (apart (ap (λ (b : Batch). b.first) same))
all_of_two (v ∷ store) x y (suc n) size here there apart =
    let same : v ≡ x = cc in
    let rest = all_of_one store y n (omega (arith, size)) there in
    ap (λ (b : Batch). b ∷ store) same ∙ ap (λ (bs : List Batch). x ∷ bs) rest

-- ---- the sessions of a round stand by number, and not in the order of the script

in_the_order_of_the_script : (base : List Batch) (said other : Said)
    → NeverLegal base (sets 1 (codes "b") (codes "2") ∷ sets 0 (codes "a") (codes "1") ∷ [])
    (record { line = sets 1 (codes "b") (codes "2"); said = said } ∷ record { line = sets 0 (codes "a") (codes "1"); said = other } ∷ [])
unfolding AreBySession
in_the_order_of_the_script base said other died batches legal = omega (arith, (by_session base died _ batches _ legal).1.0)

-- ---- a read that sees the batch of its own session alone: session 0 sets `a` as 10, session 1 sets `b` as 11, and finds no `a`

abbrev both : List Batch
both = set_at 10 (codes "a") (codes "1") ∷ set_at 11 (codes "b") (codes "2") ∷ []

abbrev finds_no_a : ℕ → List Replied
finds_no_a visible =
    record { line = sets 1 (codes "b") (codes "2"); said = numbered 11 }
    ∷ record { line = reads_a 1; said = Got (codes "a") None visible }
    ∷ []

finds_none : (died : Bool) (end visible : ℕ) → AnswersInTurn 10 both 0 died 0 (finds_no_a visible) end → ⊥
unfolding AnswersInTurn answer
finds_none died end visible h =
    let place = second (set_at 10 (codes "a") (codes "1")) (set_at 11 (codes "b") (codes "2")) h.0 (set_at 11 (codes "b") (codes "2"))
    (stands_there 10 both 0 died h.0 h.1 (sets 1 (codes "b") (codes "2")).act (numbered 11) _ h.3 refl) (λ e. omega (arith, e)) in
    let seen : 2 ≤ h.4.0 = omega (arith, place, moves_on 10 both 0 died h.0 h.1 (sets 1 (codes "b") (codes "2")).act (numbered 11) h.3, h.4.2) in
    let told = read_is 10 both 0 died h.4.0 h.4.1 (Get (codes "a")) (Got (codes "a") None visible) (codes "a") None visible h.4.3 refl in
    let found : None ≡ Some (codes "1") = told.0 ∙ answer_all both h.4.0 (codes "a") seen in
    absurd cc

its_own_batch_alone : (visible : ℕ)
    → NeverLegal [] (sets 1 (codes "b") (codes "2") ∷ reads_a 1 ∷ sets 0 (codes "a") (codes "1") ∷ [])
    (record { line = sets 0 (codes "a") (codes "1"); said = numbered 10 } ∷ finds_no_a visible)
unfolding AnswersInTurn
its_own_batch_alone visible died batches legal =
    let round = the_round [] died _ batches _ legal in
    let a = round.sessions 0 in
    let b = round.sessions 1 in
    let one = stands_there 10 batches 0 died a.0 a.1 (sets 0 (codes "a") (codes "1")).act (numbered 10) (set_at 10 (codes "a") (codes "1")) a.3 refl in
    let other = stands_there 10 batches 0 died b.0 b.1 (sets 1 (codes "b") (codes "2")).act (numbered 11) (set_at 11 (codes "b") (codes "2")) b.3 refl in
    let here = ap (slice_get batches) (sym (lowest_is_first 10 batches a.0 _ legal.numbered one refl)) ∙ one in
    let store : batches ≡ both = all_of_two batches _ _ b.0 (as_many [] died _ batches _ legal) here other (λ e. omega (arith, e)) in
    finds_none died (length batches) visible (subst (λ (bs : List Batch). AnswersInTurn 10 bs 0 died 0 (finds_no_a visible) (length batches)) store b)

-- ---- a read before the last batch of its own session

abbrev sets_then_reads : Option (List ℕ) → ℕ → List Replied
sets_then_reads value visible =
    record { line = sets 0 (codes "a") (codes "1"); said = numbered 10 }
    ∷ record { line = reads_a 0; said = Got (codes "a") value visible }
    ∷ []

reads_too_soon : (died : Bool) (end : ℕ) (value : Option (List ℕ))
    → AnswersInTurn 10 (set_at 10 (codes "a") (codes "1") ∷ []) 0 died 0 (sets_then_reads value 10) end → ⊥
unfolding AnswersInTurn end_after
reads_too_soon died end value h =
    let store : List Batch = set_at 10 (codes "a") (codes "1") ∷ [] in
    let seen : 1 ≤ h.4.0 = omega (arith, moves_on 10 store 0 died h.0 h.1 (sets 0 (codes "a") (codes "1")).act (numbered 10) h.3, h.4.2) in
    let told = read_is 10 store 0 died h.4.0 h.4.1 (Get (codes "a")) (Got (codes "a") value 10) (codes "a") value 10 h.4.3 refl in
    omega (arith, told.1 ∙ ap (end_after 10) (take_all h.4.0 store seen))

before_its_own_batch : (value : Option (List ℕ)) → NeverLegal [] (sets 0 (codes "a") (codes "1") ∷ reads_a 0 ∷ []) (sets_then_reads value 10)
unfolding AnswersInTurn
before_its_own_batch value died batches legal =
    let round = the_round [] died _ batches _ legal in
    let a = round.sessions 0 in
    let one = stands_there 10 batches 0 died a.0 a.1 (sets 0 (codes "a") (codes "1")).act (numbered 10) (set_at 10 (codes "a") (codes "1")) a.3 refl in
    let store = all_of_one batches _ a.0 (as_many [] died _ batches _ legal) one in
    reads_too_soon died (length batches) value (subst (λ (bs : List Batch). AnswersInTurn 10 bs 0 died 0 (sets_then_reads value 10) (length batches)) store a)

-- ---- a value of the opening store after a commit: `a` is 0 there, and session 0 sets it to 1

abbrev over_base : List Batch
over_base = set_at 10 (codes "a") (codes "0") ∷ set_at 11 (codes "a") (codes "1") ∷ []

abbrev reads_the_base : ℕ → List Replied
reads_the_base visible =
    record { line = sets 0 (codes "a") (codes "1"); said = numbered 11 }
    ∷ record { line = reads_a 0; said = Got (codes "a") (Some (codes "0")) visible }
    ∷ []

reads_too_little : (died : Bool) (end visible : ℕ) → AnswersInTurn 10 over_base 1 died 1 (reads_the_base visible) end → ⊥
unfolding AnswersInTurn answer
reads_too_little died end visible h =
    let seen : 2 ≤ h.4.0 = omega (arith, h.2, moves_on 10 over_base 1 died h.0 h.1 (sets 0 (codes "a") (codes "1")).act (numbered 11) h.3, h.4.2) in
    let told = read_is 10 over_base 1 died h.4.0 h.4.1 (Get (codes "a")) (Got (codes "a") (Some (codes "0")) visible) (codes "a") (Some (codes "0"))
    visible h.4.3 refl in
    let found : Some (codes "0") ≡ Some (codes "1") = told.0 ∙ answer_all over_base h.4.0 (codes "a") seen in
    omega (arith, ap (λ (o : Option (List ℕ)). get_or (unwrap_or o []) 0 0) found)

a_value_of_the_opening_store : (visible : ℕ)
    → NeverLegal (set_at 10 (codes "a") (codes "0") ∷ []) (sets 0 (codes "a") (codes "1") ∷ reads_a 0 ∷ []) (reads_the_base visible)
unfolding AnswersInTurn
a_value_of_the_opening_store visible died batches legal =
    let base : List Batch = set_at 10 (codes "a") (codes "0") ∷ [] in
    let round = the_round base died _ batches _ legal in
    let a = round.sessions 0 in
    let one = stands_there 10 (base ++ batches) 1 died a.0 a.1 (sets 0 (codes "a") (codes "1")).act (numbered 11) (set_at 11 (codes "a") (codes "1")) a.3 refl in
    let size : length (base ++ batches) ≡ 2 = omega (arith, as_many base died _ batches _ legal) in
    let store : base ++ batches ≡ over_base = all_of_two (base ++ batches) _ _ a.0 size refl one (λ e. omega (arith, e)) in
    reads_too_little died (length (base ++ batches)) visible
    (subst (λ (bs : List Batch). AnswersInTurn 10 bs 1 died 1 (reads_the_base visible) (length (base ++ batches))) store a)

-- ---- two commits of a round

abbrev two_commits : ℕ → ℕ → List Replied
two_commits first other =
    record { line = sets 0 (codes "a") (codes "1"); said = numbered first }
    ∷ record { line = sets 1 (codes "b") (codes "2"); said = numbered other }
    ∷ []

abbrev two_lines : List Line
two_lines = sets 0 (codes "a") (codes "1") ∷ sets 1 (codes "b") (codes "2") ∷ []

-- of which both are answered, and the run adds one batch
a_batch_is_dropped : (died : Bool) (batches : List Batch) → length batches ≡ 1
    → AreLegal 10 [] died (record { stalls = []; lines = two_lines } ∷ []) batches (two_commits 10 11 ∷ []) → ⊥
a_batch_is_dropped died batches size legal = omega (arith, size, as_many [] died _ batches _ legal)

-- the first byte of a key that is set
abbrev key_byte : Entry → ℕ
key_byte (Set key value) = get_or key 0 0
key_byte (Delete key) = 0
key_byte (Note bytes) = 0
key_byte (RangeDelete start end) = 0

-- the first byte of the key that a batch sets
abbrev first_byte : Option Batch → ℕ
first_byte None = 0
first_byte (Some batch) = key_byte (get_or batch.entries 0 (Note []))

-- of which both have one number
one_number_twice : NeverLegal [] two_lines (two_commits 10 10)
unfolding AnswersInTurn
one_number_twice died batches legal =
    let round = the_round [] died _ batches _ legal in
    let a = round.sessions 0 in
    let b = round.sessions 1 in
    let one = stands_there 10 batches 0 died a.0 a.1 (sets 0 (codes "a") (codes "1")).act (numbered 10) (set_at 10 (codes "a") (codes "1")) a.3 refl in
    let other = stands_there 10 batches 0 died b.0 b.1 (sets 1 (codes "b") (codes "2")).act (numbered 10) (set_at 10 (codes "b") (codes "2")) b.3 refl in
    let first_one = lowest_is_first 10 batches a.0 _ legal.numbered one refl in
    let first_other = lowest_is_first 10 batches b.0 _ legal.numbered other refl in
    let same : Some (set_at 10 (codes "a") (codes "1")) ≡ Some (set_at 10 (codes "b") (codes "2")) =
    sym one ∙ ap (slice_get batches) (first_one ∙ sym first_other) ∙ other in
    omega (arith, ap first_byte same)

-- ---- a death of a journal that lives, and a limit far from both

dead_while_it_lives : (from : ℕ) (store : List Batch) (base n next : ℕ) (act : Act) → Answers from store base false n act next Dead → ⊥
dead_while_it_lives from store base n next act h =
    let died : false ≡ true = dead_is from store base false n next act Dead h refl in
    cc

a_limit_far_from_both : (died : Bool) (next : ℕ) → Answers 10 [] 0 died 0 (sets 0 (codes "a") (codes "1")).act next Limit → ⊥
unfolding end_after
a_limit_far_from_both died next h =
    elim (limit_is 10 [] 0 died 0 next (sets 0 (codes "a") (codes "1")).act Limit false (Set (codes "a") (codes "1") ∷ []) h refl refl) [
      | inl past ↦ omega (arith, past)
      | inr many ↦ omega (arith, many)
    ]
