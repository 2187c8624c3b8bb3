-- Worked examples of the definitions, as the checker computes them.
use Rattle.std.proofs.Common.{◌≡◌, ℕ, zero, suc, true, false, List, [], ◌∷◌, ◌++◌, map, Some, None, refl, arith, ne_eqb}
use Rattle.std.specs.Prelude.{codes}
use Rattle.std.specs.Fmt.{digits}
use Rattle.wal_base.specs.declared.entry.Entry.TheVariants.{Set, Delete, Note}
use Rattle.batch_repr.specs.declared.batch.Batch.{Batch}
use Rattle.batch_repr.specs.Batches.{answer, end_after, IsContiguous}
use Rattle.std.proofs.lemmas.List.Sorted.{IsPermutation-append_comm}
use Rattle.session_replies.specs.declared.script.Act.TheVariants.{Commit, Get}
use Rattle.session_replies.specs.declared.script.Line.{Line}
use Rattle.session_replies.specs.declared.script.Script.{Script}
use Rattle.session_replies.specs.declared.replies.Said.TheVariants.{Committed, Unsynced, Dead, Limit, Got}
use Rattle.session_replies.specs.Replies.{reply_line, end_line}
use Rattle.session_replies.specs.Legal.{Replied, replies_text, replies_of_session, lines_of_session, AreBySession, RepliesToRounds, committed, unsynced, dead, past_numbers, read, AnswersInOrder, AnswersInTurn, IsLegalRound, AreLegalRounds, AreLegal}
use Rattle.session_replies.proofs.InOrder.{legal_in_order}

-- ---- two sessions, the greater one first, and a halt

abbrev line_b : Line
line_b = record { session = 1; act = Commit false (Set (codes "b") (codes "2") ∷ []) }

abbrev line_a : Line
line_a = record { session = 0; act = Commit false (Set (codes "a") (codes "1") ∷ []) }

abbrev its_script : Script
its_script = record { rounds = record { stalls = []; lines = line_b ∷ line_a ∷ [] } ∷ []; halted = true; sessions = 2 }

abbrev its_replies : List (List Replied)
its_replies = (record { line = line_a; said = Committed 10 1 false } ∷ record { line = line_b; said = Committed 11 1 false } ∷ []) ∷ []

its_text : replies_text its_replies ≡ codes "s0 commit 10 1\ns1 commit 11 1\n"
unfolding reply_line digits
its_text = refl

its_end : end_line (record { visible = 12; batches = 2; acked = 0; segments = 1; died = false; halted = true })
    ≡ codes "end visible 12 batches 2 acked 0 segments 1 halted\n"
unfolding end_line digits
its_end = refl

abbrev batch_a : Batch
batch_a = record { first = 10; entries = Set (codes "a") (codes "1") ∷ [] }

abbrev batch_b : Batch
batch_b = record { first = 11; entries = Set (codes "b") (codes "2") ∷ [] }

abbrev its_batches : List Batch
its_batches = batch_a ∷ batch_b ∷ []

its_order : AnswersInOrder 10 its_batches 0 false 0
    (record { line = line_a; said = Committed 10 1 false } ∷ record { line = line_b; said = Committed 11 1 false } ∷ []) 2
unfolding AnswersInOrder
its_order = (1, committed false batch_a refl, (2, committed false batch_b refl, refl))

its_legality : AreLegal 10 [] false its_script.rounds its_batches its_replies
unfolding IsContiguous end_after AreBySession RepliesToRounds AreLegalRounds
its_legality = record {
  numbered = (refl, omega arith, (refl, omega arith, tt));
  small = omega arith;
  few = omega arith;
  answered = (record { by_session = (omega arith, (omega arith, tt)); same = its_lines }, tt);
  legal = (2, legal_in_order 10 its_batches 0 false _ 0 2 (omega arith) its_order, refl);
}
  where
    its_lines : (session : ℕ) → map (λ (r : Replied). r.line)
        (replies_of_session session (record { line = line_a; said = Committed 10 1 false } ∷ record { line = line_b; said = Committed 11 1 false } ∷
        [])) ≡ lines_of_session session (line_b ∷ line_a ∷ [])
    its_lines zero = refl
    its_lines (suc zero) = refl
    its_lines (suc (suc n)) = rw (ne_eqb 0 (suc (suc n)) (λ e. omega (arith, e))) (rw (ne_eqb 1 (suc (suc n)) (λ e. omega (arith, e))) refl)

-- ---- one session: a journal that dies, and what is read then

abbrev commits_a : Line
commits_a = record { session = 0; act = Commit true (Set (codes "a") (codes "1") ∷ []) }

abbrev commits_b : Line
commits_b = record { session = 0; act = Commit false (Set (codes "b") (codes "2") ∷ []) }

abbrev gets_a : Line
gets_a = record { session = 0; act = Get (codes "a") }

abbrev deadly : List Replied
deadly =
    record { line = commits_a; said = Unsynced 10 1 } ∷ record { line = commits_b; said = Dead } ∷ record
    { line = gets_a; said = Got (codes "a") (Some (codes "1")) 11 } ∷ []

deadly_text : replies_text (deadly ∷ []) ≡ codes "s0 commit 10 1 unsynced\ns0 commit dead\ns0 get a = 1 @11\n"
unfolding reply_line digits
deadly_text = refl

deadly_end : end_line (record { visible = 11; batches = 1; acked = 0; segments = 10; died = true; halted = false })
    ≡ codes "end visible 11 batches 1 acked 0 segments 10 dead\n"
unfolding end_line digits
deadly_end = refl

deadly_order : AnswersInOrder 10 (batch_a ∷ []) 0 true 0 deadly 1
unfolding AnswersInOrder answer end_after
deadly_order = (1, unsynced batch_a refl refl, (1, dead false (Set (codes "b") (codes "2") ∷ []) refl, (1, read (codes "a"), refl)))

deadly_legal : AreLegal 10 [] true (record { stalls = []; lines = commits_a ∷ commits_b ∷ gets_a ∷ [] } ∷ []) (batch_a ∷ []) (deadly ∷ [])
unfolding IsContiguous end_after AreBySession RepliesToRounds AreLegalRounds
deadly_legal = record {
  numbered = (refl, omega arith, tt);
  small = omega arith;
  few = omega arith;
  answered = (record { by_session = (omega arith, (omega arith, (omega arith, tt))); same = its_lines }, tt);
  legal = (1, legal_in_order 10 (batch_a ∷ []) 0 true deadly 0 1 (omega arith) deadly_order, refl);
}
  where
    its_lines : (session : ℕ) → map (λ (r : Replied). r.line) (replies_of_session session deadly) ≡ lines_of_session session
        (commits_a ∷ commits_b ∷ gets_a ∷ [])
    its_lines zero = refl
    its_lines (suc n) = rw (ne_eqb 0 (suc n) (λ e. omega (arith, e))) refl

-- ---- a batch of several entries, a deletion, and a key without a value

abbrev transfer : Batch
transfer = record { first = 10; entries = Set (codes "acct/1") (codes "90") ∷ Set (codes "acct/2") (codes "110") ∷ Note (codes "t7") ∷ [] }

abbrev removal : Batch
removal = record { first = 12; entries = Delete (codes "acct/1") ∷ [] }

abbrev of_user : List Replied
of_user =
    record { line = record { session = 0; act = Commit true transfer.entries }; said = Committed 10 2 true }
    ∷ record { line = record { session = 0; act = Get (codes "acct/1") }; said = Got (codes "acct/1") (Some (codes "90")) 12 }
    ∷ record { line = record { session = 0; act = Commit false removal.entries }; said = Committed 12 1 false }
    ∷ record { line = record { session = 0; act = Get (codes "acct/1") }; said = Got (codes "acct/1") None 13 }
    ∷ record { line = record { session = 0; act = Get (codes "acct/3") }; said = Got (codes "acct/3") None 13 }
    ∷ []

user_text : replies_text (of_user ∷ []) ≡ codes "s0 commit 10 2 synced\n" ++ codes "s0 get acct/1 = 90 @12\n" ++ codes "s0 commit 12 1\n" ++ codes
    "s0 get acct/1 none @13\n" ++ codes "s0 get acct/3 none @13\n"
unfolding reply_line digits
user_text = refl

user_end : end_line (record { visible = 13; batches = 2; acked = 2; segments = 1; died = false; halted = false })
    ≡ codes "end visible 13 batches 2 acked 2 segments 1 closed\n"
unfolding end_line digits
user_end = refl

user_order : AnswersInOrder 10 (transfer ∷ removal ∷ []) 0 false 0 of_user 2
unfolding AnswersInOrder answer end_after
user_order = (
  1,
  committed true transfer refl,
  (
    1,
    read (codes "acct/1"),
    (2, committed false removal refl, (2, read (codes "acct/1"), (2, read (codes "acct/3"), refl))),
  ),
)

-- ---- the end of the numbers

abbrev last_batch : Batch
last_batch = record { first = 72057594037927934; entries = Set (codes "a") (codes "1") ∷ [] }

abbrev at_the_end : List Replied
at_the_end =
    record { line = record { session = 0; act = Commit false (Set (codes "a") (codes "1") ∷ Delete (codes "b") ∷ []) }; said = Limit }
    ∷ record { line = record { session = 0; act = Commit false last_batch.entries }; said = Committed 72057594037927934 1 false }
    ∷ record { line = record { session = 0; act = Commit false last_batch.entries }; said = Limit }
    ∷ []

end_order : AnswersInOrder 72057594037927934 (last_batch ∷ []) 0 false 0 at_the_end 1
unfolding AnswersInOrder end_after
end_order = (0, past_numbers false _ (omega arith), (1, committed false last_batch refl, (1, past_numbers false _ (omega arith), refl)))

-- ---- two rounds of two sessions, where the greater one comes first: it may, as no session has seen the other

abbrev first_b : Batch
first_b = record { first = 10; entries = Set (codes "b") (codes "2") ∷ [] }

abbrev then_a : Batch
then_a = record { first = 11; entries = Set (codes "a") (codes "1") ∷ [] }

abbrev crossed : List Replied
crossed = record { line = line_a; said = Committed 11 1 false } ∷ record { line = line_b; said = Committed 10 1 false } ∷ []

crossed_turns : (session : ℕ) → AnswersInTurn 10 (first_b ∷ then_a ∷ []) 0 false 0 (replies_of_session session crossed) 2
unfolding AnswersInTurn
crossed_turns zero = (1, 2, omega arith, committed false then_a refl, omega arith)
crossed_turns (suc zero) = (0, 1, omega arith, committed false first_b refl, omega arith)
crossed_turns (suc (suc n)) = rw (ne_eqb 0 (suc (suc n)) (λ e. omega (arith, e))) (rw (ne_eqb 1 (suc (suc n)) (λ e. omega (arith, e))) (omega arith))

crossed_round : IsLegalRound 10 (first_b ∷ then_a ∷ []) 0 false 0 crossed 2
crossed_round = record { later = omega arith; within = omega arith; own = IsPermutation-append_comm (then_a ∷ []) (first_b ∷ []); sessions = crossed_turns }

-- ---- what Refused.antt refuses, mended

abbrev finds_a : List Replied
finds_a =
    record { line = line_a; said = Committed 10 1 false }
    ∷ record { line = line_b; said = Committed 11 1 false }
    ∷ record { line = record { session = 1; act = Get (codes "a") }; said = Got (codes "a") (Some (codes "1")) 12 }
    ∷ []

finds_order : AnswersInOrder 10 its_batches 0 false 0 finds_a 2
unfolding AnswersInOrder answer end_after
finds_order = (1, committed false batch_a refl, (2, committed false batch_b refl, (2, read (codes "a"), refl)))

abbrev old_a : Batch
old_a = record { first = 10; entries = Set (codes "a") (codes "0") ∷ [] }

abbrev over_old : List Replied
over_old =
    record { line = line_a; said = Committed 11 1 false }
    ∷ record { line = record { session = 0; act = Get (codes "a") }; said = Got (codes "a") (Some (codes "1")) 12 }
    ∷ []

over_order : AnswersInOrder 10 (old_a ∷ then_a ∷ []) 1 false 1 over_old 2
unfolding AnswersInOrder answer end_after
over_order = (2, committed false then_a refl, (2, read (codes "a"), refl))
