-- That a dead journal stays dead: replies that the definition accepts, and legal ones that it refuses.
use Rattle.std.proofs.Common.{◌≡◌, ℕ, zero, suc, true, false, List, [], ◌∷◌, map, Some, refl, arith, ne_eqb}
use Rattle.std.specs.Prelude.{codes}
use Rattle.wal_base.specs.declared.entry.Entry.TheVariants.{Set}
use Rattle.batch_repr.specs.declared.batch.Batch.{Batch}
use Rattle.batch_repr.specs.Batches.{IsContiguous, end_after}
use Rattle.session_replies.specs.declared.script.Act.TheVariants.{Commit, Get}
use Rattle.session_replies.specs.declared.script.Line.{Line}
use Rattle.session_replies.specs.declared.replies.Said.TheVariants.{Committed, Unsynced, Dead, Limit, Got}
use Rattle.session_replies.specs.Legal.{Replied, replies_of_session, lines_of_session, AreBySession, RepliesToRounds, committed, dead, AnswersInOrder, AreLegalRounds, AreLegal}
use Rattle.session_replies.specs.Lasting.{DeathLastsInTurn, DeathLastsFrom, DeathLasts}
use Rattle.session_replies.proofs.InOrder.{legal_in_order}

-- a commit of `a` that asks for a sync
abbrev commits : ℕ → Line
commits session = record { session = session; act = Commit true (Set (codes "a") (codes "1") ∷ []) }

abbrev reads : ℕ → Line
reads session = record { session = session; act = Get (codes "a") }

-- ---- accepted: session 0 sees the journal dead, session 1 goes on in that round, and in the next round no session does

abbrev round_of_death : List Replied
round_of_death =
    record { line = commits 0; said = Unsynced 10 1 }
    ∷ record { line = commits 0; said = Dead }
    ∷ record { line = commits 1; said = Committed 11 1 true }
    ∷ []

abbrev round_after : List Replied
round_after =
    record { line = reads 0; said = Got (codes "a") (Some (codes "1")) 12 }
    ∷ record { line = commits 1; said = Dead }
    ∷ []

death_lasts : DeathLasts (round_of_death ∷ round_after ∷ [])
unfolding DeathLastsFrom DeathLastsInTurn
death_lasts = (first, (second, tt))
  where
    first : (session : ℕ) → DeathLastsInTurn false (replies_of_session session round_of_death)
    first zero = (λ dead. absurd cc, (λ dead. refl, tt))
    first (suc zero) = (λ dead. absurd cc, tt)
    first (suc (suc n)) = rw (ne_eqb 0 (suc (suc n)) (λ e. omega (arith, e))) (rw (ne_eqb 1 (suc (suc n)) (λ e. omega (arith, e))) tt)

    second : (session : ℕ) → DeathLastsInTurn true (replies_of_session session round_after)
    second zero = (λ dead. refl, tt)
    second (suc zero) = (λ dead. refl, tt)
    second (suc (suc n)) = rw (ne_eqb 0 (suc (suc n)) (λ e. omega (arith, e))) (rw (ne_eqb 1 (suc (suc n)) (λ e. omega (arith, e))) tt)

-- ---- refused: a session is told that the journal is dead, and then commits

abbrev dies_and_commits : List Replied
dies_and_commits =
    record { line = commits 0; said = Dead }
    ∷ record { line = commits 0; said = Committed 10 1 true }
    ∷ []

abbrev its_batch : Batch
its_batch = record { first = 10; entries = Set (codes "a") (codes "1") ∷ [] }

-- The four rules take it,
order_of_both : AnswersInOrder 10 (its_batch ∷ []) 0 true 0 dies_and_commits 1
unfolding AnswersInOrder
order_of_both = (0, dead true (Set (codes "a") (codes "1") ∷ []) refl, (1, committed true its_batch refl, refl))

legal_all_the_same : AreLegal 10 [] true (record { stalls = []; lines = commits 0 ∷ commits 0 ∷ [] } ∷ []) (its_batch ∷ []) (dies_and_commits ∷ [])
unfolding IsContiguous end_after AreBySession RepliesToRounds AreLegalRounds
legal_all_the_same = record {
  numbered = (refl, omega arith, tt);
  small = omega arith;
  few = omega arith;
  answered = (record { by_session = (omega arith, (omega arith, tt)); same = its_lines }, tt);
  legal = (1, legal_in_order 10 (its_batch ∷ []) 0 true dies_and_commits 0 1 (omega arith) order_of_both, refl);
}
  where
    its_lines : (session : ℕ) → map (λ (r : Replied). r.line) (replies_of_session session dies_and_commits)
        ≡ lines_of_session session (commits 0 ∷ commits 0 ∷ [])
    its_lines zero = refl
    its_lines (suc n) = rw (ne_eqb 0 (suc n) (λ e. omega (arith, e))) refl

-- and this one does not,
death_does_not_last : DeathLasts (dies_and_commits ∷ []) → ⊥
unfolding DeathLastsFrom DeathLastsInTurn
death_does_not_last h = let clash : true ≡ false = (h.0 0).1.0 refl in absurd cc

-- nor where the limit is told in the next round, to another session.
limit_after_death : DeathLasts ((record { line = commits 0; said = Dead } ∷ []) ∷ (record { line = commits 1; said = Limit } ∷ []) ∷ []) → ⊥
unfolding DeathLastsFrom DeathLastsInTurn
limit_after_death h = let clash : true ≡ false = (h.1.0 1).0 refl in absurd cc
