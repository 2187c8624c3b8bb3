-- What is played in a round is legal, over the store that there is in the end.
use Rattle.std.proofs.Common.{◌≡◌, ℕ, ◌-◌, ◌≤◌, ◌<◌, List, [], length, map, take, drop, filter_map, IsPermutation, sym, ap, ◌∙◌, subst, arith}
use Rattle.std.specs.List.{AllByRecursion}
use Rattle.std.proofs.lemmas.List.{length-append}
use Rattle.std.proofs.lemmas.List.Sorted.{IsPermutation-trans, IsPermutation-map}
use native.Mathlib.Decide.{dec_le}
use Rattle.batch_repr.specs.declared.batch.Batch.{Batch}
use Rattle.session_replies.specs.declared.script.Line.{Line}
use Rattle.session_replies.specs.Legal.{Replied, batch_of, replies_of_session, AnswersInTurn, IsLegalRound}
use Rattle.commit_pipeline.specs.Openings.{first_of}
use Rattle.commit_pipeline.specs.declared.standing.Standing.{Standing}
use Rattle.commit_pipeline.specs.Meeting.{HaveMet}
use Rattle.commit_pipeline.specs.Ending.{owned, EachOnce}
use Rattle.session_rounds.specs.Playing.{PlaysRound}
use Rattle.session_rounds.specs.Legality.{SyncedAreAmong}
use Rattle.session_rounds.proofs.Covers.{range, at_range}
use Rattle.session_rounds.proofs.Places.{drop_after}
use Rattle.session_rounds.proofs.Follows.{End, AllWithin, has_some}
use Rattle.session_rounds.proofs.InTurn.{store, in_store, AnswersFrom, in_turn}
use Rattle.session_rounds.proofs.BySessions.{by_sessions, no_reply, dealt, deals}
use Rattle.session_rounds.proofs.Courses.{Course, no_batch, batch_at}
use Rattle.session_rounds.proofs.AreOwned.{SeenFrom, greatest, greatest_least, greatest_all, greatest_within, seen_of_end, seen_by_each, round_course, same_owned, AreOwned, are_owned, are_range}

module _ (e : End) where
  -- So many batches are made, and each session has seen them.
  pub record HaveMade (count : ℕ) (ss : List Standing) : Type 0 where
    pub own : AreOwned e count (owned ss)
    pub seen : SeenFrom count ss

  -- a session that has no line is answered nothing
  none_between : (n end : ℕ) → n ≤ end → AnswersFrom e n [] end
  unfolding AnswersInTurn
  none_between n end on = on

  -- A round, after which the sessions meet, and all that is added later.
  module _ (low : ℕ) (lines : List Line) (replies later : List Replied) (ss mid met last : List Standing) (were : HaveMade low ss)
      (some : AllByRecursion (λ (line : Line). line.session < length ss) lines) (plays : PlaysRound e.opening lines ss replies mid)
      (meets : HaveMet mid met) (within : AllWithin e mid) (own : EachOnce (length e.batches) (owned last))
      (rest : Course e (greatest low mid) (length e.batches) (owned met) (owned last) later) where
    -- so many are made after it
    abbrev pub high : ℕ
    high = greatest low mid

    on : low ≤ high
    on = greatest_least low mid

    same : owned met ≡ owned mid
    same = same_owned e mid met meets.stay

    -- what the round adds
    course : Course e low high (owned ss) (owned mid) (by_sessions (length ss) replies)
    course = round_course e low high lines replies ss mid plays within were.seen (greatest_all low mid)

    -- there are as many in the end
    fits : high ≤ length e.batches
    fits =
        greatest_within low (length e.batches) mid
        (omega (arith, own.as_many, rest.as_many, ap (λ (l : List ℕ). length l) same, course.as_many, were.own.once.as_many))
        (seen_of_end e mid within)

    rest_of_mid : Course e high (length e.batches) (owned mid) (owned last) later
    rest_of_mid = subst (λ (l : List ℕ). Course e high (length e.batches) l (owned last) later) same rest

    -- so many are made, and after the meeting each session has seen them
    pub made : HaveMade high met
    made = record {
      own = subst (AreOwned e high) (sym same)
          (are_owned e low high (length e.batches) (owned ss) (owned mid) (owned last) (by_sessions (length ss) replies) later were.own course
          rest_of_mid own on fits);
      seen = seen_by_each e low lines replies ss mid met plays meets were.seen;
    }

    -- the batches of the round, in the store
    batches_are : map (batch_at e) (range low (high - low)) ≡ take (in_store e high - in_store e low) (drop (in_store e low) (store e))
    batches_are =
        let many : high - low ≡ in_store e high - in_store e low = omega arith in
        at_range e.batches no_batch (high - low) low (omega (arith, on, fits))
        ∙ ap (λ (back : List Batch). take (high - low) back) (sym (drop_after e.opening.base e.batches low))
        ∙ ap (λ (n : ℕ). take n (drop (in_store e low) (store e))) many

    -- they are those that the replies number
    permuted : IsPermutation (filter_map batch_of replies) (take (in_store e high - in_store e low) (drop (in_store e low) (store e)))
    permuted =
        subst (IsPermutation (filter_map batch_of replies)) batches_are
        (IsPermutation-trans (filter_map batch_of replies) (map (batch_at e) course.added) (map (batch_at e) (range low (high - low)))
        (subst (IsPermutation (filter_map batch_of replies)) course.made (dealt (length ss) lines replies some plays.answered batch_of))
        (IsPermutation-map (batch_at e) course.added (range low (high - low))
        (are_range e low high (length e.batches) (owned ss) (owned mid) (owned last) (by_sessions (length ss) replies) later were.own course
        rest_of_mid own on fits)))

    -- each session is answered in turn
    each_session : (session : ℕ) → AnswersFrom e (in_store e low) (replies_of_session session replies) (in_store e high)
    each_session session = elim (dec_le (length ss) session) [
      | yes past ↦
          subst (λ (rs : List Replied). AnswersFrom e (in_store e low) rs (in_store e high))
          (sym (no_reply (length ss) lines replies some plays.answered session past))
          (none_between (in_store e low) (in_store e high) (omega (arith, on)))
      | no here ↦
          let s = has_some ss session (omega (arith, here)) in
          let t = has_some mid session (omega (arith, here, plays.all)) in
          in_turn e (replies_of_session session replies) (in_store e low) (in_store e high) s.0 t.0 (plays.each session s.0 t.0 s.1 t.1)
          (within session t.0 t.1) (omega (arith, were.seen session s.0 s.1)) (omega (arith, greatest_all low mid session t.0 t.1))
    ]

    -- the round is legal, and what it answers synced is acked
    pub legal : IsLegalRound (first_of e.opening) (store e) (length e.opening.base) e.died (in_store e low) replies (in_store e high)
    legal = record {
      later = omega (arith, on);
      within = omega (arith, fits, length-append e.opening.base e.batches);
      own = permuted;
      sessions = each_session;
    }

    pub synced : SyncedAreAmong e.batches e.most replies
    synced r first count h told = course.synced r first count (deals (length ss) lines replies some plays.answered r h) told
