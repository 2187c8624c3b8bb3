-- What a session is answered is what the store answers, within what it has seen.
use Rattle.std.proofs.Common.{◌≡◌, inl, inr, ℕ, ◌+◌, ◌≤◌, Bool, List, [], ◌∷◌, ◌++◌, length, take, Option, Some, sym, ap, ◌∙◌, subst, arith}
use Rattle.std.specs.Prelude.{slice_get}
use Rattle.wal_base.specs.declared.entry.Entry.{Entry}
use Rattle.wal_base.specs.Prefixes.{IsPrefixOf}
use Rattle.wal_base.proofs.Laws.{at_prefix, longer_prefix}
use Rattle.batch_repr.specs.declared.batch.Batch.{Batch}
use Rattle.batch_repr.specs.Batches.{count_of, end_after, answer}
use Rattle.batch_repr.proofs.Laws.{end_append}
use Rattle.commit_queue.proofs.Laws.{at_end_of, at_below}
use Rattle.session_replies.specs.declared.script.Act.{Act}
use Rattle.session_replies.specs.declared.script.Act.TheVariants.{Commit, Get}
use Rattle.session_replies.specs.declared.replies.Said.{Said}
use Rattle.session_replies.specs.declared.replies.Said.TheVariants.{Committed, Unsynced, Dead, Limit, Got}
use Rattle.session_replies.specs.Legal.{Replied, Answers, committed, unsynced, dead, past_numbers, past_batches, read, AnswersInTurn}
use Rattle.commit_pipeline.specs.Openings.{first_of}
use Rattle.commit_pipeline.specs.declared.standing.Standing.{Standing}
use Rattle.commit_pipeline.specs.Numbering.{numbered}
use Rattle.commit_pipeline.specs.Standings.{GainsOwn}
use Rattle.commit_pipeline.specs.Commits.{end_at, Commits, SeesExhausted}
use Rattle.session_rounds.specs.Acts.{Does, DoesLines}
use Rattle.session_rounds.proofs.Places.{get_after, take_after, as_got, row_end, answer_seen}
use Rattle.session_rounds.proofs.Follows.{End, IsWithin, within_before, lines_follow}

module _ (e : End) where
  -- ---- the store

  abbrev pub store : List Batch
  store = e.opening.base ++ e.batches

  -- the place in the store of the place p behind the base
  abbrev pub in_store : ℕ → ℕ
  in_store p = length e.opening.base + p

  abbrev AnswersAt : ℕ → Act → ℕ → Said → Type 0
  AnswersAt n act next said = Answers (first_of e.opening) store (length e.opening.base) e.died n act next said

  abbrev pub AnswersFrom : ℕ → List Replied → ℕ → Type 0
  AnswersFrom n replies end = AnswersInTurn (first_of e.opening) store (length e.opening.base) e.died n replies end

  -- what was visible after so many of the batches that are seen
  visible_after_place : (seen : List Batch) (p : ℕ) → IsPrefixOf seen e.batches → p ≤ length seen
      → end_after (first_of e.opening) (take (in_store p) store) ≡ end_at e.opening seen p
  visible_after_place seen p pre within =
      ap (end_after (first_of e.opening)) (take_after e.opening.base e.batches p)
      ∙ end_append (first_of e.opening) e.opening.base (take p e.batches)
      ∙ ap (λ (n : ℕ). end_after n (take p e.batches)) e.before.ends
      ∙ row_end e.opening.start.state.next e.batches p e.row
      ∙ sym (at_end_of seen e.batches pre e.opening.start.state.next p within)

  -- ---- one line

  -- A line is answered by the store, at a place that its session has seen by then.
  pub record AnsweredWithin (s s' : Standing) (act : Act) (said : Said) : Type 0 where
    pub at : ℕ
    pub next : ℕ
    pub later : in_store (length s.seen) ≤ at
    pub within : next ≤ in_store (length s'.seen)
    pub answers : AnswersAt at act next said

  module _ (s s' : Standing) (w : IsWithin e s') where
    -- a batch that it has gained stands in the store
    stands : (batch : Batch) (place : ℕ) → GainsOwn batch place s s' → slice_get store (in_store place) ≡ Some batch
    stands batch place gains = get_after e.opening.base e.batches place ∙ as_got e.batches place batch (at_prefix s'.seen e.batches w.seen place batch gains.at)

    gained : (act : Act) (said : Said) (entries : List Entry) (first count : ℕ) (c : Commits entries first count s s')
        → AnswersAt (in_store c.place) act (in_store c.place + 1) said → AnsweredWithin s s' act said
    gained act said entries first count c answers = record {
      at = in_store c.place;
      next = in_store c.place + 1;
      later = omega (arith, c.gains.behind);
      within = omega (arith, at_below s'.seen c.place (numbered entries first) c.gains.at);
      answers = answers;
    }

    -- nothing is added after p batches that it has seen
    added_none : (act : Act) (said : Said) (p : ℕ) → length s.seen ≤ p → p ≤ length s'.seen → AnswersAt (in_store p) act (in_store p) said
        → AnsweredWithin s s' act said
    added_none act said p low high answers = record {
      at = in_store p;
      next = in_store p;
      later = omega (arith, low);
      within = omega (arith, high);
      answers = answers;
    }

    -- the numbers are used up
    exhausted : (sync : Bool) (entries : List Entry) (next : ℕ) → SeesExhausted e.opening entries next s s'
        → AnsweredWithin s s' (Commit sync entries) Limit
    exhausted sync entries next x =
        added_none (Commit sync entries) Limit x.placed x.no_fewer x.seen
        (past_numbers sync entries (omega (arith, x.over, x.next_is, visible_after_place s'.seen x.placed w.seen x.seen)))

    -- a read answers after all that was seen
    reads : (key told : List ℕ) (value : Option (List ℕ)) (visible : ℕ) → told ≡ key → length s.seen ≤ length s'.seen
        → value ≡ answer (e.opening.base ++ s'.seen) (length (e.opening.base ++ s'.seen)) key
        → visible ≡ end_at e.opening s'.seen (length s'.seen) → AnsweredWithin s s' (Get key) (Got told value visible)
    reads key told value visible same low value_is visible_is =
        let n = length s'.seen in
        added_none (Get key) (Got told value visible) n low (omega arith)
        (subst (λ (said : Said). AnswersAt (in_store n) (Get key) (in_store n) said)
        (λ i. Got ((sym same) i) ((answer_seen e.opening.base s'.seen e.batches key w.seen ∙ sym value_is) i)
        ((visible_after_place s'.seen n w.seen (omega arith) ∙ sym visible_is) i)) (read key))

    -- by what was said
    pub answered : (act : Act) (said : Said) → Does e.opening s act said s' → AnsweredWithin s s' act said
    answered (Commit sync entries) (Committed first count synced) does =
        let c = does.commits in
        gained (Commit sync entries) (Committed first count synced) entries first count c
        (subst (λ (n : ℕ). AnswersAt (in_store c.place) (Commit sync entries) (in_store c.place + 1) (Committed first n synced)) (sym c.count_is)
        (subst (λ (b : Bool). AnswersAt (in_store c.place) (Commit sync entries) (in_store c.place + 1) (Committed first (count_of entries) b))
        (sym does.synced) (committed sync (numbered entries first) (stands (numbered entries first) c.place c.gains))))
    answered (Commit sync entries) (Unsynced first count) does =
        let c = does.0 in
        gained (Commit sync entries) (Unsynced first count) entries first count c
        (subst (λ (n : ℕ). AnswersAt (in_store c.place) (Commit sync entries) (in_store c.place + 1) (Unsynced first n)) (sym c.count_is)
        (subst (λ (b : Bool). AnswersAt (in_store c.place) (Commit b entries) (in_store c.place + 1) (Unsynced first (count_of entries))) (sym does.2)
        (unsynced (numbered entries first) (stands (numbered entries first) c.place c.gains) (w.dead (omega (arith, does.1))))))
    answered (Commit sync entries) Dead does =
        added_none (Commit sync entries) Dead (length s.seen) (omega arith) (longer_prefix s.seen s'.seen does.0.goes_on.seen)
        (dead sync entries (w.dead (omega (arith, does.1))))
    answered (Commit sync entries) Limit does = elim does.3 [
      | inl many ↦
          added_none (Commit sync entries) Limit (length s'.seen) (longer_prefix s.seen s'.seen does.0.goes_on.seen) (omega arith)
          (past_batches sync entries (ap (λ (n : ℕ). length e.opening.base + n) many))
      | inr x ↦ exhausted sync entries x.0 x.1
    ]
    answered (Commit sync entries) (Got told value visible) does = absurd does
    answered (Get key) (Got told value visible) does =
        reads key told value visible does.0 (longer_prefix s.seen s'.seen does.1.idles.goes_on.seen) does.1.value does.1.visible
    answered (Get key) (Committed first count synced) does = absurd does
    answered (Get key) (Unsynced first count) does = absurd does
    answered (Get key) Dead does = absurd does
    answered (Get key) Limit does = absurd does

  -- ---- all lines of a session

  -- They are answered in turn, from within what it had seen up to what it has seen then.
  pub in_turn : (replies : List Replied) (n end : ℕ) (s s' : Standing) → DoesLines e.opening s replies s' → IsWithin e s'
      → n ≤ in_store (length s.seen) → in_store (length s'.seen) ≤ end → AnswersFrom n replies end
  unfolding DoesLines AnswersInTurn
  in_turn [] n end s s' does w low high = omega (arith, low, high, ap (λ (t : Standing). length t.seen) does)
  in_turn (reply ∷ replies) n end s s' does w low high =
      let mid = does.0 in
      let one = answered s mid (within_before e mid s' (lines_follow e.opening replies mid s' does.2) w) reply.line.act reply.said does.1 in
      (one.at, one.next, omega (arith, low, one.later), one.answers, in_turn replies one.next end mid s' does.2 w one.within high)
