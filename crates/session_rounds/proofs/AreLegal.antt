-- All rounds that are played until a pipeline ends are legal, over the store that there is in the end.
use Rattle.std.proofs.Common.{◌≡◌, ◌≢◌, ℕ, ◌+◌, Bool, List, [], ◌∷◌, ◌++◌, length, None, IsTrue, Contains, refl, sym, ap, ◌∙◌, subst, le_refl, arith, true}
use Rattle.std.specs.List.{AllByRecursion}
use Rattle.std.proofs.lemmas.List.{length-append, append-nil, take_all}
use Rattle.std.proofs.lemmas.List.Elements.{recursion_from_All}
use Rattle.std.proofs.lemmas.Option.{slice_get_within, get_or_from_slice_get}
use Rattle.wal_base.proofs.Laws.{none_within}
use Rattle.batch_repr.specs.declared.batch.Batch.{Batch}
use Rattle.batch_repr.specs.Batches.{IsContiguous, end_after}
use Rattle.batch_repr.proofs.Laws.{contiguous_append, end_append}
use Rattle.disk_face.specs.View.{DiskView}
use Rattle.failover_writer.specs.State.{State, acked}
use Rattle.session_replies.specs.Rounds.{NameSessions}
use Rattle.session_replies.specs.declared.script.Round.{Round}
use Rattle.session_replies.specs.Legal.{Replied, RepliesToRounds, AreLegalRounds, AreLegal}
use Rattle.commit_pipeline.specs.Openings.{Opening, first_of}
use Rattle.commit_pipeline.specs.declared.standing.Standing.{Standing}
use Rattle.commit_pipeline.specs.Standings.{new_standing}
use Rattle.commit_pipeline.specs.Commits.{end_at}
use Rattle.commit_pipeline.specs.Parts.{AreNew}
use Rattle.commit_pipeline.specs.Ending.{owned, EachOnce, Finishes}
use Rattle.session_rounds.specs.Playing.{PlaysRounds}
use Rattle.session_rounds.specs.Legality.{SyncedAreAmong}
use Rattle.session_rounds.proofs.Places.{row_end}
use Rattle.session_rounds.proofs.Follows.{End, AllWithin, before_meeting, before_rounds}
use Rattle.session_rounds.proofs.InTurn.{store, in_store}
use Rattle.session_rounds.proofs.AreOwned.{AreOwned, greatest, rounds_course, seen_by_each}
use Rattle.session_rounds.proofs.IsLegalRound.{HaveMade, made, legal, synced}

module _ (e : End) where
  -- The replies to rounds are legal after so many batches, and each batch that is answered synced is acked.
  record LegalFrom (count : ℕ) (rounds : List Round) (replies : List (List Replied)) : Type 0 where
    pub answered : RepliesToRounds rounds replies
    pub legal : AreLegalRounds (first_of e.opening) (store e) (length e.opening.base) e.died (in_store e count) replies (length (store e))
    pub synced : AllByRecursion (SyncedAreAmong e.batches e.most) replies

  -- round by round
  legal_from : (count : ℕ) (rounds : List Round) (replies : List (List Replied)) (ss last : List Standing) → HaveMade e count ss
      → NameSessions (length ss) rounds → PlaysRounds e.opening ss rounds replies last → AllWithin e last → EachOnce (length e.batches) (owned last)
      → LegalFrom count rounds replies
  unfolding PlaysRounds RepliesToRounds AreLegalRounds
  legal_from count [] [] ss last were some plays within own = record {
    answered = tt;
    legal = omega (
      arith,
      length-append e.opening.base e.batches,
      own.as_many,
      were.own.once.as_many,
      ap (λ (them : List Standing). length (owned them)) plays,
    );
    synced = tt;
  }
  legal_from count [] (replies ∷ more) ss last were some plays within own = absurd plays
  legal_from count (round ∷ rounds) [] ss last were some plays within own = absurd plays
  legal_from count (round ∷ rounds) (replies ∷ more) ss last were some plays within own =
      let mid = plays.0 in
      let met = plays.1 in
      let one = plays.2 in
      let at_mid = before_meeting e mid met plays.3 (before_rounds e rounds more met last plays.4 within) in
      let later = rounds_course e (greatest count mid) rounds more met last plays.4 within
      (seen_by_each e count round.lines replies ss mid met one plays.3 were.seen) in
      let long : length met ≡ length ss = plays.3.stay.all ∙ one.all in
      let rest = legal_from (greatest count mid) rounds more met last
      (made e count round.lines replies later.0 ss mid met last were some.0 one plays.3 at_mid own later.1)
      (subst (λ (n : ℕ). NameSessions n rounds) (sym long) some.1) plays.4 within own in
      record {
        answered = (one.answered, rest.answered);
        legal = (
          in_store e (greatest count mid),
          legal e count round.lines replies later.0 ss mid met last were some.0 one plays.3 at_mid own later.1,
          rest.legal,
        );
        synced = (synced e count round.lines replies later.0 ss mid met last were some.0 one plays.3 at_mid own later.1, rest.synced);
      }

  -- ---- the start

  -- new sessions own nothing
  pub none_owned : (ss : List Standing) → AllByRecursion (λ (s : Standing). s ≡ new_standing) ss → owned ss ≡ []
  none_owned [] new = refl
  none_owned (s ∷ ss) new =
      ap (λ (own : List ℕ). owned ss ++ own) (ap (λ (t : Standing). t.own) new.0) ∙ append-nil (owned ss) ∙ none_owned ss new.1

  -- so none is made
  none_made : (count : ℕ) (ss : List Standing) → AreNew count ss → HaveMade e 0 ss
  none_made count ss new =
      let none = none_owned ss (recursion_from_All (λ (s : Standing). s ≡ new_standing) ss new.each) in
      record {
        own = subst (AreOwned e 0) (sym none) (record {
          once = record { as_many = refl; each = λ i below. absurd (omega (arith, below)) };
          below = λ i h. absurd (none_within i h);
        });
        seen = λ i s here. omega arith;
      }

  -- ---- the end

  -- the store is numbered one after another, up to what is visible in the end
  store_numbered : IsContiguous (first_of e.opening) (store e)
  store_numbered = contiguous_append (first_of e.opening) e.opening.base e.batches e.before.contiguous
      (subst (λ (n : ℕ). IsContiguous n e.batches) (sym e.before.ends) e.row)

  store_end : end_after (first_of e.opening) (store e) ≡ end_at e.opening e.batches (length e.batches)
  store_end =
      end_append (first_of e.opening) e.opening.base e.batches
      ∙ ap (λ (n : ℕ). end_after n e.batches) e.before.ends
      ∙ ap (end_after e.opening.start.state.next) (sym (take_all (length e.batches) e.batches (le_refl (length e.batches))))
      ∙ row_end e.opening.start.state.next e.batches (length e.batches) e.row

module _ (tells : Bool) (opening : Opening) (batches : List Batch) (last : List Standing) (state : State) (v : DiskView) (visible count : ℕ)
    (died : Bool) (ends : Finishes tells opening batches last state v visible count) (dies : state.dead ≢ None → IsTrue died) where
  -- the journal had no record at the opening
  pub opening_next : opening.start.state.next ≡ opening.start.state.base
  unfolding end_after
  opening_next = ends.opened.unbegun.empty.next

  -- what it ended with, and that all sessions are within that
  abbrev pub the_end : End
  the_end = record {
    opening = opening;
    batches = batches;
    most = acked state;
    died = died;
    before = ends.opened.base;
    row = subst (λ (n : ℕ). IsContiguous n batches) (ends.keeps.base_is ∙ sym opening_next) ends.keeps.stands.numbered;
  }

  pub all_within : AllWithin the_end last
  all_within i s here =
      let there : Contains last s = (i, slice_get_within last i s here, get_or_from_slice_get last i s s here) in
      record { seen = ends.seen s there; acked = ends.acked_is s there; dead = λ some. dies (ends.dead s there (omega (arith, some))) }

  -- from the base on
  legally : (rounds : List Round) (replies : List (List Replied)) → LegalFrom the_end 0 rounds replies
      → AreLegal (first_of opening) opening.base died rounds batches replies × AllByRecursion (SyncedAreAmong batches (acked state)) replies
  legally rounds replies all =
      let none : length opening.base + 0 ≡ length opening.base = omega arith in (
        record {
          numbered = store_numbered the_end;
          small = omega (arith, store_end the_end, ends.visible_is, ends.small);
          few = omega (arith, ends.count_is, ends.few);
          answered = all.answered;
          legal =
              subst (λ (n : ℕ). AreLegalRounds (first_of opening) (opening.base ++ batches) (length opening.base) died n replies
              (length (opening.base ++ batches))) none all.legal;
        },
        all.synced,
      )

-- What new sessions play over a pipeline, until it ends with these batches, is legal; and each batch that is answered synced is acked.
pub played_legally : (tells : Bool) (opening : Opening) (rounds : List Round) (replies : List (List Replied)) (ss last : List Standing)
    (batches : List Batch) (state : State) (v : DiskView) (visible count : ℕ) (died : Bool)
    → AreNew (length ss) ss → NameSessions (length ss) rounds → PlaysRounds opening ss rounds replies last
    → Finishes tells opening batches last state v visible count → (state.dead ≢ None → IsTrue died)
    → AreLegal (first_of opening) opening.base died rounds batches replies × AllByRecursion (SyncedAreAmong batches (acked state)) replies
played_legally tells opening rounds replies ss last batches state v visible count died new some plays ends dies =
    let e = the_end tells opening batches last state v visible count died ends dies in
    legally tells opening batches last state v visible count died ends dies rounds replies
    (legal_from e 0 rounds replies ss last (none_made e (length ss) ss new) some plays
    (all_within tells opening batches last state v visible count died ends dies) ends.own)

-- The number after all is the one after the store with these batches.
pub visible_at_end : (tells : Bool) (opening : Opening) (batches : List Batch) (ss : List Standing) (state : State) (v : DiskView)
    (visible count : ℕ) → Finishes tells opening batches ss state v visible count → visible ≡ end_after (first_of opening) (opening.base ++ batches)
visible_at_end tells opening batches ss state v visible count ends =
    ends.visible_is ∙ sym (store_end (the_end tells opening batches ss state v visible count true ends (λ dead. refl)))
