-- Once sessions have met for the last time, each has seen all batches that there are in the end.
use Rattle.std.proofs.Common.{◌≡◌, inl, inr, ℕ, zero, suc, ◌≤◌, ◌<◌, Bool, true, List, [], ◌∷◌, length, Contains, refl, sym, subst, arith}
use Rattle.std.proofs.lemmas.List.Elements.{recursion_from_All}
use Rattle.std.proofs.lemmas.Option.{slice_get_within, slice_get_read, get_or_from_slice_get}
use Rattle.wal_base.proofs.Laws.{prefix_then, prefix_whole, none_within}
use Rattle.batch_repr.specs.declared.batch.Batch.{Batch}
use Rattle.disk_face.specs.View.{DiskView}
use Rattle.failover_writer.specs.State.{State}
use Rattle.session_replies.specs.declared.script.Line.{Line}
use Rattle.session_replies.specs.declared.script.Round.{Round}
use Rattle.session_replies.specs.Legal.{Replied}
use Rattle.commit_pipeline.specs.Openings.{Opening}
use Rattle.commit_pipeline.specs.declared.standing.Standing.{Standing}
use Rattle.commit_pipeline.specs.Standings.{new_standing}
use Rattle.commit_pipeline.specs.Parts.{AreNew}
use Rattle.commit_pipeline.specs.Meeting.{StayOn, HaveMet}
use Rattle.commit_pipeline.specs.Ending.{owned, EachOnce, Finishes}
use Rattle.session_rounds.specs.Playing.{PlaysRound, PlaysRounds}
use Rattle.session_replies.specs.Rounds.{NameSessions}
use Rattle.session_rounds.proofs.Follows.{Follows, End, AllWithin, has_some, stays_follows, before_meeting, before_rounds, all_before}
use Rattle.session_rounds.proofs.AreOwned.{SeenFrom, greatest, greatest_least, greatest_all, seen_by_each, round_course, same_owned}
use Rattle.session_rounds.proofs.AreLegal.{none_owned, the_end, all_within}

-- ---- what is made is seen

-- Each session has seen so many batches at least, and of these are all that the sessions have made.
record MadeAreSeen (low : ℕ) (ss : List Standing) : Type 0 where
  seen : SeenFrom low ss
  below : (i : ℕ) → Contains (owned ss) i → i < low

module _ (e : End) where
  -- new sessions have made none
  none_made : (ss : List Standing) → AreNew (length ss) ss → MadeAreSeen 0 ss
  none_made ss new = record {
    seen = λ i s here. omega arith;
    below = λ i h. absurd (none_within i (subst (λ (l : List ℕ). Contains l i)
        (none_owned e ss (recursion_from_All (λ (s : Standing). s ≡ new_standing) ss new.each)) h));
  }

  -- What is made in a round is seen by all once they have met,
  seen_after : (low : ℕ) (lines : List Line) (replies : List Replied) (ss mid met : List Standing) → MadeAreSeen low ss
      → PlaysRound e.opening lines ss replies mid → HaveMet mid met → AllWithin e mid → MadeAreSeen (greatest low mid) met
  seen_after low lines replies ss mid met were plays meets within =
      let course = round_course e low (greatest low mid) lines replies ss mid plays within were.seen (greatest_all low mid) in
      record {
        seen = seen_by_each e low lines replies ss mid met plays meets were.seen;
        below = λ i h. elim (course.each i (subst (λ (l : List ℕ). Contains l i) (same_owned e mid met meets.stay) h)) [
          | inl added ↦ course.below i added
          | inr before ↦ omega (arith, were.below i before, greatest_least low mid)
        ];
      }

  -- and so it is after all rounds.
  seen_after_all : (low : ℕ) (rounds : List Round) (replies : List (List Replied)) (ss last : List Standing) → MadeAreSeen low ss
      → PlaysRounds e.opening ss rounds replies last → AllWithin e last → (high : ℕ) × MadeAreSeen high last
  unfolding PlaysRounds
  seen_after_all low [] [] ss last were plays within = (low, subst (MadeAreSeen low) (sym plays) were)
  seen_after_all low [] (replies ∷ more) ss last were plays within = absurd plays
  seen_after_all low (round ∷ rounds) [] ss last were plays within = absurd plays
  seen_after_all low (round ∷ rounds) (replies ∷ more) ss last were plays within =
      let mid = plays.0 in
      let met = plays.1 in
      let at_mid = before_meeting e mid met plays.3 (before_rounds e rounds more met last plays.4 within) in
      seen_after_all (greatest low mid) rounds more met last
      (seen_after low round.lines replies ss mid met were plays.2 plays.3 at_mid) plays.4 within

-- Where the sessions have made so many batches, all that are made are seen.
as_many_seen : (count high : ℕ) (ss : List Standing) → EachOnce count (owned ss) → MadeAreSeen high ss → count ≤ high
as_many_seen zero high ss own so = omega arith
as_many_seen (suc count) high ss own so = omega (arith, so.below count (own.each count (omega arith)))

-- ---- the end

-- A session as it is at the end.
record Later (last : List Standing) (s : Standing) : Type 0 where
  pub then : Standing
  pub there : Contains last then
  pub on : Follows s then

module _ (tells : Bool) (opening : Opening) (batches : List Batch) (mid last : List Standing) (state : State) (v : DiskView) (visible count : ℕ)
    (stay : StayOn mid last) (ends : Finishes tells opening batches last state v visible count) where
  -- what the pipeline ended with, and that the sessions were within that
  abbrev the_last : End
  the_last = the_end tells opening batches last state v visible count true ends (λ some. refl)

  within_mid : AllWithin the_last mid
  within_mid =
      all_before the_last mid last stay.all (λ i s s' here there. stays_follows s s' (stay.each i s s' here there))
      (all_within tells opening batches last state v visible count true ends (λ some. refl))

  -- each session is there at the end
  later : (s : Standing) → Contains mid s → Later last s
  later s h =
      let here = slice_get_read mid (length mid) h.0 s refl h.1 (sym h.2) in
      let one = has_some last h.0 (omega (arith, stay.all, h.1)) in
      record {
        then = one.0;
        there = (h.0, slice_get_within last h.0 one.0 one.1, get_or_from_slice_get last h.0 one.0 one.0 one.1);
        on = stays_follows s one.0 (stay.each h.0 s one.0 here one.1);
      }

  -- What the end tells of the sessions held before they only read.
  finished : Finishes tells opening batches mid state v visible count
  finished = record {
    opened = ends.opened;
    keeps = ends.keeps;
    seen = λ s h. let l = later s h in prefix_then s.seen l.then.seen batches l.on.seen (ends.seen l.then l.there);
    own = subst (EachOnce (length batches)) (same_owned the_last mid last stay) ends.own;
    acked_is = λ s h. let l = later s h in omega (arith, l.on.acked, ends.acked_is l.then l.there);
    dead = λ s h some. let l = later s h in ends.dead l.then l.there (omega (arith, l.on.dead, l.on.told, some));
    visible_is = ends.visible_is;
    count_is = ends.count_is;
    small = ends.small;
    few = ends.few;
  }

  -- Each session has seen as many batches as there are.
  all_seen : (high : ℕ) → MadeAreSeen high mid → (s : Standing) → Contains mid s → s.seen ≡ batches
  all_seen high so s h =
      let here = slice_get_read mid (length mid) h.0 s refl h.1 (sym h.2) in
      prefix_whole s.seen batches (finished.seen s h)
      (omega (arith, as_many_seen (length batches) high mid finished.own so, so.seen h.0 s here))

-- Sessions that have played over a pipeline, and only read since, until it ends with these batches, had each seen them all once they
-- had met for the last time; and so the pipeline might have ended there.
pub record HaveSeenThem (tells : Bool) (opening : Opening) (batches : List Batch) (ss : List Standing) (state : State) (v : DiskView)
    (visible count : ℕ) : Type 0 where
  pub seen : (s : Standing) → Contains ss s → s.seen ≡ batches
  pub finishes : Finishes tells opening batches ss state v visible count

pub played_seen : (tells : Bool) (opening : Opening) (rounds : List Round) (replies : List (List Replied)) (ss mid last : List Standing)
    (batches : List Batch) (state : State) (v : DiskView) (visible count : ℕ)
    → AreNew (length ss) ss → NameSessions (length ss) rounds → PlaysRounds opening ss rounds replies mid → StayOn mid last
    → Finishes tells opening batches last state v visible count → HaveSeenThem tells opening batches mid state v visible count
played_seen tells opening rounds replies ss mid last batches state v visible count new some plays stay ends =
    let e = the_last tells opening batches mid last state v visible count stay ends in
    let so =
    seen_after_all e 0 rounds replies ss mid (none_made e ss new) plays (within_mid tells opening batches mid last state v visible count stay ends) in
    record {
      seen = all_seen tells opening batches mid last state v visible count stay ends so.0 so.1;
      finishes = finished tells opening batches mid last state v visible count stay ends;
    }
