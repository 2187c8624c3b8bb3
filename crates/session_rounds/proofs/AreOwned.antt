-- How many batches the sessions have made before and after a round: after it, each place that one has seen is one's own.
use Rattle.std.proofs.Common.{◌≡◌, inl, inr, ℕ, zero, suc, ◌-◌, ◌≤◌, ◌<◌, max, List, [], ◌∷◌, ◌++◌, length, Some, IsPermutation, refl, sym, ap, subst, ap₂, arith}
use Rattle.std.specs.Prelude.{slice_get, Contains}
use Rattle.std.proofs.lemmas.Option.{slice_get_within}
use Rattle.wal_base.proofs.Laws.{longer_prefix}
use Rattle.session_replies.specs.declared.script.Line.{Line}
use Rattle.session_replies.specs.declared.script.Round.{Round}
use Rattle.session_replies.specs.Legal.{Replied, replies_of_session}
use Rattle.commit_pipeline.specs.declared.standing.Standing.{Standing}
use Rattle.commit_pipeline.specs.Meeting.{StayOn, HaveMet}
use Rattle.commit_pipeline.specs.Ending.{owned, EachOnce}
use Rattle.session_rounds.specs.Playing.{PlaysRound, PlaysRounds}
use Rattle.session_rounds.proofs.Covers.{Covers, range, covers_many, covers_once}
use Rattle.session_rounds.proofs.Courses.{Course, course_none, course_then, all_lines, all_sessions}
use Rattle.session_rounds.proofs.BySessions.{by_sessions}
use Rattle.session_rounds.proofs.Follows.{Follows, End, AllWithin, has_some, lines_follow, stays_follows, before_meeting, before_rounds}

-- ---- how many are seen

-- Each session has seen so many batches at least.
abbrev pub SeenFrom : ℕ → List Standing → Type 0
SeenFrom low ss = (i : ℕ) (s : Standing) → slice_get ss i ≡ Some s → low ≤ length s.seen

-- Each has seen so many at most.
abbrev pub SeenUpTo : ℕ → List Standing → Type 0
SeenUpTo high ss = (i : ℕ) (s : Standing) → slice_get ss i ≡ Some s → length s.seen ≤ high

-- how many the one has seen that has seen most, this number at least
abbrev pub greatest : ℕ → List Standing → ℕ
greatest least [] = least
greatest least (s ∷ ss) = max (length s.seen) (greatest least ss)

-- it is no less than any of them, and no more than what bounds them all
pub greatest_least : (least : ℕ) (ss : List Standing) → least ≤ greatest least ss
greatest_least least [] = omega arith
greatest_least least (s ∷ ss) = omega (arith, greatest_least least ss)

pub greatest_all : (least : ℕ) (ss : List Standing) → SeenUpTo (greatest least ss) ss
greatest_all least [] i s here = absurd cc
greatest_all least (t ∷ ss) zero s here = let same : t ≡ s = cc in omega (arith, ap (λ (x : Standing). length x.seen) same)
greatest_all least (t ∷ ss) (suc i) s here = omega (arith, greatest_all least ss i s here)

pub greatest_within : (least bound : ℕ) (ss : List Standing) → least ≤ bound → SeenUpTo bound ss → greatest least ss ≤ bound
greatest_within least bound [] low all = low
greatest_within least bound (s ∷ ss) low all =
    omega (arith, all 0 s refl, greatest_within least bound ss low (λ i t here. all (suc i) t here))

-- what was seen is seen later
seen_later : (low : ℕ) (ss ss' : List Standing) → length ss' ≡ length ss
    → ((i : ℕ) (s s' : Standing) → slice_get ss i ≡ Some s → slice_get ss' i ≡ Some s' → Follows s s') → SeenFrom low ss → SeenFrom low ss'
seen_later low ss ss' long each from i s' there =
    let here = has_some ss i (omega (arith, long, slice_get_within ss' i s' there)) in
    omega (arith, from i here.0 here.1, longer_prefix here.0.seen s'.seen (each i here.0 s' here.1 there).seen)

module _ (e : End) where
  -- after a round and a meeting each has seen what it had seen, and what any had seen at the end of the round
  pub seen_after_round : (low : ℕ) (lines : List Line) (replies : List Replied) (ss mid met : List Standing)
      → PlaysRound e.opening lines ss replies mid → HaveMet mid met → SeenFrom low ss → SeenFrom low met
  seen_after_round low lines replies ss mid met plays meets from =
      seen_later low mid met meets.stay.all (λ i s s' here there. stays_follows s s' (meets.stay.each i s s' here there))
      (seen_later low ss mid plays.all
      (λ i s s' here there. lines_follow e.opening (replies_of_session i replies) s s' (plays.each i s s' here there)) from)

  pub seen_by_each : (low : ℕ) (lines : List Line) (replies : List Replied) (ss mid met : List Standing)
      → PlaysRound e.opening lines ss replies mid → HaveMet mid met → SeenFrom low ss → SeenFrom (greatest low mid) met
  seen_by_each low lines replies ss mid met plays meets from i s' there =
      greatest_within low (length s'.seen) mid (seen_after_round low lines replies ss mid met plays meets from i s' there)
      (λ j o here. longer_prefix o.seen s'.seen (meets.each_other j i o s' here there).seen)

  -- none sees more than there is in the end
  pub seen_of_end : (ss : List Standing) → AllWithin e ss → SeenUpTo (length e.batches) ss
  seen_of_end ss within i s here = longer_prefix s.seen e.batches (within i s here).seen

  -- ---- the courses of rounds

  -- one round
  pub round_course : (low high : ℕ) (lines : List Line) (replies : List Replied) (ss ss' : List Standing) → PlaysRound e.opening lines ss replies ss'
      → AllWithin e ss' → SeenFrom low ss → SeenUpTo high ss' → Course e low high (owned ss) (owned ss') (by_sessions (length ss) replies)
  round_course low high lines replies ss ss' plays within from to =
      all_sessions e low high (λ i. replies_of_session i replies) ss ss' plays.all
      (λ i s s' here there. all_lines e low high (replies_of_session i replies) s s' (plays.each i s s' here there) (within i s' there) (from i s here)
      (to i s' there))

  -- a meeting adds none
  pub same_owned : (ss ss' : List Standing) → StayOn ss ss' → owned ss' ≡ owned ss
  same_owned [] [] stay = refl
  same_owned [] (s' ∷ ss') stay = absurd (omega (arith, stay.all))
  same_owned (s ∷ ss) [] stay = absurd (omega (arith, stay.all))
  same_owned (s ∷ ss) (s' ∷ ss') stay =
      ap₂ (λ (front back : List ℕ). front ++ back)
      (same_owned ss ss' (record { all = omega (arith, stay.all); each = λ i t t' here there. stay.each (suc i) t t' here there }))
      (stay.each 0 s s' refl refl).own

  -- rounds, one after another
  pub rounds_course : (low : ℕ) (rounds : List Round) (replies : List (List Replied)) (ss ss' : List Standing)
      → PlaysRounds e.opening ss rounds replies ss' → AllWithin e ss' → SeenFrom low ss
      → (all : List Replied) × Course e low (length e.batches) (owned ss) (owned ss') all
  unfolding PlaysRounds
  rounds_course low [] [] ss ss' plays within from = (
    [],
    subst (λ (own : List ℕ). Course e low (length e.batches) (owned ss) own []) (ap owned (sym plays))
        (course_none e low (length e.batches) (owned ss)),
  )
  rounds_course low [] (replies ∷ more) ss ss' plays within from = absurd plays
  rounds_course low (round ∷ rounds) [] ss ss' plays within from = absurd plays
  rounds_course low (round ∷ rounds) (replies ∷ more) ss ss' plays within from =
      let mid = plays.0 in
      let met = plays.1 in
      let at_mid = before_meeting e mid met plays.3 (before_rounds e rounds more met ss' plays.4 within) in
      let one = round_course low (length e.batches) round.lines replies ss mid plays.2 at_mid from (seen_of_end mid at_mid) in
      let rest = rounds_course low rounds more met ss' plays.4 within (seen_after_round low round.lines replies ss mid met plays.2 plays.3 from) in (
        by_sessions (length ss) replies ++ rest.0,
        course_then e low (length e.batches) (owned ss) (owned mid) (owned ss') (by_sessions (length ss) replies) rest.0 one
            (subst (λ (own : List ℕ). Course e low (length e.batches) own (owned ss') rest.0) (same_owned mid met plays.3.stay) rest.1),
      )

  -- ---- how many are made

  -- The places of the first batches, so many, are the sessions' own, each once.
  pub record AreOwned (count : ℕ) (own : List ℕ) : Type 0 where
    pub once : EachOnce count own
    pub below : (i : ℕ) → Contains own i → i < count

  -- Those that are added up to a number are those below it, where later ones are not, and in the end each is there once.
  module _ (low high count : ℕ) (old new last : List ℕ) (replies later : List Replied) (were : AreOwned low old) (course : Course e low high old new replies)
      (rest : Course e high count new last later) (own : EachOnce count last) (on : low ≤ high) (within : high ≤ count) where
    -- all are below the higher number
    below : (i : ℕ) → Contains new i → i < high
    below i h = elim (course.each i h) [ inl added ↦ course.below i added | inr before ↦ omega (arith, were.below i before, on) ]

    -- each number below it is among them
    each : (i : ℕ) → i < high → Contains new i
    each i under = elim (rest.each i (own.each i (omega (arith, under, within)))) [
      | inl after ↦ absurd (omega (arith, under, rest.later i after))
      | inr now ↦ now
    ]

    -- and each from it on is added later
    after : Covers high (count - high) rest.added
    after i from to = elim (rest.each i (own.each i (omega (arith, from, to, within)))) [
      | inl there ↦ there
      | inr now ↦ absurd (omega (arith, below i now, from))
    ]

    -- so each is there once
    pub are_owned : AreOwned high new
    are_owned = record {
      once = record {
        as_many =
            omega (
              arith,
              within,
              own.as_many,
              rest.as_many,
              covers_many high 0 new (λ i from to. each i (omega (arith, to))),
              covers_many (count - high) high rest.added after,
            );
        each = each;
      };
      below = below;
    }

    -- and the places that are added are those from the lower number up to it
    pub are_range : IsPermutation course.added (range low (high - low))
    are_range = covers_once (high - low) low course.added covered (omega (arith, course.as_many, are_owned.once.as_many, were.once.as_many, on))
      where
        covered : Covers low (high - low) course.added
        covered i from to = elim (course.each i (each i (omega (arith, to, on)))) [
          | inl added ↦ added
          | inr before ↦ absurd (omega (arith, were.below i before, from))
        ]
