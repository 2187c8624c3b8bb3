-- Nothing that a session was told or has seen is lost later, so what holds at the end held all along.
use Rattle.std.proofs.Common.{◌≡◌, ℕ, zero, suc, ◌≤◌, ◌<◌, Bool, List, [], ◌∷◌, length, Some, IsTrue, refl, sym, subst, le_refl, arith}
use Rattle.std.specs.Prelude.{slice_get}
use Rattle.std.proofs.lemmas.Option.{slice_get_within}
use Rattle.wal_base.specs.Prefixes.{IsPrefixOf}
use Rattle.wal_base.proofs.Laws.{prefix_same, prefix_then}
use Rattle.batch_repr.specs.declared.batch.Batch.{Batch}
use Rattle.batch_repr.specs.Batches.{IsContiguous}
use Rattle.session_replies.specs.declared.script.Act.{Act}
use Rattle.session_replies.specs.declared.script.Act.TheVariants.{Commit, Get}
use Rattle.session_replies.specs.declared.script.Round.{Round}
use Rattle.session_replies.specs.declared.replies.Said.{Said}
use Rattle.session_replies.specs.declared.replies.Said.TheVariants.{Committed, Unsynced, Dead, Limit, Got}
use Rattle.session_replies.specs.Legal.{Replied, replies_of_session}
use Rattle.commit_pipeline.specs.Openings.{Opening, EndsBefore}
use Rattle.commit_pipeline.specs.declared.standing.Standing.{Standing}
use Rattle.commit_pipeline.specs.Standings.{SeesOn}
use Rattle.commit_pipeline.specs.Meeting.{StaysOn, HaveMet}
use Rattle.session_rounds.specs.Acts.{Does, DoesLines}
use Rattle.session_rounds.specs.Playing.{PlaysRound, PlaysRounds}

-- ---- one session

-- It has seen no less, and was told of no fewer deaths.
pub record Follows (s s' : Standing) : Type 0 where
  pub seen : IsPrefixOf s.seen s'.seen
  pub acked : s.acked ≤ s'.acked
  pub dead : s.dead ≤ s'.dead
  pub told : s.told ≤ s'.told

-- nothing was done, or one thing after another
pub follows_same : (s s' : Standing) → s' ≡ s → Follows s s'
follows_same s s' same = subst (Follows s) (sym same) record {
  seen = prefix_same s.seen;
  acked = le_refl s.acked;
  dead = le_refl s.dead;
  told = le_refl s.told;
}

pub follows_then : (s t u : Standing) → Follows s t → Follows t u → Follows s u
follows_then s t u one two = record {
  seen = prefix_then s.seen t.seen u.seen one.seen two.seen;
  acked = omega (arith, one.acked, two.acked);
  dead = omega (arith, one.dead, two.dead);
  told = omega (arith, one.told, two.told);
}

-- it sees on, and so many more deaths were told
sees_follows : (s s' : Standing) → SeesOn s s' → s.dead ≤ s'.dead → Follows s s'
sees_follows s s' on dead = record { seen = on.seen; acked = on.acked; dead = dead; told = on.told }

-- by a line, by all lines of a round, and by a meeting
pub does_follow : (opening : Opening) (act : Act) (said : Said) (s s' : Standing) → Does opening s act said s' → Follows s s'
does_follow opening (Commit sync entries) (Committed first count synced) s s' does =
    sees_follows s s' does.commits.gains.goes_on (omega (arith, does.dead))
does_follow opening (Commit sync entries) (Unsynced first count) s s' does = sees_follows s s' does.0.gains.goes_on (omega (arith, does.1))
does_follow opening (Commit sync entries) Dead s s' does = sees_follows s s' does.0.goes_on (omega (arith, does.1))
does_follow opening (Commit sync entries) Limit s s' does = sees_follows s s' does.0.goes_on (omega (arith, does.1))
does_follow opening (Commit sync entries) (Got told value visible) s s' does = absurd does
does_follow opening (Get key) (Got told value visible) s s' does = sees_follows s s' does.1.idles.goes_on (omega (arith, does.1.dead))
does_follow opening (Get key) (Committed first count synced) s s' does = absurd does
does_follow opening (Get key) (Unsynced first count) s s' does = absurd does
does_follow opening (Get key) Dead s s' does = absurd does
does_follow opening (Get key) Limit s s' does = absurd does

pub lines_follow : (opening : Opening) (replies : List Replied) (s s' : Standing) → DoesLines opening s replies s' → Follows s s'
unfolding DoesLines
lines_follow opening [] s s' does = follows_same s s' does
lines_follow opening (reply ∷ replies) s s' does =
    follows_then s does.0 s' (does_follow opening reply.line.act reply.said s does.0 does.1) (lines_follow opening replies does.0 s' does.2)

pub stays_follows : (s s' : Standing) → StaysOn s s' → Follows s s'
stays_follows s s' stays = sees_follows s s' stays.goes_on (omega (arith, stays.dead))

-- ---- the end

-- What a pipeline ended with: so many of the batches after its base are acked, and its journal died or did not.
pub record End : Type 0 where
  pub opening : Opening
  pub batches : List Batch
  pub most : ℕ
  pub died : Bool
  pub before : EndsBefore opening.base opening.start.state.next
  pub row : IsContiguous opening.start.state.next batches

-- What a session was told and has seen is of that end.
pub record IsWithin (e : End) (s : Standing) : Type 0 where
  pub seen : IsPrefixOf s.seen e.batches
  pub acked : s.acked ≤ e.most
  pub dead : 0 < s.dead → IsTrue e.died

abbrev pub AllWithin : End → List Standing → Type 0
AllWithin e ss = (i : ℕ) (s : Standing) → slice_get ss i ≡ Some s → IsWithin e s

-- it was so before
pub within_before : (e : End) (s s' : Standing) → Follows s s' → IsWithin e s' → IsWithin e s
within_before e s s' on w = record {
  seen = prefix_then s.seen s'.seen e.batches on.seen w.seen;
  acked = omega (arith, on.acked, w.acked);
  dead = λ some. w.dead (omega (arith, some, on.dead));
}

-- ---- all sessions

-- there is a session at each place
pub has_some : {X : Type 0} (xs : List X) (i : ℕ) → i < length xs → (x : X) × (slice_get xs i ≡ Some x)
has_some [] i below = absurd (omega (arith, below))
has_some (x ∷ xs) zero below = (x, refl)
has_some (x ∷ xs) (suc i) below = has_some xs i (omega (arith, below))

-- of all sessions it was so before: before they went on, met, played a round, and played rounds
pub all_before : (e : End) (ss ss' : List Standing) → length ss' ≡ length ss
    → ((i : ℕ) (s s' : Standing) → slice_get ss i ≡ Some s → slice_get ss' i ≡ Some s' → Follows s s') → AllWithin e ss' → AllWithin e ss
all_before e ss ss' long each within i s here =
    let there = has_some ss' i (omega (arith, long, slice_get_within ss i s here)) in
    within_before e s there.0 (each i s there.0 here there.1) (within i there.0 there.1)

pub before_meeting : (e : End) (ss ss' : List Standing) → HaveMet ss ss' → AllWithin e ss' → AllWithin e ss
before_meeting e ss ss' met = all_before e ss ss' met.stay.all (λ i s s' here there. stays_follows s s' (met.stay.each i s s' here there))

pub before_round : (e : End) (round : Round) (replies : List Replied) (ss ss' : List Standing) → PlaysRound e.opening round.lines ss replies ss'
    → AllWithin e ss' → AllWithin e ss
before_round e round replies ss ss' plays =
    all_before e ss ss' plays.all (λ i s s' here there. lines_follow e.opening (replies_of_session i replies) s s' (plays.each i s s' here there))

pub before_rounds : (e : End) (rounds : List Round) (replies : List (List Replied)) (ss ss' : List Standing) → PlaysRounds e.opening ss rounds replies ss'
    → AllWithin e ss' → AllWithin e ss
unfolding PlaysRounds
before_rounds e [] [] ss ss' plays within = subst (AllWithin e) plays within
before_rounds e [] (replies ∷ more) ss ss' plays within = absurd plays
before_rounds e (round ∷ rounds) [] ss ss' plays within = absurd plays
before_rounds e (round ∷ rounds) (replies ∷ more) ss ss' plays within =
    before_round e round replies ss plays.0 plays.2
    (before_meeting e plays.0 plays.1 plays.3 (before_rounds e rounds more plays.1 ss' plays.4 within))
