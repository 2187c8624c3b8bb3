-- A session that knows of a death is answered nothing that needs life; and what one session is told, all know once they have met.
use Rattle.std.proofs.Common.{◌≡◌, ℕ, ◌<◌, Bool, true, false, ◌||◌, cond, List, [], ◌∷◌, length, Some, IsTrue, refl, sym, ap, ◌∙◌, subst, eq-eqb, arith}
use Rattle.std.specs.Prelude.{IsFalse, slice_get}
use Rattle.std.specs.List.{list_any, AllByRecursion}
use Rattle.std.proofs.lemmas.Option.{slice_get_within}
use native.Mathlib.Decide.{dec_le}
use Rattle.session_replies.specs.Rounds.{NameSessions}
use Rattle.session_replies.specs.declared.script.Act.{Act}
use Rattle.session_replies.specs.declared.script.Act.TheVariants.{Commit, Get}
use Rattle.session_replies.specs.declared.script.Line.{Line}
use Rattle.session_replies.specs.declared.script.Round.{Round}
use Rattle.session_replies.specs.declared.replies.Said.{Said}
use Rattle.session_replies.specs.declared.replies.Said.TheVariants.{Committed, Unsynced, Dead, Limit, Got}
use Rattle.session_replies.specs.Legal.{Replied, replies_of_session}
use Rattle.session_replies.specs.Lasting.{shows_death, needs_life, DeathLastsInTurn, DeathLastsFrom, DeathLasts}
use Rattle.commit_pipeline.specs.Openings.{Opening}
use Rattle.commit_pipeline.specs.declared.standing.Standing.{Standing}
use Rattle.commit_pipeline.specs.Standings.{KnowsDeath}
use Rattle.commit_pipeline.specs.Meeting.{HaveMet}
use Rattle.session_rounds.specs.Acts.{Does, DoesLines}
use Rattle.session_rounds.specs.Playing.{PlaysRound, PlaysRounds}
use Rattle.session_rounds.proofs.BySessions.{no_reply}
use Rattle.session_rounds.proofs.Follows.{Follows, lines_follow, has_some}

-- ---- one of two

or_known : (a b : Bool) (P : Type 0) → (IsTrue a → P) → (IsTrue b → P) → IsTrue (a || b) → P
or_known true b P first second is = first refl
or_known false b P first second is = second is

or_right : (a b : Bool) → IsTrue b → IsTrue (a || b)
or_right true b is = refl
or_right false b is = is

-- ---- one session

-- What is known is known later.
knows_later : (s s' : Standing) → Follows s s' → KnowsDeath s → KnowsDeath s'
knows_later s s' on some = omega (arith, on.dead, on.told, some)

-- Where a death is known of, nothing that needs life is answered.
needs_none : (opening : Opening) (act : Act) (said : Said) (s s' : Standing) → Does opening s act said s' → KnowsDeath s → IsFalse (needs_life said)
needs_none opening (Commit sync entries) (Committed first count synced) s s' does knows = absurd (does.commits.lives knows)
needs_none opening (Commit sync entries) (Unsynced first count) s s' does knows = absurd (does.0.lives knows)
needs_none opening (Commit sync entries) Dead s s' does knows = refl
needs_none opening (Commit sync entries) Limit s s' does knows = absurd (does.2 knows)
needs_none opening (Commit sync entries) (Got told value visible) s s' does knows = absurd does
needs_none opening (Get key) (Got told value visible) s s' does knows = refl
needs_none opening (Get key) (Committed first count synced) s s' does knows = absurd does
needs_none opening (Get key) (Unsynced first count) s s' does knows = absurd does
needs_none opening (Get key) Dead s s' does knows = absurd does
needs_none opening (Get key) Limit s s' does knows = absurd does

-- What shows a death is known.
shown_known : (opening : Opening) (act : Act) (said : Said) (s s' : Standing) → Does opening s act said s' → IsTrue (shows_death said) → KnowsDeath s'
shown_known opening (Commit sync entries) (Committed first count synced) s s' does shown = let clash : false ≡ true = shown in absurd cc
shown_known opening (Commit sync entries) (Unsynced first count) s s' does shown = omega (arith, does.1)
shown_known opening (Commit sync entries) Dead s s' does shown = omega (arith, does.1)
shown_known opening (Commit sync entries) Limit s s' does shown = let clash : false ≡ true = shown in absurd cc
shown_known opening (Commit sync entries) (Got told value visible) s s' does shown = absurd does
shown_known opening (Get key) (Got told value visible) s s' does shown = let clash : false ≡ true = shown in absurd cc
shown_known opening (Get key) (Committed first count synced) s s' does shown = absurd does
shown_known opening (Get key) (Unsynced first count) s s' does shown = absurd does
shown_known opening (Get key) Dead s s' does shown = absurd does
shown_known opening (Get key) Limit s s' does shown = absurd does

-- whether one of them shows a death
abbrev any_shows : List Replied → Bool
any_shows replies = list_any (λ (r : Replied). shows_death r.said) replies

-- So it is of all lines of a session.
lasts_in_turn : (opening : Opening) (dead : Bool) (replies : List Replied) (s s' : Standing) → DoesLines opening s replies s'
    → (IsTrue dead → KnowsDeath s) → DeathLastsInTurn dead replies
unfolding DoesLines DeathLastsInTurn
lasts_in_turn opening dead [] s s' does knows = tt
lasts_in_turn opening dead (reply ∷ replies) s s' does knows =
    let mid = does.0 in (
      λ is. needs_none opening reply.line.act reply.said s mid does.1 (knows is),
      lasts_in_turn opening (dead || shows_death reply.said) replies mid s' does.2
          (or_known dead (shows_death reply.said) (KnowsDeath mid)
          (λ is. knows_later s mid (lines_follow opening (reply ∷ []) s mid (mid, does.1, refl)) (knows is))
          (shown_known opening reply.line.act reply.said s mid does.1)),
    )

known_in_turn : (opening : Opening) (replies : List Replied) (s s' : Standing) → DoesLines opening s replies s' → IsTrue (any_shows replies) → KnowsDeath s'
unfolding DoesLines
known_in_turn opening [] s s' does shown = let clash : false ≡ true = shown in absurd cc
known_in_turn opening (reply ∷ replies) s s' does shown =
    let mid = does.0 in
    or_known (shows_death reply.said) (any_shows replies) (KnowsDeath s')
    (λ is. knows_later mid s' (lines_follow opening replies mid s' does.2) (shown_known opening reply.line.act reply.said s mid does.1 is))
    (known_in_turn opening replies mid s' does.2) shown

-- ---- all sessions

-- it shows in more replies
shows_more : (b : Bool) (reply : Replied) (rest : List Replied) → IsTrue (any_shows rest) → IsTrue (any_shows (cond b (reply ∷ rest) rest))
shows_more true reply rest shown = or_right (shows_death reply.said) (any_shows rest) shown
shows_more false reply rest shown = shown

-- it shows in the first reply
shows_first : (reply : Replied) (rest : List Replied) → IsTrue (shows_death reply.said) → IsTrue (any_shows (reply ∷ rest))
shows_first reply rest shown = ap (λ (b : Bool). b || any_shows rest) shown

-- What shows in the replies of a round shows in those of a session.
shows_of_session : (replies : List Replied) → IsTrue (any_shows replies) → (session : ℕ) × IsTrue (any_shows (replies_of_session session replies))
shows_of_session [] shown = let clash : false ≡ true = shown in absurd cc
shows_of_session (reply ∷ replies) shown =
    let its = reply.line.session in
    or_known (shows_death reply.said) (any_shows replies)
    ((session : ℕ) × IsTrue (any_shows (replies_of_session session (reply ∷ replies))))
    (λ is. (
      its,
      ap (λ (b : Bool). any_shows (cond b (reply ∷ replies_of_session its replies) (replies_of_session its replies))) (eq-eqb its its refl)
          ∙ shows_first reply (replies_of_session its replies) is,
    ))
    (λ is. let other = shows_of_session replies is in (other.0, shows_more _ reply (replies_of_session other.0 replies) other.1))
    shown

-- Each of them knows of a death.
abbrev AllKnow : List Standing → Type 0
AllKnow ss = (i : ℕ) (s : Standing) → slice_get ss i ≡ Some s → KnowsDeath s

-- A round, after which the sessions meet.
module _ (opening : Opening) (lines : List Line) (replies : List Replied) (ss mid met : List Standing)
    (some : AllByRecursion (λ (line : Line). line.session < length ss) lines) (plays : PlaysRound opening lines ss replies mid)
    (meets : HaveMet mid met) where
  -- each session is answered so
  each_lasts : (dead : Bool) → (IsTrue dead → AllKnow ss) → (session : ℕ) → DeathLastsInTurn dead (replies_of_session session replies)
  unfolding DeathLastsInTurn
  each_lasts dead knows session = elim (dec_le (length ss) session) [
    | yes past ↦
        subst (λ (rs : List Replied). DeathLastsInTurn dead rs) (sym (no_reply (length ss) lines replies some plays.answered session past)) tt
    | no here ↦
        let s = has_some ss session (omega (arith, here)) in
        let t = has_some mid session (omega (arith, here, plays.all)) in
        lasts_in_turn opening dead (replies_of_session session replies) s.0 t.0 (plays.each session s.0 t.0 s.1 t.1) (λ is. knows is session s.0 s.1)
  ]

  -- what was known before the round is known
  known_before : AllKnow ss → AllKnow met
  known_before knows i s' there =
      let s = has_some ss i (omega (arith, plays.all, meets.stay.all, slice_get_within met i s' there)) in
      let t = has_some mid i (omega (arith, plays.all, slice_get_within ss i s.0 s.1)) in
      meets.deaths i i t.0 s' t.1 there
      (knows_later s.0 t.0 (lines_follow opening (replies_of_session i replies) s.0 t.0 (plays.each i s.0 t.0 s.1 t.1)) (knows i s.0 s.1))

  -- and so is what one of them was shown in the round
  known_now : IsTrue (any_shows replies) → AllKnow met
  known_now is i s' there =
      let shown = shows_of_session replies is in
      let session = shown.0 in
      elim (dec_le (length ss) session) [
        | yes past ↦
            let clash : false ≡ true =
            ap any_shows (sym (no_reply (length ss) lines replies some plays.answered session past)) ∙ shown.1 in
            absurd cc
        | no here ↦
            let s = has_some ss session (omega (arith, here)) in
            let t = has_some mid session (omega (arith, here, plays.all)) in
            meets.deaths session i t.0 s' t.1 there
            (known_in_turn opening (replies_of_session session replies) s.0 t.0 (plays.each session s.0 t.0 s.1 t.1) shown.1)
      ]

  -- both
  known_after : (dead : Bool) → (IsTrue dead → AllKnow ss) → IsTrue (dead || any_shows replies) → AllKnow met
  known_after dead knows = or_known dead (any_shows replies) (AllKnow met) (λ is. known_before (knows is)) known_now

-- round by round
lasts_from : (opening : Opening) (dead : Bool) (rounds : List Round) (replies : List (List Replied)) (ss last : List Standing)
    → NameSessions (length ss) rounds → PlaysRounds opening ss rounds replies last → (IsTrue dead → AllKnow ss) → DeathLastsFrom dead replies
unfolding PlaysRounds DeathLastsFrom
lasts_from opening dead [] [] ss last some plays knows = tt
lasts_from opening dead [] (replies ∷ more) ss last some plays knows = absurd plays
lasts_from opening dead (round ∷ rounds) [] ss last some plays knows = absurd plays
lasts_from opening dead (round ∷ rounds) (replies ∷ more) ss last some plays knows =
    let mid = plays.0 in
    let met = plays.1 in
    let one = plays.2 in
    let long : length met ≡ length ss = plays.3.stay.all ∙ one.all in (
      each_lasts opening round.lines replies ss mid met some.0 one plays.3 dead knows,
      lasts_from opening (dead || any_shows replies) rounds more met last (subst (λ (n : ℕ). NameSessions n rounds) (sym long) some.1) plays.4
          (known_after opening round.lines replies ss mid met some.0 one plays.3 dead knows),
    )

-- Once a reply to what sessions play shows that the journal is dead, no later one of its session, and none of a later round, needs a
-- journal that lives.
pub deaths_lasting : (opening : Opening) (rounds : List Round) (replies : List (List Replied)) (ss ss' : List Standing)
    → NameSessions (length ss) rounds → PlaysRounds opening ss rounds replies ss' → DeathLasts replies
deaths_lasting opening rounds replies ss ss' some plays =
    lasts_from opening false rounds replies ss ss' some plays (λ is. let clash : false ≡ true = is in absurd cc)
