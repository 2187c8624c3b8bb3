-- Each session is told of a death where the journal is dead; so they have met.
use Rattle.std.proofs.Common.{◌≡◌, ℕ, ◌+◌, ◌<◌, ◌≤◌, ⊎_elim, List, length, Some, slice_get, slice_index_or, slice_set, length-set, le_refl, refl, sym, ◌∙◌, ap, subst, arith}
use Rattle.std.specs.Prelude.{Option, None}
use Rattle.std.proofs.lemmas.Bool.{cases_eq}
use Rattle.std.proofs.lemmas.Option.{same_Some, slice_get-get_or, slice_get_within}
use Rattle.std.specs.declared.sync.ledger.Share.{Share}
use Rattle.atomic_table.specs.Seated.{TableId}
use Rattle.wal_base.proofs.Laws.{prefix_same}
use Rattle.failover_writer.specs.declared.fault.DeadMark.{DeadMark}
use Rattle.commit_queue.specs.declared.seats.SessionSeat.{SessionSeat}
use Rattle.commit_queue.specs.Seats.{session_table}
use Rattle.commit_queue.specs.Shown.{session_shown}
use Rattle.commit_pipeline.specs.Openings.{Opening}
use Rattle.commit_pipeline.specs.declared.desk.Desk.{Desk}
use Rattle.commit_pipeline.specs.declared.standing.Standing.{Standing}
use Rattle.commit_pipeline.specs.Standings.{KnowsDeath, IsSession, standing}
use Rattle.commit_pipeline.specs.Desks.{known}
use Rattle.commit_pipeline.specs.Meeting.{StaysOn, ShareSeen, HearsDeath, HearDeaths, HaveMet, deaths_heard}
use Rattle.commit_pipeline.proofs.MeetsEach.{stays_both, seen_all_both, stays_seen, set_here, set_else}

-- ---- one session

-- It is a session still.
pub session_told : {N M : Type 0} (table : TableId) (opening : Opening) (d d' : Desk N M) → d'.seat ≡ d.seat → d'.own ≡ d.own
    → d'.dead.parts ≡ d.dead.parts → d'.told.parts ≡ d.told.parts
    → IsSession table opening (session_table d.seat) (session_shown d.seat) d.own.parts d.own.amount d.dead.parts d.told.parts
    → IsSession table opening (session_table d'.seat) (session_shown d'.seat) d'.own.parts d'.own.amount d'.dead.parts d'.told.parts
session_told {N = N} table opening d d' seat own dead told is =
    subst (λ (s : SessionSeat). IsSession table opening (session_table s) (session_shown s) d'.own.parts d'.own.amount d'.dead.parts d'.told.parts)
    (sym seat)
    (subst (λ (share : Share N). IsSession table opening (session_table d.seat) (session_shown d.seat) share.parts share.amount d'.dead.parts
    d'.told.parts) (sym own) record {
      of_table = is.of_table;
      base = is.base;
      shards = is.shards;
      before = is.before;
      idle = is.idle;
      none = is.none;
      within = is.within;
      out = is.out;
      own_part = is.own_part;
      own = is.own;
      dead_part = dead ∙ is.dead_part;
      told_part = told ∙ is.told_part;
    })

-- And it is told of a death where there is one.
pub hears_told : {N M : Type 0} (mark : Option DeadMark) (d d' : Desk N M) → d'.seat ≡ d.seat → d'.dead.amount ≡ d.dead.amount + 0
    → d'.told.amount ≡ d.told.amount + deaths_heard mark → (mark ≡ None → known d ≡ 0)
    → HearsDeath mark (standing (session_shown d.seat) d.dead.amount d.told.amount) (standing (session_shown d'.seat) d'.dead.amount d'.told.amount)
hears_told mark d d' seat dead told lives = record {
  lives = λ none some. absurd (omega (arith, some, lives none));
  is = ap (λ (s : SessionSeat). standing (session_shown s) d'.dead.amount d'.told.amount) seat
      ∙ ap (λ (n : ℕ). standing (session_shown d.seat) n d'.told.amount) (omega (arith, dead))
      ∙ ap (λ (n : ℕ). standing (session_shown d.seat) d.dead.amount n) told;
}

-- ---- all sessions

module _ (mark : Option DeadMark) where
  -- The first n of them are told.
  pub record FirstHear (ss ss' : List Standing) (n : ℕ) : Type 0 where
    pub all : length ss' ≡ length ss
    pub each : (i : ℕ) (s s' : Standing) → i < n → slice_get ss i ≡ Some s → slice_get ss' i ≡ Some s' → HearsDeath mark s s'
    pub left : (i : ℕ) → n ≤ i → slice_get ss' i ≡ slice_get ss i

  pub none_hear : (ss : List Standing) → FirstHear ss ss 0
  none_hear ss = record { all = refl; each = λ i s s' below at at'. absurd (omega (arith, below)); left = λ i past. refl }

  -- they all are
  pub all_hear : (ss ss' : List Standing) (n : ℕ) → FirstHear ss ss' n → length ss ≤ n → HearDeaths mark ss ss'
  all_hear ss ss' n first all = record {
    all = first.all;
    each = λ i s s' at at'. first.each i s s' (let within = slice_get_within ss i s at in omega arith) at at';
  }

  -- the next one is
  pub next_hears : (ss ms : List Standing) (n : ℕ) (o o' d : Standing) → n < length ms → o ≡ slice_index_or ms n d → HearsDeath mark o o'
      → FirstHear ss ms n → FirstHear ss (slice_set ms n o') (n + 1)
  next_hears ss ms n o o' d within there hears first = record {
    all = length-set ms n o' ∙ first.all;
    each = λ i s s' below at at'. ⊎_elim
        (λ e.
        let old = subst (λ k. slice_get ss k ≡ Some s) e at in
        let new = sym (set_here ms n o' within) ∙ subst (λ k. slice_get (slice_set ms n o') k ≡ Some s') e at' in
        let was = slice_get-get_or ms n d within ∙ ap Some (sym there) in
        subst (HearsDeath mark s) (same_Some o' s' new)
        (subst (λ x. HearsDeath mark x o') (same_Some o s (sym was ∙ first.left n (le_refl n) ∙ old)) hears))
        (λ other. first.each i s s' (omega arith) at (sym (set_else ms n i o' other) ∙ at'))
        (cases_eq i n);
    left = λ i past. set_else ms n i o' (λ e. absurd (omega arith)) ∙ first.left i (omega arith);
  }

  -- All else of a session is the same.
  hears_stays : (s s' : Standing) → HearsDeath mark s s' → StaysOn s s'
  hears_stays s s' hears = subst (StaysOn s) (sym hears.is) record {
    goes_on = record { seen = prefix_same s.seen; acked = le_refl s.acked; told = omega arith };
    own = refl;
    dead = refl;
  }

-- Where one of them knew of a death, the other knows.
knows_then : (mark : Option DeadMark) (a a' b b' : Standing) → HearsDeath mark a a' → HearsDeath mark b b' → KnowsDeath a → KnowsDeath b'
knows_then None a a' b b' one two some = absurd (one.lives refl some)
knows_then (Some died) a a' b b' one two some = subst KnowsDeath (sym two.is) (omega arith)

-- They have met that have shared what they had seen, and then were told of a death.
pub have_met : (mark : Option DeadMark) (ss mid ss' : List Standing) → ShareSeen ss mid → HearDeaths mark mid ss' → HaveMet ss ss'
have_met mark ss mid ss' share hear = record {
  stay = record {
    all = hear.all ∙ share.stay.all;
    each = λ i s s' at at'.
        let within = slice_get_within ss' i s' at' in
        let there = slice_get-get_or mid i s (omega (arith, hear.all)) in
        stays_both s (slice_index_or mid i s) s' (share.stay.each i s _ at there)
        (hears_stays mark (slice_index_or mid i s) s' (hear.each i _ s' there at'));
  };
  each_other = λ i j o s' at at'.
      let within = slice_get_within ss' j s' at' in
      let there = slice_get-get_or mid j o (omega (arith, hear.all)) in
      seen_all_both o (slice_index_or mid j o) s' (share.each_other i j o _ at there)
      (stays_seen _ s' (hears_stays mark (slice_index_or mid j o) s' (hear.each j _ s' there at')));
  deaths = λ i j o s' at at' some.
      let within = slice_get_within ss' j s' at' in
      let there = slice_get-get_or mid j o (omega (arith, hear.all)) in
      let within_too = slice_get_within ss i o at in
      let before = slice_get-get_or mid i o (omega (arith, share.stay.all)) in
      let after = slice_get-get_or ss' i o (omega (arith, hear.all, share.stay.all)) in
      let stays = share.stay.each i o _ at before in
      knows_then mark (slice_index_or mid i o) (slice_index_or ss' i o) (slice_index_or mid j o) s' (hear.each i _ _ before after)
      (hear.each j _ s' there at') (omega (arith, some, stays.dead, stays.goes_on.told));
}
