-- Two sessions that have met have each seen all that both had seen, and are sessions still.
use Rattle.std.specs.Prelude.{Contains}
use Rattle.std.proofs.Common.{◌≡◌, ℕ, length, append-nil, le_refl, refl, sym, subst, ap, ◌∙◌, arith, Result, Ok, Err, IfOk, OnErr}
use Rattle.atomic_table.specs.Seated.{TableId}
use Rattle.memtable_shards.specs.Versions.{AreShardsOf}
use Rattle.wal_base.specs.declared.error.NoMemory.{NoMemory}
use Rattle.commit_queue.specs.declared.view.View.{View}
use Rattle.commit_queue.specs.Calls.{SeesBoth, ViewGoesOn}
use Rattle.commit_queue.specs.Shown.{told_view, shown_by}
use Rattle.commit_queue.specs.Views.{telling_view}
use Rattle.commit_queue.proofs.Laws.{holds_taken_in}
use Rattle.commit_pipeline.specs.Openings.{Opening}
use Rattle.commit_pipeline.specs.Standings.{IsSession, standing}
use Rattle.commit_pipeline.specs.Meeting.{HasSeenAll, StaysOn}
use Rattle.commit_pipeline.proofs.Seen.{seen_longer}

-- The session of v, whose seat has met that of w, has seen no less than before, and all that the other had seen.
pub stays_met : (dead told : ℕ) (v w v' : View) → SeesBoth v w v' → StaysOn (standing (shown_by v) dead told) (standing (shown_by v') dead told)
stays_met dead told v w v' t = record {
  goes_on = record {
    seen = seen_longer v v' t.goes_on (omega (arith, t.published));
    acked = omega (arith, t.acked);
    told = le_refl told;
  };
  own = t.own ∙ append-nil v.seat.own;
  dead = refl;
}

pub hears_met : (dead told other_dead other_told : ℕ) (v w v' : View) → SeesBoth v w v'
    → HasSeenAll (standing (shown_by w) other_dead other_told) (standing (shown_by v') dead told)
hears_met dead told other_dead other_told v w v' t =
    record { seen = seen_longer w v' t.has_both (omega (arith, t.published)); acked = omega (arith, t.acked) }

-- Where there was no memory to meet, it has seen no less.
pub stays_missed : (dead told : ℕ) (v v' : View) → ViewGoesOn v v' → StaysOn (standing (shown_by v) dead told) (standing (shown_by v') dead told)
stays_missed dead told v v' t = record {
  goes_on = record { seen = seen_longer v v' t.history t.published; acked = t.acked; told = le_refl told };
  own = t.own;
  dead = refl;
}

module _ (table : TableId) (opening : Opening) (seat seat' : TableId) (v w v' : View) (own_parts own dead_parts told_parts : ℕ)
    (s : IsSession table opening seat (shown_by v) own_parts own dead_parts told_parts) (same : seat' ≡ seat) where
  pub session_met : SeesBoth v w v' → IsSession table opening seat' (shown_by v') own_parts own dead_parts told_parts
  session_met t = let owned = t.own ∙ append-nil v.seat.own in record {
    of_table = same ∙ s.of_table;
    base = t.base ∙ s.base;
    shards = subst (λ x. AreShardsOf x opening.base) (sym t.opening) s.shards;
    before = s.before;
    idle = (holds_taken_in (telling_view v) (told_view w) v' t s.idle.0, t.turn ∙ s.idle.1);
    none = t.pieces ∙ append-nil v.pieces ∙ s.none;
    within = t.within;
    out = λ i among. let known = s.out i (subst (λ l. Contains l i) owned among) in omega (arith, t.published);
    own_part = s.own_part;
    own = s.own ∙ ap length (sym owned);
    dead_part = s.dead_part;
    told_part = s.told_part;
  }

  pub session_missed : ViewGoesOn v v' → IsSession table opening seat' (shown_by v') own_parts own dead_parts told_parts
  session_missed t = record {
    of_table = same ∙ s.of_table;
    base = t.base ∙ s.base;
    shards = subst (λ x. AreShardsOf x opening.base) (sym t.opening) s.shards;
    before = s.before;
    idle = (t.held ∙ s.idle.0, t.turn ∙ s.idle.1);
    none = t.pieces ∙ s.none;
    within = t.within s.within;
    out = λ i among. let known = s.out i (subst (λ l. Contains l i) t.own among) in omega (arith, t.published);
    own_part = s.own_part;
    own = s.own ∙ ap length (sym t.own);
    dead_part = s.dead_part;
    told_part = s.told_part;
  }

  -- It is a session still, however the meeting ended.
  pub session_after : (r : Result (Unit {0}) NoMemory) → IfOk r (λ _. SeesBoth v w v') → OnErr r (ViewGoesOn v v')
      → IsSession table opening seat' (shown_by v') own_parts own dead_parts told_parts
  session_after (Ok done) met missed = session_met met
  session_after (Err told) met missed = session_missed missed
