-- What a seat has seen goes on from call to call, and its desk stays idle meanwhile.
use Rattle.std.proofs.Common.{◌≡◌, ℕ, ◌≤◌, length, refl, ◌∙◌, le_refl, arith}
use Rattle.atomic_table.specs.Seated.{TableId}
use Rattle.wal_base.proofs.Laws.{prefix_then, prefix_same}
use Rattle.commit_queue.specs.declared.view.View.{View}
use Rattle.commit_queue.specs.Calls.{ViewGoesOn}
use Rattle.commit_queue.specs.Shown.{shown_by}
use Rattle.commit_pipeline.specs.Openings.{Opening}
use Rattle.commit_pipeline.specs.Numbering.{SeatGoesOn}
use Rattle.commit_pipeline.specs.Desks.{IsIdleDesk}

-- nothing was called
pub on_same : (v : View) → v.seat.published ≤ length v.history → SeatGoesOn (shown_by v) (shown_by v)
on_same v within = record {
  history = prefix_same v.history;
  published = le_refl v.seat.published;
  within = within;
  acked = le_refl v.seat.acked;
  own = refl;
  base = refl;
  opening = refl;
  pieces = refl;
  turn = refl;
}

-- one call after another
pub on_both : (a b c : View) → SeatGoesOn (shown_by a) (shown_by b) → SeatGoesOn (shown_by b) (shown_by c) → SeatGoesOn (shown_by a) (shown_by c)
on_both a b c one two = record {
  history = prefix_then a.history b.history c.history one.history two.history;
  published = omega (arith, one.published, two.published);
  within = two.within;
  acked = omega (arith, one.acked, two.acked);
  own = two.own ∙ one.own;
  base = two.base ∙ one.base;
  opening = two.opening ∙ one.opening;
  pieces = two.pieces ∙ one.pieces;
  turn = two.turn ∙ one.turn;
}

-- a call that publishes or reads
pub on_call : (v v' : View) → v'.seat.published ≤ length v'.history → ViewGoesOn v v' → SeatGoesOn (shown_by v) (shown_by v')
on_call v v' within on = record {
  history = on.history;
  published = on.published;
  within = within;
  acked = on.acked;
  own = on.own;
  base = on.base;
  opening = on.opening;
  pieces = on.pieces;
  turn = on.turn;
}

-- A desk is idle still once its seat has seen more, and holds what it held.
pub stays_idle : (table : TableId) (opening : Opening) (seat seat' : TableId) (v v' : View) (own own' dead dead' told told' : ℕ)
    → IsIdleDesk table opening seat (shown_by v) own dead told → seat' ≡ seat → SeatGoesOn (shown_by v) (shown_by v') → v'.seat.held ≡ v.seat.held → own' ≡ own
    → dead' ≡ dead → told' ≡ told → IsIdleDesk table opening seat' (shown_by v') own' dead' told'
stays_idle table opening seat seat' v v' own own' dead dead' told told' desk same on held own_same dead_same told_same = record {
  of_table = same ∙ desk.of_table;
  base = on.base ∙ desk.base;
  idle = (held ∙ desk.idle.0, on.turn ∙ desk.idle.1);
  none = on.pieces ∙ desk.none;
  within = on.within;
  own_part = own_same ∙ desk.own_part;
  dead_part = dead_same ∙ desk.dead_part;
  told_part = told_same ∙ desk.told_part;
}
