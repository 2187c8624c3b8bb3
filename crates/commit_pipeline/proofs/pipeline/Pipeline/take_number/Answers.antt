-- What the last try told holds of the seat as it was before the first one.
use Rattle.std.proofs.Common.{rules, List, ap, ◌∙◌, subst, arith}
use Rattle.std.specs.declared.sync.ledger.Share.{Share}
use Rattle.wal_base.specs.declared.entry.Entry.{Entry}
use Rattle.batch_repr.specs.declared.limits.TheConstants.{BATCHES_MAX}
use Rattle.commit_queue.specs.declared.view.View.{View}
use Rattle.commit_queue.specs.Seats.{session_view}
use Rattle.commit_queue.specs.Shown.{shown_by}
use Rattle.commit_pipeline.specs.Numbering.{numbered, HoldsNumbered, ShowsExhausted}
use Rattle.commit_pipeline.proofs.IsIdleDesk.{on_same, on_both, stays_idle}
use Rattle.commit_pipeline.proofs.GetsNumber.{numbered_later, shows_later, exhausted_later}
use Rattle.commit_pipeline.proofs.pipeline.Pipeline.take_number.Goals as goal

pub loop-init : goal.loop-init
loop-init g c = record {
  batch = search rules;
  table = search rules;
  on = on_same (session_view c.args.desk.now.seat) c.requires.desk.within;
  held = search rules;
  own_parts = search rules;
  own = search rules;
  dead = search rules;
  told = search rules;
  node = search rules;
}

pub number-numbering-requires-clause-desk : goal.number-numbering-requires-clause-desk
number-numbering-requires-clause-desk g c =
    let i = c.loop.invariant in
    stays_idle g.N.PipeName.table g.N.PipeName.opening _ _ (session_view c.args.desk.now.seat) (session_view c.loop.desk.seat) _ _ _ _ _ _
    c.requires.desk i.table i.on i.held i.own_parts (ap (λ (x : Share _). x.parts) i.dead) (ap (λ (x : Share _). x.parts) i.told)

pub returns-in-Done-clause-taken : goal.returns-in-Done-clause-taken
returns-in-Done-clause-taken g c =
    let i = c.loop.invariant in
    let v : View = session_view c.loop.desk.seat in
    let w : View = session_view c.number-numbering.new.desk.seat in
    numbered_later (numbered c.args.batch c.in-Done.first) c.in-Done.index (session_view c.args.desk.now.seat) v w i.on
    (subst (λ (b : List Entry). HoldsNumbered (numbered b c.in-Done.first) c.in-Done.index (shown_by v) (shown_by w)) i.batch c.in-Done.ensures.told)

pub returns-in-TooMany-clause-taken : goal.returns-in-TooMany-clause-taken
returns-in-TooMany-clause-taken g c =
    shows_later BATCHES_MAX c.in-TooMany.next (session_view c.args.desk.now.seat) (session_view c.loop.desk.seat)
    (session_view c.number-numbering.new.desk.seat) c.loop.invariant.on c.in-TooMany.ensures.told

pub returns-in-Exhausted-clause-taken : goal.returns-in-Exhausted-clause-taken
returns-in-Exhausted-clause-taken g c =
    let i = c.loop.invariant in
    let v : View = session_view c.loop.desk.seat in
    let w : View = session_view c.number-numbering.new.desk.seat in
    exhausted_later c.args.batch c.in-Exhausted.next (session_view c.args.desk.now.seat) v w i.on
    (subst (λ (b : List Entry). ShowsExhausted b c.in-Exhausted.next (shown_by v) (shown_by w)) i.batch c.in-Exhausted.ensures.told)

pub loop-preserved : goal.loop-preserved
loop-preserved g c =
    let i = c.loop.invariant in
    let e = c.in-Busy.ensures in record {
      batch = e.told.2 ∙ i.batch;
      node = e.told.3;
      table = e.same ∙ i.table;
      on = on_both (session_view c.args.desk.now.seat) (session_view c.loop.desk.seat) (session_view c.number-numbering.new.desk.seat) i.on
          e.told.0;
      held = e.told.1 ∙ i.held;
      own_parts = e.own.0 ∙ i.own_parts;
      own = omega (arith, e.own.1, i.own);
      dead = e.dead ∙ i.dead;
      told = e.met ∙ i.told;
    }
