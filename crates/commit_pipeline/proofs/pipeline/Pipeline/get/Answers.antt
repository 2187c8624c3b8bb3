-- The shard is read below the visible number, whichever try it is that finds it free.
use Rattle.std.proofs.Common.{◌≡◌, ℕ, refl, sym, ap, ◌∙◌, subst, arith}
use Rattle.memtable_shards.specs.Versions.{shard_of}
use Rattle.commit_queue.specs.declared.view.View.{View}
use Rattle.commit_queue.specs.Seats.{session_view}
use Rattle.commit_queue.specs.Views.{busy_view, but_turns}
use Rattle.commit_queue.specs.Shown.{shown_by}
use Rattle.shard_gate.specs.declared.reading.ReadBusy.{ReadBusy}
use Rattle.shard_gate.specs.declared.reading.ReadBusy.TheVariants.{NoMemory}
use Rattle.shard_gate.specs.Gates.{LeavesRead}
use Rattle.commit_pipeline.specs.declared.standing.Standing.{Standing}
use Rattle.commit_pipeline.specs.Commits.{TellsRead, MissesRead}
use Rattle.commit_pipeline.specs.Standings.{standing}
use Rattle.commit_pipeline.proofs.Seen.{idles_on}
use Rattle.commit_pipeline.proofs.TellsRead.{reads_seen, read_on, session_read, answers_read}
use Rattle.commit_pipeline.proofs.pipeline.Pipeline.get.Goals as goal

pub loop-init : goal.loop-init
loop-init g c = record { table = refl; same = refl; turn = refl; pieces = refl }

pub try_newest-requires-clause-table : goal.try_newest-requires-clause-table
try_newest-requires-clause-table g c =
    c.loop.invariant.table ∙ c.visible-visible.ensures.same ∙ c.session.invariant.of_table ∙ sym c.args.self.now.named ∙ sym c.over-shards.ensures

pub try_newest-requires-clause-no_turn : goal.try_newest-requires-clause-no_turn
try_newest-requires-clause-no_turn g c =
    c.loop.invariant.turn ∙ ap (λ (v : View). v.seat.turn) c.visible-visible.ensures.seen.view ∙ c.session.invariant.idle.1

pub try_newest-requires-clause-seen : goal.try_newest-requires-clause-seen
try_newest-requires-clause-seen g c =
    let seen = reads_seen (session_view c.session.inside.desk.seat) (session_view c.visible-visible.new.h) (session_view c.loop.seat)
    c.visible-visible.result c.visible-visible.ensures.seen c.loop.invariant.same in omega (arith, seen)

pub loop-preserved : goal.loop-preserved
loop-preserved g c =
    let i = c.loop.invariant in
    let v : View = session_view c.loop.seat in
    let v' : View = session_view c.try_newest.new.s in
    let busy : v' ≡ busy_view v = subst (λ (f : ReadBusy). LeavesRead f v (shard_of c.args.key.now) v') c.in-Err-Busy.field-0-is
    c.in-Err-Busy.ensures.err in record {
      table = c.try_newest.ensures.same ∙ i.table;
      same = ap but_turns busy ∙ i.same;
      turn = ap (λ (x : View). x.seat.turn) busy ∙ i.turn;
      pieces = ap (λ (x : View). x.pieces) busy ∙ i.pieces;
    }

pub invariant_of-session : goal.invariant_of-session
invariant_of-session g c =
    let i = c.loop.invariant in
    let saw = c.visible-visible.ensures.seen in
    let read = c.in-Ok.ensures.read in
    session_read (session_view c.session.inside.desk.seat) (session_view c.visible-visible.new.h) (session_view c.loop.seat)
    c.visible-visible.result saw i.same _ _ _ _ (shard_of c.args.key.now) _ _ _ _ read.versions (session_view c.try_newest.new.s)
    c.session.invariant (c.try_newest.ensures.same ∙ i.table ∙ c.visible-visible.ensures.same)
    (i.pieces ∙ ap (λ (v : View). v.pieces) saw.view) read.view

pub returns-in-Ok-clause-answers : goal.returns-in-Ok-clause-answers
returns-in-Ok-clause-answers g c =
    let session = c.session.invariant in
    let dead : ℕ = c.session.inside.desk.dead.amount in
    let told : ℕ = c.session.inside.desk.told.amount in
    let w' : View = session_view c.try_newest.new.s in
    subst (λ (s : Standing). TellsRead g.N.PipeName.opening c.args.key.now (record { visible = c.visible-visible.result; value = c.in-Ok.value })
    s (standing (shown_by w') dead told)) c.session.view_is
    (answers_read (session_view c.session.inside.desk.seat) (session_view c.visible-visible.new.h) (session_view c.loop.seat)
    c.visible-visible.result c.visible-visible.ensures.seen c.loop.invariant.same g.N.PipeName.opening c.args.key.now c.in-Ok.value w' dead told
    session.base session.shards session.before c.in-Ok.ensures.read)

pub invariant_of-session-in-Err-NoMemory : goal.invariant_of-session-in-Err-NoMemory
invariant_of-session-in-Err-NoMemory g c =
    let i = c.loop.invariant in
    let saw = c.visible-visible.ensures.seen in
    let v' : View = session_view c.try_newest.new.s in
    let left : LeavesRead NoMemory (session_view c.loop.seat) (shard_of c.args.key.now) v' =
    subst (λ (f : ReadBusy). LeavesRead f (session_view c.loop.seat) (shard_of c.args.key.now) v') c.in-Err-NoMemory.field-0-is
    c.in-Err-NoMemory.ensures.err in
    session_read (session_view c.session.inside.desk.seat) (session_view c.visible-visible.new.h) (session_view c.loop.seat)
    c.visible-visible.result saw i.same _ _ _ _ (shard_of c.args.key.now) _ _ _ _ left.0 v'
    c.session.invariant (c.try_newest.ensures.same ∙ i.table ∙ c.visible-visible.ensures.same)
    (i.pieces ∙ ap (λ (v : View). v.pieces) saw.view) left.1

pub returns-in-Err-NoMemory-clause-err : goal.returns-in-Err-NoMemory-clause-err
returns-in-Err-NoMemory-clause-err g c =
    let i = c.loop.invariant in
    let saw = c.visible-visible.ensures.seen in
    let dead : ℕ = c.session.inside.desk.dead.amount in
    let told : ℕ = c.session.inside.desk.told.amount in
    let v : View = session_view c.session.inside.desk.seat in
    let v' : View = session_view c.try_newest.new.s in
    let left : LeavesRead NoMemory (session_view c.loop.seat) (shard_of c.args.key.now) v' =
    subst (λ (f : ReadBusy). LeavesRead f (session_view c.loop.seat) (shard_of c.args.key.now) v') c.in-Err-NoMemory.field-0-is
    c.in-Err-NoMemory.ensures.err in
    subst (λ (s : Standing). MissesRead s (standing (shown_by v') dead told)) c.session.view_is (
      idles_on v v' dead dead told told
          (read_on v (session_view c.visible-visible.new.h) (session_view c.loop.seat) c.visible-visible.result saw i.same
          (shard_of c.args.key.now) left.0 v' c.session.invariant.idle.1 (i.pieces ∙ ap (λ (x : View). x.pieces) saw.view) left.1) refl,
      refl,
    )
