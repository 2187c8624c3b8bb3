-- What the session knows from one step to the next.
use Rattle.std.proofs.Common.{ℕ, suc, ◌≤◌, Some, sym, ap, ◌∙◌, subst, arith}
use Rattle.wal_base.proofs.Laws.{at_prefix}
use Rattle.batch_repr.specs.declared.batch.Batch.{Batch}
use Rattle.memtable_shards.specs.Pieces.{PiecesLeft}
use Rattle.commit_queue.specs.declared.view.View.{View}
use Rattle.commit_queue.specs.declared.published.Published.{Published}
use Rattle.commit_queue.specs.Rule.{numbers}
use Rattle.commit_queue.specs.Calls.{HoldsUnapplied, Tries, TriesRaised}
use Rattle.commit_queue.specs.Seats.{producer_view, session_view, note_view}
use Rattle.commit_queue.proofs.Laws.{tries_goes_on, at_end_of, unapplied_next, unapplied_handed, unapplied_adopted, ends_mono}
use Rattle.shard_gate.specs.Gates.{visible_seen}
use Rattle.shard_gate.proofs.tests.one_session_publishes_a_batch_step_by_step_and_reads_it.Goals as goal

-- A try to publish applies no piece.
unapplied_tried : (v v' : View) (p : Published) (pieces : PiecesLeft) → HoldsUnapplied v pieces → Tries v p v' → HoldsUnapplied v' pieces
unapplied_tried v v' p pieces h t = let on = tries_goes_on v v' p t in record {
  index = h.index;
  batch = h.batch;
  holds = on.held ∙ h.holds;
  at = at_prefix v.history v'.history on.history h.index h.batch h.at;
  entries = h.entries;
  first = h.first;
  all = h.all;
  none = on.pieces ∙ h.none;
}

-- What is told as raised was seen.
seen_raised : (v v' : View) (i e : ℕ) → TriesRaised v i e v' → e ≤ visible_seen v'
seen_raised v v' i e t = subst (λ (w : View). e ≤ visible_seen w) (sym t.view)
    (let more = ends_mono numbers v.base t.history (suc i) t.count t.past in
    let same = at_end_of t.claimed t.history t.goes_further v.base (suc i) t.within in
    let end = t.end_is in omega arith)

pub apply_and_mark-requires-clause-holds : goal.apply_and_mark-requires-clause-holds
apply_and_mark-requires-clause-holds g c =
    let b : Batch = c.number-2.result in let pieces : PiecesLeft = c.number.new.self in let v : View = producer_view c.slot_free.new.p in
    let v1 : View = producer_view c.place-2.new.p in let v2 : View = producer_view c.admit.new.p in let w : View = note_view c.in-Ok.note in
    let s : View = session_view c.with_one_session-table.result.2 in let s1 : View = session_view c.try_publish.new.h in
    let s2 : View = session_view c.adopt.new.s in let s3 : View = session_view c.try_publish-2.new.h in
    let numbered = c.number.ensures in let whole = c.one_entry-batch.result.whole in let is = c.number-2.ensures in
    let new = c.with_one_session-table.ensures in let on = tries_goes_on s s1 c.try_publish.result c.try_publish.ensures.tried in
    let placed = unapplied_next v v1 v2 b pieces c.place-2.ensures.placed c.admit.ensures.admitted
    (ap (λ (x : PiecesLeft). x.entries) numbered ∙ ap (λ (x : PiecesLeft). x.entries) whole ∙ sym (ap (λ (x : Batch). x.entries) is))
    (ap (λ (x : PiecesLeft). x.first) numbered ∙ ap (λ (x : Batch). Some x.first) (sym is))
    (ap (λ (x : PiecesLeft). x.from) numbered ∙ ap (λ (x : PiecesLeft). x.from) whole) in
    let handed = unapplied_handed v2 w pieces placed c.in-Ok.ensures.given.note in
    let adopted = unapplied_adopted s1 w s2 pieces (on.held ∙ new.idle.0) (on.pieces ∙ new.none) handed c.adopt.ensures.adopted in
    unapplied_tried s2 s3 c.try_publish-2.result pieces adopted c.try_publish-2.ensures.tried

pub try_newest-requires-clause-seen : goal.try_newest-requires-clause-seen
try_newest-requires-clause-seen g c =
    seen_raised (session_view c.apply_and_mark.new.session) (session_view c.try_publish-3.new.h) c.in-Raised.index c.in-Raised.visible
    c.in-Raised.ensures.tried
