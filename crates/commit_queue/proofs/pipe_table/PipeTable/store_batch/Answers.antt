use Rattle.std.proofs.Common.{ap, arith, ◌*◌, sym, ◌%◌, ◌∙◌}
use Rattle.batch_repr.specs.declared.batch.Batch.{Batch}
use Rattle.publish_core.specs.declared.state.TheConstants.{SLOTS}
use Rattle.commit_queue.specs.Views.{placed_view}
use Rattle.commit_queue.proofs.Stands.{producer_places}
use Rattle.commit_queue.proofs.Places.{places_at}
use Rattle.commit_queue.proofs.pipe_table.PipeTable.store_batch.Goals as goal

pub store-requires : goal.store-requires
store-requires g c = let p = c.args.p.now in let b : Batch = c.args.batch.now in let some = c.count-some.ensures in
    let last = c.end-end.ensures in (
      c.requires.table,
      (let w = c.args.self.now.words in omega arith),
      places_at _ _ _ _ (p.head % SLOTS) _ g.M.Naming.batch b p.stands.id_is c.requires.named (ap (λ x. x % SLOTS) (sym p.stands.head_is))
          (ap (λ x. 2 * x) last.end) (omega arith) (omega arith) c.requires.fits,
    )

pub invariant_of-p : goal.invariant_of-p
invariant_of-p g c = let p = c.args.p.now in let s = c.store.ensures in let b : Batch = c.args.batch.now in let last = c.end-end.ensures in
    record {
      stands = producer_places p.seat.id _ p.seat.me _ b p.head p.end _ p.turn p.stands s.1 s.2.0
          (s.2.1 ∙ ap (placed_view p.seat.me.0) (sym c.requires.named)) c.requires.fits last.end (omega arith);
    }
