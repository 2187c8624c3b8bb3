use Rattle.std.proofs.Common.{arith, inl, ◌%◌, ◌<◌, sym, subst}
use Rattle.publish_core.specs.declared.state.TheConstants.{SLOTS}
use Rattle.commit_queue.specs.declared.view.View.{View}
use Rattle.commit_queue.specs.Calls.{ViewGoesOn}
use Rattle.commit_queue.proofs.GoesOn.{goes_on_read}
use Rattle.commit_queue.proofs.Stands.{producer_goes_on}
use Rattle.commit_queue.proofs.Places.{sees_slot}
use Rattle.commit_queue.proofs.pipe_table.PipeTable.slot_free.Goals as goal

pub load-word-requires : goal.load-word-requires
load-word-requires c = let p = c.args.p.now in let small : p.head % SLOTS < SLOTS = omega arith in
    (c.requires.table, (let w = c.args.self.now.words in omega arith), sees_slot _ _ _ _ (p.head % SLOTS) small (inl p.stands.kind))

pub invariant_of-p : goal.invariant_of-p
invariant_of-p c = let p = c.args.p.now in let v : View = p.seat.me.0 in let s = c.load-word.ensures in
    let on : ViewGoesOn v c.load-word.new.seat.me.0 = subst (ViewGoesOn v) (sym s.2.1) (goes_on_read v _ _) in
    record { stands = producer_goes_on p.seat.id _ p.seat.me _ p.head p.end p.turn p.stands s.1 s.2.0 on }
