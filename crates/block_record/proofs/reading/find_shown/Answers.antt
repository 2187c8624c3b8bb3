use Rattle.block_record.specs.Joined.{link_in}
use Rattle.block_record.proofs.Chains.{not_true}
use Rattle.block_record.proofs.Pieces.{found_len}
use Rattle.block_record.proofs.Shows.{looked_none, looked_next, looked_all}
use Rattle.block_record.proofs.reading.find_shown.Goals as goal

pub loop-at-preserved-in-None : goal.loop-at-preserved-in-None
loop-at-preserved-in-None c = looked_none c.args.bytes.now c.args.log c.args.stopped c.loop-at.at c.loop-at.invariant c.in-None.ensures.none

pub loop-at-preserved : goal.loop-at-preserved
loop-at-preserved c =
    let found = c.in-Some.found in
    looked_next c.args.bytes.now c.args.log c.args.stopped c.loop-at.at found.end (link_in c.args.bytes.now found) c.loop-at.invariant c.in-Some.ensures.found
    (found_len c.args.bytes.now c.loop-at.at found c.in-Some.ensures.place)
    (λ above. not_true c.is_beyond.result c.if-is_beyond.false (c.is_beyond.ensures.1 above))

pub returns : goal.returns
returns c = looked_all c.args.bytes.now c.args.log c.args.stopped c.loop-at.at c.loop-at.invariant c.loop-at-test.false
