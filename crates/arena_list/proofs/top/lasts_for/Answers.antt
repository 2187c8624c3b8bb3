-- A place that is linked above is linked at the highest level of a low tower, too, and comes next there.
use Rattle.std.proofs.Common.{◌≢◌, ◌-◌, ◌<◌, length, ◌∙◌, arith, slice_index}
use Rattle.arena_list.specs.declared.node.TheConstants.{GUIDE_HEIGHT}
use Rattle.arena_list.specs.Nodes.{next_on}
use Rattle.arena_list.proofs.Levels.{read_next}
use Rattle.arena_list.proofs.Cuts.{cut_within, lasts_above}
use Rattle.arena_list.proofs.top.lasts_for.Goals as goal

pub bounds-nodes-spot : goal.bounds-nodes-spot
bounds-nodes-spot c =
    let sought = c.args.sought.now in
    cut_within c.args.nodes.now c.requires.linked (GUIDE_HEIGHT - 1) (omega arith) sought.key.now sought.number
    (slice_index c.args.spot.now.lasts (GUIDE_HEIGHT - 1)) c.requires.head (c.requires.lasts.low (GUIDE_HEIGHT - 1) (omega arith))

pub returns : goal.returns
returns c =
    let nodes = c.args.nodes.now in
    let sought = c.args.sought.now in
    let level = GUIDE_HEIGHT - 1 in
    let lasts = c.args.spot.now.lasts in
    let last = slice_index lasts level in
    let within : last < length nodes =
    cut_within nodes c.requires.linked level (omega arith) sought.key.now sought.number last c.requires.head (c.requires.lasts.low level (omega arith)) in
    let other : next_on nodes level last ≢ c.args.place =
    λ e. c.if-nodes-spot.false (read_next nodes level last c.index-nodes-spot.result within ∙ e) in
    lasts_above nodes c.requires.linked sought.key.now sought.number level lasts c.args.place (omega arith) c.requires.lasts c.requires.next other
