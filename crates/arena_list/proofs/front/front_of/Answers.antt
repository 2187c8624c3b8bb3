-- The first key begins with the front.
use Rattle.std.proofs.Common.{ℕ, List, sym, ◌∙◌, subst, arith}
use Rattle.std.proofs.lemmas.List.{length-take-le}
use Rattle.arena_list.specs.Nodes.{node_at, next_on, places_on}
use Rattle.arena_list.specs.Fronts.{IsLed}
use Rattle.arena_list.proofs.Levels.{read_at, read_next}
use Rattle.arena_list.proofs.Lowered.{none_led, first_held, front_read}
use Rattle.arena_list.proofs.front.front_of.Goals as goal

pub returns-then-first-eq0-clause-none : goal.returns-then-first-eq0-clause-none
returns-then-first-eq0-clause-none c =
    let nodes = c.args.nodes.now in
    none_led (next_on nodes 0) (next_on nodes 0 0) (places_on nodes 0) (c.requires.linked.levels 0 (omega arith)).follows
    (sym (read_next nodes 0 0 c.index-nodes-0.result c.requires.head) ∙ c.if-first-eq0.true)

pub bounds-nodes-first : goal.bounds-nodes-first
bounds-nodes-first c =
    ((c.requires.linked.levels 0 (omega arith)).held _
    (first_held c.args.nodes.now c.index-nodes-0.result c.requires.linked c.requires.head c.if-first-eq0.false)).0

pub slice_bounds-result-end-2 : goal.slice_bounds-result-end-2
slice_bounds-result-end-2 c =
    let nodes = c.args.nodes.now in
    let there = first_held nodes c.index-nodes-0.result c.requires.linked c.requires.head c.if-first-eq0.false in
    let read = front_read nodes c.requires.front _ _ c.key.result.now there
    (read_at nodes _ c.index-nodes-first.result ((c.requires.linked.levels 0 (omega arith)).held _ there).0) c.key.ensures in
    sym (length-take-le c.args.shared c.key.result.now read.1)

pub returns-clause-len : goal.returns-clause-len
returns-clause-len c =
    let nodes = c.args.nodes.now in
    let there = first_held nodes c.index-nodes-0.result c.requires.linked c.requires.head c.if-first-eq0.false in
    let read = front_read nodes c.requires.front _ _ c.key.result.now there
    (read_at nodes _ c.index-nodes-first.result ((c.requires.linked.levels 0 (omega arith)).held _ there).0) c.key.ensures in
    length-take-le c.args.shared c.key.result.now read.1

pub returns-clause-led : goal.returns-clause-led
returns-clause-led c place h =
    let nodes = c.args.nodes.now in
    let there = first_held nodes c.index-nodes-0.result c.requires.linked c.requires.head c.if-first-eq0.false in
    let read = front_read nodes c.requires.front _ _ c.key.result.now there
    (read_at nodes _ c.index-nodes-first.result ((c.requires.linked.levels 0 (omega arith)).held _ there).0) c.key.ensures in
    subst (λ (front : List ℕ). IsLed front (node_at nodes place)) (sym read.0) (c.requires.front.led place h)
