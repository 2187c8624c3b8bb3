-- No place was free, so that the one that was made is the only one.
use Rattle.std.proofs.Common.{◌≡◌, inr, subst, arith}
use Rattle.arena_list.specs.Arena.{Arena, MakesRoom}
use Rattle.arena_list.specs.Nodes.{arena_of, IsArena}
use Rattle.arena_list.proofs.Made.{made_arena, made_front, made_top, made_seen}
use Rattle.arena_list.proofs.list.ArenaList.reserve_one.Goals as goal

pub invariant_of-self-2 : goal.invariant_of-self-2
invariant_of-self-2 c =
    let items = c.self.inside.nodes.items in
    let first = c.self.inside.free.first in
    let none : c.self.inside.free.count ≡ 0 = omega arith in
    let arena : IsArena items first 0 = subst (IsArena items first) none c.self.invariant.0 in (
      made_arena items c.make_place.new.nodes.items c.in_ok-place.place first arena c.in_ok-place.ensures.made,
      made_front items c.make_place.new.nodes.items c.in_ok-place.place first arena c.in_ok-place.ensures.made c.self.invariant.1,
      made_top items c.make_place.new.nodes.items c.in_ok-place.place first arena c.in_ok-place.ensures.made c.self.inside.top.items c.self.invariant.2,
    )

pub returns-clause-room : goal.returns-clause-room
returns-clause-room c =
    let items = c.self.inside.nodes.items in
    let first = c.self.inside.free.first in
    let none : c.self.inside.free.count ≡ 0 = omega arith in
    let arena : IsArena items first 0 = subst (IsArena items first) none c.self.invariant.0 in
    subst (λ (a : Arena). MakesRoom a (arena_of c.make_place.new.nodes.items 1)) c.self.view_is
    (inr (none, made_seen items c.make_place.new.nodes.items c.in_ok-place.place first arena c.in_ok-place.ensures.made))
