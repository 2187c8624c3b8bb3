-- The entry at the index is the first of those from there on.
use Rattle.std.proofs.Common.{inr, Contains, drop, subst, arith}
use Rattle.arena_list.specs.Tops.{places_of}
use Rattle.arena_list.proofs.Tops.{from_there, place_at, places_count}
use Rattle.arena_list.proofs.top.place_from.Goals as goal

pub returns-then-index-top : goal.returns-then-index-top
returns-then-index-top c =
    let top = c.args.top.now in
    inr (subst (Contains (drop c.args.index (places_of top))) (place_at top c.args.index _ c.if-index-top.true)
    (from_there (places_of top) c.args.index (omega (arith, c.if-index-top.true, places_count top))))
