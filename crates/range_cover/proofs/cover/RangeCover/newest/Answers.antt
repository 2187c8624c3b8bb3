-- What the edges tell is the newest one, where it is below the bound.
use Rattle.range_cover.proofs.Telling.{cover_tops}
use Rattle.range_cover.proofs.cover.RangeCover.newest.Goals as goal

pub top_at-top-requires : goal.top_at-top-requires
top_at-top-requires c = record { tops = cover_tops c.self.inside.edges.versions c.self.inside.marks.items c.self.invariant.1 }
