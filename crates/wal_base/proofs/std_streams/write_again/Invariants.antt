use Rattle.std.specs.Io.KnownBytes.{Keeps}
use Rattle.wal_base.proofs.std_streams.write_again.Given as goal

-- an interrupted write took nothing
abbrev pub invariant-loop : goal.invariant-loop
invariant-loop g l = Keeps (g.O.Write.contents l.initial.output) (g.O.Write.contents l.output)
