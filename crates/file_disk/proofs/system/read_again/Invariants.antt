use Rattle.std.specs.Io.KnownBytes.{Keeps}
use Rattle.file_disk.proofs.system.read_again.Given as goal

-- an interrupted read took nothing
abbrev pub invariant-loop : goal.invariant-loop
invariant-loop g l = Keeps (g.I.Read.remaining l.initial.input) (g.I.Read.remaining l.input)
