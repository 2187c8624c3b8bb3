-- Nothing is in flight where a file is put, so its place is free, and nothing is then.
use Rattle.std.proofs.Common.{◌≡◌, None, Some, ap, sym, ◌∙◌}
use Rattle.flush_table.proofs.tests.Rig.segment.Goals as goal

pub put_file-requires-clause-free : goal.put_file-requires-clause-free
put_file-requires-clause-free g c id f is at = let clash : Some f ≡ None = sym is ∙ c.self.invariant id in cc

pub invariant_of-self : goal.invariant_of-self
invariant_of-self g c id = ap (λ flights. flights id) c.put_file.ensures.flights ∙ c.self.invariant id
