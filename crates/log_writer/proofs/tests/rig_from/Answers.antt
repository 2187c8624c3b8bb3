-- Where nothing is in flight and no file is, the segment is free and absent.
use Rattle.std.proofs.Common.{◌≡◌, None, Some, sym, ◌∙◌}
use Rattle.disk_face.specs.declared.Side.TheVariants.{Primary}
use Rattle.disk_face.specs.View.{segment}
use Rattle.log_writer.specs.declared.tests.TheConstants.{NAME}
use Rattle.log_writer.proofs.tests.rig_from.Goals as goal

pub new-requires-clause-free : goal.new-requires-clause-free
new-requires-clause-free g c id f is at = let clash : Some f ≡ None = sym is ∙ c.disk_of-disk.ensures.idle id in cc

pub new-requires-clause-absent : goal.new-requires-clause-absent
new-requires-clause-absent g c told = c.disk_of-disk.ensures.empty (segment Primary NAME)
