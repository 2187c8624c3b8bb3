use Rattle.std.specs.Prelude.{[], ◌∷◌, ◌++◌}
use Rattle.mem_disk.proofs.moments.Moments.and.Given as goal

abbrev pub ghost-made : goal.ghost-made
ghost-made a = a.self.now.past ++ a._files.now.items ∷ []
