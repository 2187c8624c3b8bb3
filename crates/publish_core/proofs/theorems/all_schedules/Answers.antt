use Rattle.publish_core.specs.Parts.{shape_count, has_part}
use Rattle.publish_core.proofs.Kept.{law}
use Rattle.publish_core.proofs.Rises.{never_falls}
use Rattle.publish_core.proofs.theorems.all_schedules.Goals as goal

pub returns-clause-kept : goal.returns-clause-kept
returns-clause-kept c = law shape_count has_part

pub returns-clause-rises : goal.returns-clause-rises
returns-clause-rises c = never_falls shape_count has_part
