use Rattle.std.proofs.Common.{subst, ap, ◌∙◌}
use Rattle.disk_face.specs.View.{Files}
use Rattle.disk_face.specs.Image.{IsImage}
use Rattle.mem_disk.specs.Mem.{mem_view, files_held}
use Rattle.mem_disk.specs.Picks.{picked_dirs, StandAsRead}
use Rattle.mem_disk.proofs.Calls.{files_now}
use Rattle.mem_disk.proofs.Images.{picks_of, image_picked}
use Rattle.mem_disk.proofs.theorems.each_image_has_a_pick.Goals as goal

pub returns : goal.returns
unfolding mem_view
returns c disk dirs im stand =
    let now = files_now disk.moments.past disk.files.items in
    let picks = picks_of (files_held disk.files.items) dirs disk.files.items in (
      picks,
      (λ p. ap (λ (f : Files). picked_dirs f picks p) now
          ∙ image_picked disk.files.items dirs (subst (λ (f : Files). IsImage f dirs) now im) (subst (λ (f : Files). StandAsRead f dirs) now stand) p),
    )
