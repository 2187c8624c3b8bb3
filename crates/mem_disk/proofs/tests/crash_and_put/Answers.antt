use Rattle.std.proofs.Common.{◌≡◌, Option, Some, None, sym, ap, ◌∙◌}
use Rattle.std.specs.Prelude.{option_map}
use Rattle.disk_face.specs.declared.Side.TheVariants.{Primary}
use Rattle.disk_face.specs.View.{Place, segment, File}
use Rattle.disk_face.specs.Tables.{whole}
use Rattle.mem_disk.specs.Picks.{tail_of, picked}
use Rattle.mem_disk.proofs.tests.crash_and_put.Goals as goal

-- a crash leaves no file where none was
pub put_file-requires-clause-absent : goal.put_file-requires-clause-absent
put_file-requires-clause-absent c =
    let p : Place = segment Primary c.args.name in
    c.in_ok-crashed.ensures.stable p ∙ ap (option_map whole) (c.in_ok-crashed.ensures.picked p
    ∙ ap (λ (o : Option File). picked p o (tail_of c.args.pick.now.files p)) c.requires.absent)

pub put_file-requires-clause-free : goal.put_file-requires-clause-free
put_file-requires-clause-free c = λ id f at place.
    let clash : None ≡ Some f = sym (c.in_ok-crashed.ensures.idle id) ∙ at in
    cc
