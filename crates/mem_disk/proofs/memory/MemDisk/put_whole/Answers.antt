use Rattle.std.proofs.Common.{◌≡◌, ◌∙◌, sym, subst, arith, ap}
use Rattle.std.specs.Prelude.{Some}
use Rattle.disk_face.specs.Tables.{whole}
use Rattle.disk_face.specs.Image.{IsRested}
use Rattle.mem_disk.specs.Mem.{mem_view, files_held}
use Rattle.mem_disk.proofs.Images.{rested_put}
use Rattle.mem_disk.proofs.Calls.{files_now, goes_on_moment, changes_moment}
use Rattle.mem_disk.proofs.memory.MemDisk.put_whole.Goals as goal

pub returns-clause-goes_on : goal.returns-clause-goes_on
unfolding mem_view
returns-clause-goes_on c =
    goes_on_moment c.args.self.now.files.items c.place_whole.new.files.items _ _ c.args.self.now.moments.past c.and-moments.result.past _ _ _ _ _ _
    c.and-moments.ensures (λ s. omega arith) (λ s. omega arith)

pub returns-clause-put : goal.returns-clause-put
unfolding mem_view
returns-clause-put c =
    changes_moment c.args.self.now.files.items c.place_whole.new.files.items _ _ c.args.self.now.moments.past c.and-moments.result.past _ _ _ _ _ _
    c.and-moments.ensures c.args.place (λ f g. g ≡ Some (whole c.args.bytes.now)) c.in_ok-place_whole.ensures.ok

pub returns-clause-rested : goal.returns-clause-rested
unfolding mem_view
returns-clause-rested c rested =
    subst IsRested (sym (files_now c.and-moments.result.past c.place_whole.new.files.items))
    (rested_put c.args.place c.args.bytes.now (files_held c.args.self.now.files.items) (files_held c.place_whole.new.files.items)
    c.in_ok-place_whole.ensures.ok (subst IsRested (files_now c.args.self.now.moments.past c.args.self.now.files.items) rested))

pub returns-in_err-place_whole-clause-rested : goal.returns-in_err-place_whole-clause-rested
unfolding mem_view
returns-in_err-place_whole-clause-rested c rested =
    subst IsRested (files_now c.args.self.now.moments.past c.args.self.now.files.items ∙ ap files_held (sym c.in_err-place_whole.ensures.err)
    ∙ sym (files_now c.args.self.now.moments.past c.place_whole.new.files.items)) rested
