use Rattle.mem_disk.specs.Mem.{mem_view}
use Rattle.mem_disk.proofs.Calls.{files_now}
use Rattle.mem_disk.proofs.Images.{crash_stands, crash_image, read_whole, whole_again, whole_rested}
use Rattle.mem_disk.proofs.memory.MemDisk.crash.Goals as goal

pub returns-clause-image : goal.returns-clause-image
unfolding mem_view
returns-clause-image c =
    crash_image c.args.self.files.items _ _ c.args.pick.now.files (files_now c.args.self.moments.past c.args.self.files.items)
    (crash_stands c.args.self.files.items c.in_ok-files.files.items c.args.self.moments.past _ c.as_slice.result.now c.args.pick.now.files
    c.as_slice.ensures c.holding.ensures.kept c.in_ok-files.ensures.files)

pub returns-clause-picked : goal.returns-clause-picked
unfolding mem_view
returns-clause-picked c =
    read_whole _ _
    (crash_stands c.args.self.files.items c.in_ok-files.files.items c.args.self.moments.past _ c.as_slice.result.now c.args.pick.now.files
    c.as_slice.ensures c.holding.ensures.kept c.in_ok-files.ensures.files)

pub returns-clause-stable : goal.returns-clause-stable
unfolding mem_view
returns-clause-stable c =
    whole_again _ _
    (crash_stands c.args.self.files.items c.in_ok-files.files.items c.args.self.moments.past _ c.as_slice.result.now c.args.pick.now.files
    c.as_slice.ensures c.holding.ensures.kept c.in_ok-files.ensures.files)

pub returns-clause-rested : goal.returns-clause-rested
unfolding mem_view
returns-clause-rested c =
    whole_rested _ _
    (crash_stands c.args.self.files.items c.in_ok-files.files.items c.args.self.moments.past _ c.as_slice.result.now c.args.pick.now.files
    c.as_slice.ensures c.holding.ensures.kept c.in_ok-files.ensures.files)
