use Rattle.std.proofs.Common.{refl}
use Rattle.disk_face.specs.View.{files}
use Rattle.wal_recovery.specs.Rows.{place_listed}
use Rattle.wal_recovery.proofs.Syncs.{sync_moments, sync_done, file_there}
use Rattle.wal_recovery.proofs.ReadsOnly.{reads_nothing, starts_one}
use Rattle.wal_recovery.proofs.syncing.sync.Goals as goal

pub returns-then-wait-clause-each_moment : goal.returns-then-wait-clause-each_moment
returns-then-wait-clause-each_moment g c = λ told.
    sync_moments g.D.Disk.tells (place_listed c.args.segment) c.args.segment.side c.in-Ok.id (g.D.Disk.view c.args.disk.now)
    (g.D.Disk.view c.start.new.self) (g.D.Disk.view c.wait.new.disk) _
    c.in-Ok.ensures.starts c.if-wait.ensures.ended told (c.in-Ok.ensures.file told) c.in-Ok.ensures.goes_on

pub returns-then-wait-clause-synced : goal.returns-then-wait-clause-synced
returns-then-wait-clause-synced g c = λ told.
    let there = file_there (files (g.D.Disk.view c.args.disk.now) (place_listed c.args.segment)) (c.requires.there told) in
    sync_done g.D.Disk.tells (place_listed c.args.segment) c.args.segment.side c.in-Ok.id (g.D.Disk.view c.args.disk.now)
    (g.D.Disk.view c.start.new.self) (g.D.Disk.view c.wait.new.disk) _
    c.in-Ok.ensures.starts c.if-wait.ensures.ended told (c.in-Ok.ensures.file told) refl there.0 there.1

pub returns-else-wait-clause-each_moment : goal.returns-else-wait-clause-each_moment
returns-else-wait-clause-each_moment g c = λ told.
    sync_moments g.D.Disk.tells (place_listed c.args.segment) c.args.segment.side c.in-Ok.id (g.D.Disk.view c.args.disk.now)
    (g.D.Disk.view c.start.new.self) (g.D.Disk.view c.wait.new.disk) _
    c.in-Ok.ensures.starts c.if-wait.ensures.ended told (c.in-Ok.ensures.file told) c.in-Ok.ensures.goes_on

pub returns-then-wait-clause-asks : goal.returns-then-wait-clause-asks
returns-then-wait-clause-asks g c =
    let old = g.D.Disk.view c.args.disk.now in
    let mid = g.D.Disk.view c.start.new.self in
    reads_nothing old mid (g.D.Disk.view c.wait.new.disk) (starts_one c.in-Ok.id _ old mid refl c.in-Ok.ensures.noted) c.if-wait.ensures.asks

pub returns-else-wait-clause-asks : goal.returns-else-wait-clause-asks
returns-else-wait-clause-asks g c =
    let old = g.D.Disk.view c.args.disk.now in
    let mid = g.D.Disk.view c.start.new.self in
    reads_nothing old mid (g.D.Disk.view c.wait.new.disk) (starts_one c.in-Ok.id _ old mid refl c.in-Ok.ensures.noted) c.if-wait.ensures.asks
