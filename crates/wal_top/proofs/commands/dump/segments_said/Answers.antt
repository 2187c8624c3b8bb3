-- What recovery answers, said in words of the segments.
use Rattle.std.proofs.Common.{◌≡◌, ℕ, List, ◌++◌, refl, ap, ◌∙◌}
use Rattle.wal_recovery.specs.declared.reports.Mode.TheVariants.{Lenient}
use Rattle.wal_top.specs.Call.{change_in}
use Rattle.wal_top.specs.Dump.{segments_text, used_text}
use Rattle.wal_top.proofs.Saying.{ok_map}
use Rattle.wal_top.proofs.Recovery.{reads_store, says_unrecovered, synced_now}
use Rattle.wal_top.proofs.Dump.{says_segments, says_no_segments}
use Rattle.wal_top.proofs.commands.dump.segments_said.Goals as goal

pub returns-in_ok-put_recovered_end-in-Ok-clause-says : goal.returns-in_ok-put_recovered_end-in-Ok-clause-says
returns-in_ok-put_recovered_end-in-Ok-clause-says g c =
    let e = c.in-Ok.ensures in
    let over = change_in g.D.Disk.view c.args.disk.now c.recover_store.new.disk in
    let used : c.put_used.new.text ≡ used_text c.in-Ok.found.table =
    c.in_ok-put_used-in-Ok.ensures ∙ ap (λ (t : List ℕ). t ++ used_text c.in-Ok.found.table) c.in_ok-text-in-Ok.ensures in
    says_segments g.D.Disk.tells over _ (reads_store Lenient g.D.Disk.tells over c.in-Ok.found e.recovered) c.in-Ok.found.next e.next
    c.in-Ok.found.segments c.len-count.result c.put_reports.new.text c.len-count.ensures e.reports (e.starts_nothing refl)
    (c.in_ok-put_reports-in-Ok.ensures ∙ ap (λ (t : List ℕ). t ++ segments_text c.in-Ok.found.segments) used) c.in_ok-put_recovered_end-in-Ok.ensures.ok

pub returns-in-Err-clause-says : goal.returns-in-Err-clause-says
returns-in-Err-clause-says g c =
    let e = c.in-Err.ensures in
    let over = change_in g.D.Disk.view c.args.disk.now c.recover_store.new.disk in
    ok_map c.unrecovered.result c.unrecovered.ensures (λ said p. says_no_segments g.D.Disk.tells over said.text said.status
    (says_unrecovered Lenient g.D.Disk.tells over said.text (synced_now g.D.Disk.tells over.before over.after e.goes_on e.files) e.idle c.in-Err.fault said.status p e.disk e.refused e.untouched))
