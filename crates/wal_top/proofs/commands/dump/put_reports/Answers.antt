use Rattle.std.proofs.Common.{◌≡◌, ◌++◌, ◌∙◌, ap, List, length, take, rules, arith}
use Rattle.std.specs.List.{flat_map}
use Rattle.std.proofs.lemmas.List.{take_all}
use Rattle.std.proofs.lemmas.Iterator.Consumers.{YieldsList-turn, YieldsList-end}
use Rattle.std.proofs.lemmas.Iterator.Adapters.{YieldsList-from_vec}
use Rattle.wal_recovery.specs.declared.reports.SegReport.{SegReport}
use Rattle.wal_top.specs.Dump.{report_lines}
use Rattle.wal_top.proofs.Letting.{lines_more}
use Rattle.wal_top.proofs.commands.dump.put_reports.Goals as goal

pub loop-report-preserved : goal.loop-report-preserved
loop-report-preserved c =
    let turn = YieldsList-turn (YieldsList-from_vec {s = c.into_iter-report-iterator.result} c.args.reports (search rules) (search rules))
    c.loop-report.yielded c.loop-report.report-iterator c.loop-report.yielded_by c.next.result c.next.new.self c.in-Some.report c.in-Some.is
    c.next.ensures.steps in
    c.in_ok-put_report.ensures ∙ lines_more report_lines c.args.text.now c.loop-report.text c.loop-report.yielded c.args.reports
    c.in-Some.report turn.0 turn.1 c.loop-report.invariant

pub returns : goal.returns
returns c =
    let ends = YieldsList-end (YieldsList-from_vec {s = c.into_iter-report-iterator.result} c.args.reports (search rules) (search rules))
    c.loop-report.yielded c.loop-report.report-iterator c.loop-report.yielded_by c.next.result c.next.new.self c.in-None.is c.next.ensures.steps in
    let whole : take (length c.loop-report.yielded) c.args.reports ≡ c.args.reports = take_all (length c.loop-report.yielded) c.args.reports
    (omega (arith, ends.1)) in
    c.loop-report.invariant ∙ ap (λ (l : List SegReport). c.args.text.now ++ flat_map report_lines l) whole
