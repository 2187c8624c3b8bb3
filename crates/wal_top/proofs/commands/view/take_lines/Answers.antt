-- What is read are lines that ask for something, or is refused.
use Rattle.std.proofs.Common.{Err, ap}
use Rattle.wal_top.specs.declared.status.Status.TheVariants as statuses
use Rattle.wal_top.specs.Call.{change_in}
use Rattle.wal_top.specs.View.{long_view_text, bad_view_text, long_view, bad_view, SaysOfLines}
use Rattle.wal_top.proofs.Saying.{as_told}
use Rattle.wal_top.proofs.commands.view.take_lines.Goals as goal

pub returns-in-Err-TooLong-clause-takes : goal.returns-in-Err-TooLong-clause-takes
returns-in-Err-TooLong-clause-takes g c =
    let said = c.in_ok-saying-in-Err-TooLong.field-0 in
    as_told (SaysOfLines (change_in g.S.Source.left c.args.src.now c.read_script_bytes.new.src) (change_in g.S.Source.faults c.args.src.now c.read_script_bytes.new.src))
    said.status statuses.Script said.text long_view_text
    (long_view (c.in-Err-TooLong.ensures.too_long (ap (λ x. Err x) c.in-Err-TooLong.field-0-is)))
    c.in_ok-saying-in-Err-TooLong.ensures.0 c.in_ok-saying-in-Err-TooLong.ensures.1

pub returns-in_ok-bad_line_said-in-Err-BadLine-clause-takes : goal.returns-in_ok-bad_line_said-in-Err-BadLine-clause-takes
returns-in_ok-bad_line_said-in-Err-BadLine-clause-takes g c =
    let said = c.in_ok-bad_line_said-in-Err-BadLine.field-0 in
    let line = c.in-Err-BadLine.line in
    as_told (SaysOfLines (change_in g.S.Source.left c.args.src.now c.read_script_bytes.new.src) (change_in g.S.Source.faults c.args.src.now c.read_script_bytes.new.src))
    said.status statuses.Script said.text (bad_view_text line)
    (bad_view line (record {
      bytes = c.in-Ok.bytes;
      whole = c.in-Ok.ensures.whole;
      within = c.in-Ok.ensures.within;
      bad = c.in-Err-BadLine.ensures.bad line (ap (λ x. Err x) c.in-Err-BadLine.field-0-is);
    }))
    c.in_ok-bad_line_said-in-Err-BadLine.ensures.0 c.in_ok-bad_line_said-in-Err-BadLine.ensures.1
