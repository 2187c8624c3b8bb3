use Rattle.table_text.proofs.ReadBack.{read_none, none_more, read_more}
use Rattle.table_text.proofs.reading.read_batches.Goals as goal

pub loop-rec-init : goal.loop-rec-init
loop-rec-init c = read_none c.in_ok-reader.reader c.in_ok-reader.ensures

pub returns-in_default : goal.returns-in_default
returns-in_default c =
    none_more c.args.records.now c.loop-rec.rec-index c.rec-item.result c.loop-rec-test.true c.rec-item.is (rw c.in_default.is at c.in_ok-more.ensures)

pub loop-rec-preserved : goal.loop-rec-preserved
loop-rec-preserved c =
    read_more c.args.records.now c.loop-rec.rec-index c.rec-item.result c.loop-rec.reader c.in-Some.more c.loop-rec-test.true c.rec-item.is c.loop-rec.invariant
    (rw c.in-Some.is at c.in_ok-more.ensures)
