use Rattle.std.proofs.Common.{ℕ, subst}
use Rattle.block_record.specs.ReadOut.{ReadsOut}
use Rattle.table_text.proofs.RecordRows.{tells, tells_written}
use Rattle.table_text.proofs.reading.read_table.Goals as goal

pub returns-clause-found : goal.returns-clause-found
returns-clause-found c =
    tells c.args.upto c.args.bytes.items c.in_ok-read.read (subst (λ (n : ℕ). ReadsOut c.args.bytes.items n c.in_ok-read.read) c.log_of.ensures c.in_ok-read.ensures)
    c.in_ok-table.table (rw c.as_slice.ensures at c.in_ok-table.ensures)

pub returns-clause-written : goal.returns-clause-written
returns-clause-written c table is text =
    let reads = subst (λ (n : ℕ). ReadsOut c.args.bytes.items n c.in_ok-read.read) c.log_of.ensures c.in_ok-read.ensures in
    tells_written c.args.upto c.args.bytes.items c.in_ok-read.read reads c.in_ok-table.table
    (tells c.args.upto c.args.bytes.items c.in_ok-read.read reads c.in_ok-table.table (rw c.as_slice.ensures at c.in_ok-table.ensures)) table is text
