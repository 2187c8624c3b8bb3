-- Writing ended, and the status says so.
use Rattle.std.proofs.Common.{Err, inl, inr, refl, ap, subst}
use Rattle.wal_top.specs.Call.{run_of}
use Rattle.wal_top.specs.Run.{Wrote, WrotePart}
use Rattle.wal_top.proofs.Says.{says_all, says_part, says_short}
use Rattle.wal_top.proofs.top.ended.Goals as goal

pub returns-in-Ok-clause-says : goal.returns-in-Ok-clause-says
returns-in-Ok-clause-says g c words call =
    says_all words (run_of call g.K.Sink.written g.K.Sink.faults g.K.Sink.shortages c.args.out.now c.write_all.new.out) c.args.said.now.status c.args.said.now.text
    (subst (Wrote (g.K.Sink.written c.args.out.now) (g.K.Sink.written c.write_all.new.out)) c.as_slice.ensures c.in-Ok.ensures.whole)

pub returns-in-Err-Failed-clause-says : goal.returns-in-Err-Failed-clause-says
returns-in-Err-Failed-clause-says g c words call =
    says_part words (run_of call g.K.Sink.written g.K.Sink.faults g.K.Sink.shortages c.args.out.now c.write_all.new.out) c.args.said.now.status c.args.said.now.text (c.in-Err-Failed.ensures.fault.rose (ap (λ x. Err x) c.in-Err-Failed.field-0-is))
    (subst (WrotePart (g.K.Sink.written c.args.out.now) (g.K.Sink.written c.write_all.new.out)) c.as_slice.ensures c.in-Err-Failed.ensures.part)

pub returns-in-Err-NoMemory-clause-says : goal.returns-in-Err-NoMemory-clause-says
returns-in-Err-NoMemory-clause-says g c words call =
    says_short words (run_of call g.K.Sink.written g.K.Sink.faults g.K.Sink.shortages c.args.out.now c.write_all.new.out) c.args.said.now.status c.args.said.now.text (c.in-Err-NoMemory.ensures.shortage.rose (ap (λ x. Err x) c.in-Err-NoMemory.field-0-is))
    (subst (WrotePart (g.K.Sink.written c.args.out.now) (g.K.Sink.written c.write_all.new.out)) c.as_slice.ensures c.in-Err-NoMemory.ensures.part)

pub returns-in-Err-Failed-clause-yields : goal.returns-in-Err-Failed-clause-yields
returns-in-Err-Failed-clause-yields g c = inr (inl (refl, c.in-Err-Failed.ensures.fault.rose (ap (λ x. Err x) c.in-Err-Failed.field-0-is)))
