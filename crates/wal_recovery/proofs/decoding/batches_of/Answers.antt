use Rattle.std.proofs.Common.{◌≡◌, ◌+◌, List, Err, take, sym, subst, rules}
use Rattle.std.specs.Prelude.{IfErr, Result}
use Rattle.batch_repr.specs.declared.batch.Batch.{Batch}
use Rattle.wal_recovery.specs.declared.decoding.DecodeFault.{DecodeFault}
use Rattle.wal_recovery.specs.Recovering.{Spell}
use Rattle.wal_recovery.specs.Refused.{IsBadRecord}
use Rattle.wal_recovery.specs.Decoded.{BadOrMemory}
use Rattle.wal_recovery.proofs.Spell.{spell_more, bad_in}
use Rattle.wal_recovery.proofs.decoding.batches_of.Goals as goal

pub returns-in_err-so_far-2-clause-bad : goal.returns-in_err-so_far-2-clause-bad
returns-in_err-so_far-2-clause-bad c =
    let is : c.from_residual-in_err-so_far-2.result ≡ Err c.in_err-so_far-2.field-0.0 = search rules in
    subst (λ (r : Result (List Batch) DecodeFault). IfErr r (BadOrMemory (IsBadRecord c.args.records.now))) (sym is)
    (bad_in c.args.records.now c.loop-whole.so_far c.loop-whole.whole-index c.whole-item.result c.in_err-so_far-2.field-0.0
    c.loop-whole-test.true c.whole-item.is c.loop-whole.invariant c.in_err-so_far-2.ensures.bad)

pub loop-whole-preserved : goal.loop-whole-preserved
loop-whole-preserved c =
    let adds = c.in_ok-so_far-2.ensures.spelled in
    subst (λ (bs : List Batch). Spell (take (c.loop-whole.whole-index + 1) c.args.records.now) bs) (sym adds.added)
    (spell_more c.args.records.now c.loop-whole.so_far c.loop-whole.whole-index c.whole-item.result adds.batch
    c.loop-whole-test.true c.whole-item.is c.loop-whole.invariant adds.spelled)
