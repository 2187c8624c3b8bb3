use Rattle.std.proofs.Common.{ℕ, List, refl, subst}
use Rattle.block_record.specs.declared.records.Rec.{Rec}
use Rattle.block_record.specs.ReadOut.{ReadsOut}
use Rattle.wal_recovery.specs.Recovering.{Spell}
use Rattle.wal_recovery.proofs.merging.report_of.Goals as goal

pub returns-in-Some-clause-bad : goal.returns-in-Some-clause-bad
returns-in-Some-clause-bad c =
    let out = c.in_ok-out.out in
    let bytes : List ℕ = c.args.bytes.items in (
      refl,
      refl,
      c.in-Some.ensures.refused.0,
      record {
        read = out;
        reads = subst (λ (n : ℕ). ReadsOut bytes n out) c.log-log.ensures c.in_ok-out.ensures;
        shown = c.in-Some.ensures.refused.1;
        all = c.in-Ok.batches;
        spelled = subst (λ (r : List Rec). Spell r c.in-Ok.batches) c.as_slice.ensures c.in-Ok.ensures.spelled;
      },
    )
