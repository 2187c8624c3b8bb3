use Rattle.std.proofs.Common.{◌≡◌, ℕ, ◌∙◌, ap, arith}
use Rattle.publish_core.specs.declared.seat.Stage.TheVariants.{Out}
use Rattle.publish_core.specs.Machine.{renamed}
use Rattle.publish_core.specs.Seated.{renamed_owner}
use Rattle.publish_core.specs.Kept.{kept_state}
use Rattle.publish_core.proofs.Seated.{pass_written, read_at}
use Rattle.publish_core.proofs.state.KeptState.pass.Goals as goal

pub returns-then-batch-len-clause-passed : goal.returns-then-batch-len-clause-passed
returns-then-batch-len-clause-passed c =
    let s = c.args.self.now in let i : ℕ = c.args.batch in let note : ℕ = c.args.note in let into : ℕ = c.args.into in
    let st : c.renamed_stage.result ≡ renamed note into ((kept_state s).stage i) =
    c.renamed_stage.ensures ∙ ap (renamed note into) (read_at s.stages.items i c.index.result.now Out (omega arith) c.index.ensures) in
    let ow : c.renamed_seat.result ≡ renamed_owner note into ((kept_state s).owner i) =
    c.renamed_seat.ensures
    ∙ ap (renamed_owner note into) (read_at s.owners.items i c.index-then-batch-len.result.now 0 (omega arith) c.index-then-batch-len.ensures) in
    pass_written (kept_state s) s.stages.items s.owners.items i _ _ _ _ (omega arith) (omega arith) st ow
