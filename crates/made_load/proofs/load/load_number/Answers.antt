use Rattle.std.proofs.Common.{ℕ, ◌+◌, ◌*◌, ◌%◌, ◌^◌, sym, ap, ◌∙◌}
use Rattle.std.proofs.Math.Nat.{add-mod}
use Rattle.made_load.specs.declared.load.TheConstants.{LOAD_SEED_STEP, LOAD_BATCH_STEP}
use Rattle.made_load.specs.Load.{load_number}
use Rattle.made_load.proofs.load.load_number.Goals as goal

pub returns : goal.returns
unfolding load_number
returns c =
    ap (λ (i : ℕ). (c.args.seed * LOAD_SEED_STEP % 2 ^ 64 + i * LOAD_BATCH_STEP % 2 ^ 64) % 2 ^ 64) c.from-step.ensures
    ∙ sym (add-mod (c.args.seed * LOAD_SEED_STEP) (c.args.index * LOAD_BATCH_STEP) (2 ^ 64))
