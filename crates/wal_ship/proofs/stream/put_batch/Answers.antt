-- The text is that of the batch alone.
use Rattle.std.proofs.Common.{◌++◌, ℕ, List, length, ap, ◌∙◌, arith}
use Rattle.batch_repr.specs.Written.{written}
use Rattle.batch_repr.proofs.Laws.{written_spells}
use Rattle.wal_ship.proofs.stream.put_batch.Goals as goal

pub put_frame-requires : goal.put_frame-requires
put_frame-requires c =
    omega (
      arith,
      (written_spells c.args.batch.now c.requires.fits c.requires.numbers).size,
      ap length (c.as_slice.ensures.value ∙ c.in_ok-push_batch.ensures ∙ ap (λ (t : List ℕ). t ++ written c.args.batch.now) c.clear.ensures.items),
    )
