-- The last batch ends where all of them do.
use Rattle.std.proofs.Common.{◌≡◌, ◌-◌, List, length, slice_get, Some, sym, ◌∙◌, arith}
use Rattle.std.proofs.lemmas.Option.{slice_get_within, get_or_from_slice_get}
use Rattle.batch_repr.specs.declared.batch.Batch.{Batch}
use Rattle.snapshot_view.proofs.Rows.{ends_in_range, last_end, no_end}
use Rattle.snapshot_view.proofs.building.end_of_batches.Goals as goal

pub end-requires : goal.end-requires
end-requires c =
    let batches : List Batch = c.args.batches.now in
    let batch : Batch = c.in-Some.batch.now in
    let at : slice_get batches (length batches - 1) ≡ Some batch = sym c.in-Some.ensures.value in
    ends_in_range batches (length batches - 1) batch (slice_get_within batches (length batches - 1) batch at)
    (sym (get_or_from_slice_get batches (length batches - 1) batch batch at)) c.args.floor c.requires

pub returns-in-Some : goal.returns-in-Some
returns-in-Some c =
    let batches : List Batch = c.args.batches.now in
    let batch : Batch = c.in-Some.batch.now in
    let at : slice_get batches (length batches - 1) ≡ Some batch = sym c.in-Some.ensures.value in
    c.end.ensures ∙ last_end batches batch c.args.floor (omega (arith, slice_get_within batches (length batches - 1) batch at))
    (sym (get_or_from_slice_get batches (length batches - 1) batch batch at))

pub returns-in-None : goal.returns-in-None
returns-in-None c = no_end c.args.batches.now c.args.floor (omega (arith, c.in-None.ensures.item))
