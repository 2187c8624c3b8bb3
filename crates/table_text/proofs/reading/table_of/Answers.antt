use Rattle.std.proofs.Common.{◌≡◌, ◌∷◌, rules}
use Rattle.table_text.proofs.RecordRows.{no_head, no_batches, no_sets, of_table}
use Rattle.table_text.proofs.reading.table_of.Goals as goal

pub returns-in_default-next_in : goal.returns-in_default-next_in
returns-in_default-next_in c =
    let whole : c.args.records.now ≡ c.in-Some.head.now ∷ c.in-Some.sets.now = search rules in
    no_head c.args.records.now c.in-Some.head.now c.in-Some.sets.now c.as_slice.result.now whole c.as_slice.ensures c.in_default-next_in.ensures.none

pub returns-in_default-2 : goal.returns-in_default-2
returns-in_default-2 c =
    let whole : c.args.records.now ≡ c.in-Some.head.now ∷ c.in-Some.sets.now = search rules in
    no_batches c.args.records.now c.in-Some.head.now c.in-Some.sets.now c.as_slice.result.now whole c.as_slice.ensures
    (rw c.in_default-2.is at c.in_ok-batches.ensures)

pub returns-then-not-branch : goal.returns-then-not-branch
returns-then-not-branch c =
    let whole : c.args.records.now ≡ c.in-Some.head.now ∷ c.in-Some.sets.now = search rules in
    no_sets c.args.records.now c.in-Some.head.now c.in-Some.sets.now c.as_slice.result.now c.in-Some-next_in.next c.in-Some-2.batches whole c.as_slice.ensures
    c.in-Some-next_in.ensures.some (rw c.in-Some-2.is at c.in_ok-batches.ensures)
    (rw c.as_slice-2.ensures at (rw c.if-not-branch.true at c.in_ok-are_sets.ensures))

pub returns : goal.returns
returns c =
    let whole : c.args.records.now ≡ c.in-Some.head.now ∷ c.in-Some.sets.now = search rules in
    of_table c.args.records.now c.in-Some.head.now c.in-Some.sets.now c.as_slice.result.now c.in-Some-next_in.next c.in-Some-2.batches whole c.as_slice.ensures
    c.in-Some-next_in.ensures.some (rw c.as_slice-2.ensures at (rw c.if-not-branch.false at c.in_ok-are_sets.ensures))
