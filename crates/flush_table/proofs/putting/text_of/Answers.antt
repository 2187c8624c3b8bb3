-- The live keys of the batches fit a table.
use Rattle.std.proofs.Common.{◌≤◌, List, length, refl, sym, subst, ◌∙◌}
use Rattle.std.proofs.lemmas.List.{length-map}
use Rattle.batch_repr.specs.declared.batch.Batch.{Batch}
use Rattle.batch_repr.specs.Batches.{count_of, entries_in}
use Rattle.text_lines.specs.Holding.{held_keys, shown}
use Rattle.text_lines.specs.Store.{IsStoreOf}
use Rattle.table_text.specs.Tables.{table_with}
use Rattle.flush_table.proofs.MakesTable.{makes_table}
use Rattle.flush_table.proofs.putting.text_of.Goals as goal

pub put_table_text-requires : goal.put_table_text-requires
put_table_text-requires c =
    let live = held_keys c.in_ok-live.live in
    makes_table c.args.next c.args.batches live c.requires (subst (λ (l : List Batch). IsStoreOf l live) c.as_slice.ensures c.in_ok-live.ensures.store)
    (subst (λ (l : List Batch). length live ≤ count_of (entries_in l)) c.as_slice.ensures c.in_ok-live.ensures.few)

pub returns : goal.returns
returns c =
    let live = held_keys c.in_ok-live.live in
    let store = subst (λ (l : List Batch). IsStoreOf l live) c.as_slice.ensures c.in_ok-live.ensures.store in
    record {
      held = table_with c.args.next live;
      of = record {
        is = makes_table c.args.next c.args.batches live c.requires store
            (subst (λ (l : List Batch). length live ≤ count_of (entries_in l)) c.as_slice.ensures c.in_ok-live.ensures.few);
        next_is = refl;
        store = store;
      };
      text_is = c.in_ok-text.ensures;
      keys_is = c.len.ensures.len ∙ sym (length-map c.in_ok-live.live.entries shown);
    }
