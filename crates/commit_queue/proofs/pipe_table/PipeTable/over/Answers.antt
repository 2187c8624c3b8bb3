use Rattle.std.proofs.Common.{◌≡◌, ◌∙◌, List, length, map, Some, sym, ap, subst}
use Rattle.memtable_shards.specs.Versions.{Version}
use Rattle.commit_queue.specs.declared.pipe_table.TableOpening.{TableOpening}
use Rattle.commit_queue.specs.Shards.{NumberedBelow}
use Rattle.commit_queue.proofs.Opens.{begins}
use Rattle.commit_queue.proofs.pipe_table.PipeTable.over.Goals as goal

pub new-made-requires : goal.new-made-requires
new-made-requires c = let o : TableOpening = record { base = c.args.base; shards = c.of.result } in
    let same : o.shards.value ≡ c.args.shards = c.of.ensures in
    begins o c.in_ok-slots.slots.items (ap length same ∙ c.requires.eight) (subst (NumberedBelow c.args.base) (sym same) c.requires.below)
    (c.in_ok-slots.ensures ∙ ap (λ (x : List (List Version)). map Some x) (sym same))
