-- Version by version.
use Rattle.std.proofs.Common.{List, ◌++◌, ◌∷◌, [], sym, ap, ◌∙◌, append_assoc}
use Rattle.memtable_shards.specs.Versions.{Version}
use Rattle.memtable_shards.proofs.part.find_waiting.Goals as goal

pub loop-version-preserved : goal.loop-version-preserved
loop-version-preserved c =
    let seen : List Version = c.loop-version.invariant.0 in (
      seen ++ c.in-Some.version.now ∷ [],
      c.loop-version.invariant.1 ∙ ap (λ (l : List Version). seen ++ l) c.in-Some.ensures.steps
          ∙ sym (append_assoc seen (c.in-Some.version.now ∷ []) c.next.new.self),
      c.newer_of-found.ensures seen (c.in-Some.version.now ∷ []) c.args.key.now c.args.below c.loop-version.invariant.2 c.find_in_one.ensures,
    )
