-- The version of a key changes the list of its key's shard alone, and a range each list.
use Rattle.std.proofs.Common.{ℕ, List, [], ◌∷◌, ◌++◌, eqb, arith, sym, ◌∙◌, ap}
use Rattle.std.proofs.lemmas.Bool.{lt-ltb}
use Rattle.std.proofs.lemmas.Result.{on_ok_weaker}
use Rattle.memtable_shards.specs.declared.sharding.TheConstants.{SHARDS}
use Rattle.memtable_shards.specs.declared.waiting.Change.{Change}
use Rattle.memtable_shards.specs.Versions.{Version, shard_of, is_in}
use Rattle.memtable_shards.specs.Parts.{entry_of}
use Rattle.memtable_shards.proofs.Cutting.{key_in, by_shard_added, by_shard_all}
use Rattle.memtable_shards.proofs.pieces.add_version.Goals as goal

pub returns-in_default-clause-added : goal.returns-in_default-clause-added
returns-in_default-clause-added c =
    on_ok_weaker c.add_to_all.result (λ adds versions by.
    by_shard_all versions c.args.version c.args.lists.now c.add_to_all.new.lists by adds c.add_to_all.ensures.eight
    (λ k low. ap (λ (v : Version). is_in k v.entry) (sym c.version.view_is)
    ∙ ap (λ (t : Change). is_in k (entry_of t)) c.in_default.is ∙ lt-ltb k SHARDS low)) c.add_to_all.ensures.added

pub returns-clause-added : goal.returns-clause-added
returns-clause-added c versions by =
    by_shard_added versions c.args.version c.args.lists.now c.shard_index-shard.result c.index-lists-shard.result c.push_back.new.self by
    (λ k. ap (λ (v : Version). is_in k v.entry) (sym c.version.view_is)
    ∙ ap (λ (t : Change). is_in k (entry_of t)) c.in-Key.is ∙ key_in k c.in-Key.key c.in-Key.value
    ∙ ap (λ (n : ℕ). eqb n k) (sym (c.shard_index-shard.ensures.shard ∙ ap shard_of c.as_slice.ensures)))
    (omega (arith, c.shard_index-shard.ensures.within, c.requires.eight)) c.index-lists-shard.is
    (c.in_ok-push_back.ensures.items ∙ ap (λ (list : List Version). list ++ c.args.version ∷ []) (sym c.index-lists-shard.is))
