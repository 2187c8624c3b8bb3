-- What is inserted is the version, by its parts.
use Rattle.std.proofs.Common.{◌≡◌, ap, sym, ◌∙◌, subst}
use Rattle.arena_list.specs.Versions.{version_with}
use Rattle.memtable_shards.specs.declared.waiting.Change.{Change}
use Rattle.memtable_shards.specs.Versions.{Version}
use Rattle.memtable_shards.specs.Parts.{settled_in, of_key, entry_of, HasOneMore}
use Rattle.memtable_shards.proofs.Settling.{not_held, key_more}
use Rattle.memtable_shards.proofs.moving.put_key.Goals as goal

pub insert-requires : goal.insert-requires
insert-requires c = record {
  absent = not_held c.args.index.now.versions c.requires.absent.0 c.in-Key.key c.version.inside.number
      (λ v h. (λ (same : v.number ≡ c.version.inside.number). c.requires.absent.1 v h (same ∙ ap (λ (x : Version). x.number) c.version.view_is)));
}

pub returns : goal.returns
returns c ranges =
    let whole : of_key (version_with c.in-Key.key c.version.inside.number c.in-Key.value) ≡ c.args.version =
    ap (λ (t : Change). record { entry = entry_of t; number = c.version.inside.number }) (sym c.in-Key.is) ∙ c.version.view_is in
    subst (λ (v : Version). HasOneMore (settled_in c.args.index.now.versions ranges) v (settled_in c.insert.new.self.versions ranges)) whole
    (key_more c.args.index.now.versions c.insert.new.self.versions ranges
    (version_with c.in-Key.key c.version.inside.number c.in-Key.value) c.in-Ok.ensures.added)
