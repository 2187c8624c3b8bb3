-- What is added is the version, by its parts.
use Rattle.std.proofs.Common.{◌≡◌, ℕ, true, List, refl, ap, sym, ◌∙◌, subst}
use Rattle.wal_base.specs.declared.entry.Entry.TheVariants.{RangeDelete}
use Rattle.range_cover.specs.declared.mark.RangeMark.{RangeMark}
use Rattle.memtable_shards.specs.declared.waiting.Change.{Change}
use Rattle.memtable_shards.specs.Versions.{Version}
use Rattle.memtable_shards.specs.Parts.{settled_in, of_range, entry_of, HasOneMore}
use Rattle.memtable_shards.specs.Moving.{is_range}
use Rattle.memtable_shards.proofs.Settling.{range_more}
use Rattle.memtable_shards.proofs.moving.put_range.Goals as goal

pub returns-in_ok-add-in-Range-clause-put : goal.returns-in_ok-add-in-Range-clause-put
returns-in_ok-add-in-Range-clause-put c =
    let mark : RangeMark = record { start = c.in_ok-share-in-Range.field-0; end = c.in_ok-share-in-Range-2.field-0; number = c.version.inside.number } in
    let whole : of_range mark ≡ c.args.version.now =
    ap (λ (s : List ℕ). record { entry = RangeDelete s c.in_ok-share-in-Range-2.field-0; number = c.version.inside.number }) c.in_ok-share-in-Range.ensures
    ∙ ap (λ (e : List ℕ). record { entry = RangeDelete c.in-Range.start e; number = c.version.inside.number }) c.in_ok-share-in-Range-2.ensures
    ∙ ap (λ (t : Change). record { entry = entry_of t; number = c.version.inside.number }) (sym c.in-Range.is) ∙ c.version.view_is in (
      subst (λ (v : Version). is_range v.entry ≡ true) whole refl,
      λ index. subst (λ (v : Version). HasOneMore (settled_in index c.args.ranges.now) v (settled_in index c.add.new.self)) whole
          (range_more index c.args.ranges.now c.add.new.self mark c.in_ok-add-in-Range.ensures.added),
    )
