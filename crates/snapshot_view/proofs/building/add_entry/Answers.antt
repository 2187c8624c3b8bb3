-- Each entry leaves a version of its key, a range delete, or nothing.
use Rattle.std.proofs.Common.{◌≡◌, ℕ, ◌∷◌, [], List, Some, None, sym, subst, ap, ◌∙◌}
use Rattle.wal_base.specs.declared.entry.Entry.{Entry}
use Rattle.wal_base.specs.declared.entry.Entry.TheVariants.{Set, Delete, RangeDelete}
use Rattle.batch_repr.specs.Versions.{versions_from}
use Rattle.range_cover.specs.declared.mark.RangeMark.{RangeMark}
use Rattle.snapshot_view.specs.Building.{TakesVersions, TakesRanges}
use Rattle.snapshot_view.proofs.Taking.{takes_change, change_takes_no_range, takes_range, range_takes_no_change, note_takes_no_change, note_takes_no_range}
use Rattle.snapshot_view.proofs.building.add_entry.Goals as goal

pub returns-in_ok-add_version-in-Set-clause-keys : goal.returns-in_ok-add_version-in-Set-clause-keys
returns-in_ok-add_version-in-Set-clause-keys c =
    let is : c.args.entry.now ≡ Set c.in_ok-share-in-Set.field-0 c.in_ok-value-in-Set.value =
    c.in-Set.is ∙ ap (λ (v : List ℕ). Set c.in-Set.key v) (sym c.in_ok-value-in-Set.ensures)
    ∙ ap (λ (k : List ℕ). Set k c.in_ok-value-in-Set.value) (sym c.in_ok-share-in-Set.ensures) in
    subst (λ (e : Entry). TakesVersions c.args.versions.now.versions (versions_from c.args.number (e ∷ [])) c.add_version.new.versions.versions) (sym is)
    (takes_change c.args.versions.now.versions c.add_version.new.versions.versions c.args.number c.in_ok-share-in-Set.field-0
    (Some c.in_ok-value-in-Set.value) c.in_ok-add_version-in-Set.ensures)

pub returns-in_ok-add_version-in-Set-clause-deletes : goal.returns-in_ok-add_version-in-Set-clause-deletes
returns-in_ok-add_version-in-Set-clause-deletes c =
    subst (λ (e : Entry). TakesRanges c.args.ranges.now (versions_from c.args.number (e ∷ [])) c.args.ranges.now) (sym c.in-Set.is)
    (change_takes_no_range c.args.ranges.now c.args.number c.in-Set.key (Some c.in-Set.value))

pub returns-in_ok-add_version-in-Delete-clause-keys : goal.returns-in_ok-add_version-in-Delete-clause-keys
returns-in_ok-add_version-in-Delete-clause-keys c =
    let is : c.args.entry.now ≡ Delete c.in_ok-share-in-Delete.field-0 =
    c.in-Delete.is ∙ ap (λ (k : List ℕ). Delete k) (sym c.in_ok-share-in-Delete.ensures) in
    subst (λ (e : Entry). TakesVersions c.args.versions.now.versions (versions_from c.args.number (e ∷ []))
    c.add_version-in-Delete.new.versions.versions) (sym is)
    (takes_change c.args.versions.now.versions c.add_version-in-Delete.new.versions.versions c.args.number c.in_ok-share-in-Delete.field-0
    None c.in_ok-add_version-in-Delete.ensures)

pub returns-in_ok-add_version-in-Delete-clause-deletes : goal.returns-in_ok-add_version-in-Delete-clause-deletes
returns-in_ok-add_version-in-Delete-clause-deletes c =
    subst (λ (e : Entry). TakesRanges c.args.ranges.now (versions_from c.args.number (e ∷ [])) c.args.ranges.now) (sym c.in-Delete.is)
    (change_takes_no_range c.args.ranges.now c.args.number c.in-Delete.key None)

pub returns-in_ok-add-in-RangeDelete-clause-keys : goal.returns-in_ok-add-in-RangeDelete-clause-keys
returns-in_ok-add-in-RangeDelete-clause-keys c =
    subst (λ (e : Entry). TakesVersions c.args.versions.now.versions (versions_from c.args.number (e ∷ [])) c.args.versions.now.versions)
    (sym c.in-RangeDelete.is)
    (range_takes_no_change c.args.versions.now.versions c.args.number c.in-RangeDelete.start c.in-RangeDelete.end)

pub returns-in_ok-add-in-RangeDelete-clause-deletes : goal.returns-in_ok-add-in-RangeDelete-clause-deletes
returns-in_ok-add-in-RangeDelete-clause-deletes c =
    let is : c.args.entry.now ≡ RangeDelete c.in_ok-share-in-RangeDelete.field-0 c.in_ok-share-in-RangeDelete-2.field-0 =
    c.in-RangeDelete.is ∙ ap (λ (k : List ℕ). RangeDelete k c.in-RangeDelete.end) (sym c.in_ok-share-in-RangeDelete.ensures)
    ∙ ap (λ (k : List ℕ). RangeDelete c.in_ok-share-in-RangeDelete.field-0 k) (sym c.in_ok-share-in-RangeDelete-2.ensures) in
    let mark : RangeMark = record {
      start = c.in_ok-share-in-RangeDelete.field-0;
      end = c.in_ok-share-in-RangeDelete-2.field-0;
      number = c.args.number;
    } in
    subst (λ (e : Entry). TakesRanges c.args.ranges.now (versions_from c.args.number (e ∷ [])) c.add.new.self) (sym is)
    (takes_range c.args.ranges.now c.add.new.self mark c.in_ok-add-in-RangeDelete.ensures.added)

pub returns-in-Note-clause-keys : goal.returns-in-Note-clause-keys
returns-in-Note-clause-keys c =
    subst (λ (e : Entry). TakesVersions c.args.versions.now.versions (versions_from c.args.number (e ∷ [])) c.args.versions.now.versions) (sym c.in-Note.is)
    (note_takes_no_change c.args.versions.now.versions c.args.number c.in-Note.bytes)

pub returns-in-Note-clause-deletes : goal.returns-in-Note-clause-deletes
returns-in-Note-clause-deletes c =
    subst (λ (e : Entry). TakesRanges c.args.ranges.now (versions_from c.args.number (e ∷ [])) c.args.ranges.now) (sym c.in-Note.is)
    (note_takes_no_range c.args.ranges.now c.args.number c.in-Note.bytes)
