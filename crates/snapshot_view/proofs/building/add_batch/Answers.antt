-- Each entry is taken under the number after those before it.
use Rattle.std.proofs.Common.{◌≡◌, ℕ, ◌<◌, List, length, take, get_or, sym, ap, ◌∙◌, subst, arith}
use Rattle.wal_base.specs.declared.entry.Entry.{Entry}
use Rattle.batch_repr.specs.Versions.{versions_from}
use Rattle.snapshot_view.specs.Building.{TakesVersions, TakesRanges}
use Rattle.snapshot_view.proofs.Taking.{one_counted, none_counted, entry_taken, range_taken, entries_below_next, takes_first, takes_first_range, all_taken}
use Rattle.snapshot_view.proofs.building.add_batch.Goals as goal
use Rattle.snapshot_view.proofs.building.add_batch.Goals.{then-branch, else-branch}

pub loop-entry-init : goal.loop-entry-init
loop-entry-init c = record {
  number = omega arith;
  keys = takes_first c.args.versions.now.versions c.args.batch.now.first;
  deletes = takes_first_range c.args.ranges.now c.args.batch.now.first;
}

pub add_entry-requires : goal.add_entry-requires
add_entry-requires c = entries_below_next c.args.versions.now.versions c.loop-entry.versions.versions c.args.batch.now.first c.loop-entry.number
    (take c.loop-entry.entry-index c.args.batch.now.entries) c.requires.below c.loop-entry.invariant.number c.loop-entry.invariant.keys

pub loop-entry-preserved : goal.loop-entry-preserved
loop-entry-preserved c =
    let entries : List Entry = c.args.batch.now.entries in
    let i : ℕ = c.loop-entry.entry-index in
    let entry : Entry = c.entry-item.result in
    let here : i < length entries = omega (arith, c.loop-entry-test.true, ap length c.as_slice-entry-items.ensures) in
    let is : entry ≡ get_or entries i entry = subst (λ (es : List Entry). entry ≡ get_or es i entry) c.as_slice-entry-items.ensures c.entry-item.is in
    record {
      number = elim c.if-branch.branch [
        | then-branch w ↦ omega (
          arith,
          w.number-is,
          c.loop-entry.invariant.number,
          one_counted entries i entry here is (sym c.in_ok-add_entry.ensures.counted ∙ w.if-branch.true),
        )
        | else-branch w ↦ omega (
          arith,
          w.number-is,
          c.loop-entry.invariant.number,
          none_counted entries i entry here is (sym c.in_ok-add_entry.ensures.counted ∙ w.if-branch.false),
        )
      ];
      keys = entry_taken entries i entry here is c.args.versions.now.versions c.loop-entry.versions.versions c.add_entry.new.versions.versions
          c.args.batch.now.first c.loop-entry.number c.loop-entry.invariant.number c.loop-entry.invariant.keys c.in_ok-add_entry.ensures.keys;
      deletes = range_taken entries i entry here is c.args.ranges.now c.loop-entry.ranges c.add_entry.new.ranges
          c.args.batch.now.first c.loop-entry.number c.loop-entry.invariant.number c.loop-entry.invariant.deletes c.in_ok-add_entry.ensures.deletes;
    }

pub returns-clause-keys : goal.returns-clause-keys
returns-clause-keys c =
    subst (λ (es : List Entry). TakesVersions c.args.versions.now.versions (versions_from c.args.batch.now.first es) c.loop-entry.versions.versions)
    (all_taken c.args.batch.now.entries c.loop-entry.entry-index
    (omega (arith, c.loop-entry-test.false, ap length c.as_slice-entry-items.ensures))) c.loop-entry.invariant.keys

pub returns-clause-deletes : goal.returns-clause-deletes
returns-clause-deletes c =
    subst (λ (es : List Entry). TakesRanges c.args.ranges.now (versions_from c.args.batch.now.first es) c.loop-entry.ranges)
    (all_taken c.args.batch.now.entries c.loop-entry.entry-index
    (omega (arith, c.loop-entry-test.false, ap length c.as_slice-entry-items.ensures))) c.loop-entry.invariant.deletes
