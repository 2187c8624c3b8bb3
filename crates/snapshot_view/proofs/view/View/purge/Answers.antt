-- Each number that is shown is a mark.
use Rattle.std.proofs.Common.{subst}
use Rattle.arena_list.specs.Marks.{KeepsMarked}
use Rattle.snapshot_view.specs.Views.{View, numbers_shown}
use Rattle.snapshot_view.proofs.Keeping.{purged, kept_for_shown}
use Rattle.snapshot_view.proofs.view.View.purge.Goals as goal

pub invariant_of-self : goal.invariant_of-self
invariant_of-self c =
    let old : View = record {
      batches = c.self.inside.batches.value;
      floor = c.self.inside.floor;
      next = c.self.inside.next;
      holds = c.self.inside.holds.items;
      versions = c.self.inside.versions.versions;
    } in
    purged old c.self.inside.ranges c.self.inside.marks c.self.invariant c.keep_for-removed.new.self.versions c.keep_for-removed.ensures.kept

pub returns-clause-kept : goal.returns-clause-kept
returns-clause-kept c =
    let old : View = record {
      batches = c.self.inside.batches.value;
      floor = c.self.inside.floor;
      next = c.self.inside.next;
      holds = c.self.inside.holds.items;
      versions = c.self.inside.versions.versions;
    } in
    subst (λ (v : View). KeepsMarked v.versions (numbers_shown v) c.keep_for-removed.new.self.versions) c.self.view_is
    (kept_for_shown old c.self.inside.ranges c.self.inside.marks c.self.invariant c.keep_for-removed.new.self.versions c.keep_for-removed.ensures.kept)
