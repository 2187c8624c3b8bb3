use Rattle.std.proofs.Common.{◌≡◌, sym, subst, ◌∙◌}
use Rattle.disk_face.specs.declared.Side.TheVariants.{Primary, Secondary}
use Rattle.disk_face.specs.View.{Files, files}
use Rattle.disk_face.specs.Listing.{IsListing}
use Rattle.disk_face.proofs.Laws.{same_files}
use Rattle.wal_recovery.specs.Asking.{names_given}
use Rattle.wal_recovery.proofs.ReadsOnly.{lists_two, lists_one, only_two, only_one}
use Rattle.wal_recovery.proofs.listing.list_sides.Goals as goal

pub returns-in_err-primary-clause-asks : goal.returns-in_err-primary-clause-asks
returns-in_err-primary-clause-asks g c = lists_one (names_given c.names_on.result) (g.D.Disk.view c.args.disk.now)
    (g.D.Disk.view c.names_on.new.disk) c.names_on.ensures.asks

pub returns-in_err-secondary-clause-asks : goal.returns-in_err-secondary-clause-asks
returns-in_err-secondary-clause-asks g c =
    lists_two (names_given c.names_on.result) (names_given c.names_on-2.result) (g.D.Disk.view c.args.disk.now)
    (g.D.Disk.view c.names_on.new.disk) (g.D.Disk.view c.names_on-2.new.disk) c.names_on.ensures.asks c.names_on-2.ensures.asks

pub returns-clause-asks : goal.returns-clause-asks
returns-clause-asks g c =
    lists_two (names_given c.names_on.result) (names_given c.names_on-2.result) (g.D.Disk.view c.args.disk.now)
    (g.D.Disk.view c.names_on.new.disk) (g.D.Disk.view c.names_on-2.new.disk) c.names_on.ensures.asks c.names_on-2.ensures.asks

pub returns-in_err-primary-clause-only : goal.returns-in_err-primary-clause-only
returns-in_err-primary-clause-only g c = only_one (names_given c.names_on.result) (g.D.Disk.view c.args.disk.now)
    (g.D.Disk.view c.names_on.new.disk) c.names_on.ensures.asks

pub returns-in_err-secondary-clause-only : goal.returns-in_err-secondary-clause-only
returns-in_err-secondary-clause-only g c =
    only_two (names_given c.names_on.result) (names_given c.names_on-2.result) (g.D.Disk.view c.args.disk.now)
    (g.D.Disk.view c.names_on.new.disk) (g.D.Disk.view c.names_on-2.new.disk) c.names_on.ensures.asks c.names_on-2.ensures.asks

pub returns-clause-only : goal.returns-clause-only
returns-clause-only g c =
    only_two (names_given c.names_on.result) (names_given c.names_on-2.result) (g.D.Disk.view c.args.disk.now)
    (g.D.Disk.view c.names_on.new.disk) (g.D.Disk.view c.names_on-2.new.disk) c.names_on.ensures.asks c.names_on-2.ensures.asks

pub returns-clause-sides : goal.returns-clause-sides
returns-clause-sides g c = λ told.
    let old = g.D.Disk.view c.args.disk.now in
    let mid = g.D.Disk.view c.names_on.new.disk in
    let new = g.D.Disk.view c.names_on-2.new.disk in
    let first : files mid ≡ files old = same_files old mid c.in_ok-primary.ensures.same in
    let then : files new ≡ files mid = same_files mid new c.in_ok-secondary.ensures.same in
    record {
      primary = subst (λ (fs : Files). IsListing fs Primary c.in_ok-primary.primary) (sym (then ∙ first)) (c.in_ok-primary.ensures.names told);
      secondary = subst (λ (fs : Files). IsListing fs Secondary c.in_ok-secondary.secondary) (sym then) (c.in_ok-secondary.ensures.names told);
    }
