use Rattle.std.proofs.Common.{sym, subst}
use Rattle.disk_face.specs.Listing.{IsAscending, AreSegmentNames, IsListing}
use Rattle.mem_disk.specs.Mem.{files_held}
use Rattle.mem_disk.proofs.listing.list_files.Goals as goal
use Rattle.mem_disk.proofs.ListedFiles.{listing_of, listing_up, listing_named}

pub returns-clause-ascending : goal.returns-clause-ascending
returns-clause-ascending c = subst IsAscending (sym c.in_ok-names.ensures) (listing_up c.args.side c.args.files.now c.requires.ordered)

pub returns-clause-numbers : goal.returns-clause-numbers
returns-clause-numbers c = subst AreSegmentNames (sym c.in_ok-names.ensures) (listing_named c.args.side c.args.files.now)

pub returns-clause-listed : goal.returns-clause-listed
returns-clause-listed c = subst (IsListing (files_held c.args.files.now) c.args.side) (sym c.in_ok-names.ensures)
    (listing_of c.args.side c.args.files.now c.requires.ordered)
