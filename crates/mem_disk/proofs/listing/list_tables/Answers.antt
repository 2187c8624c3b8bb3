use Rattle.std.proofs.Common.{sym, subst}
use Rattle.disk_face.specs.Listing.{AreTablesAscending, AreTableNumbers, IsTableListing}
use Rattle.mem_disk.specs.Mem.{files_held}
use Rattle.mem_disk.proofs.ListedTables.{listing_of, listing_up, listing_numbers}
use Rattle.mem_disk.proofs.listing.list_tables.Goals as goal

pub returns-clause-ascending : goal.returns-clause-ascending
returns-clause-ascending c = subst AreTablesAscending (sym c.in_ok-tables.ensures) (listing_up c.args.files.now c.requires.ordered)

pub returns-clause-numbers : goal.returns-clause-numbers
returns-clause-numbers c = subst AreTableNumbers (sym c.in_ok-tables.ensures) (listing_numbers c.args.files.now)

pub returns-clause-listed : goal.returns-clause-listed
returns-clause-listed c = subst (IsTableListing (files_held c.args.files.now)) (sym c.in_ok-tables.ensures)
    (listing_of c.args.files.now c.requires.ordered)
