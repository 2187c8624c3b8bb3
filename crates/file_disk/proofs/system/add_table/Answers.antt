use Rattle.std.specs.Ordering.{nat_cmp}
use Rattle.std.proofs.lemmas.Map.Views.{All-keys-insert_entry}
use Rattle.disk_face.specs.Listing.{IsTableNumber}
use Rattle.file_disk.proofs.system.add_table.Goals as goal

pub returns-in-Ok : goal.returns-in-Ok
returns-in-Ok g c =
    rw c.in-Ok.ensures.entries
    (All-keys-insert_entry nat_cmp c.in-Some.name.upto c.in-Some-2.len IsTableNumber c.args.tables.now.entries c.requires c.in-Some.ensures.some.1)
