-- What comes before the segments are read (docs/formats/table.md, "The store").
use Rattle.std.specs.Prelude.{Bool, IsTrue}
use Rattle.disk_face.specs.View.{DiskView}
use Rattle.disk_face.specs.Image.{directories}
use Rattle.flush_table.specs.declared.beginning.Beginning.{Beginning}
use Rattle.flush_table.specs.Reading.{FindsUsed, least_read}
use Rattle.flush_table.specs.Asked.{ListsThenReads}

-- The calls made since are the listings, and then reads of tables down to the one that was found.
abbrev pub HasBegun : DiskView → DiskView → Beginning → Type 0
HasBegun old new begun = ListsThenReads (least_read begun.used) begun.tables begun.sides.primary begun.sides.secondary old new

-- The directories use the table that was found.
abbrev pub UsesOf : Bool → DiskView → Beginning → Type 0
UsesOf tells v begun = IsTrue tells → FindsUsed (directories v) begun.used
