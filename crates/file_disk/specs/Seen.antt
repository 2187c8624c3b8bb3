-- A disk over files, as contracts see it (docs/formats/disk.md, "The disk").
use Rattle.disk_face.specs.View.{DiskView}
use Rattle.file_disk.specs.declared.file_disk.FileDisk.{FileDisk}
use Rattle.file_disk.specs.Flights.{file_view}

-- what the fields of a disk over files stand for
abbrev pub on_files : {R A B : Type 0} → FileDisk R A B → DiskView
on_files d = file_view d.primary d.secondary d.log.calls
