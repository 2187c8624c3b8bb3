-- Where the files of each side stand (docs/formats/log.md, "Segment names"; docs/formats/disk.md, "Tables").
use Rattle.std.specs.Prelude.{ℕ, List, ◌++◌, codes}
use Rattle.disk_face.specs.declared.Side.{Side}
use Rattle.disk_face.specs.declared.Side.TheVariants.{Primary, Secondary}
use Rattle.disk_face.specs.declared.FilePlace.TheVariants.{Segment, Table}
use Rattle.disk_face.specs.View.{Place}
use Rattle.disk_face.specs.Names.{seg_text, table_name_text}

-- the directory of a side
abbrev pub directory_text : Side → List ℕ
directory_text Primary = codes "./wal"
directory_text Secondary = codes "./wal_secondary"

-- the side in whose directory a file stands
abbrev pub side_of_file : Place → Side
side_of_file (Segment side name) = side
side_of_file (Table upto) = Primary

-- the name of a file in its directory
abbrev pub name_text : Place → List ℕ
name_text (Segment side name) = seg_text name
name_text (Table upto) = table_name_text upto

-- the path of a file
abbrev pub path_text : Place → List ℕ
path_text place = (directory_text (side_of_file place) ++ codes "/") ++ name_text place
