-- What a crash leaves of the files of a disk in memory (docs/formats/disk.md, "Images").
use Rattle.std.specs.Prelude.{◌≡◌, List, [], ◌∷◌, ◌++◌, Option, IfSome, option_map}
use Rattle.std.specs.Option.{option_to_list}
use Rattle.disk_face.specs.Tables.{whole}
use Rattle.mem_disk.specs.declared.parts.MemFile.{MemFile}
use Rattle.mem_disk.specs.declared.picks.FilePick.{FilePick}
use Rattle.mem_disk.specs.Mem.{file_of}
use Rattle.mem_disk.specs.Picks.{left_of}

-- what a crash leaves of one file, if anything: the bytes that the pick leaves, as a whole file of the same place
pub record IsLeft (picks : List FilePick) (f : MemFile) (left : Option MemFile) : Type 0 where
  pub place : IfSome left (λ m. m.place ≡ f.place)
  pub bytes : option_map file_of left ≡ option_map whole (left_of picks f)

-- what a crash leaves of one file is after what was left before
abbrev pub IsOneMoreLeft : List FilePick → MemFile → List MemFile → List MemFile → Type 0
IsOneMoreLeft picks f before ms = (left : Option MemFile) × IsLeft picks f left × (ms ≡ before ++ option_to_list left)

-- what a crash leaves of files, one after another
abbrev pub AreLeft : List FilePick → List MemFile → List MemFile → Type 0
AreLeft picks [] ms = ms ≡ []
AreLeft picks (f ∷ fs) ms = (left : Option MemFile) × (rest : List MemFile) × IsLeft picks f left × AreLeft picks fs rest × (ms ≡ option_to_list left ++ rest)
