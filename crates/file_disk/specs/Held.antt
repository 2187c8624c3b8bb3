-- Which file a directory holds open, and how an operation comes to its file (docs/formats/log.md, "Segment names").
use Rattle.std.specs.Prelude.{◌≡◌, ℕ, List, Option, Some}
use Rattle.std.specs.Io.KnownBytes.{Appends}
use Rattle.disk_face.specs.View.{Place}
use Rattle.file_disk.specs.declared.directory.Target.{Target}
use Rattle.file_disk.specs.declared.directory.Target.TheVariants.{Open, Path}
use Rattle.file_disk.specs.declared.directory.Task.{Task}
use Rattle.file_disk.specs.declared.directory.Task.TheVariants.{Create, Append, Sync}
use Rattle.file_disk.specs.declared.directory.Started.{Started}
use Rattle.file_disk.specs.declared.directory.Directory.{Directory}
use Rattle.file_disk.specs.Paths.{path_text}

-- this is the file of that place, held open
abbrev pub IsHeld : {F : Type 0} → Directory F → Place → F → Type 0
IsHeld directory place file = directory.held ≡ Some (record { place = place; file = file })

-- the file of that place is held open
abbrev pub HoldsOpen : {F : Type 0} → Directory F → Place → Type 0
HoldsOpen {F} directory place = (file : F) × IsHeld directory place file

-- the file of that place is not held open
abbrev pub LetsGo : {F : Type 0} → Directory F → Place → Type 0
LetsGo directory place = HoldsOpen directory place → ⊥

-- the same file is held open, or none as before
abbrev pub HoldsTheSame : {F : Type 0} → Directory F → Directory F → Type 0
HoldsTheSame old new = new.held ≡ old.held

-- the file of that place is the one that was held open, or if that is another's, the one at its path
abbrev pub LeadsTo : {F : Type 0} → Directory F → Place → Target F → Type 0
LeadsTo directory place (Open file) = IsHeld directory place file
LeadsTo directory place (Path path) = (path ≡ path_text place) × LetsGo directory place

-- an open file, and no path
abbrev pub IsOpen : {F : Type 0} → Target F → Type 0
IsOpen (Open file) = Unit {0}
IsOpen (Path path) = ⊥

-- the task is done to the file of that place
abbrev pub WorksOn : {F : Type 0} → Directory F → Place → Task F → Type 0
WorksOn directory place (Create path) = path ≡ path_text place
WorksOn directory place (Append target bytes) = LeadsTo directory place target
WorksOn directory place (Sync target) = LeadsTo directory place target

-- the operation comes to the file of its place
abbrev pub FindsItsFile : {F : Type 0} → Directory F → Started F → Type 0
FindsItsFile directory started = WorksOn directory started.place started.task

-- a file that was made, written, or synced while it was open is held open once that is done
abbrev pub HoldsAfter : {F : Type 0} → Directory F → Directory F → Place → Task F → Type 0
HoldsAfter old new place (Create path) = HoldsOpen new place
HoldsAfter old new place (Append target bytes) = HoldsOpen new place
HoldsAfter old new place (Sync (Open file)) = HoldsOpen new place
HoldsAfter old new place (Sync (Path path)) = HoldsTheSame old new

-- where the file was held open, the bytes that it is known to have grew by these
abbrev pub GrewOpen : {F : Type 0} → (F → Option (List ℕ)) → Target F → F → List ℕ → Type 0
GrewOpen contents (Open file) grown bytes = Appends (contents file) (contents grown) bytes
GrewOpen contents (Path path) grown bytes = Unit {0}
