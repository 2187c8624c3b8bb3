-- The laws of a disk without files (docs/formats/disk.md, "The disk").
use Rattle.std.specs.Prelude.{◌≡◌, true, false, None, Some, [], IsSome, Contains}
use Rattle.disk_face.specs.View.{Place, File, IsFiniteFiles}
use Rattle.disk_face.specs.Image.{IsSound}

no_place : (p : Place) → IsSome {T = File} None → Contains [] p
no_place p is = let no : false ≡ true = is in cc

-- the list of its places is empty
pub no_files : IsFiniteFiles (λ p. None)
no_files = ([], no_place)

-- where no file is, nothing has to be sound
pub no_sound : (p : Place) (f : File) → None ≡ Some f → IsSound p f
no_sound p f is = cc
