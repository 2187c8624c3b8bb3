-- When the chunks of an image were sent (docs/formats/disk.md, "Images").
use Rattle.std.specs.Prelude.{◌≡◌, ℕ, List, [], ◌∷◌, take, drop, Some}
use Rattle.disk_face.specs.Image.{log_of}
use Rattle.crc_chunk.specs.Chunk.{IsChunkOf}
use Rattle.mem_disk.specs.declared.parts.MemFile.{MemFile}
use Rattle.mem_disk.specs.declared.picks.FilePick.{FilePick}
use Rattle.mem_disk.specs.Mem.{file_of}
use Rattle.mem_disk.specs.Picks.{left_of}

-- a whole chunk of the log at that place was sent to it
abbrev pub IsSentAt : List ℕ → List ℕ → ℕ → ℕ → Type 0
IsSentAt bytes sent log at = (size : ℕ) → IsChunkOf bytes at log size → take size (drop at bytes) ≡ take size (drop at sent)

-- each whole chunk of the log in the bytes was sent to its place
abbrev pub AreChunksSent : List ℕ → List ℕ → ℕ → Type 0
AreChunksSent bytes sent log = (at : ℕ) → IsSentAt bytes sent log at

-- each whole chunk of its log, in what the picks leave of the file, was sent to its place
abbrev pub IsFileSent : List FilePick → MemFile → Type 0
IsFileSent picks f =
    (bytes : List ℕ) → left_of picks f ≡ Some bytes → AreChunksSent bytes (file_of f).sent (log_of f.place)

-- that of each file
abbrev pub AreFilesSent : List FilePick → List MemFile → Type 0
AreFilesSent picks [] = Unit {0}
AreFilesSent picks (f ∷ fs) = IsFileSent picks f × AreFilesSent picks fs
