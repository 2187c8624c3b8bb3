-- What a pick names of the images of the files (docs/formats/disk.md, "Images").
use Rattle.std.specs.Prelude.{◌≡◌, ◌↔◌, ℕ, Bool, IsTrue, List, [], ◌++◌, ◌||◌, take, Option, Some, None, option_map, option_and_then, unwrap_or, if◌then◌else◌}
use Rattle.std.specs.List.{find}
use Rattle.disk_face.specs.View.{Place, segment, File, Files, Dirs}
use Rattle.disk_face.specs.Image.{IsImage, IsChanceFree, as_read}
use Rattle.disk_face.specs.Tables.{whole}
use Rattle.crc_chunk.specs.Chunk.{IsChunkOf}
use Rattle.mem_disk.specs.declared.parts.MemFile.{MemFile}
use Rattle.mem_disk.specs.declared.picks.FilePick.{FilePick}
use Rattle.mem_disk.specs.Mem.{is_at, is_table, file_of, files_held}

-- the tail that the first pick of that file gives. None where no pick names the file, or that one gives none
abbrev pub tail_of : List FilePick → Place → Option (List ℕ)
tail_of picks p = option_and_then (λ (pick : FilePick). pick.tail) (find (λ (pick : FilePick). is_at (segment pick.side pick.name) p) picks)

-- whether a crash leaves the file as it reads: a table, or a file whose removal failed
abbrev pub stands_as_read : Place → File → Bool
stands_as_read p f = is_table p || f.leaving

-- What a pick leaves of a file that does not stand as it reads: of a created one its stable bytes and the tail, and of one that
-- was only started the tail, if the pick has one. No other file is left.
abbrev pub picked : Place → Option File → Option (List ℕ) → Option (List ℕ)
picked p None tail = None
picked p (Some f) tail = if stands_as_read p f then as_read p (Some f) else if f.created then Some (take f.stable f.sent ++ unwrap_or tail []) else tail

-- the directories that the picks leave of the files
abbrev pub picked_dirs : Files → List FilePick → Dirs
picked_dirs files picks p = picked p (files p) (tail_of picks p)

-- directories as files that stand whole
abbrev pub whole_files : Dirs → Files
whole_files dirs p = option_map whole (dirs p)

-- each file that a crash leaves as it reads stands so
abbrev pub StandAsRead : Files → Dirs → Type 0
StandAsRead files dirs = (p : Place) (f : File) → files p ≡ Some f → IsTrue (stands_as_read p f) → dirs p ≡ as_read p (Some f)

-- for each image of the files in which tables, and files whose removal failed, stand as they read there are picks that name it
abbrev pub EachImageHasPicks : Files → Type 0
EachImageHasPicks files = (dirs : Dirs) → IsImage files dirs → StandAsRead files dirs → (picks : List FilePick) × ((p : Place) → picked_dirs files picks p ≡ dirs p)

-- the picks leave no whole chunk of the log of its file that was not sent to its place
abbrev pub LeaveNoChance : Files → List FilePick → Type 0
LeaveNoChance files picks = IsChanceFree IsChunkOf files (picked_dirs files picks)

-- the answer is whether the picks leave none
abbrev pub DecidesChance : Files → List FilePick → Bool → Type 0
DecidesChance files picks free = IsTrue free ↔ LeaveNoChance files picks

-- what the picks leave of the files, as files that stand whole
abbrev pub LeaveWhole : List MemFile → List FilePick → List MemFile → Type 0
LeaveWhole files picks left = (p : Place) → files_held left p ≡ whole_files (picked_dirs (files_held files) picks) p

-- what the picks leave of one file
abbrev pub left_of : List FilePick → MemFile → Option (List ℕ)
left_of picks f = picked f.place (Some (file_of f)) (tail_of picks f.place)

-- the tail that the picks put after what a crash keeps of the file
abbrev pub tail_left : List FilePick → MemFile → Option (List ℕ)
tail_left picks f = if stands_as_read f.place (file_of f) then None else tail_of picks f.place

-- a file that stands as it reads gets no tail
abbrev pub MayHave : MemFile → Option (List ℕ) → Type 0
MayHave file tail = IsTrue (stands_as_read file.place (file_of file)) → tail ≡ None

-- so many bytes of the file are what a read finds
abbrev pub ReadsFront : MemFile → ℕ → Type 0
ReadsFront file len = as_read file.place (Some (file_of file)) ≡ Some (take len file.sent.items)

-- a crash that leaves the tail leaves nothing of the file
abbrev pub LeavesNone : MemFile → Option (List ℕ) → Type 0
LeavesNone file tail = picked file.place (Some (file_of file)) tail ≡ None

-- a crash that leaves the tail leaves so many bytes of the file in front of it
abbrev pub LeavesFront : MemFile → Option (List ℕ) → ℕ → Type 0
LeavesFront file tail kept = picked file.place (Some (file_of file)) tail ≡ Some (take kept file.sent.items ++ unwrap_or tail [])

-- the bytes with the tail, if there is one, after them
abbrev pub IsWithTail : List ℕ → Option (List ℕ) → List ℕ → Type 0
IsWithTail old tail new = new ≡ old ++ unwrap_or tail []
