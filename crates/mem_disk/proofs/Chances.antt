-- When the chunks of an image were sent: at one place, in one file, and in all files.
use Rattle.std.proofs.Common.{◌≡◌, ℕ, ◌<◌, Bool, true, false, List, [], ◌∷◌, length, take, drop, Option, Some, None, sym, ap, subst, refl, ◌∙◌, arith}
use Rattle.std.specs.Prelude.{IsTrue, ◌↔◌}
use native.Mathlib.Decide.{dec_le}
use Rattle.disk_face.specs.View.{Place, File}
use Rattle.disk_face.specs.Image.{log_of, IsChanceFree}
use Rattle.crc_chunk.specs.Chunk.{IsChunkOf}
use Rattle.mem_disk.specs.declared.parts.MemFile.{MemFile}
use Rattle.mem_disk.specs.declared.picks.FilePick.{FilePick}
use Rattle.mem_disk.specs.Finite.{is_at_only}
use Rattle.mem_disk.specs.Mem.{is_at, file_of, files_held, AreInOrder}
use Rattle.mem_disk.specs.Picks.{tail_of, picked, left_of, picked_dirs}
use Rattle.mem_disk.specs.Sent.{IsSentAt, AreChunksSent, IsFileSent, AreFilesSent}
use Rattle.crc_chunk.proofs.Laws.{chunk_within, one_size}
use Rattle.mem_disk.proofs.Held.{held_here, held_skip, behind_absent}
use Rattle.mem_disk.proofs.Orders.{Ascend, ordered_open}

-- at the place of a chunk, its bytes are all that is asked
pub sent_where_same : (bytes sent : List ℕ) (log at size : ℕ) (same : Bool) → IsChunkOf bytes at log size
    → (IsTrue same ↔ (take size (drop at bytes) ≡ take size (drop at sent))) → IsTrue same ↔ IsSentAt bytes sent log at
sent_where_same bytes sent log at size same here is =
    ((λ t n h. subst (λ (m : ℕ). take m (drop at bytes) ≡ take m (drop at sent)) (one_size here h) (is.0 t)), (λ all. is.1 (all size here)))

-- after the bytes no chunk stands
pub sent_within : (bytes sent : List ℕ) (log : ℕ) → ((at : ℕ) → at < length bytes → IsSentAt bytes sent log at) → AreChunksSent bytes sent log
sent_within bytes sent log below at = elim (dec_le (length bytes) at) [
  | yes le ↦ λ size h. let w = chunk_within h in absurd (omega (arith, le, w.0, w.1))
  | no h ↦ below at (omega (arith, h))
]

-- a file that is held is one of the list, and its chunks were sent
held_sent : (picks : List FilePick) (fs : List MemFile) (p : Place) (f : File) → AreFilesSent picks fs → files_held fs p ≡ Some f
    → (m : MemFile) × (p ≡ m.place) × (f ≡ file_of m) × IsFileSent picks m
held_sent picks [] p f all is = cc
held_sent picks (x ∷ xs) p f all is = go (is_at x.place p) refl (held_sent picks xs p f all.1)
  where
    go : (b : Bool) → is_at x.place p ≡ b → (files_held xs p ≡ Some f → (m : MemFile) × (p ≡ m.place) × (f ≡ file_of m) × IsFileSent picks m)
        → (m : MemFile) × (p ≡ m.place) × (f ≡ file_of m) × IsFileSent picks m
    go true at deeper = let z : Some (file_of x) ≡ Some f = rw at at is in (x, is_at_only x.place p at, cc, all.0)
    go false at deeper = deeper (rw at at is)

free_where_sent : (picks : List FilePick) (fs : List MemFile) → AreFilesSent picks fs
    → IsChanceFree IsChunkOf (files_held fs) (picked_dirs (files_held fs) picks)
free_where_sent picks fs all p f bytes at size is left chunk =
    let m = held_sent picks fs p f all is in
    let left_is : picked p (Some f) (tail_of picks p) ≡ Some bytes = ap (λ (o : Option File). picked p o (tail_of picks p)) (sym is) ∙ left in
    let left_there : left_of picks m.0 ≡ Some bytes = subst (λ (q : Place). picked q (Some (file_of m.0)) (tail_of picks q) ≡ Some bytes) m.1
    (subst (λ (g : File). picked p (Some g) (tail_of picks p) ≡ Some bytes) m.2 left_is) in
    let chunk_there : IsChunkOf bytes at (log_of m.0.place) size = subst (λ (q : Place). IsChunkOf bytes at (log_of q) size) m.1 chunk in
    subst (λ (g : File). take size (drop at bytes) ≡ take size (drop at g.sent)) (sym m.2) (m.3 bytes left_there at size chunk_there)

-- what holds of each file that is held holds of each of the list
sent_each : (picks : List FilePick) (fs : List MemFile) → Ascend fs
    → ((m : MemFile) → files_held fs m.place ≡ Some (file_of m) → IsFileSent picks m) → AreFilesSent picks fs
sent_each picks [] up all = tt
sent_each picks (x ∷ xs) up all = (all x (held_here x.place x xs refl), sent_each picks xs up.1 (λ m is. all m (still m is)))
  where
    still : (m : MemFile) → files_held xs m.place ≡ Some (file_of m) → files_held (x ∷ xs) m.place ≡ Some (file_of m)
    still m is = go (is_at x.place m.place) refl
      where
        go : (b : Bool) → is_at x.place m.place ≡ b → files_held (x ∷ xs) m.place ≡ Some (file_of m)
        go true at =
            let none : files_held xs m.place ≡ None = ap (files_held xs) (is_at_only x.place m.place at) ∙ behind_absent x.place xs up.0 in
            let clash : None ≡ Some (file_of m) = sym none ∙ is in cc
        go false at = held_skip x xs m.place at ∙ is

sent_where_free : (picks : List FilePick) (fs : List MemFile) → Ascend fs
    → IsChanceFree IsChunkOf (files_held fs) (picked_dirs (files_held fs) picks) → AreFilesSent picks fs
sent_where_free picks fs up free = sent_each picks fs up (λ m is bytes left at size chunk. free m.place
    (file_of m) bytes at size is (ap (λ (o : Option File). picked m.place o (tail_of picks m.place)) is ∙ left) chunk)

pub free_iff_sent : (picks : List FilePick) (fs : List MemFile) → AreInOrder fs
    → AreFilesSent picks fs ↔ IsChanceFree IsChunkOf (files_held fs) (picked_dirs (files_held fs) picks)
free_iff_sent picks fs up = (free_where_sent picks fs, sent_where_free picks fs (ordered_open fs up))
