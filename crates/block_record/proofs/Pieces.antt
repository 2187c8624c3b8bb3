-- Chunks in bytes that changed before them.
use Rattle.std.proofs.Common.{◌≡◌, ℕ, ◌+◌, ◌-◌, ◌≤◌, List, length, take, drop, sym, ap, ◌∙◌, arith}
use Rattle.std.proofs.lemmas.List.{drop-drop, length-take, length-drop}
use Rattle.crc_chunk.specs.Chunk.{Chunk, chunk_bytes, ChunkAt}
use Rattle.block_record.specs.declared.joining.Found.{Found}
use Rattle.block_record.specs.Promises.{IsFoundAt}
use Rattle.block_record.specs.Joined.{link_in}
use Rattle.block_record.specs.ReadOut.{chunk_end}

-- What is after a place is so after each later one.
pub behind_later : (old new : List ℕ) (at later : ℕ) → at ≤ later → drop at new ≡ drop at old → drop later new ≡ drop later old
behind_later old new at later le e =
    let more : ℕ = later - at in
    let place : at + more ≡ later = omega arith in
    ap (λ (k : ℕ). drop k new) (sym place) ∙ sym (drop-drop more at new) ∙ ap (drop more) e ∙ drop-drop more at old ∙ ap (λ (k : ℕ). drop k old) place

-- A chunk that stands there stands in what was there before.
pub chunk_behind : {c : Chunk} {log : ℕ} (old new : List ℕ) (at later : ℕ) → at ≤ later
    → drop at new ≡ drop at old → ChunkAt new later log c → ChunkAt old later log c
chunk_behind {c} {log} old new at later le e h = record {
  stands = record { is = ap (take (length (chunk_bytes log c))) (sym (behind_later old new at later le e)) ∙ h.stands.is };
  fits = h.fits;
  within = h.within;
}

-- A chunk that was found ends where it was found to end.
pub found_len : (bytes : List ℕ) (at : ℕ) (found : Found) → IsFoundAt bytes at found → chunk_end at (link_in bytes found) ≡ found.end
found_len bytes at found place =
    omega (arith, place.1, place.2, place.3, length-take (found.end - found.from) (drop found.from bytes), length-drop found.from bytes)
