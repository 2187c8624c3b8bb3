-- A chunk in its block and in its segment.
use Rattle.std.proofs.Common.{◌≡◌, ℕ, ◌+◌, ◌-◌, ◌%◌, ◌≤◌, List, length, take, drop, sym, ap, ◌∙◌, arith, min}
use Rattle.std.specs.List.{slice_range}
use Rattle.std.proofs.lemmas.List.{drop-take, take-take, drop-drop, take_rest, take_min, drop_min, length-take, length-drop}
use Rattle.crc_chunk.specs.declared.chunk.TheConstants.{BLOCK, HEADER}
use Rattle.crc_chunk.specs.Chunk.{Chunk, chunk_len, chunk_bytes, ChunkAt}
use Rattle.crc_chunk.proofs.Chunks.{bytes_len}

-- A block, cut out where the segment may end before it or in it.
pub block_is : (bytes : List ℕ) (front m n : ℕ) → m ≡ min front (length bytes) → n ≡ min (length bytes - m) BLOCK
    → take n (take (length bytes - m) (drop m bytes)) ≡ take BLOCK (drop front bytes)
block_is bytes front m n e f =
    let back : drop m bytes ≡ drop front bytes = ap (λ (k : ℕ). drop k bytes) e ∙ drop_min front bytes in
    let len : n ≡ min BLOCK (length (drop m bytes)) = omega (arith, length-drop m bytes) in
    ap (take n) (take_rest bytes m) ∙ ap (λ (k : ℕ). take k (drop m bytes)) len ∙ take_min BLOCK (drop m bytes) ∙ ap (take BLOCK) back

-- What stands in the block stands in the segment.
cut_out : (bytes block : List ℕ) (front from n : ℕ) → block ≡ take BLOCK (drop front bytes) → from + n ≤ BLOCK
    → take n (drop from block) ≡ take n (drop (front + from) bytes)
cut_out bytes block front from n e fits =
    let back : List ℕ = drop front bytes in
    let room : BLOCK ≡ from + (BLOCK - from) = omega arith in
    ap (λ (t : List ℕ). take n (drop from t)) (e ∙ ap (λ (m : ℕ). take m back) room)
    ∙ ap (take n) (drop-take from (BLOCK - from) back)
    ∙ take-take n (BLOCK - from) (drop from back) (omega arith)
    ∙ ap (take n) (drop-drop from front bytes)

module _ (bytes block : List ℕ) (at : ℕ) (e : block ≡ take BLOCK (drop (at - at % BLOCK) bytes)) where
  same_bytes : (n : ℕ) → at % BLOCK + n ≤ BLOCK → take n (drop (at % BLOCK) block) ≡ take n (drop at bytes)
  same_bytes n fits =
      let place : at - at % BLOCK + at % BLOCK ≡ at = omega arith in
      cut_out bytes block (at - at % BLOCK) (at % BLOCK) n e fits ∙ ap (λ (m : ℕ). take n (drop m bytes)) place

  -- A part that ends within the block, cut out of the block and of the segment.
  pub part_in_segment : (from to : ℕ) → from ≤ to → to ≤ length block
      → slice_range block from to ≡ slice_range bytes (at - at % BLOCK + from) (at - at % BLOCK + to)
  part_in_segment from to order within =
      let len : length block ≤ BLOCK = omega (arith, ap length e, length-take BLOCK (drop (at - at % BLOCK) bytes)) in
      let count : to - from ≡ at - at % BLOCK + to - (at - at % BLOCK + from) = omega arith in
      cut_out bytes block (at - at % BLOCK) from (to - from) e (omega arith)
      ∙ ap (λ (m : ℕ). take m (drop (at - at % BLOCK + from) bytes)) count

  -- It ends within the segment too.
  pub ends_in_segment : (to : ℕ) → at % BLOCK + HEADER ≤ to → to ≤ length block → at - at % BLOCK + to ≤ length bytes
  ends_in_segment to after within =
      omega (arith, ap length e, length-take BLOCK (drop (at - at % BLOCK) bytes), length-drop (at - at % BLOCK) bytes)

  pub in_segment : (log : ℕ) (c : Chunk) → ChunkAt block (at % BLOCK) log c → ChunkAt bytes at log c
  in_segment log c h =
      let all : List ℕ = chunk_bytes log c in
      let fits : at % BLOCK + chunk_len c ≤ BLOCK = omega (arith, h.within) in
      record {
        stands = record { is = sym (same_bytes (length all) (omega (arith, bytes_len log c, fits))) ∙ h.stands.is };
        fits = h.fits;
        within = fits;
      }

  pub in_block : (log : ℕ) (c : Chunk) → ChunkAt bytes at log c → ChunkAt block (at % BLOCK) log c
  in_block log c h =
      let all : List ℕ = chunk_bytes log c in
      record {
        stands = record { is = same_bytes (length all) (omega (arith, h.within, bytes_len log c)) ∙ h.stands.is };
        fits = h.fits;
        within = omega (arith, h.within);
      }
