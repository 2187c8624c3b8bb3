-- Records that were laid as a row of chunks, with what stands between two of them: so the sync chunks that stand one after
-- another from a block's front on are theirs.
use Rattle.crc_chunk.specs.declared.chunk.TheConstants.{BLOCK, SYNC_HEADER}
use Rattle.std.proofs.Common.{◌≡◌, ℕ, zero, suc, ◌+◌, ◌%◌, ◌^◌, ◌<◌, ◌≤◌, List, [], ◌∷◌, ◌++◌, length, take, drop, get_or, replicate, refl, sym, ap, subst, ◌∙◌, append_assoc, arith, Bool, true, false, nat_lt, ◌⊎◌, inl, inr, Option, Some, None, is_some}
use Rattle.std.specs.Prelude.{IsSomeAnd}
use Rattle.std.specs.List.{All}
use Rattle.std.proofs.lemmas.List.{length-take, length-drop, length-append, length-replicate, get_or-drop, get_or-replicate, get_or_append_left}
use Rattle.std.proofs.lemmas.List.Elements.{All-head, All-tail}
use Rattle.std.proofs.lemmas.Bool.{ltb-true, ltb-false}
use Rattle.crc_chunk.specs.declared.chunk.ChunkKind.{ChunkKind}
use Rattle.crc_chunk.specs.declared.chunk.ChunkKind.TheVariants.{Full, First, Middle, Last}
use Rattle.crc_chunk.specs.Chunk.{Chunk, sync_chunk, chunk_bytes, OffsetFits, type_byte, header_len, ChunkAt}
use Rattle.crc_chunk.proofs.Laws.{bytes_len, fields_of, byte_read, header_bounds, one_chunk, within_segment}
use Rattle.block_record.specs.Framing.{Marked, OffsetsFit, left_in_block, room_at, cut, blocks_for, fragments, later_chunks, chunks, padding, framed, laid}
use Rattle.block_record.specs.ReadOut.{NoChunkAt, next_place, chunk_end, place_after, block_front, IsChunkRow, CoversMore, ShowsCorrupt}
use Rattle.block_record.proofs.Replay.{chunk_here, behind, fills, framed_end, room_framed}

-- The sync offset, where there is one, is of this sort.
abbrev IsOffset : (ℕ → Type 0) → Option ℕ → Type 0
IsOffset P None = Unit {0}
IsOffset P (Some offset) = P offset

abbrev pub OffsetIs : (ℕ → Type 0) → Chunk → Type 0
OffsetIs P c = IsOffset P c.offset

-- What a chunk covers is at most what its offset is.
pub covered_by : (most at : ℕ) (c : Chunk) → OffsetIs (λ (n : ℕ). n ≤ most) c → CoversMore at c → at < most
covered_by most at c = go c.offset
  where
    go : (offset : Option ℕ) → IsOffset (λ (n : ℕ). n ≤ most) offset → IsSomeAnd offset (λ covered. at < covered) → at < most
    go None below above = absurd above
    go (Some offset) below above = omega (arith, below, above)

-- Chunks with sync offsets of this sort, up to the end of the bytes. Where the next one does not stand right after one, none does.
abbrev Tiles : List ℕ → ℕ → (ℕ → Type 0) → ℕ → List Chunk → Type 0
Tiles bytes log P at [] = length bytes ≤ at
Tiles bytes log P at (link ∷ links) =
    ChunkAt bytes at log link × OffsetIs P link × (place_after at link ≡ chunk_end at link ⊎ NoChunkAt bytes (chunk_end at link) log)
    × Tiles bytes log P (place_after at link) links

-- ---- rows over tiles

row_on : (bytes : List ℕ) (log from to : ℕ) (row : List Chunk) → IsChunkRow bytes log from row to → from ≤ to
row_on bytes log from to [] e = omega (arith, e)
row_on bytes log from to (link ∷ row) r = omega (arith, row_on bytes log (chunk_end from link) to row r.1)

-- Where no chunk stands, a row does not go on to one.
stuck : (bytes : List ℕ) (log from to : ℕ) (row : List Chunk) (link : Chunk) → NoChunkAt bytes from log → IsChunkRow bytes log from row to → ChunkAt bytes to log link → ⊥
stuck bytes log from to [] link none e h = none link (subst (λ (n : ℕ). ChunkAt bytes n log link) (sym e) h)
stuck bytes log from to (first ∷ row) link none r h = none first r.0

past_end : (bytes : List ℕ) (log at : ℕ) → length bytes ≤ at → NoChunkAt bytes at log
past_end bytes log at le c h = omega (arith, le, within_segment h, (header_bounds c).0)

-- A row from a tile's front on goes from tile to tile.
row_of : (bytes : List ℕ) (log at to : ℕ) (P : ℕ → Type 0) (tiles row : List Chunk) (link : Chunk)
    → Tiles bytes log P at tiles → IsChunkRow bytes log at row to → ChunkAt bytes to log link → OffsetIs P link
row_of bytes log at to P [] row link le r h = absurd (stuck bytes log at to row link (past_end bytes log at le) r h)
row_of bytes log at to P (first ∷ tiles) [] link t e h =
    subst (λ (l : Chunk). OffsetIs P l) (one_chunk t.0 (subst (λ (n : ℕ). ChunkAt bytes n log link) (sym e) h)) t.1
row_of bytes log at to P (first ∷ tiles) (other ∷ row) link t r h =
    let here : IsChunkRow bytes log (chunk_end at first) row to = subst (λ (l : Chunk). IsChunkRow bytes log (chunk_end at l) row to) (one_chunk r.0 t.0) r.1 in
    go t.2 here (λ r. row_of bytes log (place_after at first) to P tiles row link t.3 r h)
  where
    go : place_after at first ≡ chunk_end at first ⊎ NoChunkAt bytes (chunk_end at first) log → IsChunkRow bytes log (chunk_end at first) row to
        → (IsChunkRow bytes log (place_after at first) row to → OffsetIs P link) → OffsetIs P link
    go (inl e) r on = on (subst (λ (n : ℕ). IsChunkRow bytes log n row to) (sym e) r)
    go (inr none) r on = absurd (stuck bytes log (chunk_end at first) to row link none r h)

-- The next place is not behind the front of a later block.
next_before : (asked at front : ℕ) → asked ≤ BLOCK → front % BLOCK ≡ 0 → at ≤ front → next_place asked at ≤ front
next_before asked at front small is le = from (nat_lt (left_in_block at) asked) refl
  where
    from : (b : Bool) → nat_lt (left_in_block at) asked ≡ b → next_place asked at ≤ front
    from true e = rw e (omega (arith, small, is, le, ltb-true (left_in_block at) asked e))
    from false e = rw e (omega (arith, le))

-- So does a row from the front of a block that begins there or later.
row_in : (bytes : List ℕ) (log at front to : ℕ) (P : ℕ → Type 0) (tiles row : List Chunk) (link : Chunk)
    → front % BLOCK ≡ 0 → at ≤ front
    → Tiles bytes log P at tiles → IsChunkRow bytes log front row to → ChunkAt bytes to log link → OffsetIs P link
row_in bytes log at front to P [] row link is le end r h = absurd (stuck bytes log front to row link (past_end bytes log front (omega (arith, le, end))) r h)
row_in bytes log at front to P (first ∷ tiles) row link is le t r h =
    from (nat_lt at front) refl (λ before. row_in bytes log (place_after at first) front to P tiles row link is
    (next_before (header_len first) (chunk_end at first) front (omega (arith, (header_bounds first).1)) is before) t.3 r h)
  where
    from : (b : Bool) → nat_lt at front ≡ b → (chunk_end at first ≤ front → OffsetIs P link) → OffsetIs P link
    from true e on = on (omega (arith, is, ltb-true at front e, t.0.within))
    from false e on =
        let same : front ≡ at = omega (arith, le, ltb-false at front e) in
        row_of bytes log at to P (first ∷ tiles) row link t (subst (λ (n : ℕ). IsChunkRow bytes log n row to) same r) h

-- ---- tiles of records that were laid

typed : (kind : ChunkKind) (is_sync : Bool) → 0 < type_byte kind is_sync
typed Full false = omega arith
typed First false = omega arith
typed Middle false = omega arith
typed Last false = omega arith
typed Full true = omega arith
typed First true = omega arith
typed Middle true = omega arith
typed Last true = omega arith

-- No chunk stands in the zeros at a block's end.
none_in_zeros : (bytes more : List ℕ) (log at : ℕ) → drop at bytes ≡ replicate (left_in_block at) 0 ++ more → NoChunkAt bytes at log
none_in_zeros bytes more log at e c h =
    let f = fields_of h.stands in
    let left : ℕ = left_in_block at in
    let room : 6 < left = omega (arith, h.within, (header_bounds c).0) in
    let zero_there : get_or bytes (at + 6) 0 ≡ 0 =
    sym (get_or-drop at bytes 6 0) ∙ ap (λ (t : List ℕ). get_or t 6 0) e
    ∙ get_or_append_left (replicate left 0) more 0 6 (omega (arith, room, length-replicate {A = ℕ} left 0)) ∙ get_or-replicate left 6 0 0 room in
    omega (arith, zero_there, byte_read f.type_is, typed c.kind (is_some c.offset))

-- After a record's last chunk a header fits, or zeros stand.
gap : (bytes more : List ℕ) (log at : ℕ) → drop at bytes ≡ padding at ++ more → next_place SYNC_HEADER at ≡ at ⊎ NoChunkAt bytes at log
gap bytes more log at e = from (nat_lt (left_in_block at) SYNC_HEADER) refl e
  where
    from : (b : Bool) → nat_lt (left_in_block at) SYNC_HEADER ≡ b → drop at bytes ≡ padding at ++ more → next_place SYNC_HEADER at ≡ at ⊎ NoChunkAt bytes at log
    from true is e = inr (none_in_zeros bytes more log at (e ∙ ap (λ (t : List ℕ). t ++ more) (rw is refl)))
    from false is e = inl (rw is refl)

abbrev pub TilesFrom : List ℕ → ℕ → (ℕ → Type 0) → ℕ → Type 0
TilesFrom bytes log P at = (links : List Chunk) × Tiles bytes log P at links

-- a record's last chunk, and what stands after it
last_tile : (bytes more : List ℕ) (log off at to : ℕ) (P : ℕ → Type 0) (kind : ChunkKind) (payload : List ℕ) → P off
    → ChunkAt bytes at log (sync_chunk kind off payload) → at + SYNC_HEADER + length payload ≡ to → drop to bytes ≡ padding to ++ more
    → TilesFrom bytes log P (next_place SYNC_HEADER to) → TilesFrom bytes log P at
last_tile bytes more log off at to P kind payload p here there e rest =
    let behind_it : (next_place SYNC_HEADER to ≡ to ⊎ NoChunkAt bytes to log) × Tiles bytes log P (next_place SYNC_HEADER to) rest.0 = (gap bytes more log to e, rest.1) in
    let moved : (next_place SYNC_HEADER (at + SYNC_HEADER + length payload) ≡ at + SYNC_HEADER + length payload ⊎ NoChunkAt bytes (at + SYNC_HEADER + length payload) log)
    × Tiles bytes log P (next_place SYNC_HEADER (at + SYNC_HEADER + length payload)) rest.0 =
    subst (λ (n : ℕ). (next_place SYNC_HEADER n ≡ n ⊎ NoChunkAt bytes n log) × Tiles bytes log P (next_place SYNC_HEADER n) rest.0) (sym there) behind_it in
    (sync_chunk kind off payload ∷ rest.0, (here, p, moved.0, moved.1))

-- a chunk that fills its block
full_tile : (bytes : List ℕ) (log off at to : ℕ) (P : ℕ → Type 0) (kind : ChunkKind) (payload : List ℕ) → P off
    → ChunkAt bytes at log (sync_chunk kind off payload) → at + SYNC_HEADER + length payload ≡ to → to % BLOCK ≡ 0
    → TilesFrom bytes log P to → TilesFrom bytes log P at
full_tile bytes log off at to P kind payload p here there front rest =
    let stays : next_place SYNC_HEADER (at + SYNC_HEADER + length payload) ≡ to = fills at (length payload) to there front in
    (sync_chunk kind off payload ∷ rest.0, (here, p, inl (stays ∙ sym there), subst (λ (n : ℕ). Tiles bytes log P n rest.0) (sym stays) rest.1))

later_tiles : (n : ℕ) (bytes more part : List ℕ) (log off at to : ℕ) (P : ℕ → Type 0) → OffsetFits (Some off) → P off
    → at % BLOCK ≡ 0 → suc n ≡ blocks_for (length part)
    → to ≡ at + length (later_chunks log off (cut (suc n) part)) → drop at bytes ≡ later_chunks log off (cut (suc n) part) ++ (padding to ++ more)
    → TilesFrom bytes log P (next_place SYNC_HEADER to) → TilesFrom bytes log P at
later_tiles zero bytes more part log off at to P fits p front blocks end e rest =
    let last : List ℕ = take (room_at 0) part in
    let here : ChunkAt bytes at log (sync_chunk Last off last) = chunk_here bytes (padding to ++ more) at log off Last last fits e (omega (arith, front, length-take (room_at 0) part)) in
    let len : length (chunk_bytes log (sync_chunk Last off last)) ≡ SYNC_HEADER + length last = bytes_len log (sync_chunk Last off last) in
    let there : at + SYNC_HEADER + length last ≡ to = omega (arith, end, len) in
    last_tile bytes more log off at to P Last last p here there
    (subst (λ (n : ℕ). drop n bytes ≡ padding to ++ more) (omega (arith, end)) (behind bytes (chunk_bytes log (sync_chunk Last off last)) (padding to ++ more) at
    (length (chunk_bytes log (sync_chunk Last off last))) e refl)) rest
later_tiles (suc n) bytes more part log off at to P fits p front blocks end e rest =
    let middle : List ℕ = take (room_at 0) part in
    let others : List ℕ = drop (room_at 0) part in
    let len : length middle ≡ room_at 0 = omega (arith, length-take (room_at 0) part) in
    let chunk_is : length (chunk_bytes log (sync_chunk Middle off middle)) ≡ BLOCK = omega (arith, bytes_len log (sync_chunk Middle off middle), len) in
    let laters : List ℕ = later_chunks log off (cut (suc n) others) in
    let split : drop at bytes ≡ chunk_bytes log (sync_chunk Middle off middle) ++ (laters ++ (padding to ++ more)) =
    e ∙ append_assoc (chunk_bytes log (sync_chunk Middle off middle)) laters (padding to ++ more) in
    let here : ChunkAt bytes at log (sync_chunk Middle off middle) =
    chunk_here bytes (laters ++ (padding to ++ more)) at log off Middle middle fits split (omega (arith, front, len)) in
    full_tile bytes log off at (at + BLOCK) P Middle middle p here (omega (arith, len)) (omega (arith, front))
    (later_tiles n bytes more others log off (at + BLOCK) to P fits p (omega (arith, front)) (omega (arith, length-drop (room_at 0) part))
    (omega (arith, end, length-append (chunk_bytes log (sync_chunk Middle off middle)) laters, chunk_is))
    (behind bytes (chunk_bytes log (sync_chunk Middle off middle)) (laters ++ (padding to ++ more)) at BLOCK split chunk_is) rest)

record_tiles : (bytes more part : List ℕ) (log off place to : ℕ) (P : ℕ → Type 0) → OffsetFits (Some off) → P off
    → place % BLOCK + SYNC_HEADER ≤ BLOCK
    → to ≡ place + length (chunks log off (fragments place part)) → drop place bytes ≡ chunks log off (fragments place part) ++ (padding to ++ more)
    → TilesFrom bytes log P (next_place SYNC_HEADER to) → TilesFrom bytes log P place
record_tiles bytes more part log off place to P fits p room end e rest = from (blocks_for (length others)) refl end e
  where
    first : List ℕ
    first = take (room_at place) part

    others : List ℕ
    others = drop (room_at place) part

    from : (n : ℕ) → n ≡ blocks_for (length others) → to ≡ place + length (chunks log off (first ∷ cut n others))
        → drop place bytes ≡ chunks log off (first ∷ cut n others) ++ (padding to ++ more) → TilesFrom bytes log P place
    from zero blocks end e =
        let here : ChunkAt bytes place log (sync_chunk Full off first) =
        chunk_here bytes (padding to ++ more) place log off Full first fits e (omega (arith, room, length-take (room_at place) part)) in
        let len : length (chunk_bytes log (sync_chunk Full off first)) ≡ SYNC_HEADER + length first = bytes_len log (sync_chunk Full off first) in
        last_tile bytes more log off place to P Full first p here (omega (arith, end, len))
        (subst (λ (n : ℕ). drop n bytes ≡ padding to ++ more) (omega (arith, end)) (behind bytes (chunk_bytes log (sync_chunk Full off first)) (padding to ++ more) place
        (length (chunk_bytes log (sync_chunk Full off first))) e refl)) rest
    from (suc n) blocks end e =
        let laters : List ℕ = later_chunks log off (cut (suc n) others) in
        let len : length first ≡ room_at place = omega (arith, length-take (room_at place) part, length-drop (room_at place) part) in
        let next_front : ℕ = place + (SYNC_HEADER + room_at place) in
        let chunk_is : length (chunk_bytes log (sync_chunk First off first)) ≡ SYNC_HEADER + room_at place = omega (arith, bytes_len log (sync_chunk First off first), len) in
        let split : drop place bytes ≡ chunk_bytes log (sync_chunk First off first) ++ (laters ++ (padding to ++ more)) =
        e ∙ append_assoc (chunk_bytes log (sync_chunk First off first)) laters (padding to ++ more) in
        let here : ChunkAt bytes place log (sync_chunk First off first) =
        chunk_here bytes (laters ++ (padding to ++ more)) place log off First first fits split (omega (arith, room, len)) in
        full_tile bytes log off place next_front P First first p here (omega (arith, len)) (omega (arith, room))
        (later_tiles n bytes more others log off next_front to P fits p (omega (arith, room)) blocks
        (omega (arith, end, length-append (chunk_bytes log (sync_chunk First off first)) laters, chunk_is))
        (behind bytes (chunk_bytes log (sync_chunk First off first)) (laters ++ (padding to ++ more)) place (SYNC_HEADER + room_at place) split chunk_is) rest)

framed_tiles : (bytes more part : List ℕ) (log off place : ℕ) (P : ℕ → Type 0) → OffsetFits (Some off) → P off
    → place % BLOCK + SYNC_HEADER ≤ BLOCK → drop place bytes ≡ framed log place off part ++ more
    → TilesFrom bytes log P (place + length (framed log place off part)) → TilesFrom bytes log P place
unfolding framed
framed_tiles bytes more part log off place P fits p room e rest =
    let all : List ℕ = chunks log off (fragments place part) in
    let zeros : List ℕ = padding (place + length all) in
    record_tiles bytes more part log off place (place + length all) P fits p room refl (e ∙ append_assoc all zeros more)
    (subst (TilesFrom bytes log P) (sym (framed_end log off place part)) rest)

pub laid_tiles : (records : List Marked) (bytes : List ℕ) (log place : ℕ) (P : ℕ → Type 0) → OffsetsFit records → All (λ (r : Marked). P r.offset) records
    → place % BLOCK + SYNC_HEADER ≤ BLOCK → drop place bytes ≡ laid log place records → TilesFrom bytes log P place
laid_tiles [] bytes log place P fit all room e = ([], omega (arith, ap length e, length-drop place bytes))
laid_tiles (part ∷ records) bytes log place P fit all room e =
    let one : List ℕ = framed log place part.offset part.bytes in
    let others : List ℕ = laid log (place + length one) records in
    framed_tiles bytes others part.bytes log part.offset place P (All-head (λ (r : Marked). r.offset < 2 ^ 64) part records fit)
    (All-head (λ (r : Marked). P r.offset) part records all) room e
    (laid_tiles records bytes log (place + length one) P (All-tail (λ (r : Marked). r.offset < 2 ^ 64) part records fit)
    (All-tail (λ (r : Marked). P r.offset) part records all) (room_framed log part.offset place part.bytes) (behind bytes one others place (length one) e refl))

-- The sync offset that shows something in records that were laid is one of theirs.
pub offset_of_shown : (log at place : ℕ) (records : List Marked) (P : ℕ → Type 0) → OffsetsFit records → All (λ (r : Marked). P r.offset) records
    → (s : ShowsCorrupt (laid log 0 records) log at place) → OffsetIs P s.chunk
offset_of_shown log at place records P fit all s =
    let whole : List ℕ = laid log 0 records in
    let t : TilesFrom whole log P 0 = laid_tiles records whole log 0 P fit all (omega arith) refl in
    row_in whole log 0 (block_front place) place P t.0 s.row s.chunk (omega arith) (omega arith) t.1 s.in_row s.stands
