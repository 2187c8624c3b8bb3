-- A record's fragments one block at a time, and how long a framed record is.
use Rattle.crc_chunk.specs.declared.chunk.TheConstants.{BLOCK, SYNC_HEADER}
use Rattle.crc_chunk.proofs.Laws.{bytes_len}
use Rattle.std.proofs.Common.{◌≡◌, ℕ, zero, suc, ◌+◌, ◌-◌, ◌*◌, ◌%◌, ◌<◌, ◌≤◌, List, ◌∷◌, ◌++◌, length, take, drop, replicate, refl, sym, ap, ◌∙◌, append_assoc, arith, Bool, true, false, nat_lt}
use Rattle.std.proofs.lemmas.List.{length-take, length-drop, length-append, length-replicate, take_all, drop_all}
use Rattle.std.proofs.lemmas.Bool.{ltb-true, ltb-false}
use Rattle.crc_chunk.specs.declared.chunk.ChunkKind.TheVariants.{Full, First, Middle, Last}
use Rattle.crc_chunk.specs.Chunk.{sync_chunk, chunk_bytes}
use Rattle.block_record.specs.Framing.{left_in_block, room_at, cut, blocks_for, later_fragments, fragments, later_chunks, chunks, padding, padded, framed}

one_block : (len : ℕ) → 0 < len → len ≤ room_at 0 → blocks_for len ≡ 1
one_block len some small = omega arith

one_block_more : (len : ℕ) → room_at 0 < len → blocks_for len ≡ suc (blocks_for (len - room_at 0))
one_block_more len long = omega arith

some_blocks : (len : ℕ) → 0 < len → 0 < blocks_for len
some_blocks len some = omega arith

pub no_blocks : (len : ℕ) → 0 ≡ blocks_for len → len ≡ 0
no_blocks len none = omega arith

-- What one block has room for is the last fragment.
pub last_part : (log off : ℕ) (bytes : List ℕ) → 0 < length bytes → length bytes ≤ room_at 0 → later_chunks log off (later_fragments bytes) ≡ chunk_bytes log (sync_chunk Last off bytes)
last_part log off bytes some small = ap (λ (n : ℕ). later_chunks log off (cut n bytes)) (one_block (length bytes) some small)
    ∙ ap ((λ (t : List ℕ). chunk_bytes log (sync_chunk Last off t))) (take_all (room_at 0) bytes small)

middle_of : (log off n : ℕ) (part rest : List ℕ) → 0 < n → later_chunks log off (part ∷ cut n rest) ≡ chunk_bytes log (sync_chunk Middle off part) ++ later_chunks log off (cut n rest)
middle_of log off zero part rest some = absurd (omega arith)
middle_of log off (suc n) part rest some = refl

-- Of more than a block has room for, the front fills the block.
pub middle_part : (log off : ℕ) (bytes : List ℕ) → room_at 0 < length bytes
    → later_chunks log off (later_fragments bytes) ≡ chunk_bytes log (sync_chunk Middle off (take (room_at 0) bytes)) ++ later_chunks log off (later_fragments (drop (room_at 0) bytes))
middle_part log off bytes long =
    ap (λ (n : ℕ). later_chunks log off (cut n bytes)) (one_block_more (length bytes) long)
    ∙ middle_of log off (blocks_for (length bytes - room_at 0)) (take (room_at 0) bytes) (drop (room_at 0) bytes) (some_blocks (length bytes - room_at 0) (omega arith))
    ∙ ap (λ (n : ℕ). chunk_bytes log (sync_chunk Middle off (take (room_at 0) bytes)) ++ later_chunks log off (cut (blocks_for n) (drop (room_at 0) bytes))) (sym (length-drop (room_at 0) bytes))

-- A record that its block has room for is one fragment.
pub whole_record : (log at off : ℕ) (bytes : List ℕ) → length bytes ≤ room_at at → chunks log off (fragments at bytes) ≡ chunk_bytes log (sync_chunk Full off bytes)
whole_record log at off bytes fits =
    ap (λ (rest : List ℕ). chunks log off (take (room_at at) bytes ∷ later_fragments rest)) (drop_all (room_at at) bytes fits)
    ∙ ap ((λ (t : List ℕ). chunk_bytes log (sync_chunk Full off t))) (take_all (room_at at) bytes fits)

first_of : (log off n : ℕ) (part rest : List ℕ) → 0 < n → chunks log off (part ∷ cut n rest) ≡ chunk_bytes log (sync_chunk First off part) ++ later_chunks log off (cut n rest)
first_of log off zero part rest some = absurd (omega arith)
first_of log off (suc n) part rest some = refl

-- Of a longer one, the front fills the block.
pub first_part : (log at off : ℕ) (bytes : List ℕ) → room_at at < length bytes
    → chunks log off (fragments at bytes) ≡ chunk_bytes log (sync_chunk First off (take (room_at at) bytes)) ++ later_chunks log off (later_fragments (drop (room_at at) bytes))
first_part log at off bytes long =
    first_of log off (blocks_for (length (drop (room_at at) bytes))) (take (room_at at) bytes) (drop (room_at at) bytes)
    (some_blocks (length (drop (room_at at) bytes)) (omega (arith, length-drop (room_at at) bytes)))

cut_len : (log off n : ℕ) (bytes : List ℕ) → suc n ≡ blocks_for (length bytes) → length (later_chunks log off (cut (suc n) bytes)) ≡ length bytes + SYNC_HEADER * suc n
cut_len log off zero bytes e = bytes_len log (sync_chunk Last off (take (room_at 0) bytes)) ∙ omega (arith, length-take (room_at 0) bytes)
cut_len log off (suc n) bytes e =
    let part : List ℕ = take (room_at 0) bytes in
    let rest : List ℕ = drop (room_at 0) bytes in
    let more : length (later_chunks log off (cut (suc n) rest)) ≡ length rest + SYNC_HEADER * suc n = cut_len log off n rest (omega (arith, length-drop (room_at 0) bytes)) in
    length-append (chunk_bytes log (sync_chunk Middle off part)) (later_chunks log off (cut (suc n) rest))
    ∙ omega (arith, more, bytes_len log (sync_chunk Middle off part), length-take (room_at 0) bytes, length-drop (room_at 0) bytes)

-- The chunks of a record have its bytes, and a header for each.
pub chunks_len : (log at off : ℕ) (bytes : List ℕ) → length (chunks log off (fragments at bytes)) ≡ length bytes + SYNC_HEADER * (1 + blocks_for (length bytes - room_at at))
chunks_len log at off bytes = from (blocks_for (length rest)) refl ∙ omega (arith, length-drop room bytes)
  where
    room : ℕ
    room = room_at at

    part : List ℕ
    part = take room bytes

    rest : List ℕ
    rest = drop room bytes

    from : (n : ℕ) → n ≡ blocks_for (length rest) → length (chunks log off (part ∷ cut n rest)) ≡ length bytes + SYNC_HEADER * (1 + n)
    from zero e = bytes_len log (sync_chunk Full off part) ∙ omega (arith, no_blocks (length rest) e, length-take room bytes, length-drop room bytes)
    from (suc n) e =
        length-append (chunk_bytes log (sync_chunk First off part)) (later_chunks log off (cut (suc n) rest))
        ∙ omega (arith, cut_len log off n rest e, bytes_len log (sync_chunk First off part), length-take room bytes, length-drop room bytes)

-- After the zeros a header fits.
pub room_behind : (at : ℕ) → (at + length (padding at)) % BLOCK + SYNC_HEADER ≤ BLOCK
room_behind at = from (nat_lt (left_in_block at) SYNC_HEADER) refl
  where
    from : (b : Bool) → nat_lt (left_in_block at) SYNC_HEADER ≡ b → (at + length (padding at)) % BLOCK + SYNC_HEADER ≤ BLOCK
    from true e = rw (e, length-replicate {A = ℕ} (left_in_block at) 0) (omega (arith, ltb-true (left_in_block at) SYNC_HEADER e))
    from false e = rw e (omega (arith, ltb-false (left_in_block at) SYNC_HEADER e))

-- the length of a framed record, from how many zeros are after it
pub framed_len_is : (log at off n : ℕ) (bytes : List ℕ) → padding (at + length (chunks log off (fragments at bytes))) ≡ replicate n 0
    → length (framed log at off bytes) ≡ length (chunks log off (fragments at bytes)) + n
unfolding framed
framed_len_is log at off n bytes zeros =
    let all : List ℕ = chunks log off (fragments at bytes) in
    length-append all (padding (at + length all)) ∙ ap (λ (t : List ℕ). length all + length t) zeros ∙ ap (λ (k : ℕ). length all + k) (length-replicate n 0)

-- After a framed record a header fits.
pub room_after : (log at off : ℕ) (before after bytes : List ℕ) → after ≡ before ++ framed log at off bytes → (at + (length after - length before)) % BLOCK + SYNC_HEADER ≤ BLOCK
unfolding framed
room_after log at off before after bytes e =
    let all : List ℕ = chunks log off (fragments at bytes) in
    omega (arith, room_behind (at + length all), ap length e, length-append before (padded at all), length-append all (padding (at + length all)))

-- A turn of the loop over blocks.
pub next_block : (log off : ℕ) (out out' rest part behind whole : List ℕ) → room_at 0 < length rest → part ≡ take (room_at 0) rest → behind ≡ drop (room_at 0) rest
    → out' ≡ out ++ chunk_bytes log (sync_chunk Middle off part) → out ++ later_chunks log off (later_fragments rest) ≡ whole → out' ++ later_chunks log off (later_fragments behind) ≡ whole
next_block log off out out' rest part behind whole long f g e h =
    rw (e, f, g)
    (append_assoc out (chunk_bytes log (sync_chunk Middle off (take (room_at 0) rest))) (later_chunks log off (later_fragments (drop (room_at 0) rest)))
    ∙ ap (λ (t : List ℕ). out ++ t) (sym (middle_part log off rest long)) ∙ h)

pub last_block : (log off : ℕ) (out out' rest whole : List ℕ) → 0 < length rest → length rest ≤ room_at 0
    → out ++ later_chunks log off (later_fragments rest) ≡ whole → out' ≡ out ++ chunk_bytes log (sync_chunk Last off rest) → out' ≡ whole
last_block log off out out' rest whole some small h e = e ∙ ap (λ (t : List ℕ). out ++ t) (sym (last_part log off rest some small)) ∙ h

pub in_blocks : (log at off room : ℕ) (out one two bytes first rest : List ℕ) → room ≡ room_at at → room < length bytes
    → first ≡ take room bytes → rest ≡ drop room bytes
    → one ≡ out ++ chunk_bytes log (sync_chunk First off first) → two ≡ one ++ later_chunks log off (later_fragments rest) → two ≡ out ++ chunks log off (fragments at bytes)
in_blocks log at off room out one two bytes first rest r long f g e h =
    h ∙ rw (e, f, g, r)
    (append_assoc out (chunk_bytes log (sync_chunk First off (take (room_at at) bytes))) (later_chunks log off (later_fragments (drop (room_at at) bytes)))
    ∙ ap (λ (t : List ℕ). out ++ t) (sym (first_part log at off bytes (omega arith))))

pub with_zeros : (log at off end n : ℕ) (out one two bytes zeros : List ℕ) → one ≡ out ++ chunks log off (fragments at bytes) → end ≡ at + (length one - length out)
    → padding end ≡ replicate n 0 → zeros ≡ replicate n 0 → two ≡ one ++ zeros → two ≡ out ++ framed log at off bytes
unfolding framed
with_zeros log at off end n out one two bytes zeros e f g h i =
    let all : List ℕ = chunks log off (fragments at bytes) in
    let place : at + length all ≡ end = omega (arith, f, ap length e, length-append out all) in
    i ∙ ap (λ (t : List ℕ). one ++ t) (h ∙ sym g ∙ ap padding (sym place)) ∙ ap (λ (t : List ℕ). t ++ padding (at + length all)) e
    ∙ append_assoc out all (padding (at + length all))
