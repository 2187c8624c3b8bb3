-- The fields of a chunk where it stands, and a chunk from its fields.
use Rattle.std.proofs.Common.{◌≡◌, ℕ, ◌+◌, ◌-◌, ◌^◌, ◌<◌, ◌≤◌, Bool, true, false, Option, Some, None, is_some, if◌then◌else◌, ◌==◌, nat_lt, List, [], ◌∷◌, ◌++◌, length, take, drop, get_or, suc, refl, add-zero, sym, ap, subst, ◌∙◌, append_assoc, arith}
use Rattle.std.specs.List.{slice_range, flat_map}
use Rattle.std.specs.Int.{w16, w32, w64, bit_not, to_le_bytes, from_le_bytes}
use Rattle.std.proofs.lemmas.List.{length-take, length-drop, length-append, get_or-take, get_or-drop, take-append-le, drop-append-le}
use Rattle.std.proofs.lemmas.Nat.{from_le_bytes-to_le_bytes_2, from_le_bytes-to_le_bytes_4, from_le_bytes-to_le_bytes_8}
use Rattle.std.proofs.lemmas.Grind.{flat_map-append}
use Rattle.std.proofs.Math.Seq.{drop-cons}
use borrow.Rule.Slice.PartMut.{put_mid}
use Rattle.std.proofs.lemmas.List.{take_at, drop_at, drop-drop}
use Rattle.crc_chunk.specs.declared.chunk.TheConstants.{BLOCK, HEADER, SYNC_HEADER}
use Rattle.crc_chunk.specs.Bytes.{StandsAt}
use Rattle.crc_chunk.proofs.Places.{stands_front, stands_back, stands_both, stands_within, stands_one, stands_range, stands_from, moved}
use Rattle.crc_chunk.specs.declared.chunk.ChunkKind.{ChunkKind}
use Rattle.crc_chunk.specs.declared.chunk.ChunkKind.TheVariants.{Full, First, Middle, Last}
use Rattle.crc_chunk.specs.Crc.{bits_of, after_bits, checksum, masked_of}
use Rattle.crc_chunk.proofs.Steps.{after_bits-append}
use Rattle.crc_chunk.specs.Chunk.{Chunk, type_byte, offset_bytes, header_with, header_len, chunk_len, OffsetFits, covered, chunk_bytes, ChunkAt, IsChunkOf}

abbrev stored : ℕ → Chunk → ℕ
stored log c = masked_of (checksum (covered log c))

-- A header has that of a chunk without a sync offset, and the sync offset where there is one.
pub header_is : (offset : Option ℕ) → header_with offset ≡ HEADER + length (offset_bytes offset)
header_is None = refl
header_is (Some offset) = refl

-- What stands in the places of a chunk.
pub record FieldsAt (bytes : List ℕ) (at log : ℕ) (c : Chunk) : Type 0 where
  pub crc : StandsAt bytes at (to_le_bytes w32 (masked_of (checksum (covered log c))))
  pub len : StandsAt bytes (at + 4) (to_le_bytes w16 (length c.payload))
  pub body : StandsAt bytes (at + 6) (covered log c)
  pub type_is : StandsAt bytes (at + 6) (type_byte c.kind (is_some c.offset) ∷ [])
  pub log_is : StandsAt bytes (at + 7) (to_le_bytes w32 log)
  pub offset_is : StandsAt bytes (at + HEADER) (offset_bytes c.offset)
  pub payload_is : StandsAt bytes (at + header_len c) c.payload
  pub fits : at + chunk_len c ≤ length bytes

-- a header and the payload
pub bytes_len : (log : ℕ) (c : Chunk) → length (chunk_bytes log c) ≡ chunk_len c
unfolding chunk_bytes covered
bytes_len log c = omega (arith, header_is c.offset, length-append (offset_bytes c.offset) c.payload)

pub fields_of : {bytes : List ℕ} {at log : ℕ} {c : Chunk} → StandsAt bytes at (chunk_bytes log c) → FieldsAt bytes at log c
unfolding chunk_bytes covered
fields_of {bytes} {at} {log} {c} h =
    let crc : List ℕ = to_le_bytes w32 (stored log c) in
    let len : List ℕ = to_le_bytes w16 (length c.payload) in
    let ty : List ℕ = type_byte c.kind (is_some c.offset) ∷ [] in
    let lg : List ℕ = to_le_bytes w32 log in
    let off : List ℕ = offset_bytes c.offset in
    let after : StandsAt bytes (at + 6) (ty ++ (lg ++ (off ++ c.payload))) = stands_back {at = at} (crc ++ len) (ty ++ (lg ++ (off ++ c.payload))) h in
    let front : StandsAt bytes at (crc ++ len) = stands_front (crc ++ len) (ty ++ (lg ++ (off ++ c.payload))) h in
    let tail : StandsAt bytes (at + 6 + 1) (lg ++ (off ++ c.payload)) = stands_back {at = at + 6} ty (lg ++ (off ++ c.payload)) after in
    let rest : StandsAt bytes (at + 6 + 1 + 4) (off ++ c.payload) = stands_back {at = at + 6 + 1} lg (off ++ c.payload) tail in
    record {
      crc = stands_front crc len front;
      len = stands_back {at = at} crc len front;
      body = after;
      type_is = stands_front ty (lg ++ (off ++ c.payload)) after;
      log_is = moved (at + 7) (omega arith) (stands_front lg (off ++ c.payload) tail);
      offset_is = moved (at + HEADER) (omega arith) (stands_front off c.payload rest);
      payload_is = moved (at + header_len c) (omega (arith, header_is c.offset)) (stands_back {at = at + 6 + 1 + 4} off c.payload rest);
      fits = let w = stands_within h (omega arith) in omega (arith, w, header_is c.offset, length-append off c.payload);
    }

-- one number at one place
pub same_16 : {bytes : List ℕ} {at m n : ℕ} → m < 2 ^ 16 → n < 2 ^ 16 → StandsAt bytes at (to_le_bytes w16 m) → StandsAt bytes at (to_le_bytes w16 n) → m ≡ n
same_16 {bytes} {at} {m} {n} hm hn p q =
    sym (from_le_bytes-to_le_bytes_2 m hm) ∙ ap (from_le_bytes w16) (stands_one p q refl) ∙ from_le_bytes-to_le_bytes_2 n hn

pub same_32 : {bytes : List ℕ} {at m n : ℕ} → m < 2 ^ 32 → n < 2 ^ 32 → StandsAt bytes at (to_le_bytes w32 m) → StandsAt bytes at (to_le_bytes w32 n) → m ≡ n
same_32 {bytes} {at} {m} {n} hm hn p q =
    sym (from_le_bytes-to_le_bytes_4 m hm) ∙ ap (from_le_bytes w32) (stands_one p q refl) ∙ from_le_bytes-to_le_bytes_4 n hn

pub same_64 : {bytes : List ℕ} {at m n : ℕ} → m < 2 ^ 64 → n < 2 ^ 64 → StandsAt bytes at (to_le_bytes w64 m) → StandsAt bytes at (to_le_bytes w64 n) → m ≡ n
same_64 {bytes} {at} {m} {n} hm hn p q =
    sym (from_le_bytes-to_le_bytes_8 m hm) ∙ ap (from_le_bytes w64) (stands_one p q refl) ∙ from_le_bytes-to_le_bytes_8 n hn

-- one byte at one place
pub byte_read : {bytes : List ℕ} {at b : ℕ} → StandsAt bytes at (b ∷ []) → get_or bytes at 0 ≡ b
byte_read {bytes} {at} {b} h = ap (λ (i : ℕ). get_or bytes i 0) (sym (add-zero at)) ∙ sym (get_or-drop at bytes 0 0)
    ∙ sym (get_or-take 1 (drop at bytes) 0 0 (omega arith)) ∙ ap (λ (t : List ℕ). get_or t 0 0) h.is

pub byte_stands : (bytes : List ℕ) (at b : ℕ) → at < length bytes → get_or bytes at 0 ≡ b → StandsAt bytes at (b ∷ [])
byte_stands bytes at b lt e = stands_from bytes at (b ∷ []) (drop (suc at) bytes) (drop-cons bytes at 0 lt ∙ ap (λ (t : ℕ). t ∷ drop (suc at) bytes) e)

-- What the checksum covers, cut out.
pub covered_is : (bytes : List ℕ) (at to log : ℕ) (c : Chunk) → StandsAt bytes (at + 6) (covered log c)
    → to ≡ at + chunk_len c → to ≤ length bytes → slice_range bytes (at + 6) to ≡ covered log c
unfolding covered
covered_is bytes at to log c h e within =
    stands_one (stands_range bytes (at + 6) to (omega (arith, e, header_is c.offset)) within) h
    (omega (arith, e, header_is c.offset, length-append (offset_bytes c.offset) c.payload, length-take (to - (at + 6)) (drop (at + 6) bytes), length-drop (at + 6) bytes))

-- A chunk stands where its fields do.
pub chunk_from : (bytes : List ℕ) (at to log : ℕ) (kind : ChunkKind) (offset : Option ℕ) (crc n : ℕ)
    → length bytes ≤ BLOCK → to ≡ at + header_with offset + n → to ≤ length bytes → OffsetFits offset
    → StandsAt bytes (at + 4) (to_le_bytes w16 n) → StandsAt bytes (at + 7) (to_le_bytes w32 log)
    → StandsAt bytes (at + HEADER) (offset_bytes offset) → get_or bytes (at + 6) 0 ≡ type_byte kind (is_some offset)
    → StandsAt bytes at (to_le_bytes w32 crc) → masked_of (checksum (slice_range bytes (at + 6) to)) ≡ crc
    → ChunkAt bytes at log (record { kind = kind; offset = offset; payload = slice_range bytes (at + header_with offset) to })
unfolding chunk_bytes covered
chunk_from bytes at to log kind offset crc n small e within fits len lg off byte stands sum =
    let from : ℕ = at + header_with offset in
    let payload : List ℕ = slice_range bytes from to in
    let c : Chunk = record { kind = kind; offset = offset; payload = payload } in
    let long : length payload ≡ n = omega (arith, e, length-take (to - from) (drop from bytes), length-drop from bytes) in
    let ty : StandsAt bytes (at + 6) (type_byte kind (is_some offset) ∷ []) = byte_stands bytes (at + 6) (type_byte kind (is_some offset)) (omega (arith, e, header_is offset)) byte in
    let last : StandsAt bytes (at + HEADER + length (offset_bytes offset)) payload = moved (at + HEADER + length (offset_bytes offset)) (omega (arith, header_is offset))
    (stands_range bytes from to (omega (arith, e)) within) in
    let rest : StandsAt bytes (at + 7 + 4) (offset_bytes offset ++ payload) = moved (at + 7 + 4) (omega arith) (stands_both {at = at + HEADER} (offset_bytes offset) payload off last) in
    let tail : StandsAt bytes (at + 7) (to_le_bytes w32 log ++ (offset_bytes offset ++ payload)) = stands_both (to_le_bytes w32 log) (offset_bytes offset ++ payload) lg rest in
    let body : StandsAt bytes (at + 6) (covered log c) = stands_both (type_byte kind (is_some offset) ∷ []) (to_le_bytes w32 log ++ (offset_bytes offset ++ payload)) ty
    (moved (at + 6 + 1) (omega arith) tail) in
    let same : slice_range bytes (at + 6) to ≡ covered log c = covered_is bytes at to log c body (omega (arith, e, long)) within in
    let first : StandsAt bytes at (to_le_bytes w32 (stored log c)) = subst (λ (v : ℕ). StandsAt bytes at (to_le_bytes w32 v))
    (sym sum ∙ ap (λ (t : List ℕ). masked_of (checksum t)) same) stands in
    let second : StandsAt bytes (at + 4) (to_le_bytes w16 (length payload)) = subst (λ (v : ℕ). StandsAt bytes (at + 4) (to_le_bytes w16 v)) (sym long) len in
    record {
      stands = stands_both (to_le_bytes w32 (stored log c) ++ to_le_bytes w16 (length payload)) (covered log c)
          (stands_both (to_le_bytes w32 (stored log c)) (to_le_bytes w16 (length payload)) first second) body;
      fits = fits;
      within = omega (arith, e, long);
    }

-- The checksum of a header's end and a payload, one after the other.
pub in_two : (x : ℕ) (a b : List ℕ) → after_bits (after_bits x (flat_map bits_of a)) (flat_map bits_of b) ≡ after_bits x (flat_map bits_of (a ++ b))
in_two x a b = sym (after_bits-append (flat_map bits_of a) x (flat_map bits_of b)) ∙ ap (after_bits x) (sym (flat_map-append bits_of a b))

-- what the checksum covers before the payload
abbrev pub head : ℕ → Chunk → List ℕ
head log c = type_byte c.kind (is_some c.offset) ∷ to_le_bytes w32 log ++ offset_bytes c.offset

head_covered : (log : ℕ) (c : Chunk) → head log c ++ c.payload ≡ covered log c
unfolding covered
head_covered log c = ap (λ (t : List ℕ). type_byte c.kind (is_some c.offset) ∷ t) (append_assoc (to_le_bytes w32 log) (offset_bytes c.offset) c.payload)

-- The checksum of what a chunk covers, its head first.
pub covered_sum : (log : ℕ) (c : Chunk)
    → bit_not w32 (after_bits (after_bits 0xFFFFFFFF (flat_map bits_of (head log c))) (flat_map bits_of c.payload)) ≡ checksum (covered log c)
unfolding checksum
covered_sum log c = ap (bit_not w32) (in_two 0xFFFFFFFF (head log c) c.payload)
    ∙ ap (λ (t : List ℕ). bit_not w32 (after_bits 0xFFFFFFFF (flat_map bits_of t))) (head_covered log c)

pub header_bytes : (log : ℕ) (c : Chunk) (crc byte : ℕ) → byte ≡ type_byte c.kind (is_some c.offset) → crc ≡ masked_of (checksum (covered log c))
    → to_le_bytes w32 crc ++ to_le_bytes w16 (length c.payload) ++ (byte ∷ to_le_bytes w32 log ++ offset_bytes c.offset) ++ c.payload ≡ chunk_bytes log c
unfolding chunk_bytes
header_bytes log c crc byte e f =
    rw (e, f) (ap (λ (t : List ℕ). to_le_bytes w32 (stored log c) ++ to_le_bytes w16 (length c.payload) ++ t) (head_covered log c))

-- A header and a payload, written one after the other.
pub put_is : (n : ℕ) (header payload out : List ℕ) (k : ℕ) → length header ≡ n → k ≡ length payload
    → put_mid n k (header ++ drop n out) payload ≡ (header ++ payload) ++ drop (n + length payload) out
put_is n header payload out k h e =
    let front : take n (header ++ drop n out) ≡ header = take_at header (drop n out) n h in
    let back : drop k (drop n (header ++ drop n out)) ≡ drop (n + length payload) out =
    ap (drop k) (drop_at header (drop n out) n h) ∙ drop-drop k n out ∙ ap (λ (m : ℕ). drop (n + m) out) e in
    rw (front, back) (sym (append_assoc header payload (drop (n + length payload) out)))

-- the kind that a byte says
abbrev kind_said : ℕ → ChunkKind
kind_said byte =
    if byte == 5 then Full else if byte == 9 then Full
    else if byte == 6 then First else if byte == 10 then First
    else if byte == 7 then Middle else if byte == 11 then Middle else Last

kind_back : (kind : ChunkKind) (is_sync : Bool) → kind_said (type_byte kind is_sync) ≡ kind
kind_back Full false = refl
kind_back First false = refl
kind_back Middle false = refl
kind_back Last false = refl
kind_back Full true = refl
kind_back First true = refl
kind_back Middle true = refl
kind_back Last true = refl

sync_back : (kind : ChunkKind) (is_sync : Bool) → nat_lt 8 (type_byte kind is_sync) ≡ is_sync
sync_back Full false = refl
sync_back First false = refl
sync_back Middle false = refl
sync_back Last false = refl
sync_back Full true = refl
sync_back First true = refl
sync_back Middle true = refl
sync_back Last true = refl

-- A byte says one kind and one form.
pub same_type : (a b : ChunkKind) (s t : Bool) → type_byte a s ≡ type_byte b t → (a ≡ b) × (s ≡ t)
same_type a b s t e = (sym (kind_back a s) ∙ ap kind_said e ∙ kind_back b t, sym (sync_back a s) ∙ ap (nat_lt 8) e ∙ sync_back b t)

-- Two offsets of one form that stand at one place are one.
same_offset : {bytes : List ℕ} {at : ℕ} (o p : Option ℕ) → is_some o ≡ is_some p → OffsetFits o → OffsetFits p
    → StandsAt bytes at (offset_bytes o) → StandsAt bytes at (offset_bytes p) → o ≡ p
same_offset None None e f g h i = refl
same_offset None (Some n) e f g h i = cc
same_offset (Some m) None e f g h i = cc
same_offset (Some m) (Some n) e f g h i = ap Some (same_64 f g h i)

-- headers of one form are of one length
pub same_header : (o p : Option ℕ) → is_some o ≡ is_some p → header_with o ≡ header_with p
same_header None None e = refl
same_header None (Some n) e = cc
same_header (Some m) None e = cc
same_header (Some m) (Some n) e = refl

-- a header is as long as that without a sync offset at least, and as that with one at most
pub form_bounds : (offset : Option ℕ) → (HEADER ≤ header_with offset) × (header_with offset ≤ SYNC_HEADER)
form_bounds None = (omega arith, omega arith)
form_bounds (Some offset) = (omega arith, omega arith)

pub header_bounds : (c : Chunk) → (HEADER ≤ header_len c) × (header_len c ≤ SYNC_HEADER)
header_bounds c = form_bounds c.offset

-- The payload stands after the header.
pub payload_at : {bytes : List ℕ} {at log : ℕ} {c : Chunk} → ChunkAt bytes at log c → StandsAt bytes (at + header_len c) c.payload
payload_at h = (fields_of h.stands).payload_is

-- one chunk, of its three parts
same_parts : (a b : Chunk) → a.kind ≡ b.kind → a.offset ≡ b.offset → a.payload ≡ b.payload → a ≡ b
same_parts a b e f g =
    ap (λ (k : ChunkKind). record a { kind = k }) e ∙ ap (λ (o : Option ℕ). record b { offset = o; payload = a.payload }) f
    ∙ ap (λ (p : List ℕ). record b { payload = p }) g

-- At one place stands at most one chunk of a log.
pub one_chunk : {bytes : List ℕ} {at log : ℕ} {a b : Chunk} → ChunkAt bytes at log a → ChunkAt bytes at log b → a ≡ b
one_chunk {bytes} {at} {log} {a} {b} h i =
    let f = fields_of h.stands in
    let g = fields_of i.stands in
    let long : length a.payload ≡ length b.payload = same_16 (omega (arith, h.within)) (omega (arith, i.within)) f.len g.len in
    let type_is : (a.kind ≡ b.kind) × (is_some a.offset ≡ is_some b.offset) =
    same_type a.kind b.kind (is_some a.offset) (is_some b.offset) (sym (byte_read f.type_is) ∙ byte_read g.type_is) in
    same_parts a b type_is.0 (same_offset a.offset b.offset type_is.1 h.fits i.fits f.offset_is g.offset_is)
    (stands_one f.payload_is
    (moved (at + header_len a) (ap (λ (n : ℕ). at + n) (sym (same_header a.offset b.offset type_is.1))) g.payload_is) long)

-- It ends within the bytes.
pub within_segment : {bytes : List ℕ} {at log : ℕ} {c : Chunk} → ChunkAt bytes at log c → at + chunk_len c ≤ length bytes
within_segment h = (fields_of h.stands).fits

-- A chunk stands wherever its bytes do.
pub chunk_moved : {log : ℕ} {c : Chunk} (bytes others : List ℕ) (at : ℕ) → take (chunk_len c) (drop at bytes) ≡ take (chunk_len c) (drop at others)
    → ChunkAt bytes at log c → ChunkAt others at log c
chunk_moved {log} {c} bytes others at same here = record {
  stands = record {
    is = ap (λ (n : ℕ). take n (drop at others)) (bytes_len log c) ∙ sym same ∙ sym (ap (λ (n : ℕ). take n (drop at bytes)) (bytes_len log c))
        ∙ here.stands.is;
  };
  fits = here.fits;
  within = here.within;
}

-- In longer bytes it has the same place.
pub same_in_whole : {log : ℕ} {c : Chunk} (front more : List ℕ) (at : ℕ) → ChunkAt front at log c
    → take (chunk_len c) (drop at front) ≡ take (chunk_len c) (drop at (front ++ more))
same_in_whole {log} {c} front more at here =
    let fits : at + chunk_len c ≤ length front = within_segment here in
    sym (ap (take (chunk_len c)) (drop-append-le at front more (omega (arith, fits)))
    ∙ take-append-le (chunk_len c) (drop at front) more (omega (arith, fits, length-drop at front)))

-- Whole chunks of a log at one place are of one length.
pub one_size : {bytes : List ℕ} {at log n m : ℕ} → IsChunkOf bytes at log n → IsChunkOf bytes at log m → n ≡ m
one_size a b = a.size_is ∙ ap chunk_len (one_chunk a.stands b.stands) ∙ sym b.size_is

-- A whole chunk has some bytes, and ends within the others.
pub chunk_within : {bytes : List ℕ} {at log size : ℕ} → IsChunkOf bytes at log size → (0 < size) × (at + size ≤ length bytes)
chunk_within h = (omega (arith, h.size_is, (header_bounds h.chunk).0), omega (arith, h.size_is, within_segment h.stands))
