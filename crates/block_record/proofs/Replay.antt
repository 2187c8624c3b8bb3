-- What is read out of records that were laid: the longest chain goes through their chunks.
use Rattle.crc_chunk.specs.declared.chunk.TheConstants.{BLOCK, SYNC_HEADER}
use Rattle.std.proofs.Common.{◌≡◌, ℕ, zero, suc, ◌+◌, ◌%◌, ◌^◌, ◌<◌, ◌≤◌, List, [], ◌∷◌, ◌++◌, length, take, drop, refl, sym, ap, subst, ◌∙◌, add-zero, append_assoc, arith, Bool, true, false, nat_lt, ◌⊎◌, inl, inr, Some}
use Rattle.std.specs.Prelude.{map}
use Rattle.std.proofs.lemmas.List.{length-take, length-drop, length-append, length-replicate, take_all, drop_at, drop-drop, take-append-drop, append-nil, map-append}
use Rattle.std.proofs.lemmas.List.Elements.{All-head, All-tail}
use Rattle.std.proofs.lemmas.Bool.{ltb-true}
use Rattle.crc_chunk.specs.declared.chunk.ChunkKind.{ChunkKind}
use Rattle.crc_chunk.specs.declared.chunk.ChunkKind.TheVariants.{Full, First, Middle, Last}
use Rattle.crc_chunk.specs.Chunk.{Chunk, sync_chunk, chunk_bytes, OffsetFits, ChunkAt}
use Rattle.crc_chunk.proofs.Laws.{bytes_len, one_chunk, stands_from}
use Rattle.block_record.specs.declared.records.ReadOut.{ReadOut}
use Rattle.block_record.specs.declared.records.Rec.{Rec}
use Rattle.block_record.specs.Framing.{Marked, OffsetsFit, left_in_block, room_at, cut, blocks_for, fragments, later_chunks, chunks, padding, framed, laid}
use Rattle.block_record.specs.ReadOut.{MayFollow, leaves_open, next_place, place_after, stopped_at, IsChain, IsLongestChain, Spelled, ended, after_link, spelled_from, nothing, bytes_marked, NoChunkAt, ReadsOut}
use Rattle.block_record.proofs.Fragments.{no_blocks, room_behind}

-- A chain, or one that is surely the longest.
abbrev pub Reads : Bool → List ℕ → ℕ → ℕ → Bool → List Chunk → Type 0
Reads true bytes log at is_open links = IsLongestChain bytes log at is_open links
Reads false bytes log at is_open links = IsChain bytes log at is_open links

-- The chain from one place goes on as one from another, and this is spelled by then.
pub record GoesOn (sure : Bool) (bytes : List ℕ) (log at : ℕ) (links : List Chunk) (so_far : Spelled) (to : ℕ) (opened : Bool) (more : Spelled) : Type 0 where
  pub rest : List Chunk
  pub still : Reads sure bytes log to opened rest
  pub spells : spelled_from at so_far links ≡ spelled_from to more rest
  pub stops : stopped_at at links ≡ stopped_at to rest

-- The chain ends before it spells a record more, as the longest one does not.
pub record Stops (sure : Bool) (at : ℕ) (links : List Chunk) (so_far : Spelled) : Type 0 where
  pub unsure : sure ≡ false
  pub same : (spelled_from at so_far links).records ≡ so_far.records

abbrev pub Outcome : Bool → List ℕ → ℕ → ℕ → List Chunk → Spelled → ℕ → Bool → Spelled → Type 0
Outcome sure bytes log at links so_far to opened more = GoesOn sure bytes log at links so_far to opened more ⊎ Stops sure at links so_far

stops : {bytes : List ℕ} {log at : ℕ} (is_open : Bool) (link : Chunk) (sure : Bool) (so_far : Spelled) → MayFollow is_open link.kind
    → ChunkAt bytes at log link → Reads sure bytes log at is_open [] → Stops sure at [] so_far
stops is_open link true so_far follows stands h = absurd
    (omega (arith, h.longest (link ∷ []) (follows, stands, tt)))
stops is_open link false so_far follows stands h = record { unsure = refl; same = refl }

head_of : (bytes : List ℕ) (log at : ℕ) (is_open : Bool) (sure : Bool) (first : Chunk) (links : List Chunk)
    → Reads sure bytes log at is_open (first ∷ links) → MayFollow is_open first.kind × ChunkAt bytes at log first
head_of bytes log at is_open true first links h = (h.chain.0, h.chain.1)
head_of bytes log at is_open false first links h = (h.0, h.1)

tail_of : (bytes : List ℕ) (log at : ℕ) (is_open : Bool) (sure : Bool) (first : Chunk) (links : List Chunk)
    → Reads sure bytes log at is_open (first ∷ links) → Reads sure bytes log (place_after at first) (leaves_open first.kind) links
tail_of bytes log at is_open true first links h = record {
  chain = h.chain.2;
  longest = λ others c. omega (arith, h.longest (first ∷ others) (h.chain.0, h.chain.1, c));
}
tail_of bytes log at is_open false first links h = h.2

-- A chunk that stands there and may follow is the first of the chain.
peel : {bytes : List ℕ} {log : ℕ} (sure : Bool) (at : ℕ) (is_open : Bool) (link : Chunk) (so_far : Spelled)
    (links : List Chunk) → MayFollow is_open link.kind
    → ChunkAt bytes at log link → Reads sure bytes log at is_open links
    → Outcome sure bytes log at links so_far (place_after at link) (leaves_open link.kind) (after_link at so_far link)
peel sure at is_open link so_far [] follows stands h = inr (stops is_open link sure so_far follows stands h)
peel {bytes} {log} sure at is_open link so_far (first ∷ links) follows stands h =
    let found : GoesOn sure bytes log at (first ∷ links) so_far (place_after at first) (leaves_open first.kind) (after_link at so_far first) =
    record { rest = links; still = tail_of bytes log at is_open sure first links h; spells = refl; stops = refl } in
    inl (subst (λ (l : Chunk). GoesOn sure bytes log at (first ∷ links) so_far (place_after at l) (leaves_open l.kind) (after_link at so_far l))
    (one_chunk (head_of bytes log at is_open sure first links h).1 stands) found)

follow : {sure : Bool} {bytes : List ℕ} {log at to further : ℕ} {links : List Chunk} {so_far more most : Spelled} {opened again : Bool}
    → more.records ≡ so_far.records
    → (g : GoesOn sure bytes log at links so_far to opened more) → Outcome sure bytes log to g.rest more further again most
    → Outcome sure bytes log at links so_far further again most
follow same g (inl n) = inl (record { rest = n.rest; still = n.still; spells = g.spells ∙ n.spells; stops = g.stops ∙ n.stops })
follow same g (inr n) = inr (record { unsure = n.unsure; same = ap (λ (s : Spelled). s.records) g.spells ∙ n.same ∙ same })

and_then : {sure : Bool} {bytes : List ℕ} {log at to further : ℕ} {links : List Chunk} {so_far more most : Spelled} {opened again : Bool}
    → more.records ≡ so_far.records
    → Outcome sure bytes log at links so_far to opened more → ((rest : List Chunk) → Reads sure bytes log to opened rest
    → Outcome sure bytes log to rest more further again most)
    → Outcome sure bytes log at links so_far further again most
and_then same (inl g) f = follow same g (f g.rest g.still)
and_then same (inr n) f = inr n

pub chunk_here : (bytes more : List ℕ) (at log off : ℕ) (kind : ChunkKind) (payload : List ℕ) → OffsetFits (Some off)
    → drop at bytes ≡ chunk_bytes log (sync_chunk kind off payload) ++ more
    → at % BLOCK + SYNC_HEADER + length payload ≤ BLOCK → ChunkAt bytes at log (sync_chunk kind off payload)
chunk_here bytes more at log off kind payload fits e within =
    record { stands = stands_from bytes at (chunk_bytes log (sync_chunk kind off payload)) more e; fits = fits; within = omega (arith, within) }

pub behind : (bytes part more : List ℕ) (at n : ℕ) → drop at bytes ≡ part ++ more → length part ≡ n → drop (at + n) bytes ≡ more
behind bytes part more at n e len = sym (drop-drop n at bytes) ∙ ap (drop n) e ∙ drop_at part more n len

-- The next place is after the zeros.
pub next_is : (at : ℕ) → next_place SYNC_HEADER at ≡ at + length (padding at)
next_is at = from (nat_lt (left_in_block at) SYNC_HEADER) refl
  where
    from : (b : Bool) → nat_lt (left_in_block at) SYNC_HEADER ≡ b → next_place SYNC_HEADER at ≡ at + length (padding at)
    from true e = rw e (ap (λ (n : ℕ). at + n) (sym (length-replicate {A = ℕ} (left_in_block at) 0)))
    from false e = rw e (sym (add-zero at))

pub stays_at : (at : ℕ) → SYNC_HEADER ≤ left_in_block at → next_place SYNC_HEADER at ≡ at
stays_at at room = from (nat_lt (left_in_block at) SYNC_HEADER) refl
  where
    from : (b : Bool) → nat_lt (left_in_block at) SYNC_HEADER ≡ b → next_place SYNC_HEADER at ≡ at
    from true e = absurd (omega (arith, ltb-true (left_in_block at) SYNC_HEADER e))
    from false e = rw e refl

-- After a chunk that fills its block, the next one stands at the next block's front.
pub fills : (at n to : ℕ) → at + SYNC_HEADER + n ≡ to → to % BLOCK ≡ 0 → next_place SYNC_HEADER (at + SYNC_HEADER + n) ≡ to
fills at n to e front = ap (next_place SYNC_HEADER) e ∙ stays_at to (omega (arith, front))

-- a record that is open, with more after it
abbrev grown : Rec → List ℕ → Rec
grown rest more = record { at = rest.at; bytes = rest.bytes ++ more }

-- The chunks after the first complete the record.
later_read : (sure : Bool) (n : ℕ) (bytes more part : List ℕ) (log off at to : ℕ) (so_far : Spelled) (links : List Chunk) → OffsetFits (Some off)
    → at % BLOCK ≡ 0 → suc n ≡ blocks_for (length part)
    → to ≡ at + length (later_chunks log off (cut (suc n) part)) → drop at bytes ≡ later_chunks log off (cut (suc n) part) ++ more
    → Reads sure bytes log at true links
    → Outcome sure bytes log at links so_far (next_place SYNC_HEADER to) false (ended so_far to (grown so_far.rest part))
later_read sure zero bytes more part log off at to so_far links fits front blocks end e h =
    let last : List ℕ = take (room_at 0) part in
    let whole : last ≡ part = take_all (room_at 0) part (omega arith) in
    let here : ChunkAt bytes at log (sync_chunk Last off last) = chunk_here bytes more at log off Last last fits e (omega (arith, front, length-take (room_at 0) part)) in
    let found : Outcome sure bytes log at links so_far (next_place SYNC_HEADER (at + SYNC_HEADER + length last)) false
    (ended so_far (at + SYNC_HEADER + length last) (grown so_far.rest last)) = peel sure at true (sync_chunk Last off last) so_far links refl here h in
    let there : at + SYNC_HEADER + length last ≡ to = omega (arith, end, bytes_len log (sync_chunk Last off last)) in
    let ends : Outcome sure bytes log at links so_far (next_place SYNC_HEADER to) false (ended so_far to (grown so_far.rest last)) =
    subst (λ (n : ℕ). Outcome sure bytes log at links so_far (next_place SYNC_HEADER n) false (ended so_far n (grown so_far.rest last))) there found in
    subst (λ (t : List ℕ). Outcome sure bytes log at links so_far (next_place SYNC_HEADER to) false (ended so_far to (grown so_far.rest t))) whole ends
later_read sure (suc n) bytes more part log off at to so_far links fits front blocks end e h =
    let middle : List ℕ = take (room_at 0) part in
    let rest : List ℕ = drop (room_at 0) part in
    let len : length middle ≡ room_at 0 = omega (arith, length-take (room_at 0) part) in
    let chunk_is : length (chunk_bytes log (sync_chunk Middle off middle)) ≡ BLOCK = omega (arith, bytes_len log (sync_chunk Middle off middle), len) in
    let laters : List ℕ = later_chunks log off (cut (suc n) rest) in
    let split : drop at bytes ≡ chunk_bytes log (sync_chunk Middle off middle) ++ (laters ++ more) = e ∙ append_assoc (chunk_bytes log (sync_chunk Middle off middle)) laters more in
    let here : ChunkAt bytes at log (sync_chunk Middle off middle) =
    chunk_here bytes (laters ++ more) at log off Middle middle fits split (omega (arith, front, len)) in
    let next : Spelled = record so_far { rest = grown so_far.rest middle } in
    let found : Outcome sure bytes log at links so_far (next_place SYNC_HEADER (at + SYNC_HEADER + length middle)) true next = peel sure at true (sync_chunk Middle off middle)
    so_far links refl here h in
    let moved : Outcome sure bytes log at links so_far (at + BLOCK) true next = subst
    (λ (n : ℕ). Outcome sure bytes log at links so_far n true next) (fills at (length middle) (at + BLOCK) (omega (arith, len)) (omega (arith, front))) found in
    let whole : (so_far.rest.bytes ++ middle) ++ rest ≡ so_far.rest.bytes ++ part = append_assoc so_far.rest.bytes middle rest
    ∙ ap (λ (t : List ℕ). so_far.rest.bytes ++ t) (take-append-drop (room_at 0) part) in
    let done : Outcome sure bytes log at links so_far (next_place SYNC_HEADER to) false (ended so_far to
    (record { at = so_far.rest.at; bytes = (so_far.rest.bytes ++ middle) ++ rest })) =
    and_then refl moved (λ others l. later_read sure n bytes more rest log off (at + BLOCK) to next others fits (omega (arith, front)) (omega (arith, length-drop (room_at 0) part))
    (omega (arith, end, length-append (chunk_bytes log (sync_chunk Middle off middle)) laters, chunk_is))
    (behind bytes (chunk_bytes log (sync_chunk Middle off middle)) (laters ++ more) at BLOCK split chunk_is) l) in
    subst (λ (t : List ℕ). Outcome sure bytes log at links so_far (next_place SYNC_HEADER to) false (ended so_far to (record { at = so_far.rest.at; bytes = t }))) whole done

-- A framed record is read.
record_chunks : (sure : Bool) (bytes more part : List ℕ) (log off place to : ℕ) (so_far : Spelled) (links : List Chunk)
    → OffsetFits (Some off) → place % BLOCK + SYNC_HEADER ≤ BLOCK
    → to ≡ place + length (chunks log off (fragments place part)) → drop place bytes ≡ chunks log off (fragments place part) ++ more
    → Reads sure bytes log place false links
    → Outcome sure bytes log place links so_far (next_place SYNC_HEADER to) false (ended so_far to (record { at = place; bytes = part }))
record_chunks sure bytes more part log off place to so_far links fits room end e h = from (blocks_for (length rest)) refl end e
  where
    first : List ℕ
    first = take (room_at place) part

    rest : List ℕ
    rest = drop (room_at place) part

    from : (n : ℕ) → n ≡ blocks_for (length rest) → to ≡ place + length (chunks log off (first ∷ cut n rest))
        → drop place bytes ≡ chunks log off (first ∷ cut n rest) ++ more
        → Outcome sure bytes log place links so_far (next_place SYNC_HEADER to) false (ended so_far to (record { at = place; bytes = part }))
    from zero blocks end e =
        let whole : first ≡ part = take_all (room_at place) part (omega (arith, no_blocks (length rest) blocks, length-drop (room_at place) part)) in
        let here : ChunkAt bytes place log (sync_chunk Full off first) =
        chunk_here bytes more place log off Full first fits e (omega (arith, room, length-take (room_at place) part)) in
        let found : Outcome sure bytes log place links so_far (next_place SYNC_HEADER (place + SYNC_HEADER + length first)) false
        (ended so_far (place + SYNC_HEADER + length first) (record { at = place; bytes = first })) = peel sure place false (sync_chunk Full off first)
        so_far links refl here h in
        let there : place + SYNC_HEADER + length first ≡ to = omega (arith, end, bytes_len log (sync_chunk Full off first)) in
        let ends : Outcome sure bytes log place links so_far (next_place SYNC_HEADER to) false (ended so_far to (record { at = place; bytes = first })) =
        subst (λ (n : ℕ). Outcome sure bytes log place links so_far (next_place SYNC_HEADER n) false (ended so_far n (record { at = place; bytes = first }))) there found in
        subst (λ (t : List ℕ). Outcome sure bytes log place links so_far (next_place SYNC_HEADER to) false (ended so_far to (record { at = place; bytes = t }))) whole ends
    from (suc n) blocks end e =
        let laters : List ℕ = later_chunks log off (cut (suc n) rest) in
        let len : length first ≡ room_at place = omega (arith, length-take (room_at place) part, length-drop (room_at place) part) in
        let next_front : ℕ = place + (SYNC_HEADER + room_at place) in
        let chunk_is : length (chunk_bytes log (sync_chunk First off first)) ≡ SYNC_HEADER + room_at place = omega (arith, bytes_len log (sync_chunk First off first), len) in
        let split : drop place bytes ≡ chunk_bytes log (sync_chunk First off first) ++ (laters ++ more) = e ∙ append_assoc (chunk_bytes log (sync_chunk First off first)) laters more in
        let here : ChunkAt bytes place log (sync_chunk First off first) =
        chunk_here bytes (laters ++ more) place log off First first fits split (omega (arith, room, len)) in
        let next : Spelled = record so_far { rest = record { at = place; bytes = first } } in
        let found : Outcome sure bytes log place links so_far (next_place SYNC_HEADER (place + SYNC_HEADER + length first)) true next = peel sure place false (sync_chunk First off first)
        so_far links refl here h in
        let moved : Outcome sure bytes log place links so_far next_front true next = subst
        (λ (n : ℕ). Outcome sure bytes log place links so_far n true next)
        (fills place (length first) next_front (omega (arith, len)) (omega (arith, room))) found in
        let done : Outcome sure bytes log place links so_far (next_place SYNC_HEADER to) false (ended so_far to (record { at = place; bytes = first ++ rest })) =
        and_then refl moved (λ others l. later_read sure n bytes more rest log off next_front to next others fits (omega (arith, room)) blocks
        (omega (arith, end, length-append (chunk_bytes log (sync_chunk First off first)) laters, chunk_is))
        (behind bytes (chunk_bytes log (sync_chunk First off first)) (laters ++ more) place (SYNC_HEADER + room_at place) split chunk_is) l) in
        subst (λ (t : List ℕ). Outcome sure bytes log place links so_far (next_place SYNC_HEADER to) false (ended so_far to (record { at = place; bytes = t })))
        (take-append-drop (room_at place) part) done

-- the place after a record's last chunk
abbrev pub chunks_end : ℕ → ℕ → ℕ → List ℕ → ℕ
chunks_end log off place part = place + length (chunks log off (fragments place part))

-- the place after a framed record, its zeros included
pub framed_end : (log off place : ℕ) (part : List ℕ) → next_place SYNC_HEADER (chunks_end log off place part) ≡ place + length (framed log place off part)
unfolding framed
framed_end log off place part =
    let all : List ℕ = chunks log off (fragments place part) in
    next_is (place + length all) ∙ omega (arith, length-append all (padding (place + length all)))

pub room_framed : (log off place : ℕ) (part : List ℕ) → (place + length (framed log place off part)) % BLOCK + SYNC_HEADER ≤ BLOCK
unfolding framed
room_framed log off place part =
    let all : List ℕ = chunks log off (fragments place part) in
    omega (arith, room_behind (place + length all), length-append all (padding (place + length all)))

pub framed_read : (sure : Bool) (bytes more part : List ℕ) (log off place : ℕ) (so_far : Spelled) (links : List Chunk)
    → OffsetFits (Some off) → place % BLOCK + SYNC_HEADER ≤ BLOCK
    → drop place bytes ≡ framed log place off part ++ more → Reads sure bytes log place false links
    → Outcome sure bytes log place links so_far (place + length (framed log place off part)) false
    (ended so_far (chunks_end log off place part) (record { at = place; bytes = part }))
unfolding framed
framed_read sure bytes more part log off place so_far links fits room e h =
    let all : List ℕ = chunks log off (fragments place part) in
    let zeros : List ℕ = padding (place + length all) in
    subst (λ (n : ℕ). Outcome sure bytes log place links so_far n false (ended so_far (place + length all) (record { at = place; bytes = part })))
    (framed_end log off place part)
    (record_chunks sure bytes (zeros ++ more) part log off place (place + length all) so_far links fits room refl (e ∙ append_assoc all zeros more) h)

-- What is read by the end of records that were laid.
pub record Replayed (bytes : List ℕ) (log : ℕ) (links : List Chunk) (so_far : Spelled) (place : ℕ) (records : List Marked) : Type 0 where
  pub more : Spelled
  pub goes : GoesOn true bytes log place links so_far (place + length (laid log place records)) false more
  pub spelled : map (λ (r : Rec). r.bytes) more.records ≡ map (λ (r : Rec). r.bytes) so_far.records ++ bytes_marked records

surely : {bytes : List ℕ} {log at to : ℕ} {links : List Chunk} {so_far more : Spelled} {opened : Bool}
    → Outcome true bytes log at links so_far to opened more → GoesOn true bytes log at links so_far to opened more
surely (inl g) = g
surely (inr n) = absurd (false_not_true n.unsure)
  where
    false_not_true : true ≡ false → ⊥
    false_not_true e = cc

pub laid_read : (records : List Marked) (bytes tail : List ℕ) (log place : ℕ) (so_far : Spelled) (links : List Chunk)
    → OffsetsFit records → place % BLOCK + SYNC_HEADER ≤ BLOCK
    → drop place bytes ≡ laid log place records ++ tail → IsLongestChain bytes log place false links → Replayed bytes log links so_far place records
laid_read [] bytes tail log place so_far links fit room e h = record {
  more = so_far;
  goes = subst (λ (n : ℕ). GoesOn true bytes log place links so_far n false so_far) (sym (add-zero place))
      (record { rest = links; still = h; spells = refl; stops = refl });
  spelled = sym (append-nil (map (λ (r : Rec). r.bytes) so_far.records));
}
laid_read (part ∷ records) bytes tail log place so_far links fit room e h =
    let one : List ℕ = framed log place part.offset part.bytes in
    let others : List ℕ = laid log (place + length one) records in
    let split : drop place bytes ≡ one ++ (others ++ tail) = e ∙ append_assoc one others tail in
    let placed : Rec = record { at = place; bytes = part.bytes } in
    let next : Spelled = ended so_far (chunks_end log part.offset place part.bytes) placed in
    let g : GoesOn true bytes log place links so_far (place + length one) false next = surely
    (framed_read true bytes (others ++ tail) part.bytes log part.offset place so_far links (All-head (λ (r : Marked). r.offset < 2 ^ 64) part records fit) room split h) in
    let r : Replayed bytes log g.rest next (place + length one) records =
    laid_read records bytes tail log (place + length one) next g.rest (All-tail (λ (r : Marked). r.offset < 2 ^ 64) part records fit) (room_framed log part.offset place part.bytes)
    (behind bytes one (others ++ tail) place (length one) split refl) g.still in
    record {
      more = r.more;
      goes = subst (λ (n : ℕ). GoesOn true bytes log place links so_far n false r.more) (omega (arith, length-append one others))
          (record { rest = r.goes.rest; still = r.goes.still; spells = g.spells ∙ r.goes.spells; stops = g.stops ∙ r.goes.stops });
      spelled = r.spelled ∙ ap (λ (t : List (List ℕ)). t ++ bytes_marked records) (map-append (λ (r : Rec). r.bytes) so_far.records (placed ∷ []))
          ∙ append_assoc (map (λ (r : Rec). r.bytes) so_far.records) (part.bytes ∷ []) (bytes_marked records);
    }

pub none_left : (bytes : List ℕ) (log at : ℕ) (is_open : Bool) (links : List Chunk)
    → NoChunkAt bytes at log
    → IsChain bytes log at is_open links → links ≡ []
none_left bytes log at is_open [] none h = refl
none_left bytes log at is_open (link ∷ links) none h = absurd (none link h.1)

-- Records that were laid are read where no chunk of the log stands right after them.
pub laid_is_read : (log : ℕ) (records : List Marked) (bytes tail : List ℕ) (read : ReadOut)
    → OffsetsFit records → bytes ≡ laid log 0 records ++ tail
    → NoChunkAt bytes (length (laid log 0 records)) log
    → ReadsOut bytes log read → map (λ (r : Rec). r.bytes) read.records ≡ bytes_marked records
laid_is_read log records bytes tail read fit e none h =
    let r : Replayed bytes log h.links nothing 0 records = laid_read records bytes tail log 0 nothing h.links fit (omega arith) e h.longest in
    let over : r.goes.rest ≡ [] =
    none_left bytes log (0 + length (laid log 0 records)) false r.goes.rest (λ c stands. none c
    (subst (λ (n : ℕ). ChunkAt bytes n log c) (omega arith) stands)) r.goes.still.chain in
    let spelled : spelled_from 0 nothing h.links ≡ r.more = r.goes.spells ∙ ap (spelled_from (0 + length (laid log 0 records)) r.more) over in
    ap (map (λ (r : Rec). r.bytes)) (h.records_are ∙ ap (λ (s : Spelled). s.records) spelled) ∙ r.spelled
