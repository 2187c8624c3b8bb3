-- Chains of chunks.
use Rattle.crc_chunk.specs.declared.chunk.TheConstants.{BLOCK}
use Rattle.std.proofs.Common.{◌≡◌, ℕ, suc, ◌+◌, ◌≤◌, List, [], ◌∷◌, length, drop, refl, sym, ap, subst, arith, Bool, true, false, nat_lt, Option}
use Rattle.std.specs.Prelude.{not, ◌==◌, ◌↔◌, IsTrue}
use Rattle.std.specs.List.{list_any}
use Rattle.crc_chunk.specs.declared.chunk.ChunkKind.{ChunkKind}
use Rattle.crc_chunk.specs.declared.chunk.ChunkKind.TheVariants.{Full, First, Middle, Last}
use Rattle.crc_chunk.specs.Chunk.{Chunk, header_len, ChunkAt}
use Rattle.crc_chunk.proofs.Laws.{one_chunk}
use Rattle.block_record.specs.declared.records.Shown.{Shown}
use Rattle.block_record.specs.Framing.{left_in_block}
use Rattle.block_record.specs.ReadOut.{MayFollow, leaves_open, next_place, chunk_end, place_after, stopped_at, IsChain, IsLongestChain, Spelled, after_link, spelled_from, nothing, TellsShown, ReadsOut}

-- A longest chain after a chunk that may follow is one with that chunk in front.
one_longer : {bytes : List ℕ} {log at : ℕ} {is_open : Bool} (link : Chunk) (links : List Chunk) → MayFollow is_open link.kind
    → ChunkAt bytes at log link
    → IsLongestChain bytes log (place_after at link) (leaves_open link.kind) links → IsLongestChain bytes log at is_open (link ∷ links)
one_longer {bytes} {log} {at} {is_open} link links follows stands h = record { chain = (follows, stands, h.chain); longest = most }
  where
    most : (others : List Chunk) → IsChain bytes log at is_open others → length others ≤ suc (length links)
    most [] c = omega arith
    most (other ∷ others) c =
        let rest : IsChain bytes log (place_after at link) (leaves_open link.kind) others =
        subst (λ (l : Chunk). IsChain bytes log (place_after at l) (leaves_open l.kind) others) (one_chunk c.1 stands) c.2 in
        omega (arith, h.longest others rest)

-- Whatever the longest chain from here on is, the segment's is one that spells it after what is spelled so far, and stops there.
pub record LeftToRead (bytes : List ℕ) (log at : ℕ) (is_open : Bool) (so_far : Spelled) : Type 0 where
  pub done : (links : List Chunk) → IsLongestChain bytes log at is_open links
      → (whole : List Chunk) × IsLongestChain bytes log 0 false whole × (spelled_from 0 nothing whole ≡ spelled_from at so_far links)
      × (stopped_at 0 whole ≡ stopped_at at links)

pub left_first : (bytes : List ℕ) (log : ℕ) → LeftToRead bytes log 0 false nothing
left_first bytes log = record { done = λ links h. (links, h, refl, refl) }

pub left_next : {bytes : List ℕ} {log at : ℕ} {is_open : Bool} {so_far : Spelled} (link : Chunk) → LeftToRead bytes log at is_open so_far
    → MayFollow is_open link.kind → ChunkAt bytes at log link
    → LeftToRead bytes log (place_after at link) (leaves_open link.kind) (after_link at so_far link)
left_next link l follows stands = record { done = λ links h. l.done (link ∷ links) (one_longer link links follows stands h) }

-- Where no chunk may follow, all is read.
pub all_read : (bytes : List ℕ) (log at : ℕ) (is_open : Bool) (so_far : Spelled) (torn : Bool) (shown : Option Shown)
    → LeftToRead bytes log at is_open so_far
    → ((c : Chunk) → MayFollow is_open c.kind → ChunkAt bytes at log c → ⊥)
    → torn ≡ list_any (λ b. not (b == 0)) (drop so_far.ends_at bytes) → TellsShown bytes log at shown
    → ReadsOut bytes log (record { records = so_far.records; ends_at = so_far.ends_at; torn = torn; shown = shown })
all_read bytes log at is_open so_far torn shown l none e tells =
    let found : (whole : List Chunk) × IsLongestChain bytes log 0 false whole
    × (spelled_from 0 nothing whole ≡ so_far) × (stopped_at 0 whole ≡ at) = l.done [] (record { chain = tt; longest = most }) in
    record {
      links = found.0;
      longest = found.1;
      records_are = ap (λ (s : Spelled). s.records) (sym found.2);
      end_is = ap (λ (s : Spelled). s.ends_at) (sym found.2);
      torn_is = e;
      shown_is = subst (λ (n : ℕ). TellsShown bytes log n shown) (sym found.3) tells;
    }
  where
    most : (others : List Chunk) → IsChain bytes log at is_open others → length others ≤ 0
    most [] c = omega arith
    most (other ∷ others) c = absurd (none other c.0 c.1)

-- Records end where chunks do.
pub ends_within : (start : ℕ) (so_far : Spelled) (link : Chunk) → so_far.ends_at ≤ start
    → (after_link start so_far link).ends_at ≤ chunk_end start link
ends_within start so_far link h = go link.kind refl
  where
    go : (kind : ChunkKind) → link.kind ≡ kind → (after_link start so_far link).ends_at ≤ chunk_end start link
    go Full e = rw e (omega arith)
    go First e = rw e (omega (arith, h))
    go Middle e = rw e (omega (arith, h))
    go Last e = rw e (omega arith)

pub not_true : (b : Bool) → b ≡ false → IsTrue b → ⊥
not_true false e h = absurd cc
not_true true e h = absurd cc

-- The one chunk that stands there may not follow.
pub refused : {bytes : List ℕ} (at : ℕ) {log : ℕ} (is_open : Bool) {follows : Bool} (found : Chunk)
    → ChunkAt bytes at log found
    → IsTrue follows ↔ MayFollow is_open found.kind → follows ≡ false → (c : Chunk) → MayFollow is_open c.kind
    → ChunkAt bytes at log c → ⊥
refused at is_open {follows} found stands tells wrong c may h =
    not_true follows wrong (tells.1 (subst (λ (d : Chunk). MayFollow is_open d.kind) (one_chunk h stands) may))

-- A turn of the loop over chunks.
pub read_more : {bytes : List ℕ} {log : ℕ} (at next : ℕ) {is_open opened : Bool} {so_far more : Spelled} (link : Chunk) → LeftToRead bytes log at is_open so_far
    → MayFollow is_open link.kind → ChunkAt bytes at log link → next ≡ place_after at link → opened ≡ leaves_open link.kind
    → more ≡ after_link at so_far link → LeftToRead bytes log next opened more
read_more {bytes} {log} at next {is_open} {opened} {so_far} {more} link l follows stands place f g =
    rw (place, f, g) (left_next link l follows stands)

pub not_before : (asked at : ℕ) → at ≤ next_place asked at
not_before asked at = from (nat_lt (left_in_block at) asked) refl
  where
    from : (b : Bool) → nat_lt (left_in_block at) asked ≡ b → at ≤ next_place asked at
    from true e = rw e (omega arith)
    from false e = rw e (omega arith)

-- The next place is within the block or at the next one's front.
pub next_near : (asked at : ℕ) → next_place asked at ≤ at + BLOCK
next_near asked at = from (nat_lt (left_in_block at) asked) refl
  where
    from : (b : Bool) → nat_lt (left_in_block at) asked ≡ b → next_place asked at ≤ at + BLOCK
    from true e = rw e (omega arith)
    from false e = rw e (omega arith)

-- A chain goes on, and never back.
pub goes_on : (at : ℕ) (links : List Chunk) → at ≤ stopped_at at links
goes_on at [] = omega arith
goes_on at (link ∷ links) =
    omega (arith, goes_on (place_after at link) links, not_before (header_len link) (chunk_end at link))
