-- The walk over the blocks that begin after the place at which reading stopped.
use Rattle.crc_chunk.specs.declared.chunk.TheConstants.{BLOCK}
use Rattle.std.proofs.Common.{◌≡◌, ℕ, ◌+◌, ◌-◌, ◌%◌, ◌<◌, ◌≤◌, List, [], ◌∷◌, ◌++◌, length, drop, refl, sym, ap, subst, ◌∙◌, arith, Bool, true, false, nat_lt, Option, Some, None}
use Rattle.std.proofs.lemmas.Bool.{ltb-true, ltb-false}
use Rattle.crc_chunk.specs.Chunk.{Chunk, ChunkAt}
use Rattle.crc_chunk.proofs.Laws.{header_bounds, one_chunk, within_segment}
use Rattle.block_record.specs.declared.records.Shown.{Shown}
use Rattle.block_record.specs.ReadOut.{NoChunkAt, chunk_end, block_front, IsChunkRow, CoversMore, ShowsCorrupt, TellsShown}
use Rattle.block_record.proofs.Pieces.{chunk_behind}

pub row_on : (bytes : List ℕ) (log from to : ℕ) (row : List Chunk) → IsChunkRow bytes log from row to → from ≤ to
row_on bytes log from to [] e = omega (arith, e)
row_on bytes log from to (link ∷ row) r = omega (arith, row_on bytes log (chunk_end from link) to row r.1)

row_push : (bytes : List ℕ) (log from to : ℕ) (row : List Chunk) (link : Chunk) → IsChunkRow bytes log from row to → ChunkAt bytes to log link
    → IsChunkRow bytes log from (row ++ link ∷ []) (chunk_end to link)
row_push bytes log from to [] link e h = (subst (λ (n : ℕ). ChunkAt bytes n log link) (sym e) h, ap (λ (n : ℕ). chunk_end n link) e)
row_push bytes log from to (first ∷ row) link r h = (r.0, row_push bytes log (chunk_end from first) to row link r.1 h)

-- A row to a later place goes on with a chunk that ends by there.
on_way : (bytes : List ℕ) (log from at to : ℕ) (row further : List Chunk) → IsChunkRow bytes log from row at → IsChunkRow bytes log from further to → at < to
    → (link : Chunk) × ChunkAt bytes at log link × (chunk_end at link ≤ to)
on_way bytes log from at to [] [] e f lt = absurd (omega (arith, e, f, lt))
on_way bytes log from at to [] (link ∷ further) e r lt =
    subst (λ (n : ℕ). (link : Chunk) × ChunkAt bytes n log link × (chunk_end n link ≤ to)) e (link, r.0, row_on bytes log (chunk_end from link) to further r.1)
on_way bytes log from at to (first ∷ row) [] r e lt = absurd (omega (arith, row_on bytes log (chunk_end from first) at row r.1, e, lt))
on_way bytes log from at to (first ∷ row) (other ∷ further) r s lt =
    on_way bytes log (chunk_end from first) at to row further r.1
    (subst (λ (l : Chunk). IsChunkRow bytes log (chunk_end from l) further to) (one_chunk s.0 r.0) s.1) lt

-- So far the blocks were walked over, and nothing before this place shows anything.
pub record Looked (bytes : List ℕ) (log stopped at : ℕ) : Type 0 where
  pub behind : stopped < block_front at
  pub row : List Chunk
  pub in_row : IsChunkRow bytes log (block_front at) row at
  pub least : (place : ℕ) → ShowsCorrupt bytes log stopped place → at ≤ place

front_is : (front : ℕ) → front % BLOCK ≡ 0 → block_front front ≡ front
front_is front e = omega (arith, e)

-- At a block's front.
pub looked_front : (bytes : List ℕ) (log stopped at : ℕ) → at % BLOCK ≡ 0 → stopped < at
    → ((place : ℕ) → ShowsCorrupt bytes log stopped place → at ≤ place) → Looked bytes log stopped at
looked_front bytes log stopped at front behind least = record {
  behind = omega (arith, front_is at front, behind);
  row = [];
  in_row = front_is at front;
  least = least;
}

pub looked_first : (bytes : List ℕ) (log stopped : ℕ) → Looked bytes log stopped (stopped - stopped % BLOCK + BLOCK)
looked_first bytes log stopped =
    looked_front bytes log stopped (stopped - stopped % BLOCK + BLOCK) (omega arith) (omega arith) (λ place s. omega (arith, s.behind))

-- Where no chunk stands, the next block is walked over.
pub looked_none : (bytes : List ℕ) (log stopped at : ℕ) → Looked bytes log stopped at → NoChunkAt bytes at log
    → Looked bytes log stopped (at - at % BLOCK + BLOCK)
looked_none bytes log stopped at l none =
    looked_front bytes log stopped (at - at % BLOCK + BLOCK) (omega arith) (omega (arith, l.behind)) least
  where
    least : (place : ℕ) → ShowsCorrupt bytes log stopped place → at - at % BLOCK + BLOCK ≤ place
    least place s = from (nat_lt place (at - at % BLOCK + BLOCK)) refl
      where
        from : (b : Bool) → nat_lt place (at - at % BLOCK + BLOCK) ≡ b → at - at % BLOCK + BLOCK ≤ place
        from false e = omega (arith, ltb-false place (at - at % BLOCK + BLOCK) e)
        from true e =
            let before : place < at - at % BLOCK + BLOCK = ltb-true place (at - at % BLOCK + BLOCK) e in
            let after : at ≤ place = l.least place s in
            let same : block_front place ≡ block_front at = omega (arith, before, after) in
            let row : IsChunkRow bytes log (block_front at) s.row place = subst (λ (n : ℕ). IsChunkRow bytes log n s.row place) same s.in_row in
            absurd (either (nat_lt at place) refl row after)
          where
            either : (b : Bool) → nat_lt at place ≡ b → IsChunkRow bytes log (block_front at) s.row place → at ≤ place → ⊥
            either true lt row after =
                let w = on_way bytes log (block_front at) at place l.row s.row l.in_row row (ltb-true at place lt) in
                none w.0 w.1
            either false ge row after =
                none s.chunk (subst (λ (n : ℕ). ChunkAt bytes n log s.chunk)
                (omega (arith, after, ltb-false at place ge)) s.stands)

-- A chunk that shows nothing is passed over.
pub looked_next : (bytes : List ℕ) (log stopped at end : ℕ) (link : Chunk) → Looked bytes log stopped at → ChunkAt bytes at log link → chunk_end at link ≡ end
    → (CoversMore stopped link → ⊥) → Looked bytes log stopped end
looked_next bytes log stopped at end link l h is small = from (nat_lt 0 (end % BLOCK)) refl
  where
    within : at % BLOCK + (end - at) ≤ BLOCK
    within = omega (arith, h.within, is)

    longer : at < end
    longer = omega (arith, is, (header_bounds link).0)

    least : (place : ℕ) → ShowsCorrupt bytes log stopped place → end ≤ place
    least place s = other (nat_lt place end) refl
      where
        same_place : at ≡ place → ⊥
        same_place e =
            let one : link ≡ s.chunk = one_chunk h (subst (λ (n : ℕ). ChunkAt bytes n log s.chunk) (sym e) s.stands) in
            small (subst (CoversMore stopped) (sym one) s.above)

        other : (b : Bool) → nat_lt place end ≡ b → end ≤ place
        other false e = omega (arith, ltb-false place end e)
        other true e =
            let before : place < end = ltb-true place end e in
            let after : at ≤ place = l.least place s in
            let same : block_front place ≡ block_front at = omega (arith, before, after, within) in
            let row : IsChunkRow bytes log (block_front at) s.row place = subst (λ (n : ℕ). IsChunkRow bytes log n s.row place) same s.in_row in
            absurd (either (nat_lt at place) refl row before after)
          where
            either : (b : Bool) → nat_lt at place ≡ b → IsChunkRow bytes log (block_front at) s.row place → place < end → at ≤ place → ⊥
            either true lt row before after =
                let w = on_way bytes log (block_front at) at place l.row s.row l.in_row row (ltb-true at place lt) in
                let ends : chunk_end at w.0 ≡ end = ap (chunk_end at) (one_chunk w.1 h) ∙ is in
                omega (arith, ends, w.2, before)
            either false ge row before after = same_place (omega (arith, after, ltb-false at place ge))

    from : (b : Bool) → nat_lt 0 (end % BLOCK) ≡ b → Looked bytes log stopped end
    from false e = looked_front bytes log stopped end (omega (arith, ltb-false 0 (end % BLOCK) e)) (omega (arith, l.behind, longer)) least
    from true e =
        let same : block_front end ≡ block_front at = omega (arith, ltb-true 0 (end % BLOCK) e, within, longer) in
        record {
          behind = omega (arith, l.behind, same);
          row = l.row ++ link ∷ [];
          in_row = subst (λ (n : ℕ). IsChunkRow bytes log n (l.row ++ link ∷ []) end) (sym same)
              (subst (IsChunkRow bytes log (block_front at) (l.row ++ link ∷ [])) is (row_push bytes log (block_front at) at l.row link l.in_row h));
          least = least;
        }

-- A chunk that shows something is the first that does.
pub looked_shows : (bytes : List ℕ) (log stopped at : ℕ) (link : Chunk) → Looked bytes log stopped at → ChunkAt bytes at log link
    → CoversMore stopped link → TellsShown bytes log stopped (Some (record { at = stopped; shown_at = at }))
looked_shows bytes log stopped at link l h above = record {
  at_is = refl;
  shows = record { behind = l.behind; row = l.row; in_row = l.in_row; chunk = link; stands = h; above = above };
  least = l.least;
}

-- After the bytes nothing shows anything.
pub looked_all : (bytes : List ℕ) (log stopped at : ℕ) → Looked bytes log stopped at → length bytes ≤ at → TellsShown bytes log stopped None
looked_all bytes log stopped at l end place s = omega (arith, l.least place s, end, within_segment s.stands, (header_bounds s.chunk).0)

-- ---- bytes that changed before a place

row_behind : (old new : List ℕ) (log end from to : ℕ) (row : List Chunk) → end ≤ from → drop end new ≡ drop end old → IsChunkRow new log from row to → IsChunkRow old log from row to
row_behind old new log end from to [] le e r = r
row_behind old new log end from to (link ∷ row) le e r =
    (chunk_behind old new end from le e r.0, row_behind old new log end (chunk_end from link) to row (omega (arith, le)) e r.1)

shows_behind : (old new : List ℕ) (log end stopped place : ℕ) → end ≤ stopped → drop end new ≡ drop end old → ShowsCorrupt new log stopped place → ShowsCorrupt old log stopped place
shows_behind old new log end stopped place le e s = record {
  behind = s.behind;
  row = s.row;
  in_row = row_behind old new log end (block_front place) place s.row (omega (arith, le, s.behind)) e s.in_row;
  chunk = s.chunk;
  stands = chunk_behind old new end place (omega (arith, le, s.behind)) e s.stands;
  above = s.above;
}

pub tells_behind : (old new : List ℕ) (log end stopped : ℕ) (shown : Option Shown) → end ≤ stopped → drop end new ≡ drop end old
    → TellsShown new log stopped shown → TellsShown old log stopped shown
tells_behind old new log end stopped None le e none = λ place s. none place (shows_behind new old log end stopped place le (sym e) s)
tells_behind old new log end stopped (Some shown) le e h = record {
  at_is = h.at_is;
  shows = shows_behind old new log end stopped shown.shown_at le e h.shows;
  least = λ place s. h.least place (shows_behind new old log end stopped place le (sym e) s);
}
