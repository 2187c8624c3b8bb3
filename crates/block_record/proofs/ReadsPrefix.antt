-- What is read of a segment that begins as records were laid.
use Rattle.crc_chunk.specs.declared.chunk.TheConstants.{BLOCK, SYNC_HEADER}
use Rattle.crc_chunk.proofs.Laws.{header_bounds, within_segment}
use Rattle.std.proofs.Common.{◌≡◌, ℕ, suc, ◌+◌, ◌%◌, ◌^◌, ◌<◌, ◌≤◌, List, [], ◌∷◌, ◌++◌, length, take, drop, refl, sym, ap, ◌∙◌, append_assoc, arith, Bool, false, inl, inr, Option, Some, None}
use Rattle.std.proofs.lemmas.List.{length-take, length-drop, length-append, take-take, take_at, take-append-drop, append-nil, map-append}
use Rattle.std.proofs.lemmas.List.Elements.{All-head, All-tail, All-take}
use Rattle.crc_chunk.specs.declared.chunk.ChunkKind.{ChunkKind}
use Rattle.crc_chunk.specs.declared.chunk.ChunkKind.TheVariants.{Full, First, Middle, Last}
use Rattle.crc_chunk.specs.Chunk.{Chunk}
use Rattle.block_record.specs.declared.records.ReadOut.{ReadOut}
use Rattle.block_record.specs.declared.records.Rec.{Rec}
use Rattle.block_record.specs.declared.records.Shown.{Shown}
use Rattle.block_record.specs.Framing.{Marked, OffsetsFit, framed, laid}
use Rattle.block_record.specs.ReadOut.{chunk_end, place_after, stopped_at, IsChain, Spelled, ended, after_link, spelled_from, nothing, bytes_of, bytes_marked, ChunksStandIn, OffsetsAreWithin, block_front, IsChunkRow, ShowsCorrupt, TellsShown, ReadsOut, ReadsPrefix}
use Rattle.block_record.proofs.Chains.{goes_on}
use Rattle.block_record.proofs.Laid.{laid-append}
use Rattle.block_record.proofs.Replay.{Outcome, chunks_end, behind, framed_read, room_framed, Replayed, laid_read, none_left}
use Rattle.block_record.proofs.Tiles.{OffsetIs, covered_by, offset_of_shown}

one_more : (start : ℕ) (so_far : Spelled) (link : Chunk) → (extra : List Rec) × ((after_link start so_far link).records ≡ so_far.records ++ extra)
one_more start so_far link = go link.kind refl
  where
    go : (kind : ChunkKind) → link.kind ≡ kind → (extra : List Rec) × ((after_link start so_far link).records ≡ so_far.records ++ extra)
    go Full e = (record { at = start; bytes = link.payload } ∷ [], rw e refl)
    go First e = ([], rw e (sym (append-nil so_far.records)))
    go Middle e = ([], rw e (sym (append-nil so_far.records)))
    go Last e = (record { at = so_far.rest.at; bytes = so_far.rest.bytes ++ link.payload } ∷ [], rw e refl)

-- Records that are spelled stay.
grows : (at : ℕ) (so_far : Spelled) (links : List Chunk) → (extra : List Rec) × ((spelled_from at so_far links).records ≡ so_far.records ++ extra)
grows at so_far [] = ([], sym (append-nil so_far.records))
grows at so_far (link ∷ links) =
    let step : (extra : List Rec) × ((after_link at so_far link).records ≡ so_far.records ++ extra) = one_more at so_far link in
    let later : (extra : List Rec) × ((spelled_from (place_after at link) (after_link at so_far link) links).records
    ≡ (after_link at so_far link).records ++ extra) = grows (place_after at link) (after_link at so_far link) links in
    (step.0 ++ later.0, later.1 ∙ ap (λ (t : List Rec). t ++ later.0) step.1 ∙ append_assoc so_far.records step.0 later.0)

map_len : (records : List Marked) → length (bytes_marked records) ≡ length records
map_len [] = refl
map_len (first ∷ records) = ap suc (map_len records)

-- The chain spells a prefix of these records, and nothing else.
abbrev SpellsFirst : ℕ → Spelled → List Chunk → List Marked → Type 0
SpellsFirst at so_far links records = (count : ℕ) × (bytes_of (spelled_from at so_far links).records ≡ bytes_of so_far.records ++ take count (bytes_marked records))

one_first : (bytes : List ℕ) (log at to : ℕ) (links : List Chunk) (so_far more : Spelled) (placed : Rec) (first : Marked) (records : List Marked)
    → placed.bytes ≡ first.bytes → more.records ≡ so_far.records ++ placed ∷ []
    → Outcome false bytes log at links so_far to false more
    → ((rest : List Chunk) → IsChain bytes log to false rest → SpellsFirst to more rest records)
    → SpellsFirst at so_far links (first ∷ records)
one_first bytes log at to links so_far more placed first records same one (inl g) f =
    let n : SpellsFirst to more g.rest records = f g.rest g.still in (
      suc n.0,
      ap (λ (s : Spelled). bytes_of s.records) g.spells ∙ n.1
          ∙ ap (λ (t : List Rec). bytes_of t ++ take n.0 (bytes_marked records)) one
          ∙ ap (λ (t : List (List ℕ)). t ++ take n.0 (bytes_marked records)) (map-append (λ (r : Rec). r.bytes) so_far.records (placed ∷ []))
          ∙ ap (λ (t : List ℕ). (bytes_of so_far.records ++ t ∷ []) ++ take n.0 (bytes_marked records)) same
          ∙ append_assoc (bytes_of so_far.records) (first.bytes ∷ []) (take n.0 (bytes_marked records)),
    )
one_first bytes log at to links so_far more placed first records same one (inr n) f = (0, ap bytes_of n.same ∙ sym (append-nil (bytes_of so_far.records)))

laid_first : (records : List Marked) (bytes : List ℕ) (log place : ℕ) (so_far : Spelled) (links : List Chunk)
    → OffsetsFit records → place % BLOCK + SYNC_HEADER ≤ BLOCK
    → drop place bytes ≡ laid log place records → IsChain bytes log place false links → SpellsFirst place so_far links records
laid_first [] bytes log place so_far links fit room e h =
    let over : links ≡ [] = none_left bytes log place false links (λ c here. omega
    (arith, within_segment here, (header_bounds c).0, ap length e, length-drop place bytes)) h in
    (0, ap (λ (l : List Chunk). bytes_of (spelled_from place so_far l).records) over ∙ sym (append-nil (bytes_of so_far.records)))
laid_first (part ∷ records) bytes log place so_far links fit room e h =
    let one : List ℕ = framed log place part.offset part.bytes in
    let others : List ℕ = laid log (place + length one) records in
    let placed : Rec = record { at = place; bytes = part.bytes } in
    let more : Spelled = ended so_far (chunks_end log part.offset place part.bytes) placed in
    one_first bytes log place (place + length one) links so_far more placed part records refl refl
    (framed_read false bytes others part.bytes log part.offset place so_far links (All-head (λ (r : Marked). r.offset < 2 ^ 64) part records fit) room e h)
    (λ rest chain. laid_first records bytes log (place + length one) more rest (All-tail (λ (r : Marked). r.offset < 2 ^ 64) part records fit)
    (room_framed log part.offset place part.bytes) (behind bytes one others place (length one) e refl) chain)

chain_in : (bytes whole : List ℕ) (log at : ℕ) (is_open : Bool) (links : List Chunk) → ChunksStandIn whole log bytes
    → IsChain bytes log at is_open links → IsChain whole log at is_open links
chain_in bytes whole log at is_open [] all h = tt
chain_in bytes whole log at is_open (link ∷ links) all h = (
  h.0,
  all at link h.1,
  chain_in bytes whole log (place_after at link) _ links all h.2,
)

row_in : (bytes whole : List ℕ) (log from to : ℕ) (row : List Chunk) → ChunksStandIn whole log bytes → IsChunkRow bytes log from row to → IsChunkRow whole log from row to
row_in bytes whole log from to [] all r = r
row_in bytes whole log from to (link ∷ row) all r =
    (all from link r.0, row_in bytes whole log (chunk_end from link) to row all r.1)

shows_in : (bytes whole : List ℕ) (log at place : ℕ) → ChunksStandIn whole log bytes → ShowsCorrupt bytes log at place → ShowsCorrupt whole log at place
shows_in bytes whole log at place all s = record {
  behind = s.behind;
  row = s.row;
  in_row = row_in bytes whole log (block_front place) place s.row all s.in_row;
  chunk = s.chunk;
  stands = all place s.chunk s.stands;
  above = s.above;
}

-- Bytes that begin as the others do begin with what these begin with, if that is short enough.
begins : (bytes whole some more : List ℕ) (within : ℕ) → take within bytes ≡ take within whole → whole ≡ some ++ more
    → length some ≤ within → bytes ≡ some ++ drop (length some) bytes
begins bytes whole some more within same e fits =
    let n : ℕ = length some in
    let front : take n bytes ≡ some = sym (take-take n within bytes fits) ∙ ap (take n) same ∙ take-take n within whole fits ∙ ap (take n) e
    ∙ take_at some more n refl in
    sym (take-append-drop n bytes) ∙ ap (λ (t : List ℕ). t ++ drop n bytes) front

pub first_are_read : (log within : ℕ) (records : List Marked) (bytes : List ℕ) (read : ReadOut)
    → OffsetsFit records → within ≤ length (laid log 0 records)
    → take within bytes ≡ take within (laid log 0 records) → ChunksStandIn (laid log 0 records) log bytes → OffsetsAreWithin log within records
    → ReadsOut bytes log read → ReadsPrefix log within records (bytes_of read.records) × (read.shown ≡ None)
first_are_read log within records bytes read fit short same all covered h = (
  record {
    count = front.0;
    first = ap bytes_of h.records_are
        ∙ front.1;
    all_within = among;
  },
  nothing_shown read.shown h.shown_is,
)
  where
    whole : List ℕ
    whole = laid log 0 records

    front : SpellsFirst 0 nothing h.links records
    front = laid_first records whole log 0 nothing h.links fit (omega arith) refl (chain_in bytes whole log 0 false h.links all h.longest.chain)

    replayed : (k : ℕ) → k ≤ length records → length (laid log 0 (take k records)) ≤ within → Replayed bytes log h.links nothing 0 (take k records)
    replayed k le fits =
        let some : List ℕ = laid log 0 (take k records) in
        let split : whole ≡ some ++ laid log (0 + length some) (drop k records) = ap (laid log 0) (sym (take-append-drop k records))
        ∙ laid-append log 0 (take k records) (drop k records) in
        laid_read (take k records) bytes (drop (length some) bytes) log 0 nothing h.links (All-take (λ (r : Marked). r.offset < 2 ^ 64) k records fit) (omega arith)
        (begins bytes whole some (laid log (0 + length some) (drop k records)) within same split fits) h.longest

    among : (k : ℕ) → k ≤ length records → length (laid log 0 (take k records)) ≤ within → k ≤ front.0
    among k le fits =
        let r : Replayed bytes log h.links nothing 0 (take k records) = replayed k le fits in
        let to : ℕ = 0 + length (laid log 0 (take k records)) in
        let g : (extra : List Rec) × ((spelled_from to r.more r.goes.rest).records ≡ r.more.records ++ extra) = grows to r.more r.goes.rest in
        let both : take front.0 (bytes_marked records) ≡ bytes_marked (take k records) ++ bytes_of g.0 =
        sym front.1 ∙ ap (λ (s : Spelled). bytes_of s.records) r.goes.spells ∙ ap bytes_of g.1
        ∙ map-append (λ (r : Rec). r.bytes) r.more.records g.0 ∙ ap (λ (t : List (List ℕ)). t ++ bytes_of g.0) r.spelled in
        omega (
          arith,
          le,
          ap length both,
          length-append (bytes_marked (take k records)) (bytes_of g.0),
          map_len (take k records),
          map_len records,
          length-take k records,
          length-take front.0 (bytes_marked records),
        )

    nothing_shown : (told : Option Shown) → TellsShown bytes log (stopped_at 0 h.links) told → told ≡ None
    nothing_shown None t = refl
    nothing_shown (Some told) t =
        let length_of : ℕ = length (laid log 0 (take covered.count records)) in
        let s : ShowsCorrupt whole log (stopped_at 0 h.links) told.shown_at = shows_in bytes whole log (stopped_at 0 h.links) told.shown_at all t.shows in
        let below : OffsetIs (λ (n : ℕ). n ≤ length_of) s.chunk = offset_of_shown log (stopped_at 0 h.links) told.shown_at records (λ (n : ℕ). n ≤ length_of) fit covered.below s in
        let r : Replayed bytes log h.links nothing 0 (take covered.count records) = replayed covered.count covered.among covered.whole in
        absurd (omega (arith, covered_by length_of (stopped_at 0 h.links) s.chunk below s.above, r.goes.stops, goes_on (0 + length_of) r.goes.rest))
