-- Every segment reads out: at each place a chunk stands or none does, each chunk of a chain ends further on, and of the places
-- that show the rest corrupt one is the least.
use Rattle.std.proofs.Common.{◌≡◌, ◌≢◌, ◌⊎◌, inl, inr, ℕ, zero, suc, ◌+◌, ◌%◌, ◌^◌, ◌<◌, ◌≤◌, Bool, true, false, Option, Some, None, List, [], ◌∷◌, length, take, drop, refl, sym, ap, subst, ◌∙◌, arith}
use Rattle.std.specs.Prelude.{not, ◌==◌, IsSomeAnd}
use Rattle.std.specs.List.{list_any}
use Rattle.std.specs.Int.{w64, from_le_bytes}
use Rattle.std.proofs.lemmas.Nat.{from_le_bytes-to_le_bytes_8}
use native.Mathlib.Decide.{dec_le}
use Rattle.crc_chunk.specs.declared.chunk.TheConstants.{BLOCK, HEADER}
use Rattle.crc_chunk.specs.declared.chunk.ChunkKind.{ChunkKind}
use Rattle.crc_chunk.specs.declared.chunk.ChunkKind.TheVariants.{Full, First, Middle, Last}
use Rattle.crc_chunk.specs.Chunk.{Chunk, sync_chunk, header_with, header_len, chunk_len, OffsetFits, chunk_bytes, ChunkAt}
use Rattle.crc_chunk.proofs.Laws.{fields_of, header_bounds, one_chunk, payload_at, within_segment}
use Rattle.block_record.specs.declared.records.ReadOut.{ReadOut}
use Rattle.block_record.specs.declared.records.Shown.{Shown}
use Rattle.block_record.specs.ReadOut.{NoChunkAt, MayFollow, leaves_open, chunk_end, place_after, Spelled, after_link, nothing, block_front, IsChunkRow, CoversMore, ShowsCorrupt, TellsShown, ReadsOut}
use Rattle.block_record.proofs.Chains.{LeftToRead, left_first, left_next, all_read, not_before}

same_number : (a b : ℕ) → (a ≡ b) ⊎ (a ≢ b)
same_number a b = elim (dec_le a b) [
  | yes le ↦ elim (dec_le b a) [ yes ge ↦ inl (omega (arith, le, ge)) | no h ↦ inr (λ e. h (omega (arith, e))) ]
  | no h ↦ inr (λ e. h (omega (arith, e)))
]

same_bytes : (a b : List ℕ) → (a ≡ b) ⊎ (a ≢ b)
same_bytes [] [] = inl refl
same_bytes [] (y ∷ b) = inr (λ e. cc)
same_bytes (x ∷ a) [] = inr (λ e. cc)
same_bytes (x ∷ a) (y ∷ b) = elim (same_number x y) [
  | inl here ↦ elim (same_bytes a b) [ inl later ↦ inl (λ i. here i ∷ later i) | inr differs ↦ inr (λ e. differs (cc)) ]
  | inr differs ↦ inr (λ e. differs (cc))
]

-- It holds of some number, or of none below the bound.
search_below : (P : ℕ → Type 0) → ((n : ℕ) → P n ⊎ (P n → ⊥)) → (bound : ℕ) → ((n : ℕ) × P n) ⊎ ((n : ℕ) → n < bound → P n → ⊥)
search_below P decide zero = inr (λ n low holds. omega (arith, low))
search_below P decide (suc bound) = elim (search_below P decide bound) [
  | inl found ↦ inl found
  | inr none ↦ elim (decide bound) [
    | inl here ↦ inl (bound, here)
    | inr not_here ↦ inr (λ n low holds. elim (same_number n bound) [
      | inl e ↦ not_here (subst P e holds)
      | inr other ↦ none n (omega (arith, low, other)) holds
    ])
  ]
]

none_of : (P : ChunkKind → Type 0) → (P Full → ⊥) → (P First → ⊥) → (P Middle → ⊥) → (P Last → ⊥) → (kind : ChunkKind) × P kind → ⊥
none_of P a b c d (Full, holds) = a holds
none_of P a b c d (First, holds) = b holds
none_of P a b c d (Middle, holds) = c holds
none_of P a b c d (Last, holds) = d holds

-- It holds of some kind, or of none.
search_kinds : (P : ChunkKind → Type 0) → ((kind : ChunkKind) → P kind ⊎ (P kind → ⊥)) → ((kind : ChunkKind) × P kind) ⊎ ((kind : ChunkKind) × P kind → ⊥)
search_kinds P decide = go (decide Full) (decide First) (decide Middle) (decide Last)
  where
    go : P Full ⊎ (P Full → ⊥) → P First ⊎ (P First → ⊥) → P Middle ⊎ (P Middle → ⊥) → P Last ⊎ (P Last → ⊥) → ((kind : ChunkKind) × P kind)
        ⊎ ((kind : ChunkKind) × P kind → ⊥)
    go (inl holds) b c d = inl (Full, holds)
    go (inr a) (inl holds) c d = inl (First, holds)
    go (inr a) (inr b) (inl holds) d = inl (Middle, holds)
    go (inr a) (inr b) (inr c) (inl holds) = inl (Last, holds)
    go (inr a) (inr b) (inr c) (inr d) = inr (none_of P a b c d)

-- a chunk that stands here, of this kind, with this sync offset or none, and so many bytes of payload
abbrev chunk_here : List ℕ → ℕ → ChunkKind → Option ℕ → ℕ → Chunk
chunk_here bytes at kind offset n = record { kind = kind; offset = offset; payload = take n (drop (at + header_with offset) bytes) }

-- the sync offset of a chunk that stands here
abbrev offset_in : List ℕ → ℕ → ℕ
offset_in bytes at = from_le_bytes w64 (take 8 (drop (at + HEADER) bytes))

offset_is : {bytes : List ℕ} {at log : ℕ} {kind : ChunkKind} {offset : ℕ} {payload : List ℕ} → ChunkAt bytes at log (sync_chunk kind offset payload)
    → offset ≡ offset_in bytes at
offset_is {bytes} {at} {log} {kind} {offset} {payload} h =
    sym (from_le_bytes-to_le_bytes_8 offset h.fits) ∙ ap (from_le_bytes w64) (sym (fields_of h.stands).offset_is.is)

is_here : {bytes : List ℕ} {at log : ℕ} (c : Chunk) → ChunkAt bytes at log c → c ≡ chunk_here bytes at c.kind c.offset (length c.payload)
is_here c h = ap (λ (p : List ℕ). record c { payload = p }) (sym (payload_at h).is)

chunk_is_here : (bytes : List ℕ) (at log : ℕ) (c : Chunk) → OffsetFits c.offset → ChunkAt bytes at log c ⊎ (ChunkAt bytes at log c → ⊥)
chunk_is_here bytes at log c fits =
    elim (same_bytes (take (length (chunk_bytes log c)) (drop at bytes)) (chunk_bytes log c)) [
      | inl is ↦ elim (dec_le (at % BLOCK + chunk_len c) BLOCK) [
        | yes within ↦ inl (record { stands = record { is = is }; fits = fits; within = within })
        | no beyond ↦ inr (λ h. beyond h.within)
      ]
      | inr differs ↦ inr (λ h. differs h.stands.is)
    ]

-- A chunk with this sync offset, or without one, stands here, or none does.
of_form : (bytes : List ℕ) (log at : ℕ) (offset : Option ℕ) → OffsetFits offset
    → ((c : Chunk) × ChunkAt bytes at log c) ⊎ ((c : Chunk) → c.offset ≡ offset → ChunkAt bytes at log c → ⊥)
of_form bytes log at offset fits =
    elim (search_below (λ n. (kind : ChunkKind) × ChunkAt bytes at log (chunk_here bytes at kind offset n))
    (λ n. search_kinds (λ kind. ChunkAt bytes at log (chunk_here bytes at kind offset n))
    (λ kind. chunk_is_here bytes at log (chunk_here bytes at kind offset n) fits)) (suc (length bytes))) [
      | inl (n, found) ↦ inl (chunk_here bytes at found.0 offset n, found.1)
      | inr none ↦ inr (λ c is here. none (length c.payload) (omega (arith, within_segment here)) (
        c.kind,
        subst (λ (o : Option ℕ). ChunkAt bytes at log (chunk_here bytes at c.kind o (length c.payload))) is
            (subst (ChunkAt bytes at log) (is_here c here) here),
      ))
    ]

-- A chunk of the log stands here, in either form, or none does.
chunk_or_none : (bytes : List ℕ) (log at : ℕ) → ((c : Chunk) × ChunkAt bytes at log c) ⊎ NoChunkAt bytes at log
chunk_or_none bytes log at = elim (of_form bytes log at None tt) [
  | inl found ↦ inl found
  | inr plain ↦ elim (dec_le (2 ^ 64) (offset_in bytes at)) [
    | yes large ↦ inr (λ c here. none_here c here plain (λ n fits same e. omega (arith, large, fits, same)))
    | no small ↦ elim (of_form bytes log at (Some (offset_in bytes at)) (omega (arith, small))) [
      | inl found ↦ inl found
      | inr sync ↦ inr (λ c here. none_here c here plain (λ n fits same e. sync c (e ∙ ap Some same) here))
    ]
  ]
]
  where
    none_here : (c : Chunk) → ChunkAt bytes at log c → ((d : Chunk) → d.offset ≡ None → ChunkAt bytes at log d → ⊥)
        → ((n : ℕ) → n < 2 ^ 64 → n ≡ offset_in bytes at → c.offset ≡ Some n → ⊥) → ⊥
    none_here c h plain sync = go c.offset refl
      where
        go : (offset : Option ℕ) → c.offset ≡ offset → ⊥
        go None e = plain c e h
        go (Some n) e =
            let there : ChunkAt bytes at log (sync_chunk c.kind n c.payload) = subst
            (λ (o : Option ℕ). ChunkAt bytes at log (record { kind = c.kind; offset = o; payload = c.payload })) e h in
            sync n there.fits (offset_is there) e

may_follow_or_not : (is_open : Bool) (kind : ChunkKind) → MayFollow is_open kind ⊎ (MayFollow is_open kind → ⊥)
may_follow_or_not true Full = inr (λ e. cc)
may_follow_or_not true First = inr (λ e. cc)
may_follow_or_not true Middle = inl refl
may_follow_or_not true Last = inl refl
may_follow_or_not false Full = inl refl
may_follow_or_not false First = inl refl
may_follow_or_not false Middle = inr (λ e. cc)
may_follow_or_not false Last = inr (λ e. cc)

-- ---- what shows a segment corrupt

row_rises : (bytes : List ℕ) (log from to : ℕ) (row : List Chunk) → IsChunkRow bytes log from row to → from ≤ to
row_rises bytes log from to [] e = omega (arith, e)
row_rises bytes log from to (link ∷ row) r = omega (arith, row_rises bytes log (chunk_end from link) to row r.1)

-- A place is reached in a row of chunks, or it is not.
row_or_not : (bytes : List ℕ) (log fuel from to : ℕ) → to ≤ from + fuel
    → ((row : List Chunk) × IsChunkRow bytes log from row to) ⊎ ((row : List Chunk) → IsChunkRow bytes log from row to → ⊥)
row_or_not bytes log zero from to few = elim (same_number from to) [
  | inl e ↦ inl ([], e)
  | inr other ↦ inr (λ row r. other (omega (arith, few, row_rises bytes log from to row r)))
]
row_or_not bytes log (suc fuel) from to few = elim (same_number from to) [
  | inl e ↦ inl ([], e)
  | inr other ↦ elim (chunk_or_none bytes log from) [
    | inr none ↦ inr (λ row r. stuck row other none r)
    | inl (link, here) ↦ elim (row_or_not bytes log fuel (chunk_end from link) to (omega (arith, few, (header_bounds link).0))) [
      | inl (row, r) ↦ inl (link ∷ row, (here, r))
      | inr never ↦ inr (λ row r. follows row other link here never r)
    ]
  ]
]
  where
    stuck : (row : List Chunk) → from ≢ to → NoChunkAt bytes from log → IsChunkRow bytes log from row to → ⊥
    stuck [] other none e = other e
    stuck (link ∷ row) other none r = none link r.0

    follows : (row : List Chunk) → from ≢ to → (link : Chunk) → ChunkAt bytes from log link
        → ((row : List Chunk) → IsChunkRow bytes log (chunk_end from link) row to → ⊥) → IsChunkRow bytes log from row to → ⊥
    follows [] other link here never e = other e
    follows (first ∷ row) other link here never r = never row (subst (λ (l : Chunk). IsChunkRow bytes log (chunk_end from l) row to) (one_chunk r.0 here) r.1)

-- A chunk at this place shows it, or none does.
shows_or_not : (bytes : List ℕ) (log at place : ℕ) → ShowsCorrupt bytes log at place ⊎ (ShowsCorrupt bytes log at place → ⊥)
shows_or_not bytes log at place = elim (dec_le (suc at) (block_front place)) [
  | no before ↦ inr (λ s. before (omega (arith, s.behind)))
  | yes behind ↦ elim (row_or_not bytes log place (block_front place) place (omega arith)) [
    | inr never ↦ inr (λ s. never s.row s.in_row)
    | inl (row, r) ↦ elim (chunk_or_none bytes log place) [
      | inr none ↦ inr (λ s. none s.chunk s.stands)
      | inl (link, here) ↦ elim (is_beyond link.offset) [
        | inl above ↦ inl (record { behind = omega (arith, behind); row = row; in_row = r; chunk = link; stands = here; above = above })
        | inr below ↦ inr (λ s. below (subst (λ (l : Chunk). CoversMore at l) (one_chunk s.stands here) s.above))
      ]
    ]
  ]
]
  where
    is_beyond : (offset : Option ℕ) → IsSomeAnd offset (λ covered. at < covered) ⊎ (IsSomeAnd offset (λ covered. at < covered) → ⊥)
    is_beyond None = inr (λ h. h)
    is_beyond (Some offset) = elim (dec_le (suc at) offset) [ yes above ↦ inl (omega (arith, above)) | no below ↦ inr (λ h. below (omega (arith, h))) ]

-- The least number of which it holds, or none below the bound.
least_below : (P : ℕ → Type 0) → ((n : ℕ) → P n ⊎ (P n → ⊥)) → (bound : ℕ)
    → ((n : ℕ) × P n × ((m : ℕ) → P m → n ≤ m)) ⊎ ((n : ℕ) → n < bound → P n → ⊥)
least_below P decide zero = inr (λ n low holds. omega (arith, low))
least_below P decide (suc bound) = elim (least_below P decide bound) [
  | inl found ↦ inl found
  | inr none ↦ elim (decide bound) [
    | inl here ↦ inl (bound, here, λ m holds. least m none holds)
    | inr not_here ↦ inr (λ n low holds. elim (same_number n bound) [
      | inl e ↦ not_here (subst P e holds)
      | inr other ↦ none n (omega (arith, low, other)) holds
    ])
  ]
]
  where
    least : (m : ℕ) → ((n : ℕ) → n < bound → P n → ⊥) → P m → bound ≤ m
    least m none holds = elim (dec_le bound m) [ yes le ↦ le | no low ↦ absurd (none m (omega (arith, low)) holds) ]

-- what shows the bytes at a place corrupt, if something does
record Told (bytes : List ℕ) (log at : ℕ) : Type 0 where
  shown : Option Shown
  tells : TellsShown bytes log at shown

told : (bytes : List ℕ) (log at : ℕ) → Told bytes log at
told bytes log at = elim (least_below (ShowsCorrupt bytes log at) (shows_or_not bytes log at) (length bytes)) [
  | inl (place, shows, least) ↦ record {
    shown = Some (record { at = at; shown_at = place });
    tells = record { at_is = refl; shows = shows; least = least };
  }
  | inr none ↦ record {
    shown = None;
    tells = λ place s. none place (omega (arith, within_segment s.stands, (header_bounds s.chunk).0)) s;
  }
]

-- what a segment reads as
pub record Reading (bytes : List ℕ) (log : ℕ) : Type 0 where
  pub read : ReadOut
  pub reads : ReadsOut bytes log read

module _ (bytes : List ℕ) (log : ℕ) where
  ended_here : (at : ℕ) (is_open : Bool) (so_far : Spelled) → LeftToRead bytes log at is_open so_far
      → ((c : Chunk) → MayFollow is_open c.kind → ChunkAt bytes at log c → ⊥) → Reading bytes log
  ended_here at is_open so_far left none = record {
    read = record {
      records = so_far.records;
      ends_at = so_far.ends_at;
      torn = list_any (λ b. not (b == 0)) (drop so_far.ends_at bytes);
      shown = (told bytes log at).shown;
    };
    reads = all_read bytes log at is_open so_far (list_any (λ b. not (b == 0)) (drop so_far.ends_at bytes)) (told bytes log at).shown left none refl
        (told bytes log at).tells;
  }

  read_on : (fuel at : ℕ) (is_open : Bool) (so_far : Spelled) → LeftToRead bytes log at is_open so_far → length bytes ≤ at + fuel → Reading bytes log
  read_on zero at is_open so_far left short = ended_here at is_open so_far left
      (λ c may here. omega (arith, short, within_segment here, (header_bounds c).0))
  read_on (suc fuel) at is_open so_far left short = elim (chunk_or_none bytes log at) [
    | inr none ↦ ended_here at is_open so_far left (λ c may here. none c here)
    | inl (link, here) ↦ elim (may_follow_or_not is_open link.kind) [
      | inr never ↦ ended_here at is_open so_far left (λ other may there. never (subst (λ (c : Chunk). MayFollow is_open c.kind) (one_chunk there here) may))
      | inl may ↦ read_on fuel (place_after at link) (leaves_open link.kind) (after_link at so_far link)
          (left_next link left may here)
          (omega (arith, short, not_before (header_len link) (chunk_end at link), (header_bounds link).0))
    ]
  ]

  pub readable : Reading bytes log
  readable = read_on (length bytes) 0 false nothing (left_first bytes log) (omega arith)
