-- A walk over the chunks of a segment, of which what was read is joined.
use Rattle.crc_chunk.specs.declared.chunk.TheConstants.{BLOCK}
use Rattle.std.proofs.Common.{◌≡◌, ℕ, ◌+◌, ◌-◌, ◌≤◌, List, length, drop, get_or, refl, sym, ap, subst, ◌∙◌, arith, Bool, true, false, Option, is_some, Result, Ok, Err}
use Rattle.std.specs.Prelude.{IfOk, not, ◌==◌, ◌||◌}
use Rattle.std.specs.List.{list_any}
use Rattle.std.proofs.lemmas.List.{length-drop, get_or-drop}
use Rattle.std.proofs.lemmas.List.Folds.{list_any_at}
use Rattle.crc_chunk.specs.declared.chunk.ChunkKind.{ChunkKind}
use Rattle.crc_chunk.specs.declared.chunk.ChunkKind.TheVariants.{Full, First, Middle, Last}
use Rattle.crc_chunk.specs.Chunk.{Chunk, type_byte, header_with, ChunkAt}
use Rattle.crc_chunk.proofs.Laws.{FieldsAt, fields_of, byte_read, header_bounds}
use Rattle.block_record.specs.declared.records.ReadOut.{ReadOut}
use Rattle.block_record.specs.declared.records.Rec.{Rec}
use Rattle.block_record.specs.declared.records.Shown.{Shown}
use Rattle.block_record.specs.declared.joining.Found.{Found}
use Rattle.block_record.specs.ReadOut.{MayFollow, leaves_open, next_place, chunk_end, place_after, Spelled, after_link, TellsShown, ReadsOut}
use Rattle.block_record.specs.Joined.{link_in, SameAfter, Joined}
use Rattle.block_record.specs.Promises.{IsChunkFound, IsFoundAt, NoChunkFollows, place_behind}
use Rattle.block_record.proofs.Chains.{LeftToRead, read_more, ends_within, all_read, not_before, next_near}
use Rattle.block_record.proofs.Pieces.{behind_later, chunk_behind, found_len}
use Rattle.block_record.proofs.Shows.{tells_behind}

some_type : (kind : ChunkKind) (is_sync : Bool) → not (type_byte kind is_sync == 0) ≡ true
some_type Full false = refl
some_type First false = refl
some_type Middle false = refl
some_type Last false = refl
some_type Full true = refl
some_type First true = refl
some_type Middle true = refl
some_type Last true = refl

-- Where a chunk stands, not all bytes are zero.
pub chunk_tears : {bytes : List ℕ} {log : ℕ} {link : Chunk} (ends_at at : ℕ) → ends_at ≤ at → ChunkAt bytes at log link
    → list_any (λ (b : ℕ). not (b == 0)) (drop ends_at bytes) ≡ true
chunk_tears {bytes} {log} {link} ends_at at le h =
    let f : FieldsAt bytes at log link = fields_of h.stands in
    let i : ℕ = at + 6 - ends_at in
    let place : ends_at + i ≡ at + 6 = omega arith in
    let byte : get_or (drop ends_at bytes) i 0 ≡ type_byte link.kind (is_some link.offset) = get_or-drop ends_at bytes i 0 ∙ ap (λ (k : ℕ). get_or bytes k 0) place
    ∙ byte_read f.type_is in
    list_any_at (λ (b : ℕ). not (b == 0)) (drop ends_at bytes) i 0 (omega (arith, f.fits, (header_bounds link).0, length-drop ends_at bytes))
    (ap (λ (b : ℕ). not (b == 0)) byte ∙ some_type link.kind (is_some link.offset))

-- The last record ends here, or one is open and not all bytes after the last are zero.
abbrev pub EndsOrTears : List ℕ → ℕ → ℕ → Bool → Type 0
EndsOrTears bytes at ends_at false = ends_at ≡ at
EndsOrTears bytes at ends_at true = list_any (λ (b : ℕ). not (b == 0)) (drop ends_at bytes) ≡ true

tears_after : {bytes : List ℕ} {log : ℕ} (start : ℕ) (so_far : Spelled) (link : Chunk) → so_far.ends_at ≤ start
    → ChunkAt bytes start log link
    → EndsOrTears bytes (chunk_end start link) (after_link start so_far link).ends_at (leaves_open link.kind)
tears_after {bytes} {log} start so_far link le h = go link.kind refl
  where
    go : (kind : ChunkKind) → link.kind ≡ kind → EndsOrTears bytes (chunk_end start link) (after_link start so_far link).ends_at (leaves_open link.kind)
    go Full e = rw e refl
    go First e = rw e (chunk_tears so_far.ends_at start le h)
    go Middle e = rw e (chunk_tears so_far.ends_at start le h)
    go Last e = rw e refl

-- Whether a byte after the last record is not zero, as the walk can tell at its end.
pub torn_is : (old new : List ℕ) (at ends_at : ℕ) (is_open torn : Bool) → EndsOrTears old at ends_at is_open → drop at new ≡ drop at old
    → torn ≡ (is_open || list_any (λ (b : ℕ). not (b == 0)) (drop at new)) → torn ≡ list_any (λ (b : ℕ). not (b == 0)) (drop ends_at old)
torn_is old new at ends_at false torn ends e is = is ∙ ap (list_any (λ (b : ℕ). not (b == 0))) (e ∙ ap (λ (k : ℕ). drop k old) (sym ends))
torn_is old new at ends_at true torn tears e is = is ∙ sym tears

-- So far the bytes were walked over to the end of a chunk, after which the next one would stand: what they spell is what is
-- joined, and from that end on they are as they were.
pub record Walked (old : List ℕ) (log at end : ℕ) (is_open : Bool) (now : Joined) : Type 0 where
  pub left : LeftToRead old log at is_open now.spelled
  pub order : end ≤ at
  pub near : at ≤ end + BLOCK
  pub same : SameAfter end old now.bytes
  pub within : end ≤ length now.bytes
  pub reach : now.reach ≤ end
  pub ended : now.spelled.ends_at ≤ end
  pub torn : EndsOrTears old end now.spelled.ends_at is_open

pub walked_more : {old seen : List ℕ} {log at end next : ℕ} {is_open : Bool} {now : Joined} (more : Joined) (found : Found)
    (opened : Bool) → Walked old log at end is_open now → seen ≡ now.bytes
    → MayFollow is_open found.kind → IsChunkFound seen log at found → IsFoundAt seen at found
    → SameAfter found.end now.bytes more.bytes → more.reach ≤ found.end → more.spelled ≡ after_link found.at now.spelled (link_in now.bytes found)
    → opened ≡ leaves_open found.kind → next ≡ place_behind found → Walked old log next found.end opened more
walked_more {old} {seen} {log} {at} {end} {next} {is_open} {now} more found opened w e follows stands place same reach is opens after =
    let link : Chunk = link_in now.bytes found in
    let there : IsFoundAt now.bytes at found = subst (λ (t : List ℕ). IsFoundAt t at found) e place in
    let here : ChunkAt now.bytes at log link = subst (λ (t : List ℕ). ChunkAt t at log (link_in t found)) e stands in
    let was : ChunkAt old at log link = chunk_behind old now.bytes end at w.order w.same.behind here in
    let len : chunk_end at link ≡ found.end = found_len now.bytes at found there in
    let spelled : more.spelled ≡ after_link at now.spelled link = is ∙ ap (λ (n : ℕ). after_link n now.spelled link) place.0 in
    let goes : next ≡ place_after at link = after ∙ sym (ap (next_place (header_with found.offset)) len) in
    record {
      left = read_more at next link w.left follows was goes opens spelled;
      order = omega (arith, after, not_before (header_with found.offset) found.end);
      near = omega (arith, after, next_near (header_with found.offset) found.end);
      same = record {
        len = same.len ∙ w.same.len;
        behind = same.behind
            ∙ behind_later old now.bytes end found.end (omega (arith, w.order, len)) w.same.behind;
      };
      within = omega (arith, there.3, same.len);
      reach = reach;
      ended = rw spelled (omega (arith, ends_within at now.spelled link (omega (arith, w.ended, w.order)), len));
      torn = rw (spelled, opens) (subst (λ (n : ℕ). EndsOrTears old n (after_link at now.spelled link).ends_at (leaves_open found.kind)) len
          (tears_after at now.spelled link (omega (arith, w.ended, w.order)) was));
    }

-- what was spelled, as it is handed out
abbrev read_as : Spelled → Bool → Option Shown → ReadOut
read_as s torn shown = record { records = s.records; ends_at = s.ends_at; torn = torn; shown = shown }

-- Where no chunk follows, what is joined is what is read.
pub walked_all : {old seen sight : List ℕ} {log at end : ℕ} {is_open : Bool} {now : Joined} (torn : Bool) (shown : Option Shown)
    → Walked old log at end is_open now → seen ≡ now.bytes → sight ≡ now.bytes
    → NoChunkFollows seen log at is_open
    → torn ≡ (is_open || list_any (λ (b : ℕ). not (b == 0)) (drop end now.bytes)) → TellsShown sight log at shown
    → ReadsOut old log (read_as now.spelled torn shown)
walked_all {old} {seen} {sight} {log} {at} {end} {is_open} {now} torn shown w e f none is tells =
    all_read old log at is_open now.spelled torn shown w.left
    (λ c may h. none c may (subst (λ (t : List ℕ). ChunkAt t at log c) (sym e)
    (chunk_behind now.bytes old end at w.order (sym w.same.behind) h)))
    (torn_is old now.bytes end now.spelled.ends_at is_open torn w.torn w.same.behind is)
    (tells_behind old now.bytes log end at shown w.order w.same.behind (subst (λ (t : List ℕ). TellsShown t log at shown) f tells))

-- What is handed out is what was read.
pub handed_out : {E : Type 0} {old : List ℕ} {log : ℕ} (s : Spelled) (torn : Bool) (shown : Option Shown) (result : Result ReadOut E)
    → ReadsOut old log (read_as s torn shown)
    → IfOk result (λ out. out.records ≡ s.records) → IfOk result (λ out. out.ends_at ≡ s.ends_at) → IfOk result (λ out. out.torn ≡ torn)
    → IfOk result (λ out. out.shown ≡ shown)
    → IfOk result (ReadsOut old log)
handed_out {E} {old} {log} s torn shown (Ok out) h records ends_at is tells = subst (ReadsOut old log) (sym same) h
  where
    same : out ≡ read_as s torn shown
    same =
        ap (λ (rs : List Rec). record out { records = rs }) records ∙ ap (λ (n : ℕ). record out { records = s.records; ends_at = n }) ends_at
        ∙ ap (λ (t : Bool). record out { records = s.records; ends_at = s.ends_at; torn = t }) is ∙ ap (read_as s torn) tells
handed_out {E} {old} {log} s torn shown (Err e) h records ends_at is tells = tt
