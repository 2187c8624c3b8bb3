-- The stream of a store comes to the whole store, beside any of its first batches.
use Rattle.std.proofs.Common.{◌≡◌, ℕ, List, [], ◌∷◌, ◌++◌, take, drop, refl, sym, ap, ◌∙◌, subst, arith, append_assoc, length-append}
use Rattle.std.specs.Prelude.{All, Contains, length}
use Rattle.std.specs.Int.{w32, w64, to_le_bytes}
use Rattle.std.proofs.lemmas.Grind.{flat_map-append}
use Rattle.std.proofs.lemmas.List.{take-append-drop, append-nil}
use Rattle.std.proofs.lemmas.List.Elements.{All-drop, All-head, All-tail, All-take}
use Rattle.wal_base.proofs.Laws.{within_head, within_tail}
use Rattle.batch_repr.specs.declared.batch.Batch.{Batch}
use Rattle.batch_repr.specs.declared.limits.TheConstants.{NUMBER_FIRST}
use Rattle.batch_repr.specs.Batches.{IsContiguous, count_of}
use Rattle.batch_repr.specs.Building.{HasSpelling}
use Rattle.batch_repr.specs.Spelling.{SpellsBatch}
use Rattle.batch_repr.specs.Written.{written}
use Rattle.batch_repr.proofs.Laws.{contiguous_back, contiguous_front, end_push, place_within, written_spells}
use Rattle.wal_ship.specs.Stream.{frame_of, magic, stream_frames}
use Rattle.wal_ship.specs.Following.{AreFrames, IsFrameOf, next_after}
use Rattle.wal_ship.specs.Following.AreFrames.{none, more}
use Rattle.wal_ship.specs.Following.Joins.{comes_next, there}
use Rattle.wal_ship.specs.Following.Comes.{ends}
use Rattle.wal_ship.specs.Theorems.{StreamsAreTaken}
use Rattle.wal_ship.proofs.Rows.{rows_then}

spelled_some : (text : List ℕ) (batch : Batch) → SpellsBatch text batch → text ≡ [] → ⊥
spelled_some text batch s is =
    omega (arith, ap length (sym s.is ∙ is), length-append (to_le_bytes w64 batch.first ++ to_le_bytes w32 (count_of batch.entries)) s.body)

pub written_frame : (batch : Batch) → HasSpelling batch → IsFrameOf (frame_of batch) batch
written_frame batch h =
    let spells = written_spells batch h.fits h.numbers in
    record { text = written batch; is = refl; some = spelled_some (written batch) batch spells; size = spells.size; spells = spells }

-- the frames of batches that are there
frames_there : (known batches : List Batch) → IsContiguous NUMBER_FIRST known → ((batch : Batch) → Contains batches batch → Contains known batch)
    → All HasSpelling batches → AreFrames known (stream_frames batches) known
frames_there known [] c within spell = none known
frames_there known (batch ∷ batches) c within spell =
    let here = within batch (within_head batch batches) in
    let place = place_within NUMBER_FIRST known batch c here in
    more known (stream_frames batches) (frame_of batch) batch known known (written_frame batch (All-head HasSpelling batch batches spell))
    (there (omega (arith, place.some)) (omega (arith, place.some, place.high)) here)
    (frames_there known batches c (λ b h. within b (within_tail batch batches b h)) (All-tail HasSpelling batch batches spell))

-- the frames of batches that come next
frames_next : (known batches : List Batch) → IsContiguous (next_after known) batches → All HasSpelling batches
    → AreFrames known (stream_frames batches) (known ++ batches)
unfolding IsContiguous
frames_next known [] c spell = subst (λ (l : List Batch). AreFrames known [] l) (sym (append-nil known)) (none known)
frames_next known (batch ∷ batches) c spell =
    subst (λ (l : List Batch). AreFrames known (stream_frames (batch ∷ batches)) l) (append_assoc known (batch ∷ []) batches)
    (more known (stream_frames batches) (frame_of batch) batch (known ++ batch ∷ []) ((known ++ batch ∷ []) ++ batches)
    (written_frame batch (All-head HasSpelling batch batches spell)) (comes_next c.1 c.0)
    (frames_next (known ++ batch ∷ []) batches (subst (λ (n : ℕ). IsContiguous n batches) (sym (end_push NUMBER_FIRST known batch)) c.2)
    (All-tail HasSpelling batch batches spell)))

-- the frames of all batches, beside the first of them
frames_taken : (local new : List Batch) → IsContiguous NUMBER_FIRST (local ++ new) → All HasSpelling local → All HasSpelling new
    → AreFrames local (stream_frames (local ++ new)) (local ++ new)
frames_taken local new c old spell =
    subst (λ (l : List ℕ). AreFrames local l (local ++ new)) (sym (flat_map-append frame_of local new))
    (rows_then local (stream_frames local) local (stream_frames new) (local ++ new)
    (frames_there local local (contiguous_front NUMBER_FIRST local new c) (λ b h. h) old)
    (frames_next local new (contiguous_back NUMBER_FIRST local new c) spell))

pub streams_taken : StreamsAreTaken
streams_taken batches count c spell =
    let whole = take-append-drop count batches in
    ends (magic ++ stream_frames batches) batches (record {
      frames = stream_frames batches;
      is = refl;
      read = subst (λ (l : List Batch). AreFrames (take count batches) (stream_frames l) l) whole
          (frames_taken (take count batches) (drop count batches) (subst (λ (l : List Batch). IsContiguous NUMBER_FIRST l) (sym whole) c)
          (All-take HasSpelling count batches spell) (All-drop HasSpelling count batches spell));
    }) refl
