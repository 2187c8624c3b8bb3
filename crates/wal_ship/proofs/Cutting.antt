-- A frame says its length, so bytes are cut into a frame and a rest in one way.
use Rattle.std.proofs.Common.{◌≡◌, ◌≢◌, ℕ, ◌+◌, ◌≤◌, List, [], ◌++◌, length, take, drop, sym, ap, ◌∙◌, subst, arith, length-append}
use Rattle.std.specs.Int.{w32, to_le_bytes}
use Rattle.std.proofs.Math.Seq.{take-append_seam}
use Rattle.std.proofs.lemmas.List.{append_cancel_left}
use Rattle.std.proofs.lemmas.Nat.{from_le_bytes-to_le_bytes_4}
use Rattle.crc_chunk.specs.Crc.{checksum, masked_of}
use Rattle.batch_repr.specs.declared.batch.Batch.{Batch}
use Rattle.batch_repr.specs.declared.limits.TheConstants.{BATCH_MAX}
use Rattle.batch_repr.specs.Spelling.{SpellsBatch}
use Rattle.batch_repr.proofs.Laws.{same_batch, spelled_reads}
use Rattle.wal_ship.specs.Stream.{in_frame}
use Rattle.wal_ship.specs.Following.{IsFrameOf, len_said}

frame_length : (text : List ℕ) → length (in_frame text) ≡ 8 + length text
unfolding in_frame
frame_length text = length-append (to_le_bytes w32 (length text) ++ to_le_bytes w32 (masked_of (checksum text))) text

-- what the bytes say that begin with a frame, and how long they are
pub record BeginsWithFrame (bytes text rest : List ℕ) : Type 0 where
  pub said : len_said bytes ≡ length text
  pub long : length bytes ≡ 8 + length text + length rest

pub begins_with : (bytes text rest : List ℕ) → length text ≤ BATCH_MAX → bytes ≡ in_frame text ++ rest → BeginsWithFrame bytes text rest
unfolding in_frame
begins_with bytes text rest size is = record {
  said = ap len_said is ∙ from_le_bytes-to_le_bytes_4 (length text) (omega (arith, size));
  long = omega (arith, ap length is, length-append (in_frame text) rest, frame_length text);
}

-- where the bytes begin with frames of two texts, they are one text, and one rest
pub record IsOneFrame (text rest text' rest' : List ℕ) : Type 0 where
  pub texts : text ≡ text'
  pub rests : rest ≡ rest'

same_parts : (xs ys xs' ys' : List ℕ) → length xs ≡ length xs' → xs ++ ys ≡ xs' ++ ys' → IsOneFrame xs ys xs' ys'
same_parts xs ys xs' ys' long is =
    let fronts : xs ≡ xs' =
    sym (take-append_seam xs ys) ∙ ap (take (length xs)) is ∙ ap (λ (n : ℕ). take n (xs' ++ ys')) long ∙ take-append_seam xs' ys' in
    record { texts = fronts; rests = append_cancel_left xs ys ys' (is ∙ ap (λ (l : List ℕ). l ++ ys') (sym fronts)) }

pub one_cut : (text rest text' rest' : List ℕ) → length text ≤ BATCH_MAX → length text' ≤ BATCH_MAX
    → in_frame text ++ rest ≡ in_frame text' ++ rest' → IsOneFrame text rest text' rest'
unfolding in_frame
one_cut text rest text' rest' size size' is =
    let said : length text ≡ length text' =
    sym (from_le_bytes-to_le_bytes_4 (length text) (omega (arith, size))) ∙ ap len_said is
    ∙ from_le_bytes-to_le_bytes_4 (length text') (omega (arith, size')) in
    same_parts text rest text' rest' said (ap (drop 8) is)

-- where the bytes begin with right frames of two batches, they are one frame, one batch, and one rest
pub record IsOneBatch (frame : List ℕ) (batch : Batch) (rest frame' : List ℕ) (batch' : Batch) (rest' : List ℕ) : Type 0 where
  pub frames : frame ≡ frame'
  pub batches : batch ≡ batch'
  pub rests : rest ≡ rest'

pub one_batch : (text : List ℕ) (batch batch' : Batch) → SpellsBatch text batch → SpellsBatch text batch' → batch ≡ batch'
one_batch text batch batch' s s' = same_batch text batch batch' (spelled_reads text batch s) (spelled_reads text batch' s')

pub same_frame : (frame : List ℕ) (batch : Batch) (rest frame' : List ℕ) (batch' : Batch) (rest' : List ℕ) → IsFrameOf frame batch
    → IsFrameOf frame' batch' → frame ++ rest ≡ frame' ++ rest' → IsOneBatch frame batch rest frame' batch' rest'
same_frame frame batch rest frame' batch' rest' f f' is =
    let cut = one_cut f.text rest f'.text rest' f.size f'.size
    (ap (λ (l : List ℕ). l ++ rest) (sym f.is) ∙ is ∙ ap (λ (l : List ℕ). l ++ rest') f'.is) in
    record {
      frames = f.is ∙ ap in_frame cut.texts ∙ sym f'.is;
      batches = one_batch f'.text batch batch' (subst (λ (t : List ℕ). SpellsBatch t batch) cut.texts f.spells) f'.spells;
      rests = cut.rests;
    }

-- no frame is empty
pub some_frame : (frame rest : List ℕ) (batch : Batch) → IsFrameOf frame batch → frame ++ rest ≢ []
some_frame frame rest batch f is =
    omega (arith, frame_length f.text, ap length f.is, ap length is, length-append frame rest)
