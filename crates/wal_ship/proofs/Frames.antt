-- Frames one after another, and what stays of bytes to which more were added.
use Rattle.std.proofs.Common.{◌≡◌, ℕ, ◌+◌, ◌<◌, ◌≤◌, zero, suc, List, [], ◌∷◌, ◌++◌, length, take, refl, sym, ap, ◌∙◌, arith, append-nil}
use Rattle.std.specs.Prelude.{slice_index_or}
use Rattle.std.proofs.lemmas.List.{take_more}
use Rattle.std.proofs.lemmas.Grind.{flat_map-append}
use Rattle.batch_repr.specs.declared.batch.Batch.{Batch}
use Rattle.wal_ship.specs.Stream.{frame_of, stream_frames}

pub frames_more : (batches : List Batch) (i : ℕ) (batch : Batch) → i < length batches → batch ≡ slice_index_or batches i batch
    → stream_frames (take (i + 1) batches) ≡ stream_frames (take i batches) ++ frame_of batch
frames_more batches i batch less is =
    ap stream_frames (take_more batches i batch less ∙ ap (λ (b : Batch). take i batches ++ b ∷ []) (sym is))
    ∙ flat_map-append frame_of (take i batches) (batch ∷ [])
    ∙ ap (λ (t : List ℕ). stream_frames (take i batches) ++ t) (append-nil (frame_of batch))

pub take_front : (xs ys : List ℕ) → take (length xs) (xs ++ ys) ≡ xs
take_front [] [] = refl
take_front [] (y ∷ ys) = refl
take_front (x ∷ xs) ys = ap (λ (l : List ℕ). x ∷ l) (take_front xs ys)

take_take : (m n : ℕ) (xs : List ℕ) → m ≤ n → take m (take n xs) ≡ take m xs
take_take zero n xs less = take_none (take n xs) ∙ sym (take_none xs)
  where
    take_none : (l : List ℕ) → take 0 l ≡ []
    take_none [] = refl
    take_none (y ∷ l) = refl
take_take (suc m) zero xs less = absurd (omega (arith, less))
take_take (suc m) (suc n) [] less = refl
take_take (suc m) (suc n) (x ∷ xs) less = ap (λ (l : List ℕ). x ∷ l) (take_take m n xs (omega (arith, less)))

-- what was kept of the first bytes is kept on
pub kept_on : (old mid new : List ℕ) → take (length old) mid ≡ old → length old ≤ length mid → take (length mid) new ≡ mid
    → take (length old) new ≡ old
kept_on old mid new front less kept = sym (take_take (length old) (length mid) new less) ∙ ap (take (length old)) kept ∙ front
