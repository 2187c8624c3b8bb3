-- The bytes of a segment as its records grow.
use Rattle.crc_chunk.specs.declared.chunk.TheConstants.{BLOCK}
use Rattle.std.proofs.Common.{◌≡◌, ℕ, zero, suc, ◌+◌, ◌-◌, ◌%◌, ◌<◌, ◌≤◌, List, [], ◌∷◌, ◌++◌, length, take, drop, refl, sym, ap, ◌∙◌, add-zero, arith, Bool, true, false, nat_lt}
use Rattle.std.specs.Prelude.{if◌then◌else◌}
use Rattle.std.specs.List.{All}
use Rattle.std.proofs.lemmas.Bool.{ltb-true, lt-ltb}
use Rattle.std.proofs.lemmas.List.{length-take, length-drop, length-append, take-take, take-append-le, drop-append-le, drop-drop, take_at}
use Rattle.std.proofs.lemmas.List.Elements.{All-nil, All-cons}
use Rattle.std.proofs.Math.Seq.{take-add}
use Rattle.batch_repr.specs.declared.batch.Batch.{Batch}
use Rattle.batch_repr.specs.Written.{written}
use Rattle.block_record.specs.Framing.{Marked, framed, laid}
use Rattle.block_record.specs.ReadOut.{bytes_marked}
use Rattle.block_record.proofs.Laws.{framed_in_block, laid-append}
use Rattle.log_writer.specs.Parts.{part, texts, marked, marked_all, segment_bytes}

-- Records laid from a place are laid as from its place in its block.
pub laid_in_block : (log at : ℕ) (records : List Marked) → laid log (at % BLOCK) records ≡ laid log at records
laid_in_block log at [] = refl
laid_in_block log at (first ∷ records) =
    let n : ℕ = length (framed log at first.offset first.bytes) in
    let one : framed log (at % BLOCK) first.offset first.bytes ≡ framed log at first.offset first.bytes = framed_in_block log at first.offset first.bytes in
    let place : (at % BLOCK + n) % BLOCK ≡ (at + n) % BLOCK = omega arith in
    ap (λ (t : List ℕ). t ++ laid log (at % BLOCK + length t) records) one
    ∙ ap (λ (t : List ℕ). framed log at first.offset first.bytes ++ t)
    (sym (laid_in_block log (at % BLOCK + n) records) ∙ ap (λ (m : ℕ). laid log m records) place ∙ laid_in_block log (at + n) records)

-- ---- records with their sync offsets

marked-append : (offsets : ℕ → ℕ) (number : ℕ) (first more : List Batch)
    → marked offsets number (first ++ more) ≡ marked offsets number first ++ marked offsets (number + length first) more
marked-append offsets number [] more = ap (λ (n : ℕ). marked offsets n more) (sym (add-zero number))
marked-append offsets number (one ∷ first) more =
    let rest : marked offsets (suc number) (first ++ more) ≡ marked offsets (suc number) first ++ marked offsets (number + suc (length first)) more =
    marked-append offsets (suc number) first more ∙ ap (λ (n : ℕ). marked offsets (suc number) first ++ marked offsets n more) (omega arith) in
    ap (λ (t : List Marked). record { offset = offsets number; bytes = written one } ∷ t) rest

pub marked_texts : (offsets : ℕ → ℕ) (number : ℕ) (records : List Batch) → bytes_marked (marked offsets number records) ≡ texts records
marked_texts offsets number [] = refl
marked_texts offsets number (first ∷ records) = ap (λ (t : List (List ℕ)). written first ∷ t) (marked_texts offsets (suc number) records)

pub marked_length : (offsets : ℕ → ℕ) (number : ℕ) (records : List Batch) → length (marked offsets number records) ≡ length records
marked_length offsets number [] = refl
marked_length offsets number (first ∷ records) = ap suc (marked_length offsets (suc number) records)

pub marked_take : (offsets : ℕ → ℕ) (number n : ℕ) (records : List Batch) → take n (marked offsets number records) ≡ marked offsets number (take n records)
marked_take offsets number zero records = refl
marked_take offsets number (suc n) [] = refl
marked_take offsets number (suc n) (first ∷ records) =
    ap (λ (t : List Marked). record { offset = offsets number; bytes = written first } ∷ t) (marked_take offsets (suc number) n records)

-- What holds of each sync offset holds of each record's.
pub marked_each : (P : ℕ → Type 0) (offsets : ℕ → ℕ) (number : ℕ) (records : List Batch) → ((n : ℕ) → P (offsets n))
    → All (λ (r : Marked). P r.offset) (marked offsets number records)
marked_each P offsets number [] each = All-nil (λ (r : Marked). P r.offset)
marked_each P offsets number (first ∷ records) each =
    All-cons (λ (r : Marked). P r.offset) (record { offset = offsets number; bytes = written first }) (marked offsets (suc number) records)
    (each number) (marked_each P offsets (suc number) records each)

-- Only the sync offsets of their own numbers matter.
marked_same : (offsets others : ℕ → ℕ) (number : ℕ) (records : List Batch) → ((n : ℕ) → number ≤ n → n < number + length records → offsets n ≡ others n)
    → marked offsets number records ≡ marked others number records
marked_same offsets others number [] same = refl
marked_same offsets others number (first ∷ records) same =
    ap (λ (o : ℕ). record { offset = o; bytes = written first } ∷ marked offsets (suc number) records) (same number (omega arith) (omega arith))
    ∙ ap (λ (t : List Marked). record { offset = others number; bytes = written first } ∷ t)
    (marked_same offsets others (suc number) records (λ n low high. same n (omega (arith, low)) (omega (arith, high))))

marked_one : (offsets : ℕ → ℕ) (offset number : ℕ) (records : List Batch) → ((n : ℕ) → number ≤ n → offsets n ≡ offset)
    → marked offsets number records ≡ marked_all offset records
marked_one offsets offset number [] same = refl
marked_one offsets offset number (first ∷ records) same =
    ap (λ (o : ℕ). record { offset = o; bytes = written first } ∷ marked offsets (suc number) records) (same number (omega arith))
    ∙ ap (λ (t : List Marked). record { offset = offset; bytes = written first } ∷ t)
    (marked_one offsets offset (suc number) records (λ n low. same n (omega (arith, low))))

-- the sync offsets with one more for all records from this number on
abbrev pub offsets_from : ℕ → (ℕ → ℕ) → ℕ → ℕ → ℕ
offsets_from sent offsets offset n = if nat_lt n sent then offsets n else offset

offsets_before : (sent : ℕ) (offsets : ℕ → ℕ) (offset n : ℕ) → n < sent → offsets_from sent offsets offset n ≡ offsets n
offsets_before sent offsets offset n lt = rw (lt-ltb n sent lt) refl

offsets_behind : (sent : ℕ) (offsets : ℕ → ℕ) (offset n : ℕ) → sent ≤ n → offsets_from sent offsets offset n ≡ offset
offsets_behind sent offsets offset n le = go (nat_lt n sent) refl
  where
    go : (b : Bool) → nat_lt n sent ≡ b → offsets_from sent offsets offset n ≡ offset
    go true e = absurd (omega (arith, le, ltb-true n sent e))
    go false e = rw e refl

pub offsets_each : (P : ℕ → Type 0) (sent : ℕ) (offsets : ℕ → ℕ) (offset : ℕ) → ((n : ℕ) → P (offsets n)) → P offset
    → (n : ℕ) → P (offsets_from sent offsets offset n)
offsets_each P sent offsets offset each one n = go (nat_lt n sent) refl
  where
    go : (b : Bool) → nat_lt n sent ≡ b → P (offsets_from sent offsets offset n)
    go true e = rw e (each n)
    go false e = rw e one

-- ---- parts

-- A part up to a number is the front of a longer part.
pub part_front : (from mid to : ℕ) (records : List Batch) → mid ≤ to → take (mid - from) (part from to records) ≡ part from mid records
part_front from mid to records le = take-take (mid - from) (to - from) (drop from records) (omega (arith, le))

-- A part is its front and its rest.
pub part_split : (from mid to : ℕ) (records : List Batch) → from ≤ mid → mid ≤ to → part from to records ≡ part from mid records ++ part mid to records
part_split from mid to records low high =
    let sum : to - from ≡ (mid - from) + (to - mid) = omega (arith, low, high) in
    let place : from + (mid - from) ≡ mid = omega (arith, low) in
    ap (λ (n : ℕ). take n (drop from records)) sum ∙ take-add (mid - from) (to - mid) (drop from records)
    ∙ ap (λ (t : List Batch). part from mid records ++ take (to - mid) t) (drop-drop (mid - from) from records ∙ ap (λ (n : ℕ). drop n records) place)

part_length : (from to : ℕ) (records : List Batch) → to ≤ length records → length (part from to records) ≡ to - from
part_length from to records le = omega (arith, le, length-take (to - from) (drop from records), length-drop from records)

-- The bytes of a longer part begin with those of a shorter one, and go on with the records after it.
pub bytes_split : (log : ℕ) (offsets : ℕ → ℕ) (from mid to : ℕ) (records : List Batch) → from ≤ mid → mid ≤ to → mid ≤ length records
    → segment_bytes log offsets from to records ≡ segment_bytes log offsets from mid records ++ laid log (length (segment_bytes log offsets from mid records))
    (marked offsets mid (part mid to records))
unfolding segment_bytes
bytes_split log offsets from mid to records low high within =
    let number : from + length (part from mid records) ≡ mid = omega (arith, low, part_length from mid records within) in
    ap (λ (t : List Batch). laid log 0 (marked offsets from t)) (part_split from mid to records low high)
    ∙ ap (laid log 0) (marked-append offsets from (part from mid records) (part mid to records)
    ∙ ap (λ (n : ℕ). marked offsets from (part from mid records) ++ marked offsets n (part mid to records)) number)
    ∙ laid-append log 0 (marked offsets from (part from mid records)) (marked offsets mid (part mid to records))
    ∙ ap (λ (n : ℕ). segment_bytes log offsets from mid records ++ laid log n (marked offsets mid (part mid to records))) (omega arith)

-- So they are its front.
pub bytes_front : (log : ℕ) (offsets : ℕ → ℕ) (from mid to : ℕ) (records : List Batch) → from ≤ mid → mid ≤ to → mid ≤ length records
    → take (length (segment_bytes log offsets from mid records)) (segment_bytes log offsets from to records) ≡ segment_bytes log offsets from mid records
bytes_front log offsets from mid to records low high within =
    let front : List ℕ = segment_bytes log offsets from mid records in
    ap (take (length front)) (bytes_split log offsets from mid to records low high within)
    ∙ take_at front (laid log (length front) (marked offsets mid (part mid to records))) (length front) refl

-- So they are no fewer.
pub bytes_shorter : (log : ℕ) (offsets : ℕ → ℕ) (from mid to : ℕ) (records : List Batch) → from ≤ mid → mid ≤ to → mid ≤ length records
    → length (segment_bytes log offsets from mid records) ≤ length (segment_bytes log offsets from to records)
bytes_shorter log offsets from mid to records low high within =
    let more : List ℕ = laid log (length (segment_bytes log offsets from mid records)) (marked offsets mid (part mid to records)) in
    omega (arith, ap length (bytes_split log offsets from mid to records low high within), length-append (segment_bytes log offsets from mid records) more)

-- A segment without records has no byte.
pub no_bytes : (log : ℕ) (offsets : ℕ → ℕ) (from : ℕ) (records : List Batch) → segment_bytes log offsets from from records ≡ []
unfolding segment_bytes
no_bytes log offsets from records =
    let none : from - from ≡ 0 = omega arith in ap (λ (n : ℕ). laid log 0 (marked offsets from (take n (drop from records)))) none

-- Records after the last one sent change no byte.
pub bytes_grown : (log : ℕ) (offsets : ℕ → ℕ) (from to : ℕ) (records more : List Batch) → from ≤ to → to ≤ length records
    → segment_bytes log offsets from to (records ++ more) ≡ segment_bytes log offsets from to records
unfolding segment_bytes
bytes_grown log offsets from to records more low high =
    let first : from ≤ length records = omega (arith, low, high) in
    let enough : to - from ≤ length (drop from records) = omega (arith, length-drop from records, high) in
    ap (λ (t : List Batch). laid log 0 (marked offsets from (take (to - from) t))) (drop-append-le from records more first)
    ∙ ap (λ (t : List Batch). laid log 0 (marked offsets from t)) (take-append-le (to - from) (drop from records) more enough)

-- Nor do the sync offsets of later records.
pub bytes_before : (log : ℕ) (offsets : ℕ → ℕ) (offset from to sent : ℕ) (records : List Batch) → to ≤ sent
    → segment_bytes log (offsets_from sent offsets offset) from to records ≡ segment_bytes log offsets from to records
unfolding segment_bytes
bytes_before log offsets offset from to sent records le =
    ap (laid log 0) (marked_same (offsets_from sent offsets offset) offsets from (part from to records)
    (λ n low high. offsets_before sent offsets offset n (omega (arith, le, low, high, length-take (to - from) (drop from records)))))

-- Those that are sent with one sync offset.
pub marked_behind : (offsets : ℕ → ℕ) (offset sent : ℕ) (records : List Batch)
    → marked (offsets_from sent offsets offset) sent records ≡ marked_all offset records
marked_behind offsets offset sent records =
    marked_one (offsets_from sent offsets offset) offset sent records (λ n low. offsets_behind sent offsets offset n low)
