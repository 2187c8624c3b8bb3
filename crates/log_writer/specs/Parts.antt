-- The bytes of a segment (docs/formats/log.md, "Framing").
use Rattle.std.specs.Prelude.{ℕ, suc, ◌-◌, List, [], ◌∷◌, map, take, drop}
use Rattle.batch_repr.specs.declared.batch.Batch.{Batch}
use Rattle.batch_repr.specs.Written.{written}
use Rattle.block_record.specs.Framing.{Marked, laid}

-- the records of a run from one number to below another
abbrev pub part : ℕ → ℕ → List Batch → List Batch
part from to records = take (to - from) (drop from records)

-- what is written for each record
abbrev pub texts : List Batch → List (List ℕ)
texts records = map written records

-- what is written for each record, the first of which has this number, with the sync offset of its number
abbrev pub marked : (ℕ → ℕ) → ℕ → List Batch → List Marked
marked offsets number [] = []
marked offsets number (first ∷ records) = record { offset = offsets number; bytes = written first } ∷ marked offsets (suc number) records

-- what is written for each record, all with one sync offset
abbrev pub marked_all : ℕ → List Batch → List Marked
marked_all offset records = map (λ (b : Batch). record { offset = offset; bytes = written b }) records

-- the bytes of a segment that has the records from one number to below another, by the sync offset of each number
unfoldable pub segment_bytes : ℕ → (ℕ → ℕ) → ℕ → ℕ → List Batch → List ℕ
segment_bytes log offsets from to records = laid log 0 (marked offsets from (part from to records))
