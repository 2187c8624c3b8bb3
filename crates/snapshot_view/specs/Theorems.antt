-- Laws of views, each as one statement (docs/formats/view.md, "Scans").
use Rattle.std.specs.Prelude.{◌≡◌, ℕ, ◌≤◌, List, None, Contains, take}
use Rattle.batch_repr.specs.declared.batch.Batch.{Batch}
use Rattle.batch_repr.specs.Batches.{IsContiguous, end_after, answer}
use Rattle.batch_repr.specs.Versions.{answer_at}
use Rattle.arena_list.specs.Versions.{KeyVersion, AscendVersions, IsRestFrom}
use Rattle.range_cover.specs.declared.mark.RangeMark.{RangeMark}
use Rattle.snapshot_view.specs.Scans.{IsScan, pairs_left}

-- Of versions that ascend, what a scan from a key on gives is the keys from that one on that have a value below the number.
abbrev pub ScansAreExact : Type 0
ScansAreExact = (versions rest : List KeyVersion) (ranges : List RangeMark) (from : List ℕ) (at limit : ℕ) → AscendVersions versions
    → ((version : KeyVersion) → Contains versions version → version.number ≤ limit) → IsRestFrom versions from limit rest
    → IsScan versions ranges from at (pairs_left at ranges None rest)

-- At the end of the first n batches the store answers as it does after these.
abbrev pub EndsAnswerAlike : Type 0
EndsAnswerAlike = (start n : ℕ) (batches : List Batch) (key : List ℕ) → IsContiguous start batches
    → answer_at batches (end_after start (take n batches)) key ≡ answer batches n key
