-- Records laid one after another.
use Rattle.crc_chunk.specs.declared.chunk.TheConstants.{BLOCK, SYNC_HEADER}
use Rattle.std.proofs.Common.{◌≡◌, ℕ, ◌+◌, ◌%◌, List, [], ◌∷◌, ◌++◌, length, take, drop, replicate, sym, ap, ◌∙◌, add-zero, append_assoc, arith, nat_lt}
use Rattle.std.specs.Prelude.{if◌then◌else◌}
use Rattle.std.proofs.lemmas.List.{length-append, append-nil}
use Rattle.block_record.specs.Framing.{Marked, left_in_block, room_at, later_fragments, fragments, chunks, padding, framed, laid}

-- A record is framed by where it begins in its block.
pub framed_in_block : (log at off : ℕ) (bytes : List ℕ) → framed log (at % BLOCK) off bytes ≡ framed log at off bytes
unfolding framed
framed_in_block log at off bytes =
    let all : List ℕ = chunks log off (fragments at bytes) in
    let room : room_at (at % BLOCK) ≡ room_at at = omega arith in
    let left : left_in_block (at % BLOCK + length all) ≡ left_in_block (at + length all) = omega arith in
    let same : chunks log off (fragments (at % BLOCK) bytes) ≡ all = ap (λ (n : ℕ). chunks log off (take n bytes ∷ later_fragments (drop n bytes))) room in
    ap (λ (t : List ℕ). t ++ padding (at % BLOCK + length t)) same
    ∙ ap (λ (n : ℕ). all ++ (if nat_lt n SYNC_HEADER then replicate n 0 else [])) left

laid-push : (log at : ℕ) (records : List Marked) (next : Marked)
    → laid log at (records ++ next ∷ []) ≡ laid log at records ++ framed log (at + length (laid log at records)) next.offset next.bytes
laid-push log at [] next = append-nil (framed log at next.offset next.bytes) ∙ ap (λ (n : ℕ). framed log n next.offset next.bytes) (sym (add-zero at))
laid-push log at (first ∷ records) next =
    let one : List ℕ = framed log at first.offset first.bytes in
    let others : List ℕ = laid log (at + length one) records in
    let place : at + length one + length others ≡ at + length (one ++ others) = omega (arith, length-append one others) in
    ap (λ (t : List ℕ). one ++ t) (laid-push log (at + length one) records next)
    ∙ sym (append_assoc one others (framed log (at + length one + length others) next.offset next.bytes))
    ∙ ap (λ (n : ℕ). (one ++ others) ++ framed log n next.offset next.bytes) place

pub one_more : (log : ℕ) (records : List Marked) (next : Marked)
    → laid log 0 (records ++ next ∷ []) ≡ laid log 0 records ++ framed log (length (laid log 0 records) % BLOCK) next.offset next.bytes
one_more log records next =
    let place : 0 + length (laid log 0 records) ≡ length (laid log 0 records) = omega arith in
    laid-push log 0 records next ∙ ap (λ (n : ℕ). laid log 0 records ++ framed log n next.offset next.bytes) place
    ∙ ap (λ (t : List ℕ). laid log 0 records ++ t) (sym (framed_in_block log (length (laid log 0 records)) next.offset next.bytes))

pub laid-append : (log at : ℕ) (first others : List Marked) → laid log at (first ++ others) ≡ laid log at first ++ laid log
    (at + length (laid log at first)) others
laid-append log at [] others = ap (λ (n : ℕ). laid log n others) (sym (add-zero at))
laid-append log at (next ∷ first) others =
    let one : List ℕ = framed log at next.offset next.bytes in
    let some : List ℕ = laid log (at + length one) first in
    let place : at + length one + length some ≡ at + length (one ++ some) = omega (arith, length-append one some) in
    ap (λ (t : List ℕ). one ++ t) (laid-append log (at + length one) first others)
    ∙ sym (append_assoc one some (laid log (at + length one + length some) others))
    ∙ ap (λ (n : ℕ). (one ++ some) ++ laid log n others) place
