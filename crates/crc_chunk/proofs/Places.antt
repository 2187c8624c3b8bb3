-- Parts that stand one after another stand together, and the other way round.
use Rattle.std.proofs.Common.{◌≡◌, ℕ, ◌+◌, ◌-◌, ◌<◌, ◌≤◌, List, ◌++◌, length, take, drop, refl, sym, ap, subst, ◌∙◌, append_assoc, arith}
use Rattle.std.specs.List.{slice_range}
use Rattle.std.proofs.lemmas.List.{take_at, drop_at, take-append-drop, length-take, length-drop, drop-drop}
use Rattle.crc_chunk.specs.Bytes.{StandsAt}

-- what follows a part
abbrev rest : List ℕ → ℕ → List ℕ → List ℕ
rest bytes at part = drop (length part) (drop at bytes)

pub stands_split : {bytes : List ℕ} {at : ℕ} {part : List ℕ} → StandsAt bytes at part → drop at bytes ≡ part ++ drop (length part) (drop at bytes)
stands_split {bytes} {at} {part} h =
    sym (take-append-drop (length part) (drop at bytes)) ∙ ap (λ (t : List ℕ). t ++ rest bytes at part) h.is

pub stands_from : (bytes : List ℕ) (at : ℕ) (part more : List ℕ) → drop at bytes ≡ part ++ more → StandsAt bytes at part
stands_from bytes at part more e = record { is = ap (take (length part)) e ∙ take_at part more (length part) refl }

pub stands_front : {bytes : List ℕ} {at : ℕ} (a b : List ℕ) → StandsAt bytes at (a ++ b) → StandsAt bytes at a
stands_front {bytes} {at} a b h = stands_from bytes at a (b ++ rest bytes at (a ++ b)) (stands_split h ∙ append_assoc a b (rest bytes at (a ++ b)))

pub stands_back : {bytes : List ℕ} {at : ℕ} (a b : List ℕ) → StandsAt bytes at (a ++ b) → StandsAt bytes (at + length a) b
stands_back {bytes} {at} a b h =
    let whole : drop at bytes ≡ a ++ (b ++ rest bytes at (a ++ b)) = stands_split h ∙ append_assoc a b (rest bytes at (a ++ b)) in
    stands_from bytes (at + length a) b (rest bytes at (a ++ b))
    (sym (drop-drop (length a) at bytes) ∙ ap (drop (length a)) whole ∙ drop_at a (b ++ rest bytes at (a ++ b)) (length a) refl)

pub stands_both : {bytes : List ℕ} {at : ℕ} (a b : List ℕ) → StandsAt bytes at a → StandsAt bytes (at + length a) b → StandsAt bytes at (a ++ b)
stands_both {bytes} {at} a b first second =
    let more : List ℕ = rest bytes (at + length a) b in
    let after : drop (length a) (drop at bytes) ≡ b ++ more = drop-drop (length a) at bytes ∙ stands_split second in
    stands_from bytes at (a ++ b) more (stands_split first ∙ ap (λ (t : List ℕ). a ++ t) after ∙ sym (append_assoc a b more))

-- A part that is not empty stands within the bytes.
pub stands_within : {bytes : List ℕ} {at : ℕ} {part : List ℕ} → StandsAt bytes at part → 0 < length part → at + length part ≤ length bytes
stands_within {bytes} {at} {part} h some =
    let e : length (take (length part) (drop at bytes)) ≡ length part = ap length h.is in
    omega (arith, e, length-take (length part) (drop at bytes), length-drop at bytes)

-- Parts of one length that stand at one place are one.
pub stands_one : {bytes : List ℕ} {at : ℕ} {a b : List ℕ} → StandsAt bytes at a → StandsAt bytes at b → length a ≡ length b → a ≡ b
stands_one {bytes} {at} {a} {b} first second e = sym first.is ∙ ap (λ (n : ℕ). take n (drop at bytes)) e ∙ second.is

-- What is cut out stands there.
pub stands_range : (bytes : List ℕ) (from to : ℕ) → from ≤ to → to ≤ length bytes → StandsAt bytes from (slice_range bytes from to)
stands_range bytes from to le within =
    let len : length (slice_range bytes from to) ≡ to - from = omega (arith, length-take (to - from) (drop from bytes), length-drop from bytes) in
    record { is = ap (λ (n : ℕ). take n (drop from bytes)) len }

-- One place, written in two ways.
pub moved : {bytes part : List ℕ} {at : ℕ} (to : ℕ) → at ≡ to → StandsAt bytes at part → StandsAt bytes to part
moved {bytes} {part} {at} to e h = subst (λ (n : ℕ). StandsAt bytes n part) e h
