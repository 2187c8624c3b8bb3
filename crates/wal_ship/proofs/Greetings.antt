-- Bytes that are no more than a part of the first eight, or differ from them: they are that in one way, and no right frames stand there.
use Rattle.std.proofs.Common.{◌≡◌, ◌≢◌, ℕ, ◌+◌, ◌<◌, List, [], ◌∷◌, ◌++◌, length, take, get_or, refl, sym, ap, ◌∙◌, arith, append-nil, length-append}
use Rattle.std.specs.Prelude.{Option, Some, None, slice_index}
use Rattle.std.proofs.lemmas.List.{get_or_append_left, get_or-append-add, length-take, nil_from_length}
use Rattle.wal_ship.specs.declared.fault.FollowFault.{FollowFault}
use Rattle.wal_ship.specs.declared.fault.FollowFault.TheVariants as faults
use Rattle.wal_ship.specs.Stream.{magic}

-- What bytes come to that do not begin with the first eight.
pub data Greets (bytes : List ℕ) : Option FollowFault → Type 0 where
  part : (rest : List ℕ) → magic ≡ bytes ++ rest → rest ≢ [] → Greets bytes None
  differs : (at byte : ℕ) → at < 8 → bytes ≡ take at magic ++ byte ∷ [] → byte ≢ slice_index magic at → Greets bytes (Some (faults.Magic at))

magic_take : (at : ℕ) → at < 8 → length (take at magic) ≡ at
magic_take at few = omega (arith, length-take at magic, few)

-- a byte that differs stands at no front of the first eight, with whatever behind it
not_magic : (at byte : ℕ) (bytes rest more : List ℕ) → at < 8 → bytes ≡ take at magic ++ byte ∷ [] → byte ≢ slice_index magic at
    → bytes ++ rest ≡ magic ++ more → ⊥
not_magic at byte bytes rest more few is other same =
    let front : List ℕ = take at magic in
    let place : length front + 0 ≡ at = omega (arith, magic_take at few) in
    let there : at < length bytes = omega (arith, magic_take at few, ap length is, length-append front (byte ∷ [])) in
    let here : byte ≡ get_or bytes at 0 =
    sym (get_or-append-add front (byte ∷ []) 0 0) ∙ ap (λ (n : ℕ). get_or (front ++ byte ∷ []) n 0) place
    ∙ ap (λ (l : List ℕ). get_or l at 0) (sym is) in
    other (here ∙ sym (get_or_append_left bytes rest 0 at there) ∙ ap (λ (l : List ℕ). get_or l at 0) same
    ∙ get_or_append_left magic more 0 at (omega (arith, few)))

pub one_greeting : (bytes : List ℕ) (fault fault' : Option FollowFault) → Greets bytes fault → Greets bytes fault' → fault ≡ fault'
one_greeting bytes _ _ (part rest is some) (part rest' is' some') = refl
one_greeting bytes _ _ (part rest is some) (differs at byte few is' other) =
    absurd (not_magic at byte bytes rest [] few is' other (sym is ∙ sym (append-nil magic)))
one_greeting bytes _ _ (differs at byte few is other) (part rest is' some') =
    absurd (not_magic at byte bytes rest [] few is other (sym is' ∙ sym (append-nil magic)))
one_greeting bytes _ _ (differs at byte few is other) (differs at' byte' few' is' other') =
    ap (λ (n : ℕ). Some (faults.Magic n)) (omega (
      arith,
      ap length is,
      ap length is',
      length-append (take at magic) (byte ∷ []),
      length-append (take at' magic) (byte' ∷ []),
      magic_take at few,
      magic_take at' few',
    ))

-- the first eight do not stand there
pub greets_or_magic : (bytes : List ℕ) (fault : Option FollowFault) (more : List ℕ) → Greets bytes fault → bytes ≡ magic ++ more → ⊥
greets_or_magic bytes _ more (part rest is some) here =
    some (nil_from_length rest (omega (arith, ap length is, ap length here, length-append bytes rest, length-append magic more)))
greets_or_magic bytes _ more (differs at byte few is other) here = not_magic at byte bytes [] more few is other (append-nil bytes ∙ here)
