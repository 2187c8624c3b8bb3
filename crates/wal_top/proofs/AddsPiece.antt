-- Bytes that are taken of a source one piece after another.
use Rattle.std.proofs.Common.{◌≡◌, ℕ, ◌+◌, ◌≤◌, List, [], ◌∷◌, ◌++◌, length, take, Option, Some, None, refl, sym, ap, ◌∙◌, arith, append_assoc}
use Rattle.std.specs.Prelude.{IfSome}
use Rattle.std.proofs.lemmas.List.{length-append, length-take}
use Rattle.wal_base.specs.Told.{told_front}
use Rattle.wal_top.specs.declared.reading.TheConstants.{SCRIPT_MAX}
use Rattle.wal_top.specs.Reading.{AddsPiece, TookAtMost, ReadsWhole, ReadsTooMuch}

pub told_front-nil : (told : Option (List ℕ)) → told ≡ told_front [] told
told_front-nil None = refl
told_front-nil (Some bytes) = refl

told_front-append : (told : Option (List ℕ)) (a b : List ℕ) → told_front a (told_front b told) ≡ told_front (a ++ b) told
told_front-append None a b = refl
told_front-append (Some bytes) a b = ap (λ (t : List ℕ). Some t) (sym (append_assoc a b bytes))

-- the script so far is what was taken, and so much may still be taken
pub record SoFar (before now : Option (List ℕ)) (script : List ℕ) (room : ℕ) : Type 0 where
  pub taken : before ≡ told_front script now
  pub room_is : room + length script ≡ SCRIPT_MAX + 1

pub nothing_taken : (told : Option (List ℕ)) (script : List ℕ) (room : ℕ) → script ≡ [] → room ≡ SCRIPT_MAX + 1 → SoFar told told script room
nothing_taken told script room e r = record {
  taken = told_front-nil told
      ∙ ap (λ (t : List ℕ). told_front t told) (sym e);
  room_is = omega (arith, ap length e, r);
}

pub one_more : (before mid after : Option (List ℕ)) (script script' : List ℕ) (room room' count : ℕ) → SoFar before mid script room
    → AddsPiece count mid after script script' → room' + count ≡ room → SoFar before after script' room'
one_more before mid after script script' room room' count s p left = record {
  taken = s.taken ∙ ap (told_front script) p.taken ∙ told_front-append after script p.piece ∙ ap (λ (t : List ℕ). told_front t after) (sym p.added);
  room_is = omega (arith, s.room_is, left, p.count_is, ap length p.added, length-append script p.piece);
}

-- a piece of which perhaps nothing was added
pub took_more : (before mid after : Option (List ℕ)) (script : List ℕ) (room most : ℕ) → SoFar before mid script room
    → TookAtMost most mid after → most ≤ room → TookAtMost (SCRIPT_MAX + 1) before after
took_more before mid after script room most s t few = record {
  taken = script ++ t.taken;
  is = s.taken ∙ ap (told_front script) t.is ∙ told_front-append after script t.taken;
  few = omega (arith, s.room_is, t.few, few, length-append script t.taken);
}

pub took_so_far : (before now : Option (List ℕ)) (script : List ℕ) (room : ℕ) → SoFar before now script room → TookAtMost (SCRIPT_MAX + 1) before now
took_so_far before now script room s = record { taken = script; is = s.taken; few = omega (arith, s.room_is) }

-- the end: an empty piece was taken, and nothing is left
pub reads_whole : (before mid after : Option (List ℕ)) (script script' : List ℕ) (room : ℕ) → SoFar before mid script room
    → AddsPiece 0 mid after script script' → IfSome mid (λ bytes. bytes ≡ []) → ReadsWhole before script' after
reads_whole before mid after script script' room s p end =
    let next : SoFar before after script' room = one_more before mid after script script' room room 0 s p (omega arith) in
    record { taken = next.taken; at_end = nothing_left mid after p.piece p.taken end }
  where
    none_left : (bytes rest piece : List ℕ) → Some bytes ≡ Some (piece ++ rest) → bytes ≡ [] → rest ≡ []
    none_left bytes [] piece e empty = refl
    none_left bytes (x ∷ rest) piece e empty = absurd (omega (arith, ap length (sym empty ∙ same e), length-append piece (x ∷ rest)))
      where
        same : {a b : List ℕ} → Some a ≡ Some b → a ≡ b
        same h = cc

    nothing_left : (old new : Option (List ℕ)) (piece : List ℕ) → old ≡ told_front piece new → IfSome old (λ bytes. bytes ≡ []) → IfSome new (λ rest. rest ≡ [])
    nothing_left old None piece e empty = tt
    nothing_left None (Some rest) piece e empty = absurd cc
    nothing_left (Some bytes) (Some rest) piece e empty = none_left bytes rest piece e empty

pub reads_too_much : (before now : Option (List ℕ)) (script : List ℕ) (room : ℕ) → SoFar before now script room → room ≤ 0 → ReadsTooMuch before now
reads_too_much before now script room s none = record { front = script; taken = s.taken; past = omega (arith, s.room_is) }

pub adds_piece : (before after : Option (List ℕ)) (old new piece : List ℕ) (count : ℕ) → count ≤ length piece
    → before ≡ told_front (take count piece) after → new ≡ old ++ take count piece → AddsPiece count before after old new
adds_piece before after old new piece count within taken added =
    record { piece = take count piece; count_is = omega (arith, length-take count piece); taken = taken; added = added }

pub took_piece : (before after : Option (List ℕ)) (piece : List ℕ) (count most : ℕ) → count ≤ most
    → before ≡ told_front (take count piece) after → TookAtMost most before after
took_piece before after piece count most within taken = record { taken = take count piece; is = taken; few = omega (arith, length-take count piece) }

pub took_none : (before after : Option (List ℕ)) (most : ℕ) → after ≡ before → TookAtMost most before after
took_none before after most e = record { taken = []; is = told_front-nil before ∙ ap (told_front []) (sym e); few = omega arith }
