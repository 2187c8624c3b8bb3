-- The first piece of a text ends at its first cut.
use Rattle.std.proofs.Common.{◌≡◌, ℕ, ◌+◌, ◌-◌, ◌<◌, ◌≤◌, Bool, true, false, List, [], ◌∷◌, ◌++◌, length, take, drop, get_or, All, slice_range, refl, sym, ap, ◌∙◌, arith}
use Rattle.std.proofs.Common.{length-take, length-drop}
use Rattle.std.specs.List.{slice_split, onto_first}
use Rattle.std.proofs.lemmas.Bool.{false_from_ne_true}
use Rattle.std.proofs.lemmas.List.{get_or-take, get_or_default, take-append-drop, drop_more, drop-drop}
use Rattle.std.proofs.lemmas.List.Splits.{slice_split_at, slice_split_none, slice_split-cons_yes, slice_split-cons_no}
use Rattle.memchr.specs.Find.{Nowhere, NoneBefore, Passes}
use Rattle.line_words.specs.declared.pieces.Cut.{Cut}
use Rattle.line_words.specs.Cutting.{is_cut, pieces, pieces_left}

-- no byte of the front is one at which the text is cut
uncut : (test : ℕ → Bool) (text : List ℕ) (at : ℕ) → at ≤ length text → Nowhere (Passes test text) 0 at → All (λ b. test b ≡ false) (take at text)
uncut test text at within none k d below =
    let short : k < at = omega (arith, length-take at text) in
    let read : get_or (take at text) k d ≡ get_or text k 0 = get_or-take at text k d short ∙ get_or_default text k d 0 (omega arith) in
    ap test read ∙ false_from_ne_true (test (get_or text k 0)) (none k (omega arith) short)

-- the pieces of what is left of a text before it is done, by the first cut in it
module _ (cut : Cut) (text rest : List ℕ) (from : ℕ) (is_done : Bool) (rest_is : rest ≡ drop from text) (going : is_done ≡ false) where
  pub cut_at : (at : ℕ) → NoneBefore (Passes (is_cut cut) rest) 0 (length rest) at → is_cut cut (get_or rest at 0) ≡ true
      → pieces_left cut (drop from text) is_done ≡ take at rest ∷ pieces_left cut (drop (from + (at + 1)) text) is_done
  unfolding pieces
  cut_at at first hit =
      let test : ℕ → Bool = is_cut cut in
      let parts : rest ≡ take at rest ++ get_or rest at 0 ∷ drop (at + 1) rest =
      sym (take-append-drop at rest) ∙ ap (λ (t : List ℕ). take at rest ++ t) (drop_more rest at 0 first.high) in
      let after : drop (at + 1) rest ≡ drop (from + (at + 1)) text = ap (drop (at + 1)) rest_is ∙ drop-drop (at + 1) from text in
      rw going (ap (pieces cut) (sym rest_is ∙ parts)
      ∙ slice_split_at test (take at rest) (get_or rest at 0) (drop (at + 1) rest) (uncut test rest at (omega (arith, first.high)) first.before) hit
      ∙ ap (λ (t : List ℕ). take at rest ∷ pieces cut t) after)

  pub cut_nowhere : Nowhere (Passes (is_cut cut) rest) 0 (length rest) → pieces_left cut (drop from text) is_done ≡ rest ∷ []
  unfolding pieces
  cut_nowhere none =
      rw (going, ← rest_is) (slice_split_none (is_cut cut) rest (λ k d below. ap (is_cut cut) (get_or_default rest k d 0 below)
      ∙ false_from_ne_true (is_cut cut (get_or rest k 0)) (none k (omega arith) below)))

-- ---- the first piece is a part of the text

-- the first piece, by its length
first_is : (test : ℕ → Bool) (text piece : List ℕ) (more : List (List ℕ)) → slice_split test text ≡ piece ∷ more → take (length piece) text ≡ piece
first_is test [] piece more e = let none : [] ≡ piece = cc in rw (← none) refl
first_is test (b ∷ text) piece more e = by_test (test b) (slice_split test text) refl refl (first_is test text)
  where
    by_test : (yes : Bool) (parts : List (List ℕ)) → test b ≡ yes → slice_split test text ≡ parts
        → ((first : List ℕ) (others : List (List ℕ)) → slice_split test text ≡ first ∷ others → take (length first) text ≡ first)
        → take (length piece) (b ∷ text) ≡ piece
    by_test true parts t s before =
        let none : [] ≡ piece = cc (slice_split-cons_yes test b text t) in rw (← none) refl
    by_test false [] t s before =
        let parts : (b ∷ []) ∷ [] ≡ piece ∷ more = sym (ap (onto_first b) s) ∙ sym (slice_split-cons_no test b text t) ∙ e in
        let one : b ∷ [] ≡ piece = cc in
        rw (← one) refl
    by_test false (first ∷ others) t s before =
        let parts : (b ∷ first) ∷ others ≡ piece ∷ more = sym (ap (onto_first b) s) ∙ sym (slice_split-cons_no test b text t) ∙ e in
        let one : b ∷ first ≡ piece = cc in
        rw (← one) (ap (λ (l : List ℕ). b ∷ l) (before first others s))

module _ (cut : Cut) (text piece : List ℕ) (more : List (List ℕ)) (from : ℕ) (is_done : Bool)
    (left : pieces_left cut (drop from text) is_done ≡ piece ∷ more) where
  first_left : take (length piece) (drop from text) ≡ piece
  unfolding pieces
  first_left = by_done is_done left
    where
      by_done : (b : Bool) → pieces_left cut (drop from text) b ≡ piece ∷ more → take (length piece) (drop from text) ≡ piece
      by_done true e = absurd cc
      by_done false e = first_is (is_cut cut) (drop from text) piece more e

  pub ends_within : from ≤ length text → from + length piece ≤ length text
  ends_within within =
      omega (arith, within, ap length first_left, length-take (length piece) (drop from text), length-drop from text)

  pub part_is : slice_range text from (from + length piece) ≡ piece
  part_is =
      let size : from + length piece - from ≡ length piece = omega arith in
      ap (λ (n : ℕ). take n (drop from text)) size ∙ first_left
