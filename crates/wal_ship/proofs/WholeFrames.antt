-- A whole frame and the text in it.
use Rattle.std.proofs.Common.{◌≡◌, ◌≢◌, inl, inr, ℕ, ◌<◌, ◌≤◌, Bool, true, false, not, List, [], ◌++◌, length, take, drop, ◌==◌, refl, sym, ap, ◌∙◌, arith, append_assoc}
use Rattle.std.specs.Int.{w32, to_le_bytes}
use Rattle.std.specs.Str.{bytes_eq}
use Rattle.std.proofs.lemmas.List.{get_or-take, get_or_past, length-take, length-drop, take-append-drop, drop-drop, nil_from_length}
use Rattle.std.proofs.lemmas.Bool.{cases_lt, eqb-true, eqb-false}
use Rattle.std.proofs.lemmas.Nat.{le_bytes_4}
use Rattle.std.proofs.lemmas.Slice.Eq.{bytes_eq-Decides}
use Rattle.crc_chunk.specs.Crc.{checksum, masked_of}
use Rattle.batch_repr.specs.declared.limits.TheConstants.{BATCH_MAX}
use Rattle.batch_repr.specs.Reading.{IsBytes}
use Rattle.wal_ship.specs.Stream.{in_frame}
use Rattle.wal_ship.specs.Following.{IsFull, len_said}
use Rattle.wal_ship.specs.Taking.{IsAtMostWhole}

IsBytes-take : (n : ℕ) (bytes : List ℕ) → IsBytes bytes → IsBytes (take n bytes)
IsBytes-take n bytes h i =
    elim (cases_lt i n) [
      | inl lt ↦ rw (get_or-take n bytes i 0 lt) (h i)
      | inr le ↦ rw (get_or_past (take n bytes) i 0 (omega (arith, length-take n bytes))) (omega arith)
    ]

-- the sum that stands before a text
abbrev sum_before : List ℕ → List ℕ
sum_before text = to_le_bytes w32 (masked_of (checksum text))

three : (a b c x y z : List ℕ) → a ≡ x → b ≡ y → c ≡ z → (a ++ b) ++ c ≡ (x ++ y) ++ z
three a b c x y z p q r = cc

frame_is : (frame text : List ℕ) → IsBytes frame → IsFull frame → text ≡ drop 8 frame → take 4 (drop 4 frame) ≡ sum_before text
    → frame ≡ in_frame text
unfolding in_frame
frame_is frame text bytes full t sum =
    let long : length text ≡ len_said frame = omega (arith, ap length t, length-drop 8 frame, full.long) in
    let said : to_le_bytes w32 (length text) ≡ take 4 frame =
    le_bytes_4 (take 4 frame) (length text) (omega (arith, length-take 4 frame, full.head)) (IsBytes-take 4 frame bytes) long in
    let behind : drop 4 frame ≡ take 4 (drop 4 frame) ++ drop 8 frame = sym (take-append-drop 4 (drop 4 frame))
    ∙ ap (λ (x : List ℕ). take 4 (drop 4 frame) ++ x) (drop-drop 4 4 frame) in
    let parts : frame ≡ (take 4 frame ++ take 4 (drop 4 frame)) ++ drop 8 frame = sym (take-append-drop 4 frame)
    ∙ ap (λ (x : List ℕ). take 4 frame ++ x) behind ∙ sym (append_assoc (take 4 frame) (take 4 (drop 4 frame)) (drop 8 frame)) in
    parts ∙ three (take 4 frame) (take 4 (drop 4 frame)) (drop 8 frame) (to_le_bytes w32 (length text)) (sum_before text) text (sym said) sum (sym t)

text_in : (text : List ℕ) → drop 8 (in_frame text) ≡ text
unfolding in_frame
text_in text = refl

sum_in : (text : List ℕ) → take 4 (drop 4 (in_frame text)) ≡ sum_before text
unfolding in_frame
sum_in text = refl

-- another sum is that of no text
no_text : (frame text : List ℕ) → text ≡ drop 8 frame → take 4 (drop 4 frame) ≢ sum_before text → (other : List ℕ) → frame ≢ in_frame other
no_text frame text t ne other e =
    let same : text ≡ other = t ∙ ap (drop 8) e ∙ text_in other in
    ne (ap (λ (x : List ℕ). take 4 (drop 4 x)) e ∙ sum_in other ∙ ap sum_before (sym same))

-- ---- the test of two lists

turned : (b : Bool) → not b ≡ false → b ≡ true
turned true h = refl
turned false h = absurd cc

are_equal : (xs ys : List ℕ) (ne : Bool) → ne ≡ not (bytes_eq xs ys) → ne ≡ false → xs ≡ ys
are_equal xs ys ne e f = (bytes_eq-Decides xs ys).0 (turned (bytes_eq xs ys) (sym e ∙ f))

are_other : (xs ys : List ℕ) (ne : Bool) → ne ≡ not (bytes_eq xs ys) → ne ≡ true → xs ≢ ys
are_other xs ys ne e t same =
    let b : bytes_eq xs ys ≡ true = (bytes_eq-Decides xs ys).1 same in
    let both : true ≡ false = sym t ∙ e ∙ ap not b in
    absurd cc

-- ---- a whole frame, its text, and the sum that was made of it

module _ (frame text sum : List ℕ) (crc mask : ℕ) (ne : Bool) (t : text ≡ drop 8 frame) (made : crc ≡ checksum text) (masked : mask ≡ masked_of crc)
    (bytes : sum ≡ to_le_bytes w32 mask) (tested : ne ≡ not (bytes_eq (take 4 (drop 4 frame)) sum)) where
  sum_is : sum ≡ sum_before text
  sum_is = bytes ∙ ap (to_le_bytes w32) (masked ∙ ap masked_of made)

  pub right_sum : IsBytes frame → IsFull frame → ne ≡ false → frame ≡ in_frame text
  right_sum fits full same = frame_is frame text fits full t (are_equal (take 4 (drop 4 frame)) sum ne tested same ∙ sum_is)

  pub other_sum : ne ≡ true → (other : List ℕ) → frame ≢ in_frame other
  other_sum differs = no_text frame text t (λ e. are_other (take 4 (drop 4 frame)) sum ne tested differs (e ∙ sym sum_is))

pub text_size : (frame text : List ℕ) → text ≡ drop 8 frame → IsFull frame → length text ≤ BATCH_MAX
text_size frame text t full = omega (arith, ap length t, length-drop 8 frame, full.long, full.size)

pub text_none : (text : List ℕ) (none : Bool) → none ≡ (length text == 0) → none ≡ true → text ≡ []
text_none text none e h = nil_from_length text (eqb-true (length text) 0 (sym e ∙ h))

pub text_some : (text : List ℕ) (none : Bool) → none ≡ (length text == 0) → none ≡ false → text ≢ []
text_some text none e h is = eqb-false (length text) 0 (sym e ∙ h) (ap length is)

-- what says too much has four bytes and no more
pub four_bytes : (frame : List ℕ) (len : ℕ) → 4 ≤ length frame → len ≡ len_said frame → BATCH_MAX < len → IsAtMostWhole frame → length frame ≡ 4
four_bytes frame len some said past whole = elim (cases_lt 4 (length frame)) [
  | inl lt ↦ absurd (omega (arith, (whole lt).0, said, past))
  | inr le ↦ omega (arith, some, le)
]
