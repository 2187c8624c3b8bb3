-- What is made of a load step by step: digits, a value, the entries of a batch, the lines of a round.
use Rattle.std.proofs.Common.{◌≡◌, ℕ, zero, suc, ◌+◌, ◌-◌, ◌/◌, ◌%◌, ◌<◌, ◌≤◌, ◌==◌, Bool, false, List, [], ◌∷◌, ◌++◌, length, drop, Option, Some, None, refl, sym, ap, ◌∙◌, arith, subst, append_assoc, append-nil, add-one}
use Rattle.std.specs.Prelude.{IfNone, IfSome, slice_set}
use Rattle.std.specs.Option.{IsSome}
use Rattle.std.specs.Fmt.{digit_glyph}
use Rattle.std.specs.List.{repeat}
use Rattle.std.proofs.lemmas.Bool.{eq-eqb, ne_eqb}
use Rattle.std.proofs.lemmas.List.{drop-set}
use Rattle.std.proofs.lemmas.List.FromFn.{map-range_with_len_more}
use Rattle.wal_base.specs.declared.entry.Entry.{Entry}
use Rattle.wal_base.specs.declared.entry.Entry.TheVariants.{Set, Delete}
use Rattle.made_load.specs.declared.every_nth.EveryNth.{EveryNth}
use Rattle.made_load.specs.declared.load.TheConstants.{LOAD_SESSIONS}
use Rattle.session_replies.specs.declared.script.Act.TheVariants.{Commit}
use Rattle.session_replies.specs.declared.script.Line.{Line}
use Rattle.session_replies.specs.declared.script.Round.{Round}
use Rattle.session_replies.specs.declared.script.StallLine.{StallLine}
use Rattle.made_load.specs.Load.{last_digits, load_key, load_value, load_entries, load_line}
use Rattle.made_load.specs.EveryNth.{line_at, lines_before}

-- ---- digits

-- One digit more stands before those that stand.
pub digit_more : (base place rest digit : ℕ) (out whole : List ℕ) → 0 < place → place ≤ length out → digit ≡ digit_glyph false (rest % base)
    → whole ≡ last_digits base place rest ++ drop place out
    → whole ≡ last_digits base (place - 1) (rest / base) ++ drop (place - 1) (slice_set out (place - 1) digit)
unfolding last_digits
digit_more base zero rest digit out whole some within is h = absurd (omega arith)
digit_more base (suc k) rest digit out whole some within is h =
    let down : suc k - 1 ≡ k = omega arith in
    let written : drop k (slice_set out k digit) ≡ digit ∷ drop (k + 1) out = drop-set out k digit (omega arith) in
    rw down (h
    ∙ append_assoc (last_digits base k (rest / base)) (digit_glyph false (rest % base) ∷ []) (drop (suc k) out)
    ∙ ap (λ (t : List ℕ). last_digits base k (rest / base) ++ t)
    (ap (λ (d : ℕ). d ∷ drop (suc k) out) (sym is) ∙ ap (λ (n : ℕ). digit ∷ drop n out) (sym (add-one k)) ∙ sym written))

-- No digit is missing.
pub digits_done : (base place rest : ℕ) (out whole : List ℕ) → place ≡ 0 → whole ≡ last_digits base place rest ++ drop place out → out ≡ whole
unfolding last_digits
digits_done base zero rest out whole none h = sym h
digits_done base (suc k) rest out whole none h = absurd (omega arith)

-- ---- a value

repeat_turned : (k : ℕ) (xs : List ℕ) → repeat k xs ++ xs ≡ xs ++ repeat k xs
repeat_turned zero xs = sym (append-nil xs)
repeat_turned (suc k) xs = append_assoc xs (repeat k xs) xs ∙ ap (λ (t : List ℕ). xs ++ t) (repeat_turned k xs)

-- One more stands after those that stand.
pub repeat_more : (k : ℕ) (front xs ys zs : List ℕ) → ys ≡ front ++ repeat k xs → zs ≡ ys ++ xs → zs ≡ front ++ repeat (k + 1) xs
repeat_more k front xs ys zs h is =
    is ∙ ap (λ (t : List ℕ). t ++ xs) h ∙ append_assoc front (repeat k xs) xs ∙ ap (λ (t : List ℕ). front ++ t) (repeat_turned k xs)
    ∙ ap (λ (n : ℕ). front ++ repeat n xs) (sym (add-one k))

-- ---- the entries of a batch

set_is : (none one : List Entry) (set : Entry) → none ≡ [] → one ≡ none ++ set ∷ [] → one ≡ set ∷ []
set_is none one set empty is = is ∙ ap (λ (es : List Entry). es ++ set ∷ []) empty

pub sets_alone : (seed i : ℕ) (none one : List Entry) (set : Entry) → (i % 8 ≡ 7 → ⊥) → none ≡ [] → set ≡ Set (load_key i) (load_value seed i)
    → one ≡ none ++ set ∷ [] → one ≡ load_entries seed i
unfolding load_entries
sets_alone seed i none one set other empty s is =
    rw (ne_eqb (i % 8) 7 other) (set_is none one set empty is ∙ ap (λ (e : Entry). e ∷ []) s)

pub sets_and_deletes : (seed i : ℕ) (none one two : List Entry) (set : Entry) (deleted : List ℕ) → i % 8 ≡ 7 → none ≡ []
    → set ≡ Set (load_key i) (load_value seed i) → deleted ≡ load_key (i - 4) → one ≡ none ++ set ∷ [] → two ≡ one ++ Delete deleted ∷ []
    → two ≡ load_entries seed i
unfolding load_entries
sets_and_deletes seed i none one two set deleted last empty s d is are =
    rw (eq-eqb (i % 8) 7 last) (are ∙ ap (λ (es : List Entry). es ++ Delete deleted ∷ []) (set_is none one set empty is)
    ∙ ap (λ (e : Entry). e ∷ Delete deleted ∷ []) s ∙ ap (λ (t : List ℕ). Set (load_key i) (load_value seed i) ∷ Delete t ∷ []) d)

-- where it is not none
pub is_made : {X : Type 0} (made : Option X) (P : Type 0) → IfNone made (P → ⊥) → P → IsSome made
is_made None P none holds = absurd (none holds)
is_made (Some x) P none holds = refl

-- what it is
value_of : {X : Type 0} (made : Option X) (x y : X) → made ≡ Some x → IfSome made (λ z. z ≡ y) → x ≡ y
value_of made x y is holds = subst (λ o. IfSome o (λ z. z ≡ y)) is holds

pub commits : (seed i : ℕ) (sync : Bool) (made : Option (List Entry)) (entries batch : List Entry) → sync ≡ (i % 16 == 15) → made ≡ Some batch
    → IfSome made (λ b. b ≡ entries) → entries ≡ load_entries seed i
    → record { session = i % LOAD_SESSIONS; act = Commit sync batch } ≡ load_line seed i
unfolding load_line
commits seed i sync made entries batch tells is holds are =
    ap (λ (b : Bool). let line : Line = record { session = i % LOAD_SESSIONS; act = Commit b batch } in line) tells
    ∙ ap (λ (es : List Entry). let line : Line = record { session = i % LOAD_SESSIONS; act = Commit (i % 16 == 15) es } in line)
    (value_of made batch entries is holds ∙ are)

-- ---- the lines of a round

pub lines_more : (b : EveryNth) (place : ℕ) (lines more : List Line) (line : Line) → lines ≡ lines_before b place → line ≡ line_at b place
    → more ≡ lines ++ line ∷ [] → more ≡ lines_before b (place + 1)
lines_more b place lines more line is this are =
    are ∙ ap (λ (ls : List Line). ls ++ line ∷ []) is ∙ ap (λ (l : Line). lines_before b place ++ l ∷ []) this
    ∙ sym (map-range_with_len_more (line_at b) 0 place place (omega arith))

pub round_made : (round : Round) (stalls : List StallLine) (lines all : List Line) → stalls ≡ [] → lines ≡ all
    → record { stalls = []; lines = all } ≡ round → record { stalls = stalls; lines = lines } ≡ round
round_made round stalls lines all none are is =
    ap (λ (ss : List StallLine). let made : Round = record { stalls = ss; lines = lines } in made) none
    ∙ ap (λ (ls : List Line). let made : Round = record { stalls = []; lines = ls } in made) are ∙ is
