-- Line by line, from the last one on, each session has its lines.
use Rattle.std.specs.Prelude.{◌≡◌, ◌⊎◌, ℕ, zero, suc, ◌+◌, ◌<◌, ◌≤◌, Bool, true, false, cond, List, [], ◌∷◌, ◌++◌, length, map, take, Some, slice_get, slice_index, slice_index_or, slice_set}
use Rattle.std.proofs.Common.{inl, inr, refl, sym, ap, ◌∙◌, subst, append_assoc, ne_eqb, arith, length-append, length-take, get_or-set_same, get_or-set_other}
use Rattle.std.proofs.lemmas.List.{append-nil, length-set, take_more}
use Rattle.std.proofs.lemmas.List.Elements.{filter-append}
use Rattle.std.proofs.lemmas.List.Sums.{length-filter, count_by-le-length}
use Rattle.std.proofs.lemmas.Bool.{eq-eqb}
use Rattle.session_replies.specs.Rounds.{LinesAreOfSome}
use Rattle.session_replies.specs.declared.script.Line.{Line}
use Rattle.session_replies.specs.Legal.{is_of, lines_of_session}
use Rattle.commit_pipeline.specs.declared.standing.Standing.{Standing}
use Rattle.session_rounds.specs.declared.course.Course.{Course}
use Rattle.session_rounds.specs.declared.transcript.Transcript.{Transcript}
use Rattle.session_rounds.specs.Turns.{turn_with, beginning, with_line, CountsLines, AreDealt}

-- The turns as they begin are those of no line.
beginning_at : (told : Transcript) (ss : List Standing) (i : ℕ) (s : Standing) → slice_get ss i ≡ Some s → slice_get (map (beginning told) ss) i ≡ Some (turn_with told s [])
beginning_at told [] i s e = absurd cc
beginning_at told (x ∷ ss) zero s e = let is : x ≡ s = cc in ap (λ (t : Standing). Some (beginning told t)) is
beginning_at told (x ∷ ss) (suc i) s e = beginning_at told ss i s e

-- There are as many of them.
length_beginning : (told : Transcript) (ss : List Standing) → length (map (beginning told) ss) ≡ length ss
length_beginning told [] = refl
length_beginning told (s ∷ ss) = ap suc (length_beginning told ss)

-- So no line is dealt.
no_line : (told : Transcript) (ss : List Standing) → AreDealt told ss [] (map (beginning told) ss)
no_line told ss = record { all = length_beginning told ss; each = beginning_at told ss }

-- ---- a line more

-- an item that was put at its place, and one at another place
get_set_same : {A : Type 0} (xs : List A) (at : ℕ) (old new : A) → slice_get xs at ≡ Some old → slice_get (slice_set xs at new) at ≡ Some new
get_set_same [] at old new e = absurd cc
get_set_same (x ∷ xs) zero old new e = refl
get_set_same (x ∷ xs) (suc at) old new e = get_set_same xs at old new e

get_set_apart : {A : Type 0} (xs : List A) (at i : ℕ) (new : A) → (at ≡ i → ⊥) → slice_get (slice_set xs at new) i ≡ slice_get xs i
get_set_apart [] at i new apart = refl
get_set_apart (x ∷ xs) zero zero new apart = absurd (apart refl)
get_set_apart (x ∷ xs) zero (suc i) new apart = refl
get_set_apart (x ∷ xs) (suc at) zero new apart = refl
get_set_apart (x ∷ xs) (suc at) (suc i) new apart = get_set_apart xs at i new (λ same. apart (ap suc same))

-- Two numbers are the same, or not.
same_or : (a b : ℕ) → (a ≡ b) ⊎ (a ≡ b → ⊥)
same_or zero zero = inl refl
same_or zero (suc b) = inr (λ same. absurd cc)
same_or (suc a) zero = inr (λ same. absurd cc)
same_or (suc a) (suc b) = elim (same_or a b) [ inl same ↦ inl (ap suc same) | inr apart ↦ inr (λ same. apart cc) ]

-- The lines of a session with one before them, where that is of it and where it is not.
own_line : (i : ℕ) (line : Line) (lines : List Line) (b : Bool) → is_of i line ≡ b
    → lines_of_session i (line ∷ lines) ≡ cond b (line ∷ lines_of_session i lines) (lines_of_session i lines)
own_line i line lines b e = ap (λ (c : Bool). cond c (line ∷ lines_of_session i lines) (lines_of_session i lines)) e

-- The line comes before those of its session, and the others keep theirs.
line_more : (told : Transcript) (ss : List Standing) (line : Line) (lines : List Line) (ts : List Course) (t : Course) → AreDealt told ss lines ts
    → slice_get ts line.session ≡ Some t → AreDealt told ss (line ∷ lines) (slice_set ts line.session (with_line line t))
line_more told ss line lines ts t dealt there = record {
  all = length-set ts line.session (with_line line t) ∙ dealt.all;
  each = λ i s e. elim (same_or line.session i) [
    | inl same ↦
        let was : slice_get ts line.session ≡ Some (turn_with told s (lines_of_session i lines)) = ap (slice_get ts) same ∙ dealt.each i s e in
        let is : t ≡ turn_with told s (lines_of_session i lines) = cc in
        ap (slice_get (slice_set ts line.session (with_line line t))) (sym same)
        ∙ get_set_same ts line.session t (with_line line t) there
        ∙ ap (λ (u : Course). Some (with_line line u)) is
        ∙ ap (λ (l : List Line). Some (turn_with told s l)) (sym (own_line i line lines true (eq-eqb line.session i same)))
    | inr apart ↦
        get_set_apart ts line.session i (with_line line t) apart ∙ dealt.each i s e
        ∙ ap (λ (l : List Line). Some (turn_with told s l)) (sym (own_line i line lines false (ne_eqb line.session i apart)))
  ];
}

-- ---- all lines

-- The last lines are dealt, and these are left.
pub record DealtSoFar (told : Transcript) (ss : List Standing) (all left : List Line) (ts : List Course) : Type 0 where
  pub rest : List Line
  pub is : left ++ rest ≡ all
  pub named : LinesAreOfSome (length ss) left
  pub dealt : AreDealt told ss rest ts

-- Lines before a last one are of some sessions where all are.
all_but_last : (n : ℕ) (lines : List Line) (line : Line) → LinesAreOfSome n (lines ++ line ∷ []) → LinesAreOfSome n lines
all_but_last n [] line all = record {}
all_but_last n (l ∷ lines) line all = (all.0, all_but_last n lines line all.1)

-- And so it is of the last.
last_of_all : (n : ℕ) (lines : List Line) (line : Line) → LinesAreOfSome n (lines ++ line ∷ []) → line.session < n
last_of_all n [] line all = all.0
last_of_all n (l ∷ lines) line all = last_of_all n lines line all.1

-- At first none is dealt.
pub none_dealt : (told : Transcript) (ss : List Standing) (all : List Line) → LinesAreOfSome (length ss) all → DealtSoFar told ss all all (map (beginning told) ss)
none_dealt told ss all named = record { rest = []; is = append-nil all; named = named; dealt = no_line told ss }

-- The last one that is left is of one of them.
pub next_is_of_some : (told : Transcript) (ss : List Standing) (all old new : List Line) (line : Line) (ts : List Course) → DealtSoFar told ss all old ts
    → old ≡ new ++ line ∷ [] → line.session < length ts
next_is_of_some told ss all old new line ts so taken =
    subst (λ (n : ℕ). line.session < n) (sym so.dealt.all)
    (last_of_all (length ss) new line (subst (LinesAreOfSome (length ss)) taken so.named))

-- One more is dealt.
pub one_more : (told : Transcript) (ss : List Standing) (all old new : List Line) (line : Line) (ts : List Course) (t t' : Course) → DealtSoFar told ss all old ts
    → old ≡ new ++ line ∷ [] → slice_get ts line.session ≡ Some t → t' ≡ with_line line t
    → DealtSoFar told ss all new (slice_set ts line.session t')
one_more told ss all old new line ts t t' so taken there is = record {
  rest = line ∷ so.rest;
  is = sym (append_assoc new (line ∷ []) so.rest) ∙ ap (λ (l : List Line). l ++ so.rest) (sym taken) ∙ so.is;
  named = all_but_last (length ss) new line (subst (LinesAreOfSome (length ss)) taken so.named);
  dealt = subst (λ (u : Course). AreDealt told ss (line ∷ so.rest) (slice_set ts line.session u)) (sym is)
      (line_more told ss line so.rest ts t so.dealt there);
}

-- All are dealt where none is left.
pub all_dealt : (told : Transcript) (ss : List Standing) (all left : List Line) (ts : List Course) → DealtSoFar told ss all left ts → left ≡ [] → AreDealt told ss all ts
all_dealt told ss all left ts so none =
    subst (λ (l : List Line). AreDealt told ss l ts) (ap (λ (l : List Line). l ++ so.rest) (sym none) ∙ so.is) so.dealt

-- ---- lines that are still to be made

-- an item in front of more, and the one behind them all
get_in_front : {A : Type 0} (xs ys : List A) (i : ℕ) (x : A) → slice_get xs i ≡ Some x → slice_get (xs ++ ys) i ≡ Some x
get_in_front [] ys i x e = absurd cc
get_in_front (y ∷ xs) ys zero x e = e
get_in_front (y ∷ xs) ys (suc i) x e = get_in_front xs ys i x e

get_behind : {A : Type 0} (xs : List A) (y : A) → slice_get (xs ++ y ∷ []) (length xs) ≡ Some y
get_behind [] y = refl
get_behind (x ∷ xs) y = get_behind xs y

-- An item is in front, or the one behind.
front_or_behind : {A : Type 0} (xs : List A) (y : A) (i : ℕ) (x : A) → slice_get (xs ++ y ∷ []) i ≡ Some x
    → (slice_get xs i ≡ Some x) ⊎ ((i ≡ length xs) × (y ≡ x))
front_or_behind [] y zero x e = inr (refl, cc)
front_or_behind [] y (suc i) x e = absurd cc
front_or_behind (z ∷ xs) y zero x e = inl e
front_or_behind (z ∷ xs) y (suc i) x e = elim (front_or_behind xs y i x e) [ inl front ↦ inl front | inr behind ↦ inr (ap suc behind.0, behind.1) ]

-- One session more has its lines.
pub one_shared : (told : Transcript) (ss : List Standing) (lines own : List Line) (ts : List Course) (n : ℕ) (s : Standing) (t : Course) → AreDealt told ss lines ts
    → n ≡ length ts → own ≡ lines_of_session n lines → t ≡ turn_with told s own → AreDealt told (ss ++ s ∷ []) lines (ts ++ t ∷ [])
one_shared told ss lines own ts n s t dealt count its is = record {
  all = omega (arith, length-append ss (s ∷ []), length-append ts (t ∷ []), dealt.all);
  each = λ i x e. elim (front_or_behind ss s i x e) [
    | inl front ↦ get_in_front ts (t ∷ []) i (turn_with told x (lines_of_session i lines)) (dealt.each i x front)
    | inr behind ↦
        let here : i ≡ length ts = behind.0 ∙ sym dealt.all in
        ap (slice_get (ts ++ t ∷ [])) here ∙ get_behind ts t
        ∙ ap (λ (u : Course). Some u) (is ∙ ap (turn_with told s) (its ∙ ap (λ (m : ℕ). lines_of_session m lines) (count ∙ sym here))
        ∙ ap (λ (y : Standing). turn_with told y (lines_of_session i lines)) behind.1)
  ];
}

-- ---- how many each session has

-- A line at a place is of one of the sessions.
pub is_of_some : (n : ℕ) (lines : List Line) (k : ℕ) (line : Line) → LinesAreOfSome n lines → k < length lines
    → (slice_index_or lines k line).session < n
is_of_some n [] k line all below = absurd (omega (arith, below))
is_of_some n (l ∷ lines) zero line all below = all.0
is_of_some n (l ∷ lines) (suc k) line all below = is_of_some n lines k line all.1 (omega (arith, below))

-- No session has more of the first lines than there are.
pub counts_within : (lines : List Line) (k i : ℕ) (counts : List ℕ) → CountsLines (take k lines) counts → slice_index counts i ≤ k
counts_within lines k i counts so =
    omega (arith, so i, length-filter (is_of i) (take k lines), count_by-le-length (is_of i) (take k lines), length-take k lines)

-- One more line is counted.
pub one_counted : (lines : List Line) (k : ℕ) (line : Line) (counts : List ℕ) (was : ℕ) → k < length lines → line ≡ slice_index_or lines k line
    → line.session < length counts → was ≡ slice_index counts line.session → CountsLines (take k lines) counts
    → CountsLines (take (k + 1) lines) (slice_set counts line.session (was + 1))
one_counted lines k line counts was below is named here so i =
    let more : take (k + 1) lines ≡ take k lines ++ line ∷ [] =
    take_more lines k line below ∙ ap (λ (l : Line). take k lines ++ l ∷ []) (sym is) in
    let grown : length (lines_of_session i (take (k + 1) lines))
    ≡ length (lines_of_session i (take k lines)) + length (lines_of_session i (line ∷ [])) =
    ap (λ (l : List Line). length (lines_of_session i l)) more ∙ ap length (filter-append (is_of i) (take k lines) (line ∷ []))
    ∙ length-append (lines_of_session i (take k lines)) (lines_of_session i (line ∷ [])) in
    elim (same_or line.session i) [
      | inl same ↦
          let own : length (lines_of_session i (line ∷ [])) ≡ 1 = ap length (own_line i line [] true (eq-eqb line.session i same)) in
          let now : slice_index (slice_set counts line.session (was + 1)) i ≡ was + 1 =
          ap (slice_index (slice_set counts line.session (was + 1))) (sym same) ∙ get_or-set_same counts line.session (was + 1) 0 named in
          omega (arith, grown, now, own, so i, here, ap (slice_index counts) same)
      | inr apart ↦
          let own : length (lines_of_session i (line ∷ [])) ≡ 0 = ap length (own_line i line [] false (ne_eqb line.session i apart)) in
          let now : slice_index (slice_set counts line.session (was + 1)) i ≡ slice_index counts i =
          get_or-set_other counts line.session i (was + 1) 0 (λ same. apart (sym same)) in
          omega (arith, grown, now, own, so i)
    ]
