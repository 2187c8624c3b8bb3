-- The holds of a view, and its marks: the numbers that are held, with the next one.
use Rattle.std.proofs.Common.{◌≡◌, ◌≢◌, ◌⊎◌, inl, inr, ℕ, zero, suc, ◌+◌, ◌<◌, ◌≤◌, ◌==◌, Bool, true, false, cond, List, [], ◌∷◌, ◌++◌, length, Option, Some, None, get_or, slice_get, slice_set, refl, sym, ap, ◌∙◌, subst, arith, eq-eqb, eqb-true}
use Rattle.std.specs.Prelude.{Contains}
use Rattle.std.specs.List.{insert, remove}
use Rattle.std.proofs.lemmas.Option.{slice_get_within, get_or_from_slice_get}
use Rattle.std.proofs.lemmas.List.{get_or_default}
use Rattle.std.proofs.lemmas.List.Elements.{Contains-append_right}
use Rattle.std.proofs.lemmas.List.Sums.{sum_by-append, sum_by-cons}
use Rattle.std.proofs.lemmas.List.Sorted.{IsPermutation-insert, IsPermutation-remove, sum_by-IsPermutation}
use Rattle.wal_base.proofs.Laws.{none_within, within_head, within_tail, within_cases}
use Rattle.arena_list.specs.Marks.{PutsMark, TakesMark}
use Rattle.snapshot_view.specs.Views.{HoldsAt, held_number, held_numbers, times_in}

-- ---- holds

pub held_there : (holds : List (Option ℕ)) (number at : ℕ) → HoldsAt holds number at → Contains holds (Some at)
held_there holds number at is = (number, slice_get_within holds number (Some at) is, get_or_from_slice_get holds number (Some at) (Some at) is)

pub held_within : (holds : List (Option ℕ)) (number at : ℕ) → HoldsAt holds number at → number < length holds
held_within holds number at is = slice_get_within holds number (Some at) is

-- one hold stands at one number
pub one_at : (holds : List (Option ℕ)) (number at other : ℕ) → HoldsAt holds number at → HoldsAt holds number other → at ≡ other
one_at holds number at other is also = out (sym is ∙ also)
  where
    out : Some (Some at) ≡ Some (Some other) → at ≡ other
    out e = cc

-- a hold stands where one more comes
pub held_stands : (holds more : List (Option ℕ)) (number at : ℕ) → HoldsAt holds number at → HoldsAt (holds ++ more) number at
held_stands [] more number at is = absurd cc
held_stands (hold ∷ holds) more zero at is = is
held_stands (hold ∷ holds) more (suc number) at is = held_stands holds more number at is

-- the one that comes stands
pub held_last : (holds : List (Option ℕ)) (at : ℕ) → HoldsAt (holds ++ Some at ∷ []) (length holds) at
held_last [] at = refl
held_last (hold ∷ holds) at = held_last holds at

-- and where another one is let go
pub held_still : (holds : List (Option ℕ)) (other number at : ℕ) → number ≢ other → HoldsAt holds number at
    → HoldsAt (slice_set holds other None) number at
held_still [] other number at apart is = absurd cc
held_still (hold ∷ holds) zero zero at apart is = absurd (apart refl)
held_still (hold ∷ holds) zero (suc number) at apart is = is
held_still (hold ∷ holds) (suc other) zero at apart is = is
held_still (hold ∷ holds) (suc other) (suc number) at apart is = held_still holds other number at (λ e. apart (ap suc e)) is

-- the one that is let go does not stand
pub held_no_more : (holds : List (Option ℕ)) (number at : ℕ) → HoldsAt (slice_set holds number None) number at → ⊥
held_no_more [] number at is = absurd cc
held_no_more (hold ∷ holds) zero at is = absurd cc
held_no_more (hold ∷ holds) (suc number) at is = held_no_more holds number at is

-- what stands where one is let go stood before
pub held_before : (holds : List (Option ℕ)) (number at : ℕ) → Contains (slice_set holds number None) (Some at) → Contains holds (Some at)
held_before [] number at h = h
held_before (hold ∷ holds) zero at h = elim (within_cases None holds (Some at) h) [
  | inl none ↦ absurd cc
  | inr later ↦ within_tail hold holds (Some at) later
]
held_before (hold ∷ holds) (suc number) at h = elim (within_cases hold (slice_set holds number None) (Some at) h) [
  | inl same ↦ subst (λ (o : Option ℕ). Contains (hold ∷ holds) o) same (within_head hold holds)
  | inr later ↦ within_tail hold holds (Some at) (held_before holds number at later)
]

-- ---- the numbers that are held

pub number_held : (holds : List (Option ℕ)) (at : ℕ) → Contains holds (Some at) → Contains (held_numbers holds) at
number_held [] at h = absurd (none_within (Some at) h)
number_held (hold ∷ holds) at h = elim (within_cases hold holds (Some at) h) [
  | inl same ↦ subst (λ (o : Option ℕ). Contains (held_number o ++ held_numbers holds) at) (sym same) (within_head at (held_numbers holds))
  | inr later ↦ Contains-append_right (held_number hold) (held_numbers holds) at (number_held holds at later)
]

pub held_of_number : (holds : List (Option ℕ)) (at : ℕ) → Contains (held_numbers holds) at → Contains holds (Some at)
held_of_number [] at h = absurd (none_within at h)
held_of_number (None ∷ holds) at h = within_tail None holds (Some at) (held_of_number holds at h)
held_of_number (Some number ∷ holds) at h = elim (within_cases number (held_numbers holds) at h) [
  | inl same ↦ subst (λ (n : ℕ). Contains (Some number ∷ holds) (Some n)) same (within_head (Some number) holds)
  | inr later ↦ within_tail (Some number) holds (Some at) (held_of_number holds at later)
]

-- ---- how often

abbrev one_if : ℕ → ℕ → ℕ
one_if number other = cond (other == number) 1 0

times_cons : (number first : ℕ) (numbers : List ℕ) → times_in number (first ∷ numbers) ≡ one_if number first + times_in number numbers
times_cons number first numbers = sum_by-cons (one_if number) first numbers

times_append : (number : ℕ) (xs ys : List ℕ) → times_in number (xs ++ ys) ≡ times_in number xs + times_in number ys
times_append number xs ys = sum_by-append (one_if number) xs ys

one_same : (number : ℕ) → one_if number number ≡ 1
one_same number = ap {B = ℕ} (λ (b : Bool). cond b 1 0) (eq-eqb number number refl)

pub some_times : (number : ℕ) (numbers : List ℕ) → Contains numbers number → 0 < times_in number numbers
some_times number [] h = absurd (none_within number h)
some_times number (first ∷ numbers) h = elim (within_cases first numbers number h) [
  | inl same ↦ omega (arith, times_cons number first numbers, ap (one_if number) same, one_same number)
  | inr later ↦ omega (arith, times_cons number first numbers, some_times number numbers later)
]

pub times_some : (number : ℕ) (numbers : List ℕ) → 0 < times_in number numbers → Contains numbers number
times_some number [] h = absurd (omega (arith, h))
times_some number (first ∷ numbers) h = go (times_some number numbers) (first == number) refl
  where
    go : (0 < times_in number numbers → Contains numbers number) → (b : Bool) → (first == number) ≡ b → Contains (first ∷ numbers) number
    go rest true e = subst (λ (n : ℕ). Contains (first ∷ numbers) n) (eqb-true first number e) (within_head first numbers)
    go rest false e = within_tail first numbers number
        (rest (omega (arith, h, times_cons number first numbers, ap {B = ℕ} (λ (b : Bool). cond b 1 0) e)))

times_put : (number : ℕ) (old : List ℕ) (at : ℕ) (new : List ℕ) → PutsMark old at new → times_in number new ≡ one_if number at + times_in number old
times_put number old at new (place, first, is) = ap (times_in number) is
    ∙ sum_by-IsPermutation (one_if number) (at ∷ old) (insert old place at) (IsPermutation-insert old place at)
    ∙ times_cons number at old

times_taken : (number : ℕ) (old : List ℕ) (at : ℕ) (new : List ℕ) → TakesMark old at new → times_in number old ≡ one_if number at + times_in number new
times_taken number old at new (place, here, is) = sym (sum_by-IsPermutation (one_if number) old (at ∷ remove old place)
    (IsPermutation-remove old place at here.0 (sym here.1 ∙ get_or_default old place 0 at here.0)))
    ∙ times_cons number at (remove old place) ∙ ap (λ (l : List ℕ). one_if number at + times_in number l) (sym is)

times_held_more : (number : ℕ) (holds : List (Option ℕ)) (at : ℕ)
    → times_in number (held_numbers (holds ++ Some at ∷ [])) ≡ one_if number at + times_in number (held_numbers holds)
times_held_more number [] at = times_cons number at []
times_held_more number (hold ∷ holds) at = omega (
  arith,
  times_append number (held_number hold) (held_numbers (holds ++ Some at ∷ [])),
  times_append number (held_number hold) (held_numbers holds),
  times_held_more number holds at,
)

times_held_less : (number : ℕ) (holds : List (Option ℕ)) (id at : ℕ) → HoldsAt holds id at
    → times_in number (held_numbers holds) ≡ one_if number at + times_in number (held_numbers (slice_set holds id None))
times_held_less number [] id at is = absurd cc
times_held_less number (hold ∷ holds) zero at is = ap (λ (o : Option ℕ). times_in number (held_number o ++ held_numbers holds)) here
    ∙ times_cons number at (held_numbers holds)
  where
    here : hold ≡ Some at
    here = cc
times_held_less number (hold ∷ holds) (suc id) at is = omega (
  arith,
  times_append number (held_number hold) (held_numbers holds),
  times_append number (held_number hold) (held_numbers (slice_set holds id None)),
  times_held_less number holds id at is,
)

-- ---- the marks

-- The marks have each number as often as it is shown.
abbrev pub AreMarks : ℕ → List (Option ℕ) → List ℕ → Type 0
AreMarks next holds marks = (number : ℕ) → times_in number marks ≡ times_in number (next ∷ held_numbers holds)

pub is_mark : (next : ℕ) (holds : List (Option ℕ)) (marks : List ℕ) (number : ℕ) → AreMarks next holds marks
    → Contains (next ∷ held_numbers holds) number → Contains marks number
is_mark next holds marks number are h = times_some number marks (omega (arith, are number, some_times number (next ∷ held_numbers holds) h))

pub mark_is : (next : ℕ) (holds : List (Option ℕ)) (marks : List ℕ) (number : ℕ) → AreMarks next holds marks
    → Contains marks number → Contains (next ∷ held_numbers holds) number
mark_is next holds marks number are h = times_some number (next ∷ held_numbers holds) (omega (arith, are number, some_times number marks h))

-- a held number is a mark, and a mark below the next number is held
pub held_mark : (next : ℕ) (holds : List (Option ℕ)) (marks : List ℕ) (at : ℕ) → AreMarks next holds marks
    → Contains holds (Some at) → Contains marks at
held_mark next holds marks at are h = is_mark next holds marks at are (within_tail next (held_numbers holds) at (number_held holds at h))

pub mark_held : (next : ℕ) (holds : List (Option ℕ)) (marks : List ℕ) (at : ℕ) → AreMarks next holds marks → at < next
    → Contains marks at → Contains holds (Some at)
mark_held next holds marks at are low h = elim (within_cases next (held_numbers holds) at (mark_is next holds marks at are h)) [
  | inl same ↦ absurd (omega (arith, low, same))
  | inr later ↦ held_of_number holds at later
]

pub marks_first : (next : ℕ) (marks : List ℕ) → PutsMark [] next marks → AreMarks next [] marks
marks_first next marks put number = times_put number [] next marks put ∙ sym (times_cons number next [])

pub marks_more : (next : ℕ) (holds : List (Option ℕ)) (old : List ℕ) (at : ℕ) (new : List ℕ) → AreMarks next holds old → PutsMark old at new
    → AreMarks next (holds ++ Some at ∷ []) new
marks_more next holds old at new are put number = omega (
  arith,
  are number,
  times_put number old at new put,
  times_held_more number holds at,
  times_cons number next (held_numbers holds),
  times_cons number next (held_numbers (holds ++ Some at ∷ [])),
)

pub marks_less : (next : ℕ) (holds : List (Option ℕ)) (old : List ℕ) (id at : ℕ) (new : List ℕ) → AreMarks next holds old → HoldsAt holds id at
    → TakesMark old at new → AreMarks next (slice_set holds id None) new
marks_less next holds old id at new are is taken number = omega (
  arith,
  are number,
  times_taken number old at new taken,
  times_held_less number holds id at is,
  times_cons number next (held_numbers holds),
  times_cons number next (held_numbers (slice_set holds id None)),
)
