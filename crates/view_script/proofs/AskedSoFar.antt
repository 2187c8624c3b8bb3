-- What is asked by the lines that are read so far.
use Rattle.std.proofs.Common.{◌≡◌, ℕ, ◌+◌, List, [], ◌∷◌, ◌++◌, length, refl, sym, ap, ◌∙◌, arith, subst, append_assoc, Result, Ok, Err}
use Rattle.std.specs.Prelude.{IfOk, IfErr}
use Rattle.std.proofs.lemmas.List.{length-append, append-nil}
use Rattle.view_script.specs.declared.view_line.ViewLine.{ViewLine}
use Rattle.view_script.specs.Asking.{without_empty_end, IsEmptyEnd, IsNoEmptyEnd, LineAsks, AsksNothing, AddsLine, AreAsked, IsFirstBadLine}
use Rattle.view_script.specs.declared.fault.ViewFault.{ViewFault}
use Rattle.view_script.specs.declared.fault.ViewFault.TheVariants as faults
use Rattle.view_script.proofs.EmptyEnd.{keeps_asked, keeps_line, ends_empty}

-- So many lines were read, and they ask for this.
pub record AskedSoFar (all rest : List (List ℕ)) (asked : List ViewLine) (count : ℕ) : Type 0 where
  pub done : List (List ℕ)
  pub is : all ≡ done ++ rest
  pub accepted : AreAsked done asked
  pub count_is : length done ≡ count

pub none_asked : (all : List (List ℕ)) → AskedSoFar all all [] 0
unfolding AreAsked
none_asked all = record { done = []; is = refl; accepted = tt; count_is = refl }

asked_more : (lines : List (List ℕ)) (asked : List ViewLine) (line : List ℕ) (one : ViewLine) → AreAsked lines asked → LineAsks line one
    → AreAsked (lines ++ line ∷ []) (asked ++ one ∷ [])
unfolding AreAsked
asked_more [] [] line one a more = (more, tt)
asked_more [] (x ∷ asked) line one a more = absurd a
asked_more (l ∷ lines) [] line one a more = absurd a
asked_more (l ∷ lines) (x ∷ asked) line one a more = (a.0, asked_more lines asked line one a.1 more)

module _ (all old new : List (List ℕ)) (asked : List ViewLine) (count : ℕ) (line : List ℕ) (so_far : AskedSoFar all old asked count)
    (left : old ≡ line ∷ new) where
  -- a line more
  pub line_more : (next : List ViewLine) → AddsLine asked line next → AskedSoFar all new next (count + 1)
  line_more next adds = record {
    done = so_far.done ++ line ∷ [];
    is = so_far.is ∙ ap (λ (l : List (List ℕ)). so_far.done ++ l) left ∙ sym (append_assoc so_far.done (line ∷ []) new);
    accepted = subst (AreAsked (so_far.done ++ line ∷ [])) (sym adds.2) (asked_more so_far.done asked line adds.0 so_far.accepted adds.1);
    count_is = omega (arith, so_far.count_is, length-append so_far.done (line ∷ []));
  }

-- all lines
pub all_asked : (all rest : List (List ℕ)) (asked : List ViewLine) (count : ℕ) → AskedSoFar all rest asked count → without_empty_end rest ≡ []
    → AreAsked (without_empty_end all) asked
all_asked all rest asked count so_far none =
    subst (λ (lines : List (List ℕ)). AreAsked lines asked)
    (sym (ap without_empty_end so_far.is ∙ keeps_asked so_far.done rest asked so_far.accepted
    ∙ ap (λ (l : List (List ℕ)). so_far.done ++ l) none ∙ append-nil so_far.done)) so_far.accepted

-- a line that asks for nothing, after those that are read: it is the empty end, or the first bad line
module _ (all old new : List (List ℕ)) (asked : List ViewLine) (count : ℕ) (line : List ℕ) (so_far : AskedSoFar all old asked count)
    (left : old ≡ line ∷ new) where
  pub ends_asked : (result : Result (List ViewLine) ViewFault) → IfOk result (λ whole. (whole ≡ asked) × IsEmptyEnd line new)
      → IfOk result (AreAsked (without_empty_end all))
  ends_asked (Err fault) ends = tt
  ends_asked (Ok whole) ends = rw ends.0 (all_asked all old asked count so_far (ends_empty old line new left ends.1.0 ends.1.1))

  first_bad : AsksNothing line → IsNoEmptyEnd line new → IsFirstBadLine (without_empty_end all) (count + 1)
  first_bad bad other = record {
    before = so_far.done;
    line = line;
    after = without_empty_end new;
    is = ap without_empty_end (so_far.is ∙ ap (λ (l : List (List ℕ)). so_far.done ++ l) left)
        ∙ keeps_asked so_far.done (line ∷ new) asked so_far.accepted
        ∙ ap (λ (l : List (List ℕ)). so_far.done ++ l) (keeps_line line new other);
    asked = asked;
    accepted = so_far.accepted;
    bad = bad;
    number_is = omega (arith, so_far.count_is);
  }

  pub ends_bad : AsksNothing line → (result : Result (List ViewLine) ViewFault)
      → IfErr result (λ fault. (fault ≡ faults.BadLine (count + 1)) × IsNoEmptyEnd line new)
      → (number : ℕ) → result ≡ Err (faults.BadLine number) → IsFirstBadLine (without_empty_end all) number
  ends_bad bad (Ok whole) told number is = absurd cc
  ends_bad bad (Err fault) told number is =
      let tells : fault ≡ faults.BadLine number = cc in
      let same : faults.BadLine (count + 1) ≡ faults.BadLine number = sym told.0 ∙ tells in
      let number_is : count + 1 ≡ number = cc in
      subst (IsFirstBadLine (without_empty_end all)) number_is (first_bad bad told.1)
