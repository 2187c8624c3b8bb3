-- A draft of the lines that are read so far.
use Rattle.std.proofs.Common.{◌≡◌, ◌≢◌, inl, inr, ℕ, ◌+◌, ◌≤◌, Bool, false, List, [], ◌∷◌, ◌++◌, length, Option, Some, None, refl, sym, ap, ◌∙◌, arith, subst}
use Rattle.std.proofs.lemmas.List.{length-append}
use Rattle.session_script.specs.declared.saying.Saying.{Saying}
use Rattle.session_script.specs.declared.saying.Saying.TheVariants as sayings
use Rattle.session_script.specs.declared.reading.Draft.{Draft}
use Rattle.session_script.specs.Lines.{LineSays}
use Rattle.session_script.specs.Script.{AreScript, IsFirstBad}
use Rattle.session_script.specs.Drafts.{empty_draft, with_saying, TakesSaying, TakesLine, RefusesLine, script_of}
use Rattle.session_script.proofs.Taking.{Taken, none_taken, silent, spoken, halts, unsaid, too_late, all_taken}
use Rattle.session_script.proofs.Drafting.{IsDraftOf, draft_of_none, draft_more, its_rounds}

-- So many lines were taken, and the draft is that of what they say.
pub record LinesSoFar (all rest : List (List ℕ)) (draft : Draft) (count : ℕ) : Type 0 where
  pub said : List Saying
  pub taken : Taken all rest said draft.halted count
  pub drafted : IsDraftOf said draft

pub no_line_so_far : (all : List (List ℕ)) (draft : Draft) → draft ≡ empty_draft → LinesSoFar all all draft 0
no_line_so_far all draft e = rw e (record { said = []; taken = none_taken all; drafted = draft_of_none })

module _ (all old new : List (List ℕ)) (draft : Draft) (count : ℕ) (line : List ℕ) (so_far : LinesSoFar all old draft count) (e : old ≡ line ∷ new) where
  spoken_more : (saying : Saying) → saying ≢ sayings.Halts → draft.halted ≡ false → (with_saying draft saying).halted ≡ draft.halted
      → LineSays line (Some saying) → LinesSoFar all new (with_saying draft saying) (count + 1)
  spoken_more saying other going same says = record {
    said = so_far.said ++ saying ∷ [];
    taken = subst (λ (h : Bool). Taken all new (so_far.said ++ saying ∷ []) h (count + 1)) (sym (same ∙ going))
        (spoken all old new so_far.said count line e saying (subst (λ (h : Bool). Taken all old so_far.said h count) going so_far.taken) says other);
    drafted = draft_more so_far.said draft so_far.drafted saying other;
  }

  says_more : (saying : Saying) → draft.halted ≡ false → LineSays line (Some saying) → LinesSoFar all new (with_saying draft saying) (count + 1)
  says_more (sayings.Does x) going says = spoken_more (sayings.Does x) (λ no. absurd cc) going refl says
  says_more (sayings.Stalls x) going says = spoken_more (sayings.Stalls x) (λ no. absurd cc) going refl says
  says_more sayings.EndsRound going says = spoken_more sayings.EndsRound (λ no. absurd cc) going refl says
  says_more sayings.Halts going says = record {
    said = so_far.said;
    taken = halts all old new so_far.said count line e (subst (λ (h : Bool). Taken all old so_far.said h count) going so_far.taken) says;
    drafted = record {
      front = so_far.drafted.front;
      last = so_far.drafted.last;
      ends = so_far.drafted.ends;
      ended = so_far.drafted.ended;
      round = so_far.drafted.round;
      sessions = so_far.drafted.sessions;
    };
  }

  here_more : (here : Option Saying) (next : Draft) → LineSays line here → TakesSaying draft here next → LinesSoFar all new next (count + 1)
  here_more None next says takes = rw takes
      (record { said = so_far.said; taken = silent all old new so_far.said count line e draft.halted so_far.taken says; drafted = so_far.drafted })
  here_more (Some saying) next says takes = rw takes.1 (says_more saying takes.0 says)

  -- a line more
  pub line_more : (next : Draft) → TakesLine draft line next → LinesSoFar all new next (count + 1)
  line_more next takes = here_more takes.here next takes.says takes.taken

  -- the first bad line
  pub first_refused : (n : ℕ) → RefusesLine draft line → n ≡ count + 1 → IsFirstBad all n
  first_refused n (inl none) is = rw is (unsaid all old new so_far.said count line e draft.halted so_far.taken none)
  first_refused n (inr late) is = rw is
      (too_late all old new so_far.said count line e late.1 (subst (λ (h : Bool). Taken all old so_far.said h count) late.0 so_far.taken) late.2)

  -- the lines that were taken are fewer than all
  pub one_is_left : count + 1 ≤ length all
  one_is_left = omega (arith, ap length so_far.taken.is, ap length e, length-append so_far.taken.done old, so_far.taken.count_is)

-- all lines
pub whole_script : (all rest : List (List ℕ)) (draft : Draft) (count : ℕ) → LinesSoFar all rest draft count → rest ≡ [] → AreScript all (script_of draft)
whole_script all rest draft count so_far none =
    subst (AreScript all)
    (λ i. record { rounds = its_rounds so_far.said draft so_far.drafted i; halted = draft.halted; sessions = sym so_far.drafted.sessions i })
    (all_taken all rest so_far.said draft.halted count so_far.taken none)
