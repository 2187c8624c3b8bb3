-- The parts that are given to others, and the one that is kept, are all turns, in their order.
use Rattle.std.specs.Prelude.{◌≡◌, ℕ, ◌+◌, ◌≤◌, Bool, true, cond, List, [], ◌∷◌, ◌++◌}
use Rattle.std.specs.List.{AllByRecursion}
use Rattle.std.proofs.Common.{refl, sym, ap, ◌∙◌, subst, arith, append_assoc}
use Rattle.std.proofs.lemmas.List.{append-nil}
use Rattle.std.proofs.lemmas.List.Concat.{flat_map-append}
use Rattle.std.proofs.lemmas.List.Sums.{sum_by-append}
use Rattle.core.proofs.slice.Lists.{all_by_recursion_push}
use Rattle.commit_pipeline.specs.Openings.{Opening}
use Rattle.session_rounds.specs.declared.course.Course.{Course}
use Rattle.session_rounds.specs.Turns.{has_line, PlayAll}
use Rattle.session_rounds.specs.Parts.{at_work, SomeIsAtWork, turns_of_parts, AreParts, SharesOn, AreGathered}
use Rattle.session_rounds.proofs.AllPlayed.{none_to_play, both_played}

-- One part more comes after the others.
pub joined_push : (others : List (List Course)) (own : List Course) → turns_of_parts (others ++ own ∷ []) ≡ turns_of_parts others ++ own
joined_push others own =
    flat_map-append (λ (part : List Course). part) others (own ∷ []) ∙ ap (λ (l : List Course). turns_of_parts others ++ l) (append-nil own)

-- The own part is given to another.
pub given_on : (others : List (List Course)) (own : List Course) → SomeIsAtWork own → SharesOn others own (others ++ own ∷ []) []
given_on others own some = record {
  whole = append-nil (turns_of_parts (others ++ own ∷ [])) ∙ joined_push others own;
  work = λ all. all_by_recursion_push SomeIsAtWork others own all some;
}

-- It is kept.
pub kept_on : (others : List (List Course)) (own : List Course) → SharesOn others own others own
kept_on others own = record { whole = refl; work = λ all. all }

-- ---- turn by turn

-- Some turns are shared out, and so many of those that are kept have lines at least.
pub record SharedSoFar (ts : List Course) (others : List (List Course)) (own : List Course) (working : ℕ) : Type 0 where
  pub whole : turns_of_parts others ++ own ≡ ts
  pub work : AllByRecursion SomeIsAtWork others
  pub counted : working ≤ at_work own

pub none_shared : SharedSoFar [] [] [] 0
none_shared = record { whole = refl; work = tt; counted = omega arith }

-- how many have lines with one turn more
at_work_push : (ts : List Course) (t : Course) → at_work (ts ++ t ∷ []) ≡ at_work ts + at_work (t ∷ [])
at_work_push ts t = sum_by-append (λ (x : Course). cond (has_line x) 1 0) ts (t ∷ [])

-- one with lines counts
one_at_work : (t : Course) → has_line t ≡ true → at_work (t ∷ []) ≡ 1
one_at_work t has = ap (λ (b : Bool). 0 + cond b 1 0) has

-- One turn more is kept.
shared_push : (ts : List Course) (others : List (List Course)) (own : List Course) (t : Course) → turns_of_parts others ++ own ≡ ts
    → turns_of_parts others ++ (own ++ t ∷ []) ≡ ts ++ t ∷ []
shared_push ts others own t whole = sym (append_assoc (turns_of_parts others) own (t ∷ [])) ∙ ap (λ (l : List Course). l ++ t ∷ []) whole

-- It has no lines, or is not counted.
pub keeps_idle : (ts : List Course) (others : List (List Course)) (own : List Course) (working : ℕ) (t : Course) (b : List (List Course))
    (o : List Course) (w : ℕ) (pushed : List Course) → SharedSoFar ts others own working → b ≡ others → o ≡ own → w ≡ working
    → pushed ≡ o ++ t ∷ [] → SharedSoFar (ts ++ t ∷ []) b pushed w
keeps_idle ts others own working t b o w pushed so b_is o_is w_is pushed_is = record {
  whole = ap (λ (x : List (List Course)). turns_of_parts x ++ pushed) b_is ∙ ap (λ (x : List Course). turns_of_parts others ++ x) kept
      ∙ shared_push ts others own t so.whole;
  work = subst (AllByRecursion SomeIsAtWork) (sym b_is) so.work;
  counted = omega (arith, w_is, ap at_work kept, so.counted, at_work_push own t);
}
  where
    kept : pushed ≡ own ++ t ∷ []
    kept = pushed_is ∙ ap (λ (x : List Course). x ++ t ∷ []) o_is

-- It has some, and the own part was given to another before, or was not.
pub keeps_working : (ts : List Course) (others : List (List Course)) (own : List Course) (working : ℕ) (t : Course)
    (others' : List (List Course)) (own' : List Course) (working' : ℕ) (b : List (List Course)) (o : List Course) (w : ℕ) (pushed : List Course)
    → SharedSoFar ts others own working → SharesOn others own others' own' → working' ≤ at_work own' → has_line t ≡ true
    → b ≡ others' → o ≡ own' → w ≡ working' + 1 → pushed ≡ o ++ t ∷ [] → SharedSoFar (ts ++ t ∷ []) b pushed w
keeps_working ts others own working t others' own' working' b o w pushed so on counted has b_is o_is w_is pushed_is = record {
  whole = ap (λ (x : List (List Course)). turns_of_parts x ++ pushed) b_is ∙ ap (λ (x : List Course). turns_of_parts others' ++ x) kept
      ∙ shared_push ts others' own' t (on.whole ∙ so.whole);
  work = subst (AllByRecursion SomeIsAtWork) (sym b_is) (on.work so.work);
  counted = omega (arith, w_is, ap at_work kept, counted, at_work_push own' t, one_at_work t has);
}
  where
    kept : pushed ≡ own' ++ t ∷ []
    kept = pushed_is ∙ ap (λ (x : List Course). x ++ t ∷ []) o_is

pub all_shared : (ts : List Course) (others : List (List Course)) (own : List Course) (working : ℕ) → SharedSoFar ts others own working
    → AreParts ts others own
all_shared ts others own working so = record { whole = so.whole; work = so.work }

-- All of a part are kept.
pub none_given : (ts : List Course) → AreParts ts [] ts
none_given ts = record { whole = refl; work = tt }

-- ---- part by part

-- One part more was played.
pub one_gathered : (opening : Opening) (parts : List (List Course)) (part all part' : List Course) → PlayAll opening (turns_of_parts parts) all
    → PlayAll opening part part' → PlayAll opening (turns_of_parts (parts ++ part ∷ [])) (all ++ part')
one_gathered opening parts part all part' so plays =
    both_played opening (turns_of_parts (parts ++ part ∷ [])) (turns_of_parts parts) part all part' (joined_push parts part) so plays

-- Where no part was given to another.
pub none_gathered : (opening : Opening) (others : List (List Course)) (own : List Course) → others ≡ [] → AreGathered opening others own own
none_gathered opening others own none = record {
  played = [];
  plays = subst (λ (parts : List (List Course)). PlayAll opening (turns_of_parts parts) []) (sym none) (none_to_play opening);
  whole = refl;
}

-- All parts were played.
pub all_played : (opening : Opening) (ts : List Course) (others : List (List Course)) (own own' all : List Course) → AreParts ts others own
    → PlayAll opening own own' → AreGathered opening others own' all → PlayAll opening ts all
all_played opening ts others own own' all parts plays gathered =
    subst (λ (l : List Course). PlayAll opening ts l) (sym gathered.whole)
    (both_played opening ts (turns_of_parts others) own gathered.played own' (sym parts.whole) gathered.plays plays)
