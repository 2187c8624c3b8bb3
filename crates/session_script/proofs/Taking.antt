-- Lines that are taken one after another, and the first bad one.
use Rattle.std.proofs.Common.{◌≡◌, ◌≢◌, ℕ, ◌+◌, Bool, true, false, List, [], ◌∷◌, ◌++◌, length, Option, Some, None, refl, sym, ap, ◌∙◌, subst}
use Rattle.std.proofs.Common.{arith, append_assoc}
use Rattle.std.specs.List.{AllByRecursion}
use Rattle.std.specs.Option.{option_to_list}
use Rattle.std.proofs.lemmas.List.{append-nil, length-append}
use Rattle.session_replies.specs.declared.script.Script.{Script}
use Rattle.session_script.specs.declared.saying.Saying.{Saying}
use Rattle.session_script.specs.declared.saying.Saying.TheVariants as sayings
use Rattle.session_script.specs.Lines.{LineSays}
use Rattle.session_script.specs.Script.{LinesSay, rounds_of, sessions_of, halt_if, AreScript, IsFirstBad}
use Rattle.session_script.proofs.OneScript.{lines_say_one}

-- So many lines were taken, these things were said, and a halt was among them or not.
pub record Taken (all rest : List (List ℕ)) (said : List Saying) (halted : Bool) (count : ℕ) : Type 0 where
  pub done : List (List ℕ)
  pub is : all ≡ done ++ rest
  pub says : LinesSay done (said ++ halt_if halted)
  pub going : AllByRecursion (λ saying. saying ≢ sayings.Halts) said
  pub count_is : length done ≡ count

pub none_taken : (all : List (List ℕ)) → Taken all all [] false 0
none_taken all = record { done = []; is = refl; says = refl; going = tt; count_is = refl }

says_more : (lines : List (List ℕ)) (said : List Saying) (line : List ℕ) (here : Option Saying) → LinesSay lines said → LineSays line here
    → LinesSay (lines ++ line ∷ []) (said ++ option_to_list here)
says_more [] said line here h l = (here, [], l, refl, ap (λ (t : List Saying). t ++ option_to_list here) h ∙ sym (append-nil (option_to_list here)))
says_more (x ∷ lines) said line here h l = (
  h.0,
  h.1 ++ option_to_list here,
  h.2,
  says_more lines h.1 line here h.3 l,
  ap (λ (t : List Saying). t ++ option_to_list here) h.4
      ∙ append_assoc (option_to_list h.0) h.1 (option_to_list here),
)

all_push : (said : List Saying) (saying : Saying) → AllByRecursion (λ s. s ≢ sayings.Halts) said → saying ≢ sayings.Halts
    → AllByRecursion (λ s. s ≢ sayings.Halts) (said ++ saying ∷ [])
all_push [] saying all other = (other, tt)
all_push (s ∷ said) saying all other = (all.0, all_push said saying all.1 other)

module _ (all old new : List (List ℕ)) (said : List Saying) (count : ℕ) (line : List ℕ) (e : old ≡ line ∷ new) where
  moved_on : (done : List (List ℕ)) → all ≡ done ++ old → all ≡ (done ++ line ∷ []) ++ new
  moved_on done is = is ∙ ap (λ (t : List (List ℕ)). done ++ t) e ∙ sym (append_assoc done (line ∷ []) new)

  counted : (done : List (List ℕ)) → length done ≡ count → length (done ++ line ∷ []) ≡ count + 1
  counted done is = omega (arith, is, length-append done (line ∷ []))

  -- a line that says nothing, before or after a halt
  pub silent : (halted : Bool) → Taken all old said halted count → LineSays line None → Taken all new said halted (count + 1)
  silent halted t l = record {
    done = t.done ++ line ∷ [];
    is = moved_on t.done t.is;
    says = subst (λ (s : List Saying). LinesSay (t.done ++ line ∷ []) s) (append-nil (said ++ halt_if halted))
        (says_more t.done (said ++ halt_if halted) line None t.says l);
    going = t.going;
    count_is = counted t.done t.count_is;
  }

  -- a line that says something, and is no halt
  pub spoken : (saying : Saying) → Taken all old said false count → LineSays line (Some saying) → saying ≢ sayings.Halts
      → Taken all new (said ++ saying ∷ []) false (count + 1)
  spoken saying t l other = record {
    done = t.done ++ line ∷ [];
    is = moved_on t.done t.is;
    says = subst (λ (s : List Saying). LinesSay (t.done ++ line ∷ []) s) (ap (λ (s : List Saying). s ++ saying ∷ []) (append-nil said)
        ∙ sym (append-nil (said ++ saying ∷ []))) (says_more t.done (said ++ halt_if false) line (Some saying) t.says l);
    going = all_push said saying t.going other;
    count_is = counted t.done t.count_is;
  }

  -- a halt
  pub halts : Taken all old said false count → LineSays line (Some sayings.Halts) → Taken all new said true (count + 1)
  halts t l = record {
    done = t.done ++ line ∷ [];
    is = moved_on t.done t.is;
    says = subst (λ (s : List Saying). LinesSay (t.done ++ line ∷ []) s) (ap (λ (s : List Saying). s ++ sayings.Halts ∷ []) (append-nil said))
        (says_more t.done (said ++ halt_if false) line (Some sayings.Halts) t.says l);
    going = t.going;
    count_is = counted t.done t.count_is;
  }

  first_bad : (halted : Bool) → Taken all old said halted count
      → ((done : List (List ℕ)) → LinesSay done (said ++ halt_if halted) → (longer : Script) → AreScript (done ++ line ∷ []) longer → ⊥) → IsFirstBad all
      (count + 1)
  first_bad halted t bad = record {
    before = t.done;
    line = line;
    after = new;
    is = t.is ∙ ap (λ (l : List (List ℕ)). t.done ++ l) e;
    script = record { rounds = rounds_of said; halted = halted; sessions = sessions_of said };
    accepted = record { said = said; says = t.says; going = t.going; rounds = refl; sessions = refl };
    bad = bad t.done t.says;
    number_is = ap (λ (n : ℕ). n + 1) (sym t.count_is);
  }

  last_says : (done : List (List ℕ)) (told : List Saying) → LinesSay (done ++ line ∷ []) told → (here : Option Saying) × LineSays line here
  last_says [] told h = (h.0, h.2)
  last_says (x ∷ done) told h = last_says done h.1 h.3

  -- The line says nothing that is allowed.
  pub unsaid : (halted : Bool) → Taken all old said halted count → ((here : Option Saying) → LineSays line here → ⊥) → IsFirstBad all (count + 1)
  unsaid halted t none = first_bad halted t (λ done says longer are. let l = last_says done (are.said ++ halt_if longer.halted) are.says in none l.0 l.1)

  -- It says something after a halt.
  pub too_late : (saying : Saying) → Taken all old said true count → LineSays line (Some saying) → IsFirstBad all (count + 1)
  too_late saying t l = first_bad true t (λ done says longer are.
      inside are.said said longer.halted saying are.going
      (lines_say_one (done ++ line ∷ []) (are.said ++ halt_if longer.halted) ((said ++ sayings.Halts ∷ []) ++ saying ∷ []) are.says
      (says_more done (said ++ halt_if true) line (Some saying) says l)))
    where
      inside : (xs ys : List Saying) (b : Bool) (z : Saying) → AllByRecursion (λ s. s ≢ sayings.Halts) xs
          → xs ++ halt_if b ≡ (ys ++ sayings.Halts ∷ []) ++ z ∷ [] → ⊥
      inside [] ys true z none eq = omega
          (arith, ap (λ (l : List Saying). length l) eq, length-append (ys ++ sayings.Halts ∷ []) (z ∷ []), length-append ys (sayings.Halts ∷ []))
      inside [] ys false z none eq = omega
          (arith, ap (λ (l : List Saying). length l) eq, length-append (ys ++ sayings.Halts ∷ []) (z ∷ []), length-append ys (sayings.Halts ∷ []))
      inside (x ∷ xs) [] b z none eq = let is : x ≡ sayings.Halts = cc in none.0 is
      inside (x ∷ xs) (y ∷ ys) b z none eq = let more : xs ++ halt_if b ≡ (ys ++ sayings.Halts ∷ []) ++ z ∷ [] = cc in inside xs ys b z none.1 more

-- All lines are taken.
pub all_taken : (all rest : List (List ℕ)) (said : List Saying) (halted : Bool) (count : ℕ) → Taken all rest said halted count → rest ≡ []
    → AreScript all (record { rounds = rounds_of said; halted = halted; sessions = sessions_of said })
all_taken all rest said halted count t none = record {
  said = said;
  says = subst (λ (l : List (List ℕ)). LinesSay l (said ++ halt_if halted)) (sym (t.is ∙ ap (λ (l : List (List ℕ)). t.done ++ l) none
      ∙ append-nil t.done)) t.says;
  going = t.going;
  rounds = refl;
  sessions = refl;
}
