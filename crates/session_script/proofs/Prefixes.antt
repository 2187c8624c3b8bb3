-- The lines before others of a script are a script, so that no script has a bad line, and the first bad line is one.
use Rattle.std.proofs.Common.{◌≡◌, ◌≢◌, ℕ, ◌<◌, Bool, true, false, ltb, List, [], ◌∷◌, ◌++◌, length, refl, sym, ap, ◌∙◌, subst, arith, append_assoc}
use Rattle.std.specs.List.{AllByRecursion}
use Rattle.std.proofs.lemmas.Bool.{ltb-true, ltb-false}
use Rattle.std.specs.Option.{option_to_list}
use Rattle.session_replies.specs.declared.script.Script.{Script}
use Rattle.session_script.specs.declared.saying.Saying.{Saying}
use Rattle.session_script.specs.declared.saying.Saying.TheVariants as sayings
use Rattle.session_script.specs.Script.{LinesSay, rounds_of, sessions_of, halt_if, AreScript, IsFirstBad}

-- what the lines before others say
pub record SaysBefore (lines : List (List ℕ)) (said : List Saying) : Type 0 where
  pub first : List Saying
  pub more : List Saying
  pub says : LinesSay lines first
  pub is : said ≡ first ++ more

says_before : (lines others : List (List ℕ)) (said : List Saying) → LinesSay (lines ++ others) said → SaysBefore lines said
says_before [] others said h = record { first = []; more = said; says = refl; is = refl }
says_before (line ∷ lines) others said h =
    let rest = says_before lines others h.1 h.3 in record {
      first = option_to_list h.0 ++ rest.first;
      more = rest.more;
      says = (h.0, rest.first, h.2, rest.says, refl);
      is = h.4 ∙ ap (λ (l : List Saying). option_to_list h.0 ++ l) rest.is ∙ sym (append_assoc (option_to_list h.0) rest.first rest.more);
    }

-- what is said before a halt, or with it
pub record HaltsAtMost (said : List Saying) : Type 0 where
  pub before : List Saying
  pub halted : Bool
  pub is : said ≡ before ++ halt_if halted
  pub going : AllByRecursion (λ saying. saying ≢ sayings.Halts) before

halts_at_most : (first more said : List Saying) (halted : Bool) → AllByRecursion (λ saying. saying ≢ sayings.Halts) said
    → first ++ more ≡ said ++ halt_if halted → HaltsAtMost first
halts_at_most [] more said halted going e = record { before = []; halted = false; is = refl; going = tt }
halts_at_most (saying ∷ []) more [] true going e =
    let one : saying ≡ sayings.Halts = cc in record { before = []; halted = true; is = ap (λ (s : Saying). s ∷ []) one; going = tt }
halts_at_most (saying ∷ other ∷ first) more [] true going e = absurd (omega (arith, ap (λ (l : List Saying). length l) e))
halts_at_most (saying ∷ first) more [] false going e = absurd cc
halts_at_most (saying ∷ first) more (s ∷ said) halted going e =
    let one : saying ≡ s = cc in
    let others : first ++ more ≡ said ++ halt_if halted = cc in
    let rest = halts_at_most first more said halted going.1 others in record {
      before = s ∷ rest.before;
      halted = rest.halted;
      is = λ i. one i ∷ rest.is i;
      going = (going.0, rest.going);
    }

-- the script that the lines before others are
pub record ScriptBefore (lines : List (List ℕ)) : Type 0 where
  pub script : Script
  pub are : AreScript lines script

pub script_before : (lines others : List (List ℕ)) (script : Script) → AreScript (lines ++ others) script → ScriptBefore lines
script_before lines others script are =
    let said = says_before lines others (are.said ++ halt_if script.halted) are.says in
    let halts = halts_at_most said.first said.more are.said script.halted are.going (sym said.is) in record {
      script = record { rounds = rounds_of halts.before; halted = halts.halted; sessions = sessions_of halts.before };
      are = record { said = halts.before; says = subst (LinesSay lines) halts.is said.says; going = halts.going; rounds = refl; sessions = refl };
    }

-- a script has no bad line
pub none_bad : (lines : List (List ℕ)) (script : Script) (number : ℕ) → AreScript lines script → IsFirstBad lines number → ⊥
none_bad lines script number are bad =
    let before = script_before (bad.before ++ bad.line ∷ []) bad.after script (subst (λ (l : List (List ℕ)). AreScript l script) (bad.is
    ∙ sym (append_assoc bad.before (bad.line ∷ []) bad.after)) are) in
    bad.bad before.script before.are

-- a shorter beginning of the same lines is one of a longer one
pub record GoesOn (short long : List (List ℕ)) (line : List ℕ) : Type 0 where
  pub more : List (List ℕ)
  pub is : long ≡ (short ++ line ∷ []) ++ more

goes_on : (short long after rest : List (List ℕ)) (line other : List ℕ) → short ++ line ∷ after ≡ long ++ other ∷ rest → length short < length long
    → GoesOn short long line
goes_on short [] after rest line other e less = absurd (omega (arith, less))
goes_on [] (l ∷ long) after rest line other e less = let one : l ≡ line = cc in record { more = long; is = ap (λ (x : List ℕ). x ∷ long) one }
goes_on (s ∷ short) (l ∷ long) after rest line other e less =
    let one : l ≡ s = cc in
    let others : short ++ line ∷ after ≡ long ++ other ∷ rest = cc in
    let r = goes_on short long after rest line other others (omega (arith, less)) in record { more = r.more; is = λ i. one i ∷ r.is i }

none_later : (lines : List (List ℕ)) (m n : ℕ) → IsFirstBad lines m → IsFirstBad lines n → m < n → ⊥
none_later lines m n a b less =
    let r = goes_on a.before b.before a.after b.after a.line b.line (sym a.is ∙ b.is) (omega (arith, less, a.number_is, b.number_is)) in
    let before = script_before (a.before ++ a.line ∷ []) r.more b.script (subst (λ (l : List (List ℕ)). AreScript l b.script) r.is b.accepted) in
    a.bad before.script before.are

-- the first bad line is one
pub one_bad : (lines : List (List ℕ)) (m n : ℕ) → IsFirstBad lines m → IsFirstBad lines n → m ≡ n
one_bad lines m n a b = by_tests (ltb m n) (ltb n m) refl refl
  where
    by_tests : (below above : Bool) → ltb m n ≡ below → ltb n m ≡ above → m ≡ n
    by_tests true above e f = absurd (none_later lines m n a b (ltb-true m n e))
    by_tests false true e f = absurd (none_later lines n m b a (ltb-true n m f))
    by_tests false false e f = omega (arith, ltb-false m n e, ltb-false n m f)
