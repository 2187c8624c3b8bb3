-- What a run is opened on: more polls may be left to stall only where a round stalls some.
use Rattle.std.proofs.Common.{◌≡◌, ◌⊎◌, inl, inr, Bool, true, false, ◌||◌, List, [], ◌∷◌, IsTrue, refl, sym, ap, ◌∙◌, arith}
use Rattle.std.specs.List.{list_any}
use Rattle.std.proofs.lemmas.List.Elements.{Contains-append_right}
use Rattle.session_replies.specs.declared.script.Round.{Round}
use Rattle.session_replies.specs.declared.script.StallLine.{StallLine}
use Rattle.commit_pipeline.specs.Openings.{Opening}
use Rattle.script_runner.specs.Rounds.{AllowsStalls}
use Rattle.script_runner.specs.Runs.{StallNone, StallsSome, stalls_any, has_stalls}

-- ---- tests

either : (a b : Bool) → IsTrue (a || b) → IsTrue a ⊎ IsTrue b
either true b h = inl h
either false b h = inr h

first_true : (a b : Bool) → a ≡ true → IsTrue (a || b)
first_true true b e = e
first_true false b e = let clash : false ≡ true = e in absurd cc

last_true : (a b : Bool) → IsTrue b → IsTrue (a || b)
last_true true b h = refl
last_true false b h = h

-- ---- the rounds that stall

-- An opening allows the stalls of the rounds where it allows some as soon as one of them stalls.
pub allowed : (opening : Opening) (rounds : List Round) → (IsTrue (list_any has_stalls rounds) → IsTrue opening.start.may_stall) → AllowsStalls opening rounds
allowed opening [] may = tt
allowed opening (round ∷ rounds) may =
    (one round.stalls refl, allowed opening rounds (λ h. may (last_true (has_stalls round) (list_any has_stalls rounds) h)))
  where
    one : (stalls : List StallLine) → round.stalls ≡ stalls → (round.stalls ≡ []) ⊎ IsTrue opening.start.may_stall
    one [] is = inl is
    one (stall ∷ stalls) is = inr (may (first_true (has_stalls round) (list_any has_stalls rounds) (ap stalls_any is)))

pub some_stall : (rounds : List Round) → IsTrue (list_any has_stalls rounds) → StallsSome rounds
some_stall [] h = let clash : false ≡ true = h in absurd cc
some_stall (round ∷ rounds) h = elim (either (has_stalls round) (list_any has_stalls rounds) h) [
  | inl here ↦ record {
    round = round;
    stands = (0, omega arith, refl);
    some = λ none. let clash : false ≡ true = ap stalls_any (sym none) ∙ here in absurd cc;
  }
  | inr later ↦
      let s = some_stall rounds later in
      record { round = s.round; stands = Contains-append_right (round ∷ []) rounds s.round s.stands; some = s.some }
]

pub none_stalls : (rounds : List Round) → StallNone rounds → list_any has_stalls rounds ≡ false
none_stalls [] none = refl
none_stalls (round ∷ rounds) none =
    ap (λ (stalls : List StallLine). stalls_any stalls || list_any has_stalls rounds) none.0 ∙ none_stalls rounds none.1
