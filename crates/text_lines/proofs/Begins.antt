-- A text that still begins as it was.
use Rattle.std.proofs.Common.{◌≡◌, ◌≤◌, ℕ, List, ◌++◌, length, take, sym, ap, subst, ◌∙◌, arith}
use Rattle.std.specs.Prelude.{Result, Ok, Err, OnOk, OnErr}
use Rattle.wal_base.specs.declared.error.NoMemory.{NoMemory}
use Rattle.std.proofs.lemmas.List.{length-take, length-append, take-append-le, take-take}
use Rattle.std.proofs.Math.Seq.{take-append_seam}

-- It does with more after it,
pub begins_append : (old mid more : List ℕ) → take (length old) mid ≡ old → take (length old) (mid ++ more) ≡ old
begins_append old mid more begins =
    let within : length old ≤ length mid = omega (arith, length-take (length old) mid, ap length begins) in
    take-append-le (length old) mid more within ∙ begins

-- and where it begins as a text that it was a prefix of.
pub begins_further : (old mid new more : List ℕ) → mid ≡ old ++ more → take (length mid) new ≡ mid → take (length old) new ≡ old
begins_further old mid new more is begins =
    let within : length old ≤ length mid = omega (arith, length-append old more, ap length is) in
    sym (take-take (length old) (length mid) new within) ∙ ap (take (length old)) (begins ∙ is) ∙ take-append_seam old more

pub begins_both : (old out mid new piece other : List ℕ) → mid ≡ out ++ piece → new ≡ mid ++ other → take (length old) out ≡ old → take (length old) new ≡ old
begins_both old out mid new piece other first second begins =
    rw (second, first) (begins_append old (out ++ piece) other (begins_append old out piece begins))

-- what holds holds where memory ran out
pub on_err : {P : Type 0} (answer : Result (Unit {0}) NoMemory) → P → OnErr answer P
on_err (Ok u) holds = tt
on_err (Err e) holds = holds

-- what was added is there where all was
pub whole : (P : List ℕ → Type 0) (new mid : List ℕ) (answer added : Result (Unit {0}) NoMemory) → answer ≡ added → OnOk added (new ≡ mid) → OnOk added (P mid) → OnOk answer (P new)
whole P new mid answer (Ok u) same kept holds = rw same (subst P (sym kept) holds)
whole P new mid answer (Err e) same kept holds = rw same tt
