-- What the calls of a disk tell of the creations, and of the operation that was started last.
use Rattle.std.proofs.Common.{◌≡◌, ◌⊎◌, inl, inr, ℕ, zero, suc, ◌+◌, Bool, true, false, List, [], ◌∷◌, ◌++◌, Contains, refl, sym, ap, ◌∙◌, subst, arith}
use Rattle.std.proofs.lemmas.List.Sums.{sum_by-append, sum_by-cons}
use Rattle.disk_face.specs.declared.OpId.{OpId}
use Rattle.disk_face.specs.declared.Progress.{Progress}
use Rattle.disk_face.specs.declared.Progress.TheVariants.{Pending, Failed}
use Rattle.disk_face.specs.View.{Flight, Call, was_started, was_polled}
use Rattle.disk_face.specs.Asked.{creates_in, creations, StartNone, StartedLast, LastHasFailed}
use Rattle.disk_face.specs.Script.{ArePassedOn}
use Rattle.disk_face.specs.Script as script

-- ---- in a list of calls

one_more : (call : Call) (calls : List Call) (c : Call) → Contains (call ∷ calls) c → (call ≡ c) ⊎ Contains calls c
one_more call calls c (zero, lt, is) = inl is
one_more call calls c (suc k, lt, is) = inr (k, omega (arith, lt), is)

later_on : (call : Call) (calls : List Call) (c : Call) → Contains calls c → Contains (call ∷ calls) c
later_on call calls c has = (suc has.0, omega (arith, has.1), has.2)

first_one : (call : Call) (calls : List Call) → Contains (call ∷ calls) call
first_one call calls = (0, omega arith, refl)

starts_none_still : (call : Call) (calls : List Call) → ((id : OpId) (flight : Flight) → call ≡ was_started id flight → ⊥) → StartNone calls
    → StartNone (call ∷ calls)
starts_none_still call calls isnt none id flight has = elim (one_more call calls (was_started id flight) has) [
  | inl is ↦ isnt id flight is
  | inr more ↦ none id flight more
]

is_no_start : (q : OpId) (answer : Progress) (id : OpId) (flight : Flight) → was_polled q answer ≡ was_started id flight → ⊥
is_no_start q answer id flight is = cc

-- ---- the operation that was started last, and whether it has failed

pub record Tracks (id : OpId) (failed : Bool) (calls : List Call) : Type 0 where
  pub later : List Call
  pub started : StartedLast id later calls
  pub has : failed ≡ true → Contains later (was_polled id Failed)
  pub hasnt : failed ≡ false → Contains later (was_polled id Failed) → ⊥

-- it is started now
pub tracks_start : (id : OpId) (flight : Flight) (calls : List Call) → Tracks id false (was_started id flight ∷ calls)
tracks_start id flight calls = record {
  later = [];
  started = record { flight = flight; earlier = calls; calls_are = refl; last = λ q f has. omega (arith, has.1) };
  has = λ e. let clash : false ≡ true = e in absurd cc;
  hasnt = λ e has. omega (arith, has.1);
}

-- another one is asked after, or it has not failed
pub tracks_poll : (id q : OpId) (answer : Progress) (failed : Bool) (calls : List Call) → ((q ≡ id) × (answer ≡ Failed) → ⊥) → Tracks id failed calls
    → Tracks id failed (was_polled q answer ∷ calls)
tracks_poll id q answer failed calls other t = record {
  later = was_polled q answer ∷ t.later;
  started = record {
    flight = t.started.flight;
    earlier = t.started.earlier;
    calls_are = ap (λ (l : List Call). was_polled q answer ∷ l) t.started.calls_are;
    last = starts_none_still (was_polled q answer) t.later (is_no_start q answer) t.started.last;
  };
  has = λ e. later_on (was_polled q answer) t.later (was_polled id Failed) (t.has e);
  hasnt = λ e has. elim (one_more (was_polled q answer) t.later (was_polled id Failed) has) [
    | inl is ↦ other (let same : q ≡ id = cc in same, let fails : answer ≡ Failed = cc in fails)
    | inr more ↦ t.hasnt e more
  ];
}

-- it has failed
pub tracks_failure : (id q : OpId) (failed : Bool) (calls : List Call) → q ≡ id → Tracks id failed calls → Tracks id true (was_polled q Failed ∷ calls)
tracks_failure id q failed calls same t = record {
  later = was_polled q Failed ∷ t.later;
  started = record {
    flight = t.started.flight;
    earlier = t.started.earlier;
    calls_are = ap (λ (l : List Call). was_polled q Failed ∷ l) t.started.calls_are;
    last = starts_none_still (was_polled q Failed) t.later (is_no_start q Failed) t.started.last;
  };
  has = λ e. subst (λ (i : OpId). Contains (was_polled q Failed ∷ t.later) (was_polled i Failed)) same (first_one (was_polled q Failed) t.later);
  hasnt = λ e. let clash : true ≡ false = e in absurd cc;
}

-- There is one last start at most.
one_last : (later later' earlier earlier' : List Call) (id id' : OpId) (f f' : Flight)
    → later ++ was_started id f ∷ earlier ≡ later' ++ was_started id' f' ∷ earlier' → StartNone later → StartNone later'
    → (later ≡ later') × (id ≡ id')
one_last [] [] earlier earlier' id id' f f' e none none' = (refl, cc)
one_last [] (c ∷ later') earlier earlier' id id' f f' e none none' =
    let is : c ≡ was_started id f = cc in
    absurd (none' id f (0, omega arith, is))
one_last (c ∷ later) [] earlier earlier' id id' f f' e none none' =
    let is : c ≡ was_started id' f' = cc in
    absurd (none id' f' (0, omega arith, is))
one_last (c ∷ later) (d ∷ later') earlier earlier' id id' f f' e none none' =
    let heads : c ≡ d = cc in
    let tails : later ++ was_started id f ∷ earlier ≡ later' ++ was_started id' f' ∷ earlier' = cc in
    let rest = one_last later later' earlier earlier' id id' f f' tails (λ q g has. none q g (later_on c later (was_started q g) has))
    (λ q g has. none' q g (later_on d later' (was_started q g) has)) in
    (ap (λ (x : Call). x ∷ later) heads ∙ ap (λ (l : List Call). d ∷ l) rest.0, rest.1)

pub fails_last : (id : OpId) (failed : Bool) (calls : List Call) → Tracks id failed calls → LastHasFailed calls → failed ≡ true
fails_last id true calls t fails = refl
fails_last id false calls t fails =
    let one = one_last t.later fails.later t.started.earlier fails.started.earlier id fails.id t.started.flight fails.started.flight
    (sym t.started.calls_are ∙ fails.started.calls_are) t.started.last fails.started.last in
    absurd (t.hasnt refl (subst (λ (l : List Call). Contains l (was_polled id Failed)) (sym one.0)
    (subst (λ (i : OpId). Contains fails.later (was_polled i Failed)) (sym one.1) fails.failed)))

pub last_fails : (id : OpId) (calls : List Call) → Tracks id true calls → LastHasFailed calls
last_fails id calls t = record { id = id; later = t.later; started = t.started; failed = t.has refl }

-- ---- creations

pub creations_further : (more calls : List Call) → creations (more ++ calls) ≡ creations more + creations calls
creations_further more calls = sum_by-append creates_in more calls

pub creations_one : (call : Call) (calls : List Call) → creations (call ∷ calls) ≡ creates_in call + creations calls
creations_one call calls = sum_by-cons creates_in call calls

-- ---- calls that were passed on

-- The disk over another one was asked for as many creations.
pub same_creations : (inner outer : List Call) → ArePassedOn inner outer → creations outer ≡ creations inner
same_creations inner outer script.none = refl
same_creations inner outer (script.passed call i o all) =
    creations_one call o ∙ ap (λ (n : ℕ). creates_in call + n) (same_creations i o all) ∙ sym (creations_one call i)
same_creations inner outer (script.held id i o all) = omega (arith, creations_one (was_polled id Pending) o, same_creations i o all)

-- Calls that came later there, and the start before them.
record StartedWithin (id : OpId) (later_out inner : List Call) : Type 0 where
  later : List Call
  started : StartedLast id later inner
  same : (q : OpId) → Contains later_out (was_polled q Failed) → Contains later (was_polled q Failed)

started_within : (inner outer : List Call) → ArePassedOn inner outer → (id : OpId) (later : List Call) → StartedLast id later outer
    → StartedWithin id later inner
started_within inner outer script.none id [] s = let clash = s.calls_are in absurd cc
started_within inner outer script.none id (c ∷ later) s = let clash = s.calls_are in absurd cc
started_within inner outer (script.passed call i o all) id [] s =
    let is : call ≡ was_started id s.flight = let e = s.calls_are in cc in
    record {
      later = [];
      started = record { flight = s.flight; earlier = i; calls_are = ap (λ (c : Call). c ∷ i) is; last = λ q f has. omega (arith, has.1) };
      same = λ q has. has;
    }
started_within inner outer (script.passed call i o all) id (c ∷ later) s =
    let head : call ≡ c = let e = s.calls_are in cc in
    let tail : o ≡ later ++ was_started id s.flight ∷ s.earlier = let e = s.calls_are in cc in
    let rest = started_within i o all id later (record {
      flight = s.flight;
      earlier = s.earlier;
      calls_are = tail;
      last = λ q f has. s.last q f (later_on c later (was_started q f) has);
    }) in
    record {
      later = call ∷ rest.later;
      started = record {
        flight = rest.started.flight;
        earlier = rest.started.earlier;
        calls_are = ap (λ (l : List Call). call ∷ l) rest.started.calls_are;
        last = starts_none_still call rest.later (λ q f is. s.last q f (0, omega arith, sym head ∙ is)) rest.started.last;
      };
      same = λ q has. elim (one_more c later (was_polled q Failed) has) [
        | inl is ↦ (0, omega arith, head ∙ is)
        | inr more ↦ later_on call rest.later (was_polled q Failed) (rest.same q more)
      ];
    }
started_within inner outer (script.held q i o all) id [] s =
    let clash : was_polled q Pending ≡ was_started id s.flight = let e = s.calls_are in cc in absurd cc
started_within inner outer (script.held q i o all) id (c ∷ later) s =
    let head : was_polled q Pending ≡ c = let e = s.calls_are in cc in
    let tail : o ≡ later ++ was_started id s.flight ∷ s.earlier = let e = s.calls_are in cc in
    let rest = started_within i o all id later (record {
      flight = s.flight;
      earlier = s.earlier;
      calls_are = tail;
      last = λ p f has. s.last p f (later_on c later (was_started p f) has);
    }) in
    record {
      later = rest.later;
      started = rest.started;
      same = λ p has. elim (one_more c later (was_polled p Failed) has) [
        | inl is ↦ let clash : was_polled q Pending ≡ was_polled p Failed = head ∙ is in absurd cc
        | inr more ↦ rest.same p more
      ];
    }

-- Where the last operation of the outer disk has failed, that of the disk within has,
pub failed_within : (inner outer : List Call) → ArePassedOn inner outer → LastHasFailed outer → LastHasFailed inner
failed_within inner outer all fails =
    let w = started_within inner outer all fails.id fails.later fails.started in
    record { id = fails.id; later = w.later; started = w.started; failed = w.same fails.id fails.failed }

record StartedOver (id : OpId) (later_in outer : List Call) : Type 0 where
  later : List Call
  started : StartedLast id later outer
  same : (q : OpId) → Contains later_in (was_polled q Failed) → Contains later (was_polled q Failed)

started_over : (inner outer : List Call) → ArePassedOn inner outer → (id : OpId) (later : List Call) → StartedLast id later inner
    → StartedOver id later outer
started_over inner outer script.none id [] s = let clash = s.calls_are in absurd cc
started_over inner outer script.none id (c ∷ later) s = let clash = s.calls_are in absurd cc
started_over inner outer (script.passed call i o all) id [] s =
    let is : call ≡ was_started id s.flight = let e = s.calls_are in cc in
    record {
      later = [];
      started = record { flight = s.flight; earlier = o; calls_are = ap (λ (c : Call). c ∷ o) is; last = λ q f has. omega (arith, has.1) };
      same = λ q has. has;
    }
started_over inner outer (script.passed call i o all) id (c ∷ later) s =
    let head : call ≡ c = let e = s.calls_are in cc in
    let tail : i ≡ later ++ was_started id s.flight ∷ s.earlier = let e = s.calls_are in cc in
    let rest = started_over i o all id later (record {
      flight = s.flight;
      earlier = s.earlier;
      calls_are = tail;
      last = λ q f has. s.last q f (later_on c later (was_started q f) has);
    }) in
    record {
      later = call ∷ rest.later;
      started = record {
        flight = rest.started.flight;
        earlier = rest.started.earlier;
        calls_are = ap (λ (l : List Call). call ∷ l) rest.started.calls_are;
        last = starts_none_still call rest.later (λ q f is. s.last q f (0, omega arith, sym head ∙ is)) rest.started.last;
      };
      same = λ q has. elim (one_more c later (was_polled q Failed) has) [
        | inl is ↦ (0, omega arith, head ∙ is)
        | inr more ↦ later_on call rest.later (was_polled q Failed) (rest.same q more)
      ];
    }
started_over inner outer (script.held q i o all) id later s =
    let rest = started_over i o all id later s in
    record {
      later = was_polled q Pending ∷ rest.later;
      started = record {
        flight = rest.started.flight;
        earlier = rest.started.earlier;
        calls_are = ap (λ (l : List Call). was_polled q Pending ∷ l) rest.started.calls_are;
        last = starts_none_still (was_polled q Pending) rest.later (is_no_start q Pending) rest.started.last;
      };
      same = λ p has. later_on (was_polled q Pending) rest.later (was_polled p Failed) (rest.same p has);
    }

-- and where that of the disk within has, that of the outer one has.
pub failed_over : (inner outer : List Call) → ArePassedOn inner outer → LastHasFailed inner → LastHasFailed outer
failed_over inner outer all fails =
    let w = started_over inner outer all fails.id fails.later fails.started in
    record { id = fails.id; later = w.later; started = w.started; failed = w.same fails.id fails.failed }
