-- The rounds of a load one after another, and what they ask for.
use Rattle.std.proofs.Common.{◌≡◌, inl, inr, ℕ, zero, suc, ◌+◌, ◌-◌, ◌*◌, ◌/◌, ◌%◌, ◌<◌, ◌≤◌, min, cond, [], ◌∷◌, map, drop, refl, sym, ap, ◌∙◌, arith, add-one}
use Rattle.std.specs.Prelude.{sum_by}
use Rattle.std.specs.Int.{div_ceil}
use Rattle.std.specs.List.{AllByRecursion, range_with_len}
use Rattle.std.proofs.Math.Seq.{drop-cons}
use Rattle.std.proofs.lemmas.Bool.{cases_lt}
use Rattle.std.proofs.lemmas.List.{drop_all}
use Rattle.std.proofs.lemmas.List.FromFn.{length-map-range_with_len, get_or-map-range_with_len}
use Rattle.std.proofs.lemmas.List.Sums.{sum_by-cons}
use Rattle.std.proofs.lemmas.Nat.{mod_below}
use Rattle.made_load.specs.declared.load.TheConstants.{LOAD_ROUND, LOAD_SESSIONS}
use Rattle.session_replies.specs.declared.script.Line.{Line}
use Rattle.session_replies.specs.declared.script.Round.{Round}
use Rattle.session_replies.specs.Rounds.{is_commit, numbers_taken, rounds_commits, rounds_numbers, NamesItsSessions}
use Rattle.made_load.specs.Load.{load_line, load_lines, load_round, load_rounds, load_script_of}
use Rattle.made_load.proofs.LoadEntries.{counts_of}

-- ---- the rounds that are left

left_more : (seed batches r : ℕ) → r < div_ceil batches LOAD_ROUND
    → drop r (load_rounds seed batches) ≡ load_round seed batches r ∷ drop (r + 1) (load_rounds seed batches)
unfolding load_rounds
left_more seed batches r below =
    let made = load_round seed batches in
    let rounds = map made (range_with_len 0 (div_ceil batches LOAD_ROUND)) in
    drop-cons rounds r (made r) (omega (arith, length-map-range_with_len made 0 (div_ceil batches LOAD_ROUND)))
    ∙ ap (λ (x : Round). x ∷ drop (suc r) rounds) (get_or-map-range_with_len made 0 (div_ceil batches LOAD_ROUND) r r (made r) below (omega arith))
    ∙ ap (λ (n : ℕ). made r ∷ drop n rounds) (sym (add-one r))

-- The same, where it is made of so many batches.
pub next_of : (seed batches r count : ℕ) → r < div_ceil batches LOAD_ROUND → count ≡ min LOAD_ROUND (batches - LOAD_ROUND * r)
    → drop r (load_rounds seed batches)
    ≡ record { stalls = []; lines = load_lines seed (LOAD_ROUND * r) count } ∷ drop (r + 1) (load_rounds seed batches)
unfolding load_round
next_of seed batches r count below is =
    left_more seed batches r below
    ∙ ap (λ (n : ℕ). record { stalls = []; lines = load_lines seed (LOAD_ROUND * r) n } ∷ drop (r + 1) (load_rounds seed batches)) (sym is)

pub left_none : (seed batches r : ℕ) → div_ceil batches LOAD_ROUND ≤ r → drop r (load_rounds seed batches) ≡ []
unfolding load_rounds
left_none seed batches r le =
    drop_all r (load_rounds seed batches)
    (omega (arith, length-map-range_with_len (load_round seed batches) 0 (div_ceil batches LOAD_ROUND)))

-- ---- sums over numbers in a row

-- Where f raises F by what g is there, the sum of g over n numbers is by how much F rises.
telescope : {X : Type 0} (g : X → ℕ) (f : ℕ → X) (F : ℕ → ℕ) → ((i : ℕ) → F i + g (f i) ≡ F (i + 1)) → (i n : ℕ)
    → F i + sum_by g (map f (range_with_len i n)) ≡ F (i + n)
telescope g f F step i zero = let none : i + 0 ≡ i = omega arith in omega (arith, ap F none)
telescope g f F step i (suc n) =
    let shifted : i + 1 + n ≡ i + suc n = omega arith in
    omega (
      arith,
      sum_by-cons g (f i) (map f (range_with_len (i + 1) n)),
      step i,
      telescope g f F step (i + 1) n,
      ap F shifted,
    )

-- The same of the rounds of a load, where F rises by what h is of a line.
module _ (h : Line → ℕ) (F : ℕ → ℕ) (seed batches : ℕ) (step : (i : ℕ) → F i + h (load_line seed i) ≡ F (i + 1)) where
  -- how many batches the first r rounds have
  abbrev reached : ℕ → ℕ
  reached r = min batches (LOAD_ROUND * r)

  one_round : (r : ℕ) → F (reached r) + sum_by h (load_round seed batches r).lines ≡ F (reached (r + 1))
  unfolding load_round
  one_round r = elim (cases_lt batches (LOAD_ROUND * r)) [
    | inr le ↦
        let from : reached r ≡ LOAD_ROUND * r = omega arith in
        let to : LOAD_ROUND * r + min LOAD_ROUND (batches - LOAD_ROUND * r) ≡ reached (r + 1) = omega arith in
        omega (
          arith,
          ap F from,
          ap F to,
          telescope h (load_line seed) F step (LOAD_ROUND * r) (min LOAD_ROUND (batches - LOAD_ROUND * r)),
        )
    | inl lt ↦
        let none : LOAD_ROUND * r + min LOAD_ROUND (batches - LOAD_ROUND * r) ≡ LOAD_ROUND * r = omega arith in
        let same : reached r ≡ reached (r + 1) = omega arith in
        omega (
          arith,
          ap F none,
          ap F same,
          telescope h (load_line seed) F step (LOAD_ROUND * r) (min LOAD_ROUND (batches - LOAD_ROUND * r)),
        )
  ]

  all_rounds : F 0 + sum_by (λ (round : Round). sum_by h round.lines) (load_rounds seed batches) ≡ F batches
  unfolding load_rounds
  all_rounds =
      let none : reached 0 ≡ 0 = omega arith in
      let all : reached (0 + div_ceil batches LOAD_ROUND) ≡ batches = omega arith in
      omega (
        arith,
        ap F none,
        ap F all,
        telescope (λ (round : Round). sum_by h round.lines) (load_round seed batches) (λ r. F (reached r)) one_round 0 (div_ceil batches LOAD_ROUND),
      )

pub commits_all : (seed batches : ℕ) → rounds_commits (load_rounds seed batches) ≡ batches
unfolding load_line
commits_all seed batches = omega (arith, all_rounds (λ (line : Line). cond (is_commit line.act) 1 0) (λ i. i) seed batches (λ i. refl))

pub takes_few : (seed batches : ℕ) → rounds_numbers (load_rounds seed batches) ≡ batches + batches / 8
unfolding load_line
takes_few seed batches =
    omega (arith, all_rounds (λ (line : Line). numbers_taken line.act) (λ i. i + i / 8) seed batches (λ i. counts_of seed i))

-- ---- what holds of each round

each_of_range : {X : Type 0} (P : X → Type 0) (f : ℕ → X) (i n : ℕ) → ((k : ℕ) → i ≤ k → k < i + n → P (f k))
    → AllByRecursion P (map f (range_with_len i n))
each_of_range P f i zero holds = tt
each_of_range P f i (suc n) holds =
    (holds i (omega arith) (omega arith), each_of_range P f (i + 1) n (λ k low high. holds k (omega arith) (omega arith)))

pub stalls_nothing : (seed batches : ℕ) → AllByRecursion (λ (round : Round). round.stalls ≡ []) (load_rounds seed batches)
unfolding load_rounds load_round
stalls_nothing seed batches =
    each_of_range (λ (round : Round). round.stalls ≡ []) (load_round seed batches) 0 (div_ceil batches LOAD_ROUND) (λ r low high. refl)

-- Each line of a load is of a session below any number that all of its batches' sessions are below.
module _ (seed batches most : ℕ) (below : (i : ℕ) → i < batches → i % LOAD_SESSIONS < most) where
  line_within : (i : ℕ) → i < batches → (load_line seed i).session < most
  unfolding load_line
  line_within i low = below i low

  round_within : (r : ℕ) → AllByRecursion (λ (line : Line). line.session < most) (load_round seed batches r).lines
  unfolding load_round
  round_within r =
      each_of_range (λ (line : Line). line.session < most) (load_line seed) (LOAD_ROUND * r) (min LOAD_ROUND (batches - LOAD_ROUND * r))
      (λ i low high. line_within i (omega arith))

  rounds_within : AllByRecursion (λ (round : Round). AllByRecursion (λ (line : Line). line.session < most) round.lines) (load_rounds seed batches)
  unfolding load_rounds
  rounds_within =
      each_of_range (λ (round : Round). AllByRecursion (λ (line : Line). line.session < most) round.lines)
      (load_round seed batches) 0 (div_ceil batches LOAD_ROUND) (λ r low high. round_within r)

pub load_names_four : (seed batches : ℕ)
    → AllByRecursion (λ (round : Round). AllByRecursion (λ (line : Line). line.session < LOAD_SESSIONS) round.lines) (load_rounds seed batches)
load_names_four seed batches = rounds_within seed batches LOAD_SESSIONS (λ i low. mod_below i LOAD_SESSIONS (omega arith))

pub load_names : (seed batches : ℕ) → 1 ≤ batches → NamesItsSessions (load_script_of seed batches)
load_names seed batches some = record {
  some = omega arith;
  few = omega arith;
  within = rounds_within seed batches (min LOAD_SESSIONS batches) (λ i low. omega (arith, low, mod_below i LOAD_SESSIONS (omega arith)));
}
