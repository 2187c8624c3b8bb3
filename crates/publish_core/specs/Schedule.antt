-- Every list of events from the opening state (docs/formats/ring.md, "What holds of a ring").
use Rattle.std.specs.Prelude.{◌≡◌, ◌⊎◌, ℕ, ◌+◌, ◌≤◌, Bool, cond, List, [], ◌∷◌, ◌++◌, length}
use Rattle.publish_core.specs.declared.seat.Kind.TheVariants.{Producer}
use Rattle.publish_core.specs.declared.seat.Stage.TheVariants.{Out}
use Rattle.publish_core.specs.Machine.{CoreState, Event, claim, nobody, updated, Possible, after, is_same_ends, visible}
use Rattle.publish_core.specs.Sound.{Sound}

-- the opening state, with the producer's seat alone
abbrev pub opening : {B : Type 0} → ℕ → CoreState B
opening v0 =
    record {
      base = v0;
      batches = [];
      head = 0;
      tail = 0;
      published = 0;
      acked = 0;
      stage = λ _. Out;
      owner = λ _. 0;
      done = λ _. [];
      ring = λ _. 0;
      turn = λ _. 0;
      made = 1;
      seats = updated (λ _. nobody) 0 (record nobody { kind = Producer });
    }

module _ {B : Type 0} (count : B → ℕ) (touches : B → ℕ → Bool) where
  -- the batch that an event takes from the front, if any
  abbrev pub takes : CoreState B → Event B → List ℕ
  takes s (claim j) = cond (is_same_ends count touches (s.seats j).loaded s.head s.tail) (s.tail ∷ []) []
  takes s _ = []

  -- The events es lead from s to t, and take the batches xs from the front, in that order.
  -- An event that is not possible changes nothing
  abbrev pub Leads : CoreState B → List (Event B) → CoreState B → List ℕ → Type 0
  Leads s [] t xs = (t ≡ s) × (xs ≡ [])
  Leads s (e ∷ es) t xs = let can = Possible count touches s e in let u = after count touches s e in
      (can × ((ys : List ℕ) × (xs ≡ takes s e ++ ys) × Leads u es t ys))
      ⊎ ((can → ⊥) × Leads s es t xs)

  -- the numbers from n on
  abbrev pub from : ℕ → List ℕ → Type 0
  from n [] = Unit {0}
  from n (x ∷ xs) = (x ≡ n) × from (n + 1) xs

  -- the state is sound, and the batches xs that were taken from the front are 0, 1, 2, .., each once
  pub record AllWell (t : CoreState B) (xs : List ℕ) : Type 0 where
    pub sound : Sound count touches t
    pub in_order : from 0 xs
    pub each_once : length xs ≡ t.tail

  -- all is well after every list of events
  abbrev pub Law : Type 0
  Law =
      (v0 : ℕ) (es : List (Event B)) (t : CoreState B) (xs : List ℕ)
      → Leads (opening v0) es t xs
      → AllWell t xs

  -- the visible number never falls
  abbrev pub NeverFalls : Type 0
  NeverFalls =
      (v0 : ℕ) (es fs : List (Event B)) (s t : CoreState B) (xs ys : List ℕ)
      → Leads (opening v0) es s xs
      → Leads s fs t ys
      → visible count s ≤ visible count t
