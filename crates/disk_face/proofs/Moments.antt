-- How a run of disk calls goes on, moment by moment: each call keeps the moments before it, and adds its own.
use Rattle.std.proofs.Common.{◌≡◌, ℕ, suc, ◌<◌, ◌≤◌, arith, subst, sym, ◌∙◌, ap, refl}
use native.Mathlib.Decide.{dec_le}
use Rattle.wal_base.specs.Faults.{Rose}
use Rattle.disk_face.specs.View.{DiskView, Files, files, AtEachMoment}
use Rattle.disk_face.specs.Calls.{GoesOn, WentOn, SameDisk}

-- a run of no call
pub goes_on_from : (v : DiskView) → GoesOn v v
goes_on_from v = record { faults = λ s. omega arith; polls = λ s. omega arith; clock = omega arith; history = λ k le. refl }

-- one run after another
pub goes_on_further : (old mid new : DiskView) → GoesOn old mid → GoesOn mid new → GoesOn old new
goes_on_further old mid new a b = record {
  faults = λ s. omega (arith, a.faults s, b.faults s);
  polls = λ s. omega (arith, a.polls s, b.polls s);
  clock = omega (arith, a.clock, b.clock);
  history = λ k le. b.history k (omega (arith, le, a.clock)) ∙ a.history k le;
}

-- the same where polls may have been left to stall
pub goes_went : (old new : DiskView) → GoesOn old new → WentOn old new
goes_went old new goes = record { faults = goes.faults; clock = goes.clock; history = goes.history }

pub went_further : (old mid new : DiskView) → WentOn old mid → WentOn mid new → WentOn old new
went_further old mid new a b = record {
  faults = λ s. omega (arith, a.faults s, b.faults s);
  clock = omega (arith, a.clock, b.clock);
  history = λ k le. b.history k (omega (arith, le, a.clock)) ∙ a.history k le;
}

-- a count that rose in a later part of a run rose in the run
pub rose_later : (old mid new : ℕ) → old ≤ mid → Rose mid new → Rose old new
rose_later old mid new le rose = omega (arith, le, rose)

-- a count that rose in an earlier part of a run rose in the run
pub rose_earlier : (old mid new : ℕ) → old ≤ mid → mid ≤ new → Rose old mid → Rose old new
rose_earlier old mid new low high rose = omega (arith, low, high, rose)

-- no call changes nothing
pub same_from : (v : DiskView) → SameDisk v v
same_from v = record { in_flight = refl; clock = refl; history = refl }

-- two runs that change nothing
pub same_further : (old mid new : DiskView) → SameDisk old mid → SameDisk mid new → SameDisk old new
same_further old mid new a b = record { in_flight = b.in_flight ∙ a.in_flight; clock = b.clock ∙ a.clock; history = b.history ∙ a.history }

-- where nothing changed, the files are the same
pub same_files : (old new : DiskView) → SameDisk old new → files new ≡ files old
same_files old new same = ap (λ (h : ℕ → Files). h new.clock) same.history ∙ ap old.history same.clock

-- at the first moment
pub moments_from : (v : DiskView) (P : Files → Type 0) → P (files v) → AtEachMoment v.clock v P
moments_from v P here k low high = let e : v.clock ≡ k = omega (arith, low, high) in subst (λ (j : ℕ). P (v.history j)) e here

-- no moment more
pub moments_stay : (since : ℕ) (old new : DiskView) (P : Files → Type 0) → AtEachMoment since old P → GoesOn old new → new.clock ≡ old.clock
    → AtEachMoment since new P
moments_stay since old new P each goes same k low high =
    let before : k ≤ old.clock = omega (arith, high, same) in
    subst P (sym (goes.history k before)) (each k low before)

-- the moments of a run, and the later ones of a run after it
pub moments_after : (since : ℕ) (old new : DiskView) (P : Files → Type 0) → AtEachMoment since old P → GoesOn old new
    → ((k : ℕ) → old.clock < k → k ≤ new.clock → P (new.history k)) → AtEachMoment since new P
moments_after since old new P each goes later k low high = elim (dec_le k old.clock) [
  | yes le ↦ subst P (sym (goes.history k le)) (each k low le)
  | no h ↦ later k (omega (arith, h)) high
]

-- one moment more
pub moments_more : (since : ℕ) (old new : DiskView) (P : Files → Type 0) → AtEachMoment since old P → GoesOn old new
    → new.clock ≡ suc old.clock → P (files new) → AtEachMoment since new P
moments_more since old new P each goes next here = moments_after since old new P each goes now
  where
    now : (k : ℕ) → old.clock < k → k ≤ new.clock → P (new.history k)
    now k low high = let e : new.clock ≡ k = omega (arith, low, high, next) in subst (λ (j : ℕ). P (new.history j)) e here

-- the moments of two runs
pub moments_joined : (since : ℕ) (old new : DiskView) (P : Files → Type 0) → AtEachMoment since old P → GoesOn old new
    → AtEachMoment old.clock new P → AtEachMoment since new P
moments_joined since old new P each goes more = moments_after since old new P each goes (λ k low high. more k (omega (arith, low)) high)
