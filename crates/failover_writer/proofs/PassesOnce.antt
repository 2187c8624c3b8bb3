-- What a call of at most one moment passes, and calls one after another.
use Rattle.std.proofs.Common.{◌≡◌, ◌⊎◌, inl, inr, ℕ, suc, ◌≤◌, Bool, ap, sym, subst, ◌∙◌, arith}
use native.Mathlib.Decide.{dec_le}
use Rattle.disk_face.specs.View.{DiskView, files}
use Rattle.disk_face.specs.Calls.{GoesOn}
use Rattle.disk_face.proofs.Laws.{goes_on_from}
use Rattle.failover_writer.specs.State.{State}
use Rattle.failover_writer.specs.Keeping.{Passes}
use Rattle.failover_writer.proofs.Passes.{Holds, passes_further}

-- Where at most one moment passes, each is the first or the last.
pub first_or_last : (before after : DiskView) → GoesOn before after → after.clock ≤ suc before.clock → (k : ℕ) → before.clock ≤ k
    → k ≤ after.clock → (after.history k ≡ files before) ⊎ (after.history k ≡ files after)
first_or_last before after goes one k low high = elim (dec_le k before.clock) [
  | yes le ↦ let first : k ≡ before.clock = omega (arith, le, low) in inl (goes.history k le ∙ ap before.history first)
  | no more ↦ let last : k ≡ after.clock = omega (arith, more, one, high) in inr (ap after.history last)
]

-- Two calls, and then one that leaves the disk as it is.
pub passes_all : (tells : Bool) (old polled gone new : State) (before between after last : DiskView) → Holds tells old before polled between
    → Holds tells polled between gone after → GoesOn between after → last ≡ after
    → Passes tells old polled before between → Passes tells polled gone between after → Passes tells gone new after last → Passes tells old new before last
passes_all tells old polled gone new before between after last keeps further onward still one two three =
    passes_further tells old gone new before after last (λ records stands. further records (keeps records stands))
    (subst (GoesOn after) (sym still) (goes_on_from after))
    (passes_further tells old polled gone before between after keeps onward one two) three
