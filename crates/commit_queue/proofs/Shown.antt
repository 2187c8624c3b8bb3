-- What the crates above derive of a seat, in their words: what stands in a list, what is held, and looks at the ends.
use Rattle.std.proofs.Common.{◌≡◌, ℕ, ◌+◌, ◌≤◌, inl, inr, List, [], ◌∷◌, Option, Some, None, Contains, sym, ap, ◌∙◌, subst, le_refl}
use Rattle.std.proofs.Math.Nat.{le_trans, le-add_right, le-min, min-le_right}
use Rattle.wal_base.proofs.Laws.{none_within, within_cases, within_head, within_tail}
use Rattle.publish_core.specs.declared.seat.Kind.TheVariants.{Producer, Worker}
use Rattle.publish_core.specs.Machine.{Among, both_held, one_more}
use Rattle.commit_queue.specs.declared.view.View.{View}
use Rattle.commit_queue.specs.Calls.{HoldsAdmitted, RaisesAcked, TakesIn}
use Rattle.commit_queue.specs.Shown.{HasLookedSince, IsOfSession}

-- what stands in a list, in the machine's word and in std's
pub contained : {A : Type 0} (x : A) (xs : List A) → Among x xs → Contains xs x
contained x [] h = absurd h
contained {A} x (y ∷ xs) (inl is) = subst (λ (z : A). Contains (y ∷ xs) z) (sym is) (within_head y xs)
contained x (y ∷ xs) (inr m) = within_tail y xs x (contained x xs m)

pub among : {A : Type 0} (x : A) (xs : List A) → Contains xs x → Among x xs
among x [] h = absurd (none_within x h)
among x (y ∷ xs) h = elim (within_cases y xs x h) [ inl is ↦ inl (sym is) | inr m ↦ inr (among x xs m) ]

-- a seat that held nothing holds what the seat held that it has taken in
pub holds_taken_in : (v w v' : View) → TakesIn v w v' → v.seat.held ≡ None → v'.seat.held ≡ w.seat.held
holds_taken_in v w v' t idle = t.held ∙ ap (λ (h : Option ℕ). both_held h w.seat.held) idle

-- the batch that a session's seat holds is admitted
pub session_holds : (v : View) (index : ℕ) → IsOfSession v → v.seat.held ≡ Some index → HoldsAdmitted v
session_holds v index worker holds = record {
  index = index;
  holds = holds;
  admitted = λ producer. let clash : Worker ≡ Producer = sym worker ∙ producer in cc;
}

-- who raises the acked word looks at the ends
pub looks_to_raise : (f f' : View) (n r : ℕ) → RaisesAcked f n r f' → HasLookedSince f f'
looks_to_raise f f' n r (h, t, r_is, is) = subst (λ (k : ℕ). one_more f.seat.counts.ends ≤ k)
    (sym (ap (λ (v : View). v.seat.counts.ends) is)) (le_refl (one_more f.seat.counts.ends))

pub looked_then : (a b c : View) → HasLookedSince a b → HasLookedSince b c → HasLookedSince a c
looked_then a b c one two =
    le_trans (le-min (le_trans one (le-add_right _ 1)) (min-le_right (a.seat.counts.ends + 1) 18446744073709551615)) two
