-- The segments before the current one: each is broken, or was left by a stall.
use Rattle.std.proofs.Common.{◌≡◌, ◌≢◌, ℕ, zero, suc, ◌+◌, ◌-◌, ◌≤◌, Bool, true, false, cond, List, [], ◌∷◌, ◌++◌, length, take, Option, Some, None, refl, sym, ap, ◌∙◌, arith, length-append}
use Rattle.std.specs.Prelude.{count_by, slice_get}
use Rattle.std.proofs.Math.ListN.{set}
use Rattle.std.proofs.lemmas.List.{length-set}
use Rattle.failover_writer.proofs.Lists.{last_split}
use Rattle.std.proofs.lemmas.List.Sums.{sum_by-cons}
use Rattle.stall_monitor.specs.declared.verdict.TheConstants.{SEGMENTS_MAX}
use Rattle.log_writer.specs.declared.phase.Phase.{Phase}
use Rattle.log_writer.specs.declared.phase.Phase.TheVariants.{New, InFlight, Idle, Broken}
use Rattle.log_writer.specs.Writer.{Writer}
use Rattle.failover_writer.specs.declared.fault.DeadMark.{DeadMark}
use Rattle.failover_writer.specs.State.{State, is_broken, phase_is_broken, broken_count}
use Rattle.failover_writer.specs.Stepping.{left_behind}
use Rattle.failover_writer.specs.Sound.{unbroken_before, AreAccounted, IsSoundJournal, CountsLeaveFew}

count_head : (w : Writer) (writers : List Writer) → count_by is_broken (w ∷ writers) ≡ cond (is_broken w) 1 0 + count_by is_broken writers
count_head w writers = sum_by-cons (λ (v : Writer). cond (is_broken v) 1 0) w writers

pub none_accounted : AreAccounted [] 0
none_accounted = record { each = omega arith; few = omega arith }

-- one segment, broken or not
one_or_none : (b : Bool) → cond b 0 1 + cond b 1 0 ≡ 1
one_or_none true = refl
one_or_none false = refl

at_most_one : (b : Bool) → cond {A = ℕ} b 0 1 ≤ 1
at_most_one true = omega arith
at_most_one false = omega arith

-- Broken ones, those that are not, and the current one.
pub all_counted : (segments : List Writer) → length segments ≤ 1 + (count_by is_broken segments + unbroken_before segments)
all_counted [] = omega arith
all_counted (w ∷ []) = omega arith
all_counted (w ∷ v ∷ writers) = omega (arith, count_head w (v ∷ writers), one_or_none (is_broken w), all_counted (v ∷ writers))

-- Where the last one is broken, it is none more.
pub all_counted_broken : (earlier : List Writer) (last : Writer) → is_broken last ≡ true
    → length (earlier ++ last ∷ []) ≤ count_by is_broken (earlier ++ last ∷ []) + unbroken_before (earlier ++ last ∷ [])
all_counted_broken [] last broken =
    let one : cond {A = ℕ} (is_broken last) 1 0 ≡ 1 = ap {B = ℕ} (λ (b : Bool). cond b 1 0) broken in omega (arith, count_head last [], one)
all_counted_broken (w ∷ []) last broken =
    omega (arith, count_head w (last ∷ []), one_or_none (is_broken w), all_counted_broken [] last broken)
all_counted_broken (w ∷ v ∷ earlier) last broken =
    omega (arith, count_head w (v ∷ earlier ++ last ∷ []), one_or_none (is_broken w), all_counted_broken (v ∷ earlier) last broken)

-- ---- the next one is begun

unbroken_push : (segments : List Writer) (w : Writer) → unbroken_before (segments ++ w ∷ []) ≡ unbroken_before segments + left_behind segments
unbroken_push [] w = refl
unbroken_push (x ∷ []) w = omega arith
unbroken_push (x ∷ y ∷ segments) w = omega (arith, unbroken_push (y ∷ segments) w)

pub left_few : (segments : List Writer) → left_behind segments ≤ 1
left_few [] = omega arith
left_few (w ∷ []) = at_most_one (is_broken w)
left_few (w ∷ v ∷ segments) = left_few (v ∷ segments)

pub accounted_push : (segments : List Writer) (w : Writer) (left : ℕ) → AreAccounted segments left
    → AreAccounted (segments ++ w ∷ []) (left + left_behind segments)
accounted_push segments w left was = record {
  each = omega (arith, was.each, unbroken_push segments w);
  few = omega (arith, was.few, left_few segments, length-append segments (w ∷ []));
}

pub left_last : (earlier : List Writer) (current : Writer) → left_behind (earlier ++ current ∷ []) ≡ cond (is_broken current) 0 1
left_last [] current = refl
left_last (w ∷ []) current = refl
left_last (w ∷ v ∷ earlier) current = left_last (v ∷ earlier) current

-- the current one, as it is looked at
left_current : (segments : List Writer) (current : Writer) → slice_get segments (length segments - 1) ≡ Some current
    → left_behind segments ≡ cond (is_broken current) 0 1
left_current segments current is = ap left_behind (last_split segments current is) ∙ left_last (take (length segments - 1) segments) current

pub left_broken : (segments : List Writer) (current : Writer) → slice_get segments (length segments - 1) ≡ Some current → current.phase ≡ Broken
    → 0 ≡ left_behind segments
left_broken segments current is broken = sym (left_current segments current is ∙ ap {B = ℕ} (λ (p : Phase). cond (phase_is_broken p) 0 1) broken)

pub left_whole : (segments : List Writer) (current : Writer) → slice_get segments (length segments - 1) ≡ Some current → (current.phase ≡ Broken → ⊥)
    → 1 ≡ left_behind segments
left_whole segments current is whole = sym (left_current segments current is ∙ go current.phase whole)
  where
    go : (p : Phase) → (p ≡ Broken → ⊥) → cond {A = ℕ} (phase_is_broken p) 0 1 ≡ 1
    go New whole = refl
    go (InFlight operation id) whole = refl
    go Idle whole = refl
    go Broken whole = absurd (whole refl)

-- ---- one of them changes

-- the current one says nothing
unbroken_last : (earlier : List Writer) (old new : Writer) → unbroken_before (earlier ++ new ∷ []) ≡ unbroken_before (earlier ++ old ∷ [])
unbroken_last [] old new = refl
unbroken_last (w ∷ []) old new = refl
unbroken_last (w ∷ v ∷ earlier) old new = ap (λ (n : ℕ). cond (is_broken w) 0 1 + n) (unbroken_last (v ∷ earlier) old new)

pub accounted_last : (earlier : List Writer) (old new : Writer) (left : ℕ) → AreAccounted (earlier ++ old ∷ []) left
    → AreAccounted (earlier ++ new ∷ []) left
accounted_last earlier old new left was = record {
  each = omega (arith, was.each, unbroken_last earlier old new);
  few = omega (arith, was.few, length-append earlier (old ∷ []), length-append earlier (new ∷ []));
}

-- one that was not broken
unbroken_set : (segments : List Writer) (index : ℕ) (old new : Writer) → slice_get segments index ≡ Some old → is_broken old ≡ false
    → unbroken_before (set segments index new) ≤ unbroken_before segments
unbroken_set [] index old new at whole = omega arith
unbroken_set (x ∷ []) zero old new at whole = omega arith
unbroken_set (x ∷ []) (suc index) old new at whole = let clash : None ≡ Some old = at in cc
unbroken_set (x ∷ y ∷ segments) zero old new at whole =
    let same : x ≡ old = cc in
    let one : cond {A = ℕ} (is_broken x) 0 1 ≡ 1 = ap {B = ℕ} (λ (b : Bool). cond b 0 1) (ap is_broken same ∙ whole) in
    omega (arith, one, at_most_one (is_broken new))
unbroken_set (x ∷ y ∷ segments) (suc zero) old new at whole = omega (arith, unbroken_set (y ∷ segments) zero old new at whole)
unbroken_set (x ∷ y ∷ segments) (suc (suc index)) old new at whole = omega (arith, unbroken_set (y ∷ segments) (suc index) old new at whole)

pub accounted_set : (segments : List Writer) (index : ℕ) (old new : Writer) (left : ℕ) → slice_get segments index ≡ Some old → is_broken old ≡ false
    → AreAccounted segments left → AreAccounted (set segments index new) left
accounted_set segments index old new left at whole was = record {
  each = omega (arith, was.each, unbroken_set segments index old new at whole);
  few = omega (arith, was.few, length-set segments index new);
}

-- ---- what the counts leave

pub counts_leave_few : (state : State) → IsSoundJournal state → CountsLeaveFew state
counts_leave_few state sound = record {
  segments = omega (arith, all_counted state.segments, sound.accounted.each);
  dead = λ died. go state.dead refl died;
}
  where
    go : (mark : Option DeadMark) → state.dead ≡ mark → state.dead ≢ None → SEGMENTS_MAX ≤ broken_count state + state.left_by_stall
    go None is died = absurd (died is)
    go (Some mark) is died =
        let up = sound.dead mark is in
        omega (
          arith,
          up.all,
          sound.accounted.each,
          ap (λ (ws : List Writer). length ws) up.segments_are,
          ap (λ (ws : List Writer). count_by is_broken ws) up.segments_are,
          ap unbroken_before up.segments_are,
          all_counted_broken up.earlier up.last (ap phase_is_broken up.broken),
        )
