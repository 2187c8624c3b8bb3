-- What a journal states of itself stays so.
use Rattle.std.proofs.Common.{◌≡◌, ◌≢◌, ℕ, subst, ◌≤◌, List, [], length, Some, None, ap, sym, ◌∙◌, arith}
use Rattle.log_writer.specs.Writer.{Writer}
use Rattle.failover_writer.specs.State.{State, len, broken_count}
use Rattle.failover_writer.specs.Sound.{AreAccounted, IsSoundJournal}

-- A journal that is not dead, and has no segment where it has no record.
pub sound_alive : (state : State) → 1 ≤ state.threshold → state.threshold ≤ 1000 → state.dead ≡ None → (len state ≡ 0 → state.segments ≡ [])
    → AreAccounted state.segments state.left_by_stall → IsSoundJournal state
sound_alive state least most lives none accounted = record {
  accounted = accounted;
  least = least;
  most = most;
  none = λ empty. (none empty, lives);
  dead = λ mark is. let clash : None ≡ Some mark = sym lives ∙ is in cc;
}

-- Nothing of which it speaks changes but the number of records, which falls to none no more.
pub sound_beside : (old new : State) → new.threshold ≡ old.threshold → new.segments ≡ old.segments → new.dead ≡ old.dead
    → new.left_by_stall ≡ old.left_by_stall → (len new ≡ 0 → len old ≡ 0) → IsSoundJournal old → IsSoundJournal new
sound_beside old new threshold segments dead left empty sound = record {
  accounted = subst (AreAccounted new.segments) (sym left)
      (subst (λ (ws : List Writer). AreAccounted ws old.left_by_stall) (sym segments) sound.accounted);
  least = omega (arith, threshold, sound.least);
  most = omega (arith, threshold, sound.most);
  none = λ none. let was = sound.none (empty none) in (segments ∙ was.0, dead ∙ was.1);
  dead = λ mark is.
      let was = sound.dead mark (sym dead ∙ is) in
      record {
        all = ap (λ (ws : List Writer). length ws) segments ∙ was.all;
        earlier = was.earlier;
        last = was.last;
        segments_are = segments ∙ was.segments_are;
        broken = was.broken;
        side = was.side;
        faults = was.faults ∙ sym (ap (λ (ws : List Writer). broken_count (record new { segments = ws })) segments);
        some = was.some;
      };
}

-- A journal that has a segment has a record.
pub some_records : (state : State) → IsSoundJournal state → state.segments ≢ [] → len state ≢ 0
some_records state sound some empty = some (sound.none empty).0

-- The segments of a journal that is not dead change, and it has a record.
pub sound_with : (old : State) (segments : List Writer) (left : ℕ) → old.dead ≡ None → len old ≢ 0 → AreAccounted segments left → IsSoundJournal old
    → IsSoundJournal (record old { segments = segments; left_by_stall = left })
sound_with old segments left lives some accounted sound =
    sound_alive (record old { segments = segments; left_by_stall = left }) sound.least sound.most lives (λ empty. absurd (some empty)) accounted
