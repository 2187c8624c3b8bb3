-- What a journal does in several calls one after another, moment by moment.
use Rattle.std.proofs.Common.{◌≡◌, ◌≢◌, ◌⊎◌, inl, inr, ℕ, ◌≤◌, Bool, List, ◌∷◌, ◌++◌, map, ap, sym, subst, ◌∙◌, refl, arith, IsTrue}
use Rattle.std.specs.Prelude.{Contains}
use Rattle.batch_repr.specs.declared.batch.Batch.{Batch}
use Rattle.disk_face.specs.View.{Place, Files, DiskView, files}
use Rattle.disk_face.specs.Calls.{GoesOn}
use Rattle.disk_face.proofs.Laws.{moments_from, moments_joined}
use Rattle.log_writer.specs.Writer.{Writer}
use Rattle.log_writer.specs.Fits.{SameFile, place_of_writer}
use Rattle.failover_writer.specs.State.{State, acked, most_synced}
use Rattle.failover_writer.specs.Ranges.{StandsFor}
use Rattle.failover_writer.specs.Keeping.{OthersStay, StoodAt, Passes}
use Rattle.failover_writer.proofs.OneChanged.{files_changed, file_within}

-- What `KeepsRecords` says, of two journals each with what is seen of its disk.
abbrev pub Holds : Bool → State → DiskView → State → DiskView → Type 0
Holds tells old before new after = (records : List Batch) → StandsFor tells records old before → StandsFor tells records new after

-- The files of now are those of the journal as it stands now.
pub stood_now : (tells : Bool) (records : List Batch) (opening : Files) (old new : State) (v : DiskView) → StandsFor tells records new v
    → OthersStay opening new (files v) → new.wal ≡ old.wal → new.base ≡ old.base → acked old ≤ acked new
    → StoodAt tells records opening old (files v)
stood_now tells records opening old new v stands opened wal base le =
    record { state = new; v = v; here = refl; stands = stands; others = opened; wal = wal; base = base; acked = le }

-- What stood for a later journal stood for an earlier one.
pub stood_earlier : (tells : Bool) (records : List Batch) (opening : Files) (old mid : State) (now : Files) → mid.wal ≡ old.wal
    → mid.base ≡ old.base → acked old ≤ acked mid → StoodAt tells records opening mid now → StoodAt tells records opening old now
stood_earlier tells records opening old mid now wal base le stood = record {
  state = stood.state;
  v = stood.v;
  here = stood.here;
  stands = stood.stands;
  others = stood.others;
  wal = stood.wal ∙ wal;
  base = stood.base ∙ base;
  acked = omega (arith, le, stood.acked);
}

others_as : (opening : Files) (old new : State) (now : Files) → new.segments ≡ old.segments → OthersStay opening old now → OthersStay opening new now
others_as opening old new now segments others p none = others p
    (λ has. none (subst (λ (ws : List Writer). Contains (map place_of_writer ws) p) (sym segments) has))

-- Nothing but the queue, or what is asked for, changed.
pub passes_still : (tells : Bool) (old new : State) (v : DiskView) → new.wal ≡ old.wal → new.base ≡ old.base → new.segments ≡ old.segments
    → Passes tells old new v v
passes_still tells old new v wal base segments = record {
  wal = wal;
  base = base;
  acked = omega (arith, ap (λ (ws : List Writer). most_synced 0 ws) segments);
  others = λ opening told opened. others_as opening old new (files v) segments opened;
  moments = λ records opening stands told opened. moments_from v (StoodAt tells records opening old)
      (stood_now tells records opening old old v stands opened refl refl (omega arith));
}

-- One call after another.
pub passes_further : (tells : Bool) (old mid new : State) (before between after : DiskView) → Holds tells old before mid between
    → GoesOn between after → Passes tells old mid before between → Passes tells mid new between after
    → Passes tells old new before after
passes_further tells old mid new before between after keeps goes one two = record {
  wal = two.wal ∙ one.wal;
  base = two.base ∙ one.base;
  acked = omega (arith, one.acked, two.acked);
  others = λ opening told opened. two.others opening told (one.others opening told opened);
  moments = λ records opening stands told opened.
      moments_joined before.clock between after (StoodAt tells records opening old) (one.moments records opening stands told opened) goes
      (λ k low high. stood_earlier tells records opening old mid (after.history k) one.wal one.base one.acked
      (two.moments records opening (keeps records stands) told (one.others opening told opened) k low high));
}

-- A call of which each moment but the first is its last.
pub passes_once : (tells : Bool) (old new : State) (before after : DiskView) → new.wal ≡ old.wal → new.base ≡ old.base
    → acked old ≤ acked new → Holds tells old before new after → GoesOn before after
    → ((opening : Files) → IsTrue tells → OthersStay opening old (files before) → OthersStay opening new (files after))
    → (IsTrue tells → (k : ℕ) → before.clock ≤ k → k ≤ after.clock → (after.history k ≡ files before) ⊎ (after.history k ≡ files after))
    → Passes tells old new before after
passes_once tells old new before after wal base le keeps goes opened two = record {
  wal = wal;
  base = base;
  acked = le;
  others = opened;
  moments = λ records opening stands told was k low high.
      either records opening (after.history k) (stood_now tells records opening old old before stands was refl refl (omega arith))
      (stood_now tells records opening old new after (keeps records stands) (opened opening told was) wal base le) (two told k low high);
}
  where
    either : (records : List Batch) (opening : Files) (now : Files) → StoodAt tells records opening old (files before)
        → StoodAt tells records opening old (files after) → (now ≡ files before) ⊎ (now ≡ files after)
        → StoodAt tells records opening old now
    either records opening now first last (inl is) = subst (StoodAt tells records opening old) (sym is) first
    either records opening now first last (inr is) = subst (StoodAt tells records opening old) (sym is) last

-- The files of the opening go on where one segment changes and every other file stays.
pub opened_changed : (tells : Bool) (opening : Files) (state : State) (before after : DiskView) (front : List Writer) (old new : Writer)
    (back : List Writer) → state.segments ≡ front ++ old ∷ back → place_of_writer new ≡ place_of_writer old
    → ((place : Place) → place ≢ place_of_writer old → SameFile tells place before after) → IsTrue tells
    → OthersStay opening state (files before) → OthersStay opening (record state { segments = front ++ new ∷ back }) (files after)
opened_changed tells opening state before after front old new back are same others told stay p none =
    let not_here : p ≢ place_of_writer old = λ e. none (subst (λ (ps : List Place). Contains ps p)
    (sym (files_changed front old new back same)) (subst (λ (q : Place). Contains (map place_of_writer (front ++ old ∷ back)) q) (sym e)
    (file_within front old back))) in
    (others p not_here).file told
    ∙ stay p (λ has. none (subst (λ (ps : List Place). Contains ps p) (sym (files_changed front old new back same))
    (subst (λ (ws : List Writer). Contains (map place_of_writer ws) p) are has)))

-- Neither the journal nor its disk changed.
pub passes_same : (tells : Bool) (old new : State) (before after : DiskView) → new ≡ old → after ≡ before → Passes tells old new before after
passes_same tells old new before after state disk =
    subst (λ (s : State). Passes tells old s before after) (sym state)
    (subst (λ (v : DiskView). Passes tells old old before v) (sym disk) (passes_still tells old old before refl refl refl))
