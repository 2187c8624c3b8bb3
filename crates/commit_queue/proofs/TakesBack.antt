-- What the producer's seat knows once it has taken in another seat, for good, and looked at the table again.
use Rattle.std.proofs.Common.{◌≡◌, ◌≤◌, Option, Some, None, Bool, cond, ℕ, length, sym, refl, ap, ◌∙◌, subst}
use Rattle.wal_base.specs.Prefixes.{IsPrefixOf}
use Rattle.publish_core.specs.declared.seat.Kind.TheVariants.{Producer}
use Rattle.publish_core.specs.Machine.{both_held}
use Rattle.commit_queue.specs.declared.view.View.{View}
use Rattle.commit_queue.specs.Views.{joined_view}
use Rattle.commit_queue.specs.Calls.{SettlesView, TakesBack}

held_alone : (x : Option ℕ) → both_held x None ≡ x
held_alone (Some i) = refl
held_alone None = refl

pub takes_back : (p w m1 m2 : View) → m1 ≡ joined_view p w → SettlesView m1 m2 → p.seat.kind ≡ Producer → w.seat.held ≡ None
    → w.seat.published ≤ length w.history → TakesBack p w m2
takes_back p w m1 m2 e s kind idle within = let t = subst (λ (m : View). SettlesView m m2) e s in let by = t.3 in
    let whole : t.1 ≡ p.history = by.whole kind in subst (TakesBack p w) (sym t.2) record {
      history = whole;
      has_both = subst (IsPrefixOf w.history) whole by.has_absorbed;
      same_base = by.same_base;
      calm = refl;
      published = refl;
      acked = refl;
      within = by.published_within;
      within_back = within;
      own = refl;
      all = by.all;
      kind = refl;
      held = ap (both_held p.seat.held) idle ∙ held_alone p.seat.held;
      pieces = refl;
      claim = refl;
      turn = refl;
      taken = refl;
      base = refl;
      opening = refl;
      head = refl;
      flushed = λ flush. by.retired w.acked_known.raised (ap (λ (b : Bool). cond b (Some w.acked_known.raised) None) flush);
    }
