-- What a seat knows once it has taken in a note and looked at the table again.
use Rattle.std.proofs.Common.{◌≡◌, sym, refl, subst}
use Rattle.commit_queue.specs.declared.view.View.{View}
use Rattle.commit_queue.specs.Views.{joined_view}
use Rattle.commit_queue.specs.Calls.{SettlesView, TakesIn}

pub takes_in : (v w m1 m2 : View) → m1 ≡ joined_view v w → SettlesView m1 m2 → TakesIn v w m2
takes_in v w m1 m2 e s = let t = subst (λ (m : View). SettlesView m m2) e s in let by = t.3 in
    subst (TakesIn v w) (sym t.2) record {
      calm = refl;
      goes_on = by.goes_on;
      has_both = by.has_absorbed;
      same_base = by.same_base;
      published = refl;
      acked = refl;
      within = by.published_within;
      kind = refl;
      claim = refl;
      turn = refl;
      base = refl;
      knows = refl;
      opening = refl;
      taken = refl;
      pieces = refl;
      behind = by.behind;
      held = refl;
      own = refl;
      acked_known = refl;
    }
