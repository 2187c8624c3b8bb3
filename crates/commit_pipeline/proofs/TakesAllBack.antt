-- The producer's seat takes in the seats of sessions, from the last one on.
use Rattle.std.proofs.Common.{◌≡◌, ℕ, zero, suc, ◌+◌, ◌≤◌, ◌⊎◌, inl, inr, ⊎_elim, List, [], ◌∷◌, ◌++◌, length, length-append, append_assoc, append-nil, Contains, le_refl, refl, sym, subst, ap, ◌∙◌, arith, drop}
use Rattle.std.proofs.lemmas.List.{take-append-drop}
use Rattle.wal_base.specs.Prefixes.{IsPrefixOf}
use Rattle.wal_base.proofs.Laws.{prefix_then}
use Rattle.commit_queue.specs.declared.view.View.{View}
use Rattle.commit_queue.specs.Calls.{TakesBack}
use Rattle.commit_queue.specs.Shown.{shown_by}
use Rattle.commit_pipeline.specs.declared.standing.Standing.{Standing}
use Rattle.commit_pipeline.specs.Standings.{seen_of, standing}
use Rattle.commit_pipeline.specs.Ending.{TakesAllBack, owned, all_deaths}
use Rattle.commit_pipeline.specs.Ties.{IsSpare}

-- what is in a list stands at its front or behind it
pub front_or_behind : (x s : Standing) (xs : List Standing) → Contains (x ∷ xs) s → (x ≡ s) ⊎ Contains xs s
front_or_behind x s xs (zero, within, is) = inl is
front_or_behind x s xs (suc k, within, is) = inr (k, omega (arith, within), is)

pub takes_none_back : (p : View) → TakesAllBack (shown_by p) [] (shown_by p)
takes_none_back p = record {
  history = refl;
  base = refl;
  own = sym (append-nil p.seat.own);
  acked_on = le_refl p.seat.acked;
  seen = λ s has. absurd (omega (arith, has.1));
  acked = λ s has. absurd (omega (arith, has.1));
}

pub takes_next_back : (p m w p' : View) (dead told : ℕ) (ss : List Standing) → TakesAllBack (shown_by p) ss (shown_by m) → TakesBack m w p'
    → TakesAllBack (shown_by p) (standing (shown_by w) dead told ∷ ss) (shown_by p')
takes_next_back p m w p' dead told ss all next = record {
  history = next.history ∙ all.history;
  base = next.base ∙ all.base;
  own = next.own ∙ ap (λ l. l ++ w.seat.own) all.own ∙ append_assoc p.seat.own (owned ss) w.seat.own;
  acked_on = omega (arith, all.acked_on, next.acked);
  seen = λ s has. ⊎_elim
      (λ e. subst (λ x. IsPrefixOf x.seen p.history) e seen_first)
      (all.seen s)
      (front_or_behind (standing (shown_by w) dead told) s ss has);
  acked = λ s has. ⊎_elim
      (λ e. subst (λ x. x.acked ≤ p'.seat.acked) e (omega (arith, next.acked)))
      (λ behind. let before = all.acked s behind in omega (arith, next.acked))
      (front_or_behind (standing (shown_by w) dead told) s ss has);
}
  where
    seen_first : IsPrefixOf (seen_of (shown_by w)) p.history
    seen_first = prefix_then (seen_of (shown_by w)) w.history p.history (drop w.seat.published w.history, sym (take-append-drop w.seat.published w.history))
        (subst (IsPrefixOf w.history) all.history next.has_both)

-- The sessions behind these are gathered, with their shares.
pub record Gathers (every left : List Standing) (p p' : View) (own_parts own dead_parts dead : ℕ) : Type 0 where
  pub done : List Standing
  pub split : every ≡ left ++ done
  pub back : TakesAllBack (shown_by p) done (shown_by p')
  pub own_parts_are : own_parts ≡ length done
  pub own_is : own ≡ length (owned done)
  pub dead_parts_are : dead_parts ≡ length done + length done
  pub dead_is : dead ≡ all_deaths done

pub gathers_none : (every : List Standing) (p : View) (own_parts own dead_parts dead : ℕ) → IsSpare own_parts own → IsSpare dead_parts dead
    → Gathers every every p p own_parts own dead_parts dead
gathers_none every p own_parts own dead_parts dead spare spare_too = record {
  done = [];
  split = sym (append-nil every);
  back = takes_none_back p;
  own_parts_are = spare.0;
  own_is = spare.1;
  dead_parts_are = spare_too.0;
  dead_is = spare_too.1;
}

-- The last of those that are left is gathered, which has a part of the one ledger, and two of the other.
module _ (every left rest : List Standing) (p m w p' : View) (died told own_parts own dead_parts dead own_parts' own' dead_parts' dead' : ℕ) where
  pub gathers_next : left ≡ rest ++ standing (shown_by w) died told ∷ [] → own_parts' ≡ own_parts + 1 → own' ≡ own + length w.seat.own
      → dead_parts' ≡ dead_parts + 1 + 1 → dead' ≡ dead + died + told → Gathers every left p m own_parts own dead_parts dead → TakesBack m w p'
      → Gathers every rest p p' own_parts' own' dead_parts' dead'
  gathers_next last one more one_too died_more g next = record {
    done = standing (shown_by w) died told ∷ g.done;
    split = g.split ∙ ap (λ l. l ++ g.done) last ∙ append_assoc rest (standing (shown_by w) died told ∷ []) g.done;
    back = takes_next_back p m w p' died told g.done g.back next;
    own_parts_are = omega (arith, g.own_parts_are);
    own_is = omega (arith, g.own_is, length-append (owned g.done) w.seat.own);
    dead_parts_are = omega (arith, g.dead_parts_are);
    dead_is = omega (arith, g.dead_is);
  }

-- All of them are.
pub gathers_all : (every left : List Standing) (p p' : View) (own_parts own dead_parts dead : ℕ) → length left ≡ 0
    → Gathers every left p p' own_parts own dead_parts dead
    → TakesAllBack (shown_by p) every (shown_by p') × (own_parts ≡ length every) × (own ≡ length (owned every)) × (dead_parts ≡ length every + length every)
    × (dead ≡ all_deaths every)
gathers_all every [] p p' own_parts own dead_parts dead none g =
    let same = sym g.split in (
      subst (λ ss. TakesAllBack (shown_by p) ss (shown_by p')) same g.back,
      g.own_parts_are ∙ ap length same,
      g.own_is ∙ ap (λ ss. length (owned ss)) same,
      g.dead_parts_are ∙ ap (λ ss. length ss + length ss) same,
      g.dead_is ∙ ap all_deaths same,
    )
gathers_all every (s ∷ left) p p' own_parts own dead_parts dead none g = absurd (omega (arith, none))
