-- Each level is cut from where the one above stopped.
use Rattle.std.proofs.Common.{◌≡◌, ◌+◌, ◌-◌, ℕ, ◌<◌, ◌≤◌, length, length-set, inl, inr, sym, ◌∙◌, subst, arith, slice_index, slice_set}
use Rattle.std.proofs.lemmas.Bool.{cases_eq, cases_lt}
use Rattle.std.proofs.lemmas.List.{get_or-set_same, get_or-set_other}
use Rattle.arena_list.specs.declared.node.TheConstants.{LEVELS}
use Rattle.arena_list.specs.Steps.{IsCut, MayStop}
use Rattle.arena_list.proofs.Cuts.{may_go_on, may_stop}
use Rattle.arena_list.proofs.search.seek.Goals as goal

pub loop-level-preserved : goal.loop-level-preserved
loop-level-preserved c =
    let nodes = c.args.nodes.now in
    let key = c.args.sought.now.key.now in
    let number = c.args.sought.now.number in
    let inv = c.loop-level.invariant in
    let level = c.loop-level.level - 1 in
    let last = c.seek_on_level-stop.result.last in
    let more : 0 < c.loop-level.level = c.loop-level-test.true in
    let less : level < LEVELS = omega (arith, inv.within, c.requires.height, more) in
    let low : level < length c.loop-level.lasts = omega (arith, inv.len, less) in
    let cut : IsCut nodes level key number last = c.seek_on_level-stop.ensures.cut in record {
      within = omega (arith, inv.within);
      len = length-set c.loop-level.lasts level last ∙ inv.len;
      cuts = λ at from below. elim (cases_eq at level) [
        | inl is ↦ subst (λ (l : ℕ). IsCut nodes l key number (slice_index (slice_set c.loop-level.lasts level last) l)) (sym is)
            (subst (IsCut nodes level key number) (sym (get_or-set_same c.loop-level.lasts level last 0 low)) cut)
        | inr other ↦ subst (IsCut nodes at key number) (sym (get_or-set_other c.loop-level.lasts level at last 0 other))
            (inv.cuts at (omega (arith, from, other)) below)
      ];
      heads = λ at above.
          get_or-set_other c.loop-level.lasts level at last 0 (λ e. omega (arith, e, above, inv.within, more)) ∙ inv.heads at above;
      goes = λ again. may_go_on nodes (level - 1) key number last c.requires.linked (omega (arith, again, less))
          (subst (λ (l : ℕ). IsCut nodes l key number last) (one_above level again) cut);
      stops = subst (MayStop nodes key number) (sym c.seek_on_level-stop.ensures.next) (may_stop nodes level key number last c.requires.linked less cut);
    }
  where
    one_above : (n : ℕ) → 0 < n → n ≡ n - 1 + 1
    one_above n more = omega (arith, more)

pub returns : goal.returns
returns c =
    let inv = c.loop-level.invariant in
    let done : c.loop-level.level ≤ 0 = omega (arith, c.loop-level-test.false) in record {
      low = λ level less. inv.cuts level (omega (arith, done)) less;
      high = λ level less. elim (cases_lt level c.args.height) [
        | inl low ↦ inl (inv.cuts level (omega (arith, done)) low)
        | inr above ↦ inr (inv.heads level above)
      ];
    }
