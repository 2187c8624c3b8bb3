-- The current segment is at rest, and its writer stands in its place once it has begun what comes next.
use Rattle.std.specs.Prelude.{slice_set}
use Rattle.log_writer.specs.declared.goal.Goal.{Goal}
use Rattle.std.proofs.Common.{◌≡◌, ◌≢◌, List, [], ◌∷◌, ◌++◌, ap, sym, subst, ◌∙◌, arith}
use Rattle.batch_repr.specs.declared.batch.Batch.{Batch}
use Rattle.log_writer.specs.declared.phase.Phase.TheVariants.{Broken}
use Rattle.log_writer.specs.Writer.{Writer}
use Rattle.log_writer.specs.Fits.{Fits}
use Rattle.failover_writer.specs.State.{State, JournalView, len, acked}
use Rattle.failover_writer.specs.Stepping.{IsBehind}
use borrow.Author.Tests.{both_ways}
use Rattle.failover_writer.specs.Ranges.{StandsFor}
use Rattle.failover_writer.specs.Inside.{IsInOrder}
use Rattle.failover_writer.specs.Keeping.{Passes}
use Rattle.failover_writer.specs.Moves.{IsRestingAt, MayStartNext}
use Rattle.failover_writer.proofs.Passes.{passes_same}
use Rattle.failover_writer.proofs.StartsNext.{element_is, set_at_last, none_starts, not_behind, may_start, started_stands, started_passes, started_in_order, holds_unsent, current_fits}
use Rattle.failover_writer.proofs.journal.Journal.start_next.Goals as goal

pub returns-in_default-clause-started : goal.returns-in_default-clause-started
returns-in_default-clause-started g c = none_starts c.args.self.now.state (g.D.Disk.view c.args.self.now.disk) (c.resting.ensures.none c.in_default.is)

pub returns-then-not-is_behind-clause-started : goal.returns-then-not-is_behind-clause-started
returns-then-not-is_behind-clause-started g c =
    not_behind c.args.self.now.state (g.D.Disk.view c.args.self.now.disk) (λ behind. both_ways c.is_behind.result c.if-not-is_behind.true (c.is_behind.ensures.1 behind))

pub begin-requires-clause-held : goal.begin-requires-clause-held
begin-requires-clause-held g c =
    let found : IsRestingAt c.in-Some.last c.self.inside.writers.items = subst
    (λ (h : JournalView _). IsRestingAt c.in-Some.last h.state.segments) (sym c.self.view_is) c.in-Some.ensures.found in
    let current_is : c.index_mut.result.now ≡ found.current = element_is c.self.inside.writers.items found.earlier found.current
    c.index_mut.result.now c.in-Some.last found.segments_are found.index_is c.index_mut.ensures.value in
    let held = c.self.invariant.stands in
    let goal_is : c.goal-goal.result ≡ record {
      len = len (record {
        wal = c.self.inside.wal;
        base = c.self.inside.base;
        next = c.self.inside.next;
        threshold = c.self.inside.threshold;
        queue = c.self.inside.records;
        want = c.self.inside.want;
        segments = c.self.inside.writers.items;
        dead = c.self.inside.dead;
        left_by_stall = c.self.inside.left_by_stall;
      });
      want = c.self.inside.want;
      acked = acked (record {
        wal = c.self.inside.wal;
        base = c.self.inside.base;
        next = c.self.inside.next;
        threshold = c.self.inside.threshold;
        queue = c.self.inside.records;
        want = c.self.inside.want;
        segments = c.self.inside.writers.items;
        dead = c.self.inside.dead;
        left_by_stall = c.self.inside.left_by_stall;
      });
    } =
    subst (λ (h : JournalView _). c.goal-goal.result ≡ record { len = len h.state; want = h.state.want; acked = acked h.state })
    (sym c.self.view_is) c.goal-goal.ensures in
    let holds = holds_unsent g.D.Disk.tells held.0 (record {
      wal = c.self.inside.wal;
      base = c.self.inside.base;
      next = c.self.inside.next;
      threshold = c.self.inside.threshold;
      queue = c.self.inside.records;
      want = c.self.inside.want;
      segments = c.self.inside.writers.items;
      dead = c.self.inside.dead;
      left_by_stall = c.self.inside.left_by_stall;
    }) (g.D.Disk.view c.self.inside.disk) found.earlier
    c.index_mut.result.now
    (found.segments_are ∙ ap (λ (w : Writer). found.earlier ++ w ∷ []) (sym current_is)) held.1 in
    record { start = holds.start; end = omega (arith, holds.end, ap (λ (t : Goal). t.len) goal_is) }

-- the journal as it was, and what stands in the place of the current segment
abbrev state_then : (g : _) (c : goal.In_ok-begin g) → State
state_then g c = record {
  wal = c.self.inside.wal;
  base = c.self.inside.base;
  next = c.self.inside.next;
  threshold = c.self.inside.threshold;
  queue = c.self.inside.records;
  want = c.self.inside.want;
  segments = c.self.inside.writers.items;
  dead = c.self.inside.dead;
  left_by_stall = c.self.inside.left_by_stall;
}

goal_then : (g : _) (c : goal.In_ok-begin g) → c.goal-goal.result ≡ record
    { len = len (state_then g c); want = (state_then g c).want; acked = acked (state_then g c) }
goal_then g c = subst (λ (h : JournalView _). c.goal-goal.result ≡ record { len = len h.state; want = h.state.want; acked = acked h.state })
    (sym c.self.view_is) c.goal-goal.ensures

found_then : (g : _) (c : goal.In_ok-begin g) → IsRestingAt c.in-Some.last c.self.inside.writers.items
found_then g c = subst (λ (h : JournalView _). IsRestingAt c.in-Some.last h.state.segments) (sym c.self.view_is) c.in-Some.ensures.found

current_is : (g : _) (c : goal.In_ok-begin g) → c.index_mut.result.now ≡ (found_then g c).current
current_is g c =
    let found = found_then g c in
    element_is c.self.inside.writers.items found.earlier found.current c.index_mut.result.now c.in-Some.last found.segments_are
    found.index_is c.index_mut.ensures.value

ends : (g : _) (c : goal.In_ok-begin g) → c.self.inside.writers.items ≡ (found_then g c).earlier ++ c.index_mut.result.now ∷ []
ends g c = (found_then g c).segments_are ∙ ap (λ (w : Writer). (found_then g c).earlier ++ w ∷ []) (sym (current_is g c))

set_is : (g : _) (c : goal.In_ok-begin g) → slice_set c.self.inside.writers.items c.in-Some.last c.begin.new.self ≡
    (found_then g c).earlier ++ c.begin.new.self ∷ []
set_is g c = set_at_last c.self.inside.writers.items (found_then g c).earlier c.index_mut.result.now c.begin.new.self c.in-Some.last
    (ends g c) (found_then g c).index_is

whole : (g : _) (c : goal.In_ok-begin g) → c.index_mut.result.now.phase ≢ Broken
whole g c e = (found_then g c).not_broken (sym (ap (λ (w : Writer). w.phase) (current_is g c)) ∙ e)

fits_after : (g : _) (c : goal.In_ok-begin g) (records : List Batch)
    → StandsFor g.D.Disk.tells records (state_then g c) (g.D.Disk.view c.self.inside.disk)
    → Fits g.D.Disk.tells records c.begin.new.self (g.D.Disk.view c.begin.new.disk)
fits_after g c records stands =
    c.in_ok-begin.ensures.fits records (current_fits g.D.Disk.tells records (state_then g c) (g.D.Disk.view c.self.inside.disk)
    (found_then g c).earlier c.index_mut.result.now (ends g c) stands) stands.queue

pub invariant_of-self-2 : goal.invariant_of-self-2
invariant_of-self-2 g c =
    let v = g.D.Disk.view c.self.inside.disk in
    let new = g.D.Disk.view c.begin.new.disk in
    subst (λ (l : List Writer). IsInOrder g.D.Disk.tells (record (state_then g c) { segments = l }) new c.self.inside.acked
    c.self.inside.first_busy c.self.inside.failed) (sym (set_is g c))
    (started_in_order g.D.Disk.tells (state_then g c) v new (found_then g c).earlier c.index_mut.result.now c.begin.new.self
    (ends g c) c.goal-goal.result c.in_ok-begin.field-0 (goal_then g c) c.in_ok-begin.ensures.starts
    (whole g c) c.in_ok-begin.ensures.others (fits_after g c) c.self.inside.acked c.self.inside.first_busy c.self.inside.failed
    (ap (λ (h : JournalView _). h.state.dead) c.self.view_is ∙ c.requires.lives) c.self.invariant)

pub returns-clause-started : goal.returns-clause-started
returns-clause-started g c =
    let v = g.D.Disk.view c.self.inside.disk in
    let new = g.D.Disk.view c.begin.new.disk in
    let behind : IsBehind (state_then g c) = subst (λ (h : JournalView _). IsBehind h.state) (sym c.self.view_is)
    (c.is_behind.ensures.0 c.if-not-is_behind.false) in
    subst (λ (h : JournalView _). MayStartNext h.state (g.D.Disk.view h.disk) new (record (state_then g c)
    { segments = slice_set c.self.inside.writers.items c.in-Some.last c.begin.new.self })) c.self.view_is
    (subst (λ (l : List Writer). MayStartNext (state_then g c) v new (record (state_then g c) { segments = l })) (sym (set_is g c))
    (may_start g.D.Disk.tells (state_then g c) v new (found_then g c).earlier c.index_mut.result.now c.begin.new.self
    (ends g c) c.goal-goal.result c.in_ok-begin.field-0 (goal_then g c) c.in_ok-begin.ensures.starts c.self.invariant.stands behind))

pub returns-clause-keeps : goal.returns-clause-keeps
returns-clause-keeps g c records stands =
    let v = g.D.Disk.view c.self.inside.disk in
    let new = g.D.Disk.view c.begin.new.disk in
    let stood : StandsFor g.D.Disk.tells records (state_then g c) v = subst
    (λ (h : JournalView _). StandsFor g.D.Disk.tells records h.state (g.D.Disk.view h.disk)) (sym c.self.view_is) stands in
    subst (λ (l : List Writer). StandsFor g.D.Disk.tells records (record (state_then g c) { segments = l }) new) (sym (set_is g c))
    (started_stands g.D.Disk.tells (state_then g c) v new (found_then g c).earlier c.index_mut.result.now c.begin.new.self
    (ends g c) c.goal-goal.result c.in_ok-begin.field-0 (goal_then g c) c.in_ok-begin.ensures.starts
    (whole g c) c.in_ok-begin.ensures.others records stood (fits_after g c records stood))

pub returns-clause-passes : goal.returns-clause-passes
returns-clause-passes g c =
    let v = g.D.Disk.view c.self.inside.disk in
    let new = g.D.Disk.view c.begin.new.disk in
    subst (λ (h : JournalView _). Passes g.D.Disk.tells h.state
    (record (state_then g c) { segments = slice_set c.self.inside.writers.items c.in-Some.last c.begin.new.self })
    (g.D.Disk.view h.disk) new) c.self.view_is
    (subst (λ (l : List Writer). Passes g.D.Disk.tells (state_then g c) (record (state_then g c) { segments = l }) v new) (sym (set_is g c))
    (started_passes g.D.Disk.tells (state_then g c) v new (found_then g c).earlier c.index_mut.result.now c.begin.new.self
    (ends g c) c.goal-goal.result c.in_ok-begin.field-0 (goal_then g c) c.in_ok-begin.ensures.starts
    (whole g c) c.in_ok-begin.ensures.others c.self.invariant.stands c.in_ok-begin.ensures.goes_on c.in_ok-begin.ensures.one_moment (fits_after g c)))

pub returns-in_err-begin-clause-passes : goal.returns-in_err-begin-clause-passes
returns-in_err-begin-clause-passes g c =
    let here = c.self.inside in
    let ws : List Writer = here.writers.items in
    let found : IsRestingAt c.in-Some.last ws = subst (λ (h : JournalView _). IsRestingAt c.in-Some.last h.state.segments)
    (sym c.self.view_is) c.in-Some.ensures.found in
    let current_is : c.index_mut.result.now ≡ found.current = element_is ws found.earlier found.current c.index_mut.result.now
    c.in-Some.last found.segments_are found.index_is c.index_mut.ensures.value in
    let ends : ws ≡ found.earlier ++ c.index_mut.result.now ∷ [] = found.segments_are ∙ ap (λ (w : Writer). found.earlier ++ w ∷ []) (sym current_is) in
    let same : slice_set ws c.in-Some.last c.begin.new.self ≡ ws =
    set_at_last ws found.earlier c.index_mut.result.now c.begin.new.self c.in-Some.last ends found.index_is
    ∙ ap (λ (w : Writer). found.earlier ++ w ∷ []) c.in_err-begin.ensures.err.0 ∙ sym ends in
    passes_same g.D.Disk.tells _ _ _ _
    (ap (λ (l : List Writer). record {
      wal = here.wal;
      base = here.base;
      next = here.next;
      threshold = here.threshold;
      queue = here.records;
      want = here.want;
      segments = l;
      dead = here.dead;
      left_by_stall = here.left_by_stall;
    }) same ∙ ap (λ (h : JournalView _). h.state) c.self.view_is)
    (c.in_err-begin.ensures.err.1 ∙ ap (λ (h : JournalView _). g.D.Disk.view h.disk) c.self.view_is)
