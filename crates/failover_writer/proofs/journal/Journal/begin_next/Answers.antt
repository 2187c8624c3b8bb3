-- The next segment is begun on a file to which nothing was sent, and where no operation is in flight.
use Rattle.std.proofs.Common.{rules, ◌≡◌, ◌≢◌, ◌<◌, List, [], ◌∷◌, ◌++◌, length, ap, sym, subst, ◌∙◌, refl, arith, rules}
use Rattle.disk_face.specs.declared.OpId.{OpId}
use Rattle.disk_face.specs.View.{Place, creating, was_started, Makes}
use Rattle.disk_face.specs.Calls.{Starts}
use Rattle.batch_repr.specs.declared.batch.Batch.{Batch}
use Rattle.log_writer.specs.Writer.{Writer}
use Rattle.log_writer.specs.Fits.{SameFile, flight_on, place_of_writer, Fits}
use Rattle.failover_writer.specs.State.{State, JournalView}
use Rattle.failover_writer.specs.Ranges.{StandsFor}
use Rattle.std.proofs.Common.{ℕ, ◌+◌}
use Rattle.failover_writer.specs.Stepping.{IsBehind, begun, left_behind}
use Rattle.failover_writer.specs.Keeping.{Passes}
use Rattle.failover_writer.specs.Inside.{IsInOrder}
use Rattle.failover_writer.proofs.Accounted.{left_few}
use Rattle.failover_writer.proofs.Passes.{passes_same}
use Rattle.failover_writer.specs.Moves.{BeginsOnDisk}
use Rattle.failover_writer.proofs.BeginsNext.{none_flies, next_fits, begins_first, begun_stands, begun_in_order, begun_passes}
use Rattle.failover_writer.proofs.journal.Journal.begin_next.Goals as goal

pub begin-requires-clause-fits : goal.begin-requires-clause-fits
begin-requires-clause-fits g c =
    let held = c.self.invariant.stands in
    let few : length c.self.inside.writers.items < 10 = omega (arith, c.requires.few, ap (λ (h : JournalView _). length h.state.segments) c.self.view_is) in
    let tells = g.D.Disk.tells in
    let v = g.D.Disk.view c.self.inside.disk in (
      held.0,
      next_fits tells (record { wal = c.self.inside.wal; base = c.self.inside.base; next = c.self.inside.next; threshold = c.self.inside.threshold; queue = c.self.inside.records; want = c.self.inside.want; segments = c.self.inside.writers.items; dead = c.self.inside.dead; left_by_stall = c.self.inside.left_by_stall }) v c.side_at.result (record { wal = c.self.inside.wal; index = c.len-index.result }) c.self.inside.acked c.in_ok-writer.writer
          (grind (arith, c.side_at.ensures, c.len-index.ensures)) (grind (arith, c.len-index.ensures)) c.self.invariant.acked few
          (λ records. c.in_ok-writer.ensures.fits tells records v) held.0 held.1,
      held.1.queue,
    )

-- the journal as it was
abbrev state_then : (g : _) (c : goal.After-self-1 g) → State
state_then g c = record { wal = c.self.inside.wal; base = c.self.inside.base; next = c.self.inside.next; threshold = c.self.inside.threshold; queue = c.self.inside.records; want = c.self.inside.want; segments = c.self.inside.writers.items; dead = c.self.inside.dead; left_by_stall = c.self.inside.left_by_stall }

pushed : (g : _) (c : goal.After-self-1 g) → c.push.new.self.items ≡ c.self.inside.writers.items ++ c.begin.new.self ∷ []
pushed g c = search rules

begins : (g : _) (c : goal.After-self-1 g) → (id : OpId) × begun (state_then g c) id c.begin.new.self × Starts (record { place = place_of_writer c.begin.new.self; act = creating }) c.side_at.result id (g.D.Disk.view c.self.inside.disk) (g.D.Disk.view c.begin.new.disk)
    × (place_of_writer c.begin.new.self ≡ place_of_writer c.in_ok-writer.writer)
    × Makes (was_started id (flight_on creating c.begin.new.self) ∷ []) (g.D.Disk.view c.self.inside.disk) (g.D.Disk.view c.begin.new.disk)
begins g c =
    begins_first (state_then g c) c.side_at.result (record { wal = c.self.inside.wal; index = c.len-index.result }) _ c.self.inside.acked _ _ c.in_ok-begin.field-0 c.in_ok-writer.writer c.begin.new.self
    (g.D.Disk.view c.self.inside.disk) (g.D.Disk.view c.begin.new.disk) (grind (arith, c.side_at.ensures, c.len-index.ensures)) (grind (arith, c.len-index.ensures)) c.self.invariant.acked
    c.in_ok-writer.ensures.made c.in_ok-begin.ensures.starts

few_then : (g : _) (c : goal.After-self-1 g) → length c.self.inside.writers.items < 10
few_then g c = omega (arith, c.requires.few, ap (λ (h : JournalView _). length h.state.segments) c.self.view_is)

fits_after : (g : _) (c : goal.After-self-1 g) (records : List Batch) → StandsFor g.D.Disk.tells records (state_then g c) (g.D.Disk.view c.self.inside.disk) → Fits g.D.Disk.tells records c.begin.new.self (g.D.Disk.view c.begin.new.disk)
fits_after g c records stands =
    let tells = g.D.Disk.tells in
    let v = g.D.Disk.view c.self.inside.disk in
    c.in_ok-begin.ensures.fits records
    (next_fits tells (state_then g c) v c.side_at.result (record { wal = c.self.inside.wal; index = c.len-index.result }) c.self.inside.acked c.in_ok-writer.writer
    (grind (arith, c.side_at.ensures, c.len-index.ensures)) (grind (arith, c.len-index.ensures)) c.self.invariant.acked (few_then g c)
    (λ records. c.in_ok-writer.ensures.fits tells records v) records stands)
    stands.queue

others_same : (g : _) (c : goal.After-self-1 g) (place : Place) → place ≢ place_of_writer c.begin.new.self → SameFile g.D.Disk.tells place (g.D.Disk.view c.self.inside.disk) (g.D.Disk.view c.begin.new.disk)
others_same g c place ne = c.in_ok-begin.ensures.others place (λ e. ne (e ∙ sym (begins g c).3))

-- how many are left by a stall, now
left_now : (g : _) (c : goal.After-self-1 g) → c.self.inside.left_by_stall + c.left_behind-left.result ≡ c.self.inside.left_by_stall + left_behind c.self.inside.writers.items
left_now g c = ap (λ (n : ℕ). c.self.inside.left_by_stall + n) (c.left_behind-left.ensures ∙ ap (λ (h : JournalView _). left_behind h.state.segments) (sym c.self.view_is))

-- the journal as it is, with these segments and so many left by a stall
abbrev with_both : (g : _) (c : goal.After-self-1 g) → List Writer × ℕ → State
with_both g c p = record (state_then g c) { segments = p.0; left_by_stall = p.1 }

-- the segments and the count, as they become by the rule and as they are
abbrev by_rule : (g : _) (c : goal.After-self-1 g) → List Writer × ℕ
by_rule g c = (c.self.inside.writers.items ++ c.begin.new.self ∷ [], c.self.inside.left_by_stall + left_behind c.self.inside.writers.items)

abbrev now_both : (g : _) (c : goal.After-self-1 g) → List Writer × ℕ
now_both g c = (c.push.new.self.items, c.self.inside.left_by_stall + c.left_behind-left.result)

both_are : (g : _) (c : goal.After-self-1 g) → by_rule g c ≡ now_both g c
both_are g c = λ i. (sym (pushed g c) i, sym (left_now g c) i)

pub overflow_add-self : goal.overflow_add-self
overflow_add-self g c = record {
  fits = omega (
    arith,
    c.self.invariant.sound.accounted.few,
    c.requires.few,
    ap (λ (h : JournalView _). length h.state.segments) c.self.view_is,
    c.left_behind-left.ensures,
    ap (λ (h : JournalView _). left_behind h.state.segments) c.self.view_is,
    left_few c.self.inside.writers.items,
  );
}

pub invariant_of-self-in-Ok : goal.invariant_of-self-in-Ok
invariant_of-self-in-Ok g c =
    let first = begins g c in
    let v = g.D.Disk.view c.self.inside.disk in
    let new = g.D.Disk.view c.begin.new.disk in
    subst (λ (p : List Writer × ℕ). IsInOrder g.D.Disk.tells (with_both g c p) new c.self.inside.acked c.self.inside.first_busy c.self.inside.failed) (both_are g c)
    (begun_in_order g.D.Disk.tells (state_then g c) v new first.0 c.begin.new.self c.side_at.result creating (few_then g c) first.1 first.2 (others_same g c) c.self.inside.acked c.self.inside.first_busy
    c.self.inside.failed (ap (λ (h : JournalView _). h.state.dead) c.self.view_is ∙ c.requires.lives) (subst (λ (h : JournalView _). IsBehind h.state) (sym c.self.view_is) c.requires.behind) (fits_after g c) c.self.invariant)

pub returns-clause-begun : goal.returns-clause-begun
returns-clause-begun g c =
    let first = begins g c in
    let held = c.self.invariant.stands in
    let v = g.D.Disk.view c.self.inside.disk in
    let new = g.D.Disk.view c.begin.new.disk in
    subst (λ (h : JournalView _). BeginsOnDisk h.state (with_both g c (now_both g c)) (g.D.Disk.view h.disk) new) c.self.view_is
    (subst (λ (p : List Writer × ℕ). BeginsOnDisk (state_then g c) (with_both g c p) v new) (both_are g c) (record {
      begins = record { id = first.0; writer = c.begin.new.self; fresh = first.1; new_is = refl };
      fresh = none_flies g.D.Disk.tells held.0 (state_then g c) v first.0 first.2.fresh held.1;
      asks = first.4;
    }))

pub returns-clause-keeps : goal.returns-clause-keeps
returns-clause-keeps g c records stands =
    let first = begins g c in
    let v = g.D.Disk.view c.self.inside.disk in
    let new = g.D.Disk.view c.begin.new.disk in
    let stood : StandsFor g.D.Disk.tells records (state_then g c) v = subst (λ (h : JournalView _). StandsFor g.D.Disk.tells records h.state (g.D.Disk.view h.disk)) (sym c.self.view_is) stands in
    subst (λ (p : List Writer × ℕ). StandsFor g.D.Disk.tells records (with_both g c p) new) (both_are g c)
    (begun_stands g.D.Disk.tells (state_then g c) v new first.0 c.begin.new.self c.side_at.result creating (few_then g c) first.1 first.2 (others_same g c) records stood (fits_after g c records stood))

pub returns-clause-passes : goal.returns-clause-passes
returns-clause-passes g c =
    let first = begins g c in
    let v = g.D.Disk.view c.self.inside.disk in
    let new = g.D.Disk.view c.begin.new.disk in
    subst (λ (h : JournalView _). Passes g.D.Disk.tells h.state (with_both g c (now_both g c)) (g.D.Disk.view h.disk) new) c.self.view_is
    (subst (λ (p : List Writer × ℕ). Passes g.D.Disk.tells (state_then g c) (with_both g c p) v new) (both_are g c)
    (begun_passes g.D.Disk.tells (state_then g c) v new first.0 c.begin.new.self c.side_at.result creating (few_then g c) first.1 first.2 (others_same g c) c.in_ok-begin.ensures.goes_on
    c.in_ok-begin.ensures.one_moment (fits_after g c)))

pub returns-in_err-begin-clause-passes : goal.returns-in_err-begin-clause-passes
returns-in_err-begin-clause-passes g c = passes_same g.D.Disk.tells _ _ _ _ (search rules) (c.in_err-begin.ensures.err.1 ∙ ap (λ (h : JournalView _). g.D.Disk.view h.disk) c.self.view_is)
