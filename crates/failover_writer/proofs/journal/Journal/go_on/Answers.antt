-- What the monitor says of the current segment decides, and what is begun or started is all that is asked of the disk.
use Rattle.std.proofs.Common.{rules, ◌≡◌, ◌-◌, ◌∙◌, List, [], length, Some, None, Err, ap, sym, subst, refl, arith}
use Rattle.std.specs.Prelude.{slice_get, Result, IfErr}
use borrow.Author.Tests.{both_ways}
use Rattle.stall_monitor.specs.Verdicts.{IsToDie, IsToSwitch}
use Rattle.log_writer.specs.Writer.{Writer}
use Rattle.failover_writer.specs.declared.fault.JournalFault.{JournalFault}
use Rattle.failover_writer.specs.declared.fault.JournalFault.TheVariants as faults
use Rattle.failover_writer.specs.State.{JournalView}
use Rattle.failover_writer.specs.Stepping.{shown_to_monitor, Verdict, Dies, IsToStay, first, none_to_begin, switches}
use Rattle.failover_writer.specs.Moves.{BeginsOnDisk, MayStartNext, EndsGoing}
use Rattle.failover_writer.proofs.Verdicts.{empty_from, verdict_from, stays_where, not_to_die, went_on, dies_now}
use Rattle.failover_writer.proofs.journal.Journal.go_on.Goals as goal

pub returns-in_ok-begin_next-clause-went : goal.returns-in_ok-begin_next-clause-went
returns-in_ok-begin_next-clause-went g c =
    let new = c.begin_next.new.self in
    let none : c.args.self.now.state.segments ≡ [] = subst (λ (h : JournalView _). h.state.segments ≡ []) c.self.view_is
    (empty_from c.self.inside.writers.items
    (subst (λ (ws : List Writer). slice_get ws (length ws - 1) ≡ None) c.deref.ensures.value (sym c.in_default.ensures.value))) in
    let begun : BeginsOnDisk c.args.self.now.state new.state (g.D.Disk.view c.args.self.now.disk) (g.D.Disk.view new.disk) =
    subst (λ (h : JournalView _). BeginsOnDisk h.state new.state (g.D.Disk.view h.disk) (g.D.Disk.view new.disk)) c.gather.ensures
    c.in_ok-begin_next.ensures.begun in
    record { acts = first new.state none (c.is_behind.ensures.0 c.if-is_behind.true) begun.begins; asks = begun.asks }

pub returns-else-is_behind-clause-went : goal.returns-else-is_behind-clause-went
returns-else-is_behind-clause-went g c =
    let none : c.args.self.now.state.segments ≡ [] = subst (λ (h : JournalView _). h.state.segments ≡ []) c.self.view_is
    (empty_from c.self.inside.writers.items
    (subst (λ (ws : List Writer). slice_get ws (length ws - 1) ≡ None) c.deref.ensures.value (sym c.in_default.ensures.value))) in
    record { acts = none_to_begin none (λ behind. both_ways c.is_behind.result c.if-is_behind.false (c.is_behind.ensures.1 behind)); asks = refl }

pub returns-in_err-gather-in-Stay-clause-ended : goal.returns-in_err-gather-in-Stay-clause-ended
returns-in_err-gather-in-Stay-clause-ended g c =
    let at : slice_get c.args.self.now.state.segments (length c.args.self.now.state.segments - 1) ≡ Some c.in-Some.current.now =
    subst (λ (h : JournalView _). slice_get h.state.segments (length h.state.segments - 1) ≡ Some c.in-Some.current.now) c.self.view_is
    (subst (λ (ws : List Writer). slice_get ws (length ws - 1) ≡ Some c.in-Some.current.now) c.deref.ensures.value (sym c.in-Some.ensures.value)) in
    let lives : Verdict IsToDie c.args.self.now.state → ⊥ =
    not_to_die c.args.self.now.state c.view.result c.in-Some.current.now at c.view.ensures
    (stays_where c.decide.result c.view.result c.decide.ensures.dead c.decide.ensures.switch c.in-Stay.is).0 in
    let is : c.from_residual-in_err-gather-in-Stay.result ≡ Err faults.NoMemory = search rules in
    subst (λ (r : Result Unit JournalFault). IfErr r (EndsGoing c.args.self.now.state c.gather-in-Stay.new.self.state)) (sym is)
    (ap (λ (h : JournalView _). h.state) c.gather-in-Stay.ensures, lives)

pub returns-in_err-start_next-in-Stay-clause-ended : goal.returns-in_err-start_next-in-Stay-clause-ended
returns-in_err-start_next-in-Stay-clause-ended g c =
    let at : slice_get c.args.self.now.state.segments (length c.args.self.now.state.segments - 1) ≡ Some c.in-Some.current.now =
    subst (λ (h : JournalView _). slice_get h.state.segments (length h.state.segments - 1) ≡ Some c.in-Some.current.now) c.self.view_is
    (subst (λ (ws : List Writer). slice_get ws (length ws - 1) ≡ Some c.in-Some.current.now) c.deref.ensures.value (sym c.in-Some.ensures.value)) in
    let lives : Verdict IsToDie c.args.self.now.state → ⊥ =
    not_to_die c.args.self.now.state c.view.result c.in-Some.current.now at c.view.ensures
    (stays_where c.decide.result c.view.result c.decide.ensures.dead c.decide.ensures.switch c.in-Stay.is).0 in
    let is : c.from_residual-in_err-start_next-in-Stay.result ≡ Err faults.NoMemory = search rules in
    subst (λ (r : Result Unit JournalFault). IfErr r (EndsGoing c.args.self.now.state c.start_next.new.self.state)) (sym is)
    (c.in_err-start_next-in-Stay.ensures.err ∙ ap (λ (h : JournalView _). h.state) c.gather-in-Stay.ensures, lives)

pub returns-in-Dead-clause-ended : goal.returns-in-Dead-clause-ended
returns-in-Dead-clause-ended g c =
    let held = c.self.invariant.stands in
    let at : slice_get c.self.inside.writers.items (length c.self.inside.writers.items - 1) ≡ Some c.in-Some.current.now = subst (λ (ws : List Writer). slice_get ws (length ws - 1) ≡ Some c.in-Some.current.now) c.deref.ensures.value (sym c.in-Some.ensures.value) in
    let seen : c.view.result ≡ shown_to_monitor (record { wal = c.self.inside.wal; base = c.self.inside.base; next = c.self.inside.next; threshold = c.self.inside.threshold; queue = c.self.inside.records; want = c.self.inside.want; segments = c.self.inside.writers.items; dead = c.self.inside.dead; left_by_stall = c.self.inside.left_by_stall }) c.in-Some.current.now = subst (λ (h : JournalView _). c.view.result ≡ shown_to_monitor h.state c.in-Some.current.now) (sym c.self.view_is) c.view.ensures in
    let verdict = verdict_from IsToDie (record { wal = c.self.inside.wal; base = c.self.inside.base; next = c.self.inside.next; threshold = c.self.inside.threshold; queue = c.self.inside.records; want = c.self.inside.want; segments = c.self.inside.writers.items; dead = c.self.inside.dead; left_by_stall = c.self.inside.left_by_stall }) c.view.result c.in-Some.current.now at seen (c.decide.ensures.dead.0 c.in-Dead.is) in
    subst (λ (h : JournalView _). Dies h.state (record (record { wal = c.self.inside.wal; base = c.self.inside.base; next = c.self.inside.next; threshold = c.self.inside.threshold; queue = c.self.inside.records; want = c.self.inside.want; segments = c.self.inside.writers.items; dead = c.self.inside.dead; left_by_stall = c.self.inside.left_by_stall }) { dead = Some (record { side = c.side_at.result; faults = c.self.inside.failed }) }) c.side_at.result c.self.inside.failed) c.self.view_is
    (dies_now g.D.Disk.tells held.0 (record { wal = c.self.inside.wal; base = c.self.inside.base; next = c.self.inside.next; threshold = c.self.inside.threshold; queue = c.self.inside.records; want = c.self.inside.want; segments = c.self.inside.writers.items; dead = c.self.inside.dead; left_by_stall = c.self.inside.left_by_stall }) (g.D.Disk.view c.self.inside.disk) c.side_at.result c.self.inside.failed held.1 verdict
    (grind (arith, c.side_at.ensures, c.len.ensures)) c.self.invariant.failed)

pub returns-in_ok-begin_next-in-Switch-clause-went : goal.returns-in_ok-begin_next-in-Switch-clause-went
returns-in_ok-begin_next-in-Switch-clause-went g c =
    let new = c.begin_next-in-Switch.new.self in
    let at : slice_get c.args.self.now.state.segments (length c.args.self.now.state.segments - 1) ≡ Some c.in-Some.current.now =
    subst (λ (h : JournalView _). slice_get h.state.segments (length h.state.segments - 1) ≡ Some c.in-Some.current.now) c.self.view_is
    (subst (λ (ws : List Writer). slice_get ws (length ws - 1) ≡ Some c.in-Some.current.now) c.deref.ensures.value (sym c.in-Some.ensures.value)) in
    let begun : BeginsOnDisk c.args.self.now.state new.state (g.D.Disk.view c.args.self.now.disk) (g.D.Disk.view new.disk) =
    subst (λ (h : JournalView _). BeginsOnDisk h.state new.state (g.D.Disk.view h.disk) (g.D.Disk.view new.disk)) c.gather-in-Switch.ensures
    c.in_ok-begin_next-in-Switch.ensures.begun in
    record {
      acts = switches new.state (verdict_from IsToSwitch c.args.self.now.state c.view.result c.in-Some.current.now at c.view.ensures
          (c.decide.ensures.switch.0 c.in-Switch.is)) begun.begins begun.fresh;
      asks = begun.asks;
    }

pub returns-in_ok-start_next-in-Stay-clause-went : goal.returns-in_ok-start_next-in-Stay-clause-went
returns-in_ok-start_next-in-Stay-clause-went g c =
    let new = c.start_next.new.self in
    let at : slice_get c.args.self.now.state.segments (length c.args.self.now.state.segments - 1) ≡ Some c.in-Some.current.now =
    subst (λ (h : JournalView _). slice_get h.state.segments (length h.state.segments - 1) ≡ Some c.in-Some.current.now) c.self.view_is
    (subst (λ (ws : List Writer). slice_get ws (length ws - 1) ≡ Some c.in-Some.current.now) c.deref.ensures.value (sym c.in-Some.ensures.value)) in
    went_on c.args.self.now.state new.state (g.D.Disk.view c.args.self.now.disk) (g.D.Disk.view new.disk)
    (verdict_from IsToStay c.args.self.now.state c.view.result c.in-Some.current.now at c.view.ensures
    (stays_where c.decide.result c.view.result c.decide.ensures.dead c.decide.ensures.switch c.in-Stay.is))
    (subst (λ (h : JournalView _). MayStartNext h.state (g.D.Disk.view h.disk) (g.D.Disk.view new.disk) new.state) c.gather-in-Stay.ensures
    c.in_ok-start_next-in-Stay.ensures.started)
