-- Where all records are to be synced, the steps that follow are those of the closing.
use Rattle.std.proofs.Common.{◌≢◌, ℕ, None, ap, sym, subst, ◌∙◌, refl}
use Rattle.failover_writer.specs.State.{JournalView}
use Rattle.failover_writer.specs.Ranges.{StandsFor, Stands}
use Rattle.failover_writer.specs.Closing.{Drains}
use Rattle.failover_writer.proofs.Lasts.{asking, asking_stands, closed_lasts, closed_synced, closed_rests, closed_lives}
use Rattle.failover_writer.proofs.IsSoundJournal.{sound_beside}
use Rattle.failover_writer.proofs.Survives.{survives}
use Rattle.failover_writer.proofs.Accounted.{counts_leave_few}
use Rattle.failover_writer.proofs.journal.Journal.close.Goals as goal

-- what the journal held, and what its steps came to
stood : (g : _) (c : goal.After-a_journal_at_hand g) → Stands g.D.Disk.tells c.args.self.now.state (g.D.Disk.view c.args.self.now.disk)
stood g c = subst (λ (h : JournalView _). Stands g.D.Disk.tells h.state (g.D.Disk.view h.disk)) c.self.view_is c.self.invariant.stands

came : (g : _) (c : goal.After-a_journal_at_hand g) → Drains g.D.Disk.tells g.D.Disk.view (asking c.args.self.now) c.drain-answer.new.self c.drain-answer.result
came g c =
    let here = c.self.inside in
    subst (λ (h : JournalView _). Drains g.D.Disk.tells g.D.Disk.view (asking h) c.drain-answer.new.self c.drain-answer.result) c.self.view_is
    (subst (λ (n : ℕ). Drains g.D.Disk.tells g.D.Disk.view (record { disk = here.disk; state = record { wal = here.wal; base = here.base; next = here.next; threshold = here.threshold; queue = here.records; want = n; segments = here.writers.items; dead = here.dead; left_by_stall = here.left_by_stall } }) c.drain-answer.new.self c.drain-answer.result)
    c.end-self-inside.ensures c.drain-answer.ensures.drains)

pub returns-clause-lives : goal.returns-clause-lives
returns-clause-lives g c =
    closed_lives g.D.Disk.tells g.D.Disk.view c.args.self.now c.drain-answer.new.self c.drain-answer.result (came g c)
    (λ dead. ap (λ (h : JournalView _). h.state.dead) (c.drain-answer.ensures.still (subst (λ (h : JournalView _). h.state.dead ≢ None) (sym c.self.view_is) dead)) ∙ ap (λ (h : JournalView _). h.state.dead) c.self.view_is)

pub returns-clause-synced : goal.returns-clause-synced
returns-clause-synced g c = closed_synced g.D.Disk.tells g.D.Disk.view c.args.self.now c.drain-answer.new.self c.drain-answer.result (came g c) (stood g c)

pub returns-clause-rests : goal.returns-clause-rests
returns-clause-rests g c = closed_rests g.D.Disk.tells g.D.Disk.view c.args.self.now c.drain-answer.new.self c.drain-answer.result (came g c) (stood g c)

pub returns-clause-lasts : goal.returns-clause-lasts
returns-clause-lasts g c = closed_lasts g.D.Disk.tells g.D.Disk.view c.args.self.now c.drain-answer.new.self c.drain-answer.result (came g c)

pub returns-clause-survives : goal.returns-clause-survives
returns-clause-survives g c =
    let lasts = closed_lasts g.D.Disk.tells g.D.Disk.view c.args.self.now c.drain-answer.new.self c.drain-answer.result (came g c) in
    survives g.D.Disk.tells g.D.Disk.view c.args.self.now c.drain-answer.new.self lasts.keeps lasts.passes

pub invariant_of-self : goal.invariant_of-self
invariant_of-self g c =
    let in_order = c.self.invariant in
    record {
      stands = (in_order.stands.0, subst (λ (n : ℕ). StandsFor g.D.Disk.tells in_order.stands.0 (record { wal = c.self.inside.wal; base = c.self.inside.base; next = c.self.inside.next; threshold = c.self.inside.threshold; queue = c.self.inside.records; want = n; segments = c.self.inside.writers.items; dead = c.self.inside.dead; left_by_stall = c.self.inside.left_by_stall }) (g.D.Disk.view c.self.inside.disk)) (sym c.end-self-inside.ensures) (asking_stands g.D.Disk.tells in_order.stands.0 _ (g.D.Disk.view c.self.inside.disk) in_order.stands.1));
      acked = in_order.acked;
      failed = in_order.failed;
      rested = in_order.rested;
      first_busy = in_order.first_busy;
      wal = in_order.wal;
      sound = sound_beside _ _ refl refl refl refl (λ none. none) in_order.sound;
    }

pub returns-clause-few : goal.returns-clause-few
returns-clause-few g c = counts_leave_few _ c.a_journal_at_hand.ensures.sound
