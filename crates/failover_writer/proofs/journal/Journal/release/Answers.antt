-- The current segment is the last one.
use Rattle.std.proofs.Common.{◌≡◌, ℕ, ◌-◌, max, min, List, length, drop, Some, ap, sym, subst, ◌∙◌, refl, arith}
use Rattle.std.specs.Prelude.{slice_get}
use Rattle.log_writer.specs.Writer.{Writer}
use Rattle.failover_writer.specs.State.{JournalView, most_synced}
use Rattle.failover_writer.specs.Ranges.{StandsFor, sent_to_current}
use Rattle.failover_writer.proofs.Releases.{last_sent, released_stands, releases_as_seen}
use Rattle.failover_writer.proofs.IsSoundJournal.{sound_beside}
use Rattle.failover_writer.proofs.journal.Journal.release.Goals as goal

-- what is released is what no segment needs
upto_is : (g : _) (c : goal.After-release g) → c.min.result ≡ min (most_synced 0 c.self.inside.writers.items) (sent_to_current 0 c.self.inside.writers.items)
upto_is g c =
    let current : slice_get c.self.inside.writers.items (length c.self.inside.writers.items - 1) ≡ Some c.in-Some.current.now =
    subst (λ (ws : List Writer). slice_get ws (length ws - 1) ≡ Some c.in-Some.current.now) c.deref.ensures.value (sym c.in-Some.ensures.value) in
    let sent = last_sent c.self.inside.writers.items c.in-Some.current.now current in
    omega (arith, sent, c.min.ensures, c.sent.ensures, c.self.invariant.acked)

start_is : (g : _) (c : goal.After-release g) → c.release.new.self.start ≡ max c.self.inside.records.start (min (most_synced 0 c.self.inside.writers.items) (sent_to_current 0 c.self.inside.writers.items))
start_is g c = omega (arith, upto_is g c, c.release.ensures.start)

pub returns-in-Some-clause-released : goal.returns-in-Some-clause-released
returns-in-Some-clause-released g c =
    releases_as_seen _ c.args.self.now.state c.release.new.self (ap (λ (held : JournalView _). held.state) c.self.view_is) (start_is g c) c.release.ensures.end

pub returns-in-Some-clause-keeps : goal.returns-in-Some-clause-keeps
returns-in-Some-clause-keeps g c records stands =
    let before = subst (λ (held : JournalView _). StandsFor g.D.Disk.tells records held.state (g.D.Disk.view held.disk)) (sym c.self.view_is) stands in
    released_stands g.D.Disk.tells records _ c.release.new.self (g.D.Disk.view c.self.inside.disk) before (start_is g c)
    (c.release.ensures.records ∙ ap (λ (n : ℕ). drop (n - c.self.inside.records.start) c.self.inside.records.records) (upto_is g c))

pub invariant_of-self : goal.invariant_of-self
invariant_of-self g c =
    let in_order = c.self.invariant in
    let stands = subst (λ (held : JournalView _). StandsFor g.D.Disk.tells in_order.stands.0 held.state (g.D.Disk.view held.disk)) c.self.view_is in_order.stands.1 in
    record {
      stands = (in_order.stands.0, returns-in-Some-clause-keeps g c in_order.stands.0 stands);
      acked = in_order.acked;
      failed = in_order.failed;
      rested = in_order.rested;
      first_busy = in_order.first_busy;
      wal = in_order.wal;
      sound = sound_beside _ _ refl refl refl refl (λ none. omega (arith, none, c.release.ensures.end)) in_order.sound;
    }
