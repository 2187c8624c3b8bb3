-- The node's record goes after the others, with the next number.
use Rattle.std.proofs.Common.{◌≡◌, ℕ, List, [], ◌∷◌, ◌++◌, Option, Some, length, ap, sym, subst, ◌∙◌, refl, arith}
use Rattle.std.proofs.lemmas.List.{length-append}
use Rattle.batch_repr.specs.declared.batch.Batch.{Batch}
use Rattle.batch_repr.specs.Spelling.{SpellsBatch}
use Rattle.record_queue.specs.declared.node.Filled.{Filled}
use Rattle.failover_writer.specs.State.{State, JournalView}
use Rattle.failover_writer.specs.Ranges.{StandsFor}
use Rattle.failover_writer.proofs.Pushes.{queue_end, queue_pushed, pushed_stands}
use Rattle.failover_writer.proofs.IsSoundJournal.{sound_beside}
use Rattle.failover_writer.proofs.journal.Journal.push_node.Goals as goal

-- what a node is filled with is one
only : {node : Option Filled} {f g : Filled} → node ≡ Some f → node ≡ Some g → f ≡ g
only is there = let both : Some _ ≡ Some _ = sym is ∙ there in cc both

pub returns-then-sync-clause-keeps : goal.returns-then-sync-clause-keeps
returns-then-sync-clause-keeps g c f is records stands =
    let there : c.args.node ≡ Some c.in-Some.filled.now = c.in-Some.ensures in
    let added : Batch = c.in-Some.filled.now.rec in
    let before = subst (λ (held : JournalView _). StandsFor g.D.Disk.tells records held.state (g.D.Disk.view held.disk)) (sym c.self.view_is) stands in
    let first = c.requires.next c.in-Some.filled.now there ∙ ap (λ (held : JournalView _). held.state.next) (sym c.self.view_is) in
    let pushed = c.push_node.ensures.records c.in-Some.filled.now there in
    let queue = queue_end (records ++ added ∷ []) c.push_node.new.self (queue_pushed records added _ c.push_node.new.self before.queue c.push_node.ensures.start pushed) in
    let now : State = record { wal = c.self.inside.wal; base = c.self.inside.base; next = c.end-end.result; threshold = c.self.inside.threshold; queue = c.push_node.new.self; want = c.end-all.result; segments = c.self.inside.writers.items; dead = c.self.inside.dead; left_by_stall = c.self.inside.left_by_stall } in
    subst (λ (x : Filled). StandsFor g.D.Disk.tells (records ++ x.rec ∷ []) now (g.D.Disk.view c.self.inside.disk)) (sym (only is there))
    (pushed_stands g.D.Disk.tells records added _ c.push_node.new.self c.end-end.result c.end-all.result (g.D.Disk.view c.self.inside.disk) before first (omega (arith, c.count.ensures.count, c.count.ensures.some))
    (subst (λ (bytes : List ℕ). SpellsBatch bytes added) c.bytes.ensures.written c.bytes.ensures.spells) c.push_node.ensures.start pushed c.end-end.ensures.end (omega (arith, c.end-all.ensures, queue, length-append records (added ∷ []))))

pub returns-else-sync-clause-keeps : goal.returns-else-sync-clause-keeps
returns-else-sync-clause-keeps g c f is records stands =
    let there : c.args.node ≡ Some c.in-Some.filled.now = c.in-Some.ensures in
    let added : Batch = c.in-Some.filled.now.rec in
    let before = subst (λ (held : JournalView _). StandsFor g.D.Disk.tells records held.state (g.D.Disk.view held.disk)) (sym c.self.view_is) stands in
    let first = c.requires.next c.in-Some.filled.now there ∙ ap (λ (held : JournalView _). held.state.next) (sym c.self.view_is) in
    let pushed = c.push_node.ensures.records c.in-Some.filled.now there in
    let now : State = record { wal = c.self.inside.wal; base = c.self.inside.base; next = c.end-end.result; threshold = c.self.inside.threshold; queue = c.push_node.new.self; want = c.self.inside.want; segments = c.self.inside.writers.items; dead = c.self.inside.dead; left_by_stall = c.self.inside.left_by_stall } in
    subst (λ (x : Filled). StandsFor g.D.Disk.tells (records ++ x.rec ∷ []) now (g.D.Disk.view c.self.inside.disk)) (sym (only is there))
    (pushed_stands g.D.Disk.tells records added _ c.push_node.new.self c.end-end.result c.self.inside.want (g.D.Disk.view c.self.inside.disk) before first (omega (arith, c.count.ensures.count, c.count.ensures.some))
    (subst (λ (bytes : List ℕ). SpellsBatch bytes added) c.bytes.ensures.written c.bytes.ensures.spells) c.push_node.ensures.start pushed c.end-end.ensures.end (omega (arith, before.want)))

pub invariant_of-self : goal.invariant_of-self
invariant_of-self g c =
    let in_order = c.self.invariant in
    let there : c.args.node ≡ Some c.in-Some.filled.now = c.in-Some.ensures in
    let added : Batch = c.in-Some.filled.now.rec in
    let stands = subst (λ (held : JournalView _). StandsFor g.D.Disk.tells in_order.stands.0 held.state (g.D.Disk.view held.disk)) c.self.view_is in_order.stands.1 in
    let pushed = ap (λ (bs : List Batch). length bs) (c.push_node.ensures.records c.in-Some.filled.now there) in
    record {
      stands = (in_order.stands.0 ++ added ∷ [], returns-then-sync-clause-keeps g c c.in-Some.filled.now there in_order.stands.0 stands);
      acked = in_order.acked;
      failed = in_order.failed;
      rested = in_order.rested;
      first_busy = in_order.first_busy;
      wal = in_order.wal;
      sound = sound_beside _ _ refl refl refl refl (λ none. absurd (omega (arith, none, pushed, length-append c.self.inside.records.records (added ∷ [])))) in_order.sound;
    }

pub invariant_of-self-else-sync : goal.invariant_of-self-else-sync
invariant_of-self-else-sync g c =
    let in_order = c.self.invariant in
    let there : c.args.node ≡ Some c.in-Some.filled.now = c.in-Some.ensures in
    let added : Batch = c.in-Some.filled.now.rec in
    let stands = subst (λ (held : JournalView _). StandsFor g.D.Disk.tells in_order.stands.0 held.state (g.D.Disk.view held.disk)) c.self.view_is in_order.stands.1 in
    let pushed = ap (λ (bs : List Batch). length bs) (c.push_node.ensures.records c.in-Some.filled.now there) in
    record {
      stands = (in_order.stands.0 ++ added ∷ [], returns-else-sync-clause-keeps g c c.in-Some.filled.now there in_order.stands.0 stands);
      acked = in_order.acked;
      failed = in_order.failed;
      rested = in_order.rested;
      first_busy = in_order.first_busy;
      wal = in_order.wal;
      sound = sound_beside _ _ refl refl refl refl (λ none. absurd (omega (arith, none, pushed, length-append c.self.inside.records.records (added ∷ [])))) in_order.sound;
    }
