-- The record goes after the others, with the next number.
use Rattle.std.proofs.Common.{ℕ, List, [], ◌∷◌, ◌++◌, length, ap, sym, subst, ◌∙◌, refl, arith}
use Rattle.std.specs.Int.{w32, w64, to_le_bytes}
use Rattle.std.proofs.lemmas.List.{length-append}
use Rattle.batch_repr.specs.declared.batch.Batch.{Batch}
use Rattle.batch_repr.specs.Batches.{count_of}
use Rattle.batch_repr.specs.Spelling.{SpellsBatch}
use Rattle.failover_writer.specs.State.{JournalView}
use Rattle.failover_writer.specs.Ranges.{StandsFor}
use Rattle.failover_writer.proofs.Pushes.{queue_end, queue_pushed, pushed_stands}
use Rattle.failover_writer.proofs.IsSoundJournal.{sound_beside}
use Rattle.failover_writer.proofs.journal.Journal.push.Goals as goal

pub returns-then-sync-clause-keeps : goal.returns-then-sync-clause-keeps
returns-then-sync-clause-keeps g c records stands =
    let before = subst (λ (held : JournalView _). StandsFor g.D.Disk.tells records held.state (g.D.Disk.view held.disk)) (sym c.self.view_is) stands in
    let first = c.requires.next ∙ ap (λ (held : JournalView _). held.state.next) (sym c.self.view_is) in
    let queue = queue_end (records ++ c.args.added ∷ []) c.push.new.self (queue_pushed records c.args.added _ c.push.new.self before.queue c.push.ensures.start c.push.ensures.records) in
    pushed_stands g.D.Disk.tells records c.args.added _ c.push.new.self c.end-self-inside.result c.end-len.result (g.D.Disk.view c.self.inside.disk) before first (omega (arith, c.count.ensures.count, c.count.ensures.some))
    (subst (λ (bytes : List ℕ). SpellsBatch bytes c.args.added) c.bytes.ensures.written c.bytes.ensures.spells) c.push.ensures.start c.push.ensures.records c.end-self-inside.ensures.end (omega (arith, c.end-len.ensures, queue, length-append records (c.args.added ∷ [])))

pub returns-else-sync-clause-keeps : goal.returns-else-sync-clause-keeps
returns-else-sync-clause-keeps g c records stands =
    let before = subst (λ (held : JournalView _). StandsFor g.D.Disk.tells records held.state (g.D.Disk.view held.disk)) (sym c.self.view_is) stands in
    let first = c.requires.next ∙ ap (λ (held : JournalView _). held.state.next) (sym c.self.view_is) in
    pushed_stands g.D.Disk.tells records c.args.added _ c.push.new.self c.end-self-inside.result c.self.inside.want (g.D.Disk.view c.self.inside.disk) before first (omega (arith, c.count.ensures.count, c.count.ensures.some))
    (subst (λ (bytes : List ℕ). SpellsBatch bytes c.args.added) c.bytes.ensures.written c.bytes.ensures.spells) c.push.ensures.start c.push.ensures.records c.end-self-inside.ensures.end (omega (arith, before.want))

-- what spells a batch has a head of twelve bytes
pub prove-unreachable-requires-2 : goal.prove-unreachable-requires-2
prove-unreachable-requires-2 g c =
    let spells = c.bytes.ensures.spells in
    omega (arith, c.if-prove-2.true, ap length spells.is, length-append (to_le_bytes w64 c.args.added.first) (to_le_bytes w32 (count_of c.args.added.entries) ++ spells.body), length-append (to_le_bytes w32 (count_of c.args.added.entries)) spells.body)

pub invariant_of-self : goal.invariant_of-self
invariant_of-self g c =
    let in_order = c.self.invariant in
    let stands = subst (λ (held : JournalView _). StandsFor g.D.Disk.tells in_order.stands.0 held.state (g.D.Disk.view held.disk)) c.self.view_is in_order.stands.1 in
    record {
      stands = (in_order.stands.0 ++ c.args.added ∷ [], returns-then-sync-clause-keeps g c in_order.stands.0 stands);
      acked = in_order.acked;
      failed = in_order.failed;
      rested = in_order.rested;
      first_busy = in_order.first_busy;
      wal = in_order.wal;
      sound = sound_beside _ _ refl refl refl refl (λ none. absurd (omega (arith, none, ap (λ (bs : List Batch). length bs) c.push.ensures.records, length-append c.self.inside.records.records (c.args.added ∷ [])))) in_order.sound;
    }

pub invariant_of-self-else-sync : goal.invariant_of-self-else-sync
invariant_of-self-else-sync g c =
    let in_order = c.self.invariant in
    let stands = subst (λ (held : JournalView _). StandsFor g.D.Disk.tells in_order.stands.0 held.state (g.D.Disk.view held.disk)) c.self.view_is in_order.stands.1 in
    record {
      stands = (in_order.stands.0 ++ c.args.added ∷ [], returns-else-sync-clause-keeps g c in_order.stands.0 stands);
      acked = in_order.acked;
      failed = in_order.failed;
      rested = in_order.rested;
      first_busy = in_order.first_busy;
      wal = in_order.wal;
      sound = sound_beside _ _ refl refl refl refl (λ none. absurd (omega (arith, none, ap (λ (bs : List Batch). length bs) c.push.ensures.records, length-append c.self.inside.records.records (c.args.added ∷ [])))) in_order.sound;
    }
