-- What holds behind the flush lock goes on to hold over each call there.
use Rattle.std.proofs.Common.{◌≡◌, ◌⊎◌, inl, Bool, ℕ, ◌+◌, ◌≤◌, List, [], ◌∷◌, ◌++◌, length, length-append, append_assoc, Option, Some, None, Result, Err, le_refl, refl, ap, sym, ◌∙◌, subst, arith}
use Rattle.std.proofs.lemmas.List.{append-nil}
use Rattle.std.specs.Prelude.{◌≢◌, true, IfErr}
use Rattle.atomic_table.specs.Seated.{TableId}
use Rattle.record_flow.specs.Passes.{FlowId}
use Rattle.batch_repr.specs.declared.batch.Batch.{Batch}
use Rattle.batch_repr.specs.Batches.{end_after}
use Rattle.batch_repr.proofs.Laws.{end_push}
use Rattle.disk_face.specs.declared.Side.{Side}
use Rattle.disk_face.specs.View.{DiskView}
use Rattle.disk_face.specs.Calls.{Stalls}
use Rattle.failover_writer.specs.declared.fault.DeadMark.{DeadMark}
use Rattle.failover_writer.specs.declared.fault.JournalFault.{JournalFault}
use Rattle.failover_writer.specs.declared.fault.JournalFault.TheVariants as faults
use Rattle.failover_writer.specs.declared.fault.Step.{Step}
use Rattle.failover_writer.specs.State.{State, JournalView, acked}
use Rattle.failover_writer.specs.Ranges.{StandsFor, KeepsRecords, AddsRecord}
use Rattle.failover_writer.specs.Answered.{IsIdle, IsMarked}
use Rattle.failover_writer.specs.Moves.{Pushes}
use Rattle.failover_writer.specs.Sound.{IsSoundJournal}
use Rattle.failover_writer.specs.Setting.{KeepsEnd}
use Rattle.failover_writer.specs.Keeping.{KeepsBase, KeepsBases}
use Rattle.failover_writer.specs.Lasting.{Lasts}
use Rattle.record_queue.specs.declared.node.Filled.{Filled}
use Rattle.record_flow.specs.declared.rule.FlowView.{FlowView}
use Rattle.record_flow.specs.Views.{records_of, taken_on, ended_view}
use Rattle.record_flow.proofs.Laws.{records_append}
use Rattle.commit_queue.specs.declared.view.View.{View}
use Rattle.commit_queue.specs.Calls.{RaisesAcked}
use Rattle.commit_queue.specs.Shown.{HasLookedSince}
use Rattle.commit_queue.proofs.Laws.{looked_then, looks_to_raise}
use Rattle.commit_pipeline.specs.Sides.{FlushView, AcksSynced, HasAckedSynced}
use Rattle.failover_writer.specs.Outcome.{JournalOutcome}
use Rattle.failover_writer.proofs.Laws.{outcome_further, outcome_added, outcome_stalled}
use Rattle.commit_pipeline.specs.Openings.{Opening}
use Rattle.commit_pipeline.specs.Desks.{TellsFault}
use Rattle.commit_pipeline.specs.Sides.{PushesAll, MovesNodes}
use Rattle.commit_pipeline.specs.Ties.{Flushes, IsNextTo}

-- ---- the journal's mark

-- A journal that lives after a call lived before it, where the call leaves a dead one as it was.
pub lived_before : {Disk : Type 0} (old new : JournalView Disk) → ((old.state.dead ≢ None) ⊎ IsIdle old.state → new ≡ old)
    → new.state.dead ≡ None → old.state.dead ≡ None
lived_before old new still lives = by_mark old.state.dead refl
  where
    by_mark : (mark : Option DeadMark) → old.state.dead ≡ mark → old.state.dead ≡ None
    by_mark None is = is
    by_mark (Some mark) is =
        let same = still (inl (λ none. let clash : Some mark ≡ None = sym is ∙ none in absurd cc)) in
        sym (ap (λ (j : JournalView _). j.state.dead) same) ∙ lives

-- A journal that tells of its death has the mark of it.
pub marked_dead : (state : State) {answer : Result Step JournalFault} {fault : JournalFault} {side : Side} {count : ℕ}
    → IfErr answer (IsMarked state) → answer ≡ Err fault → fault ≡ faults.Dead side count
    → state.dead ≡ Some (record { side = side; faults = count })
marked_dead state marked is fault_is = subst (λ (r : Result Step JournalFault). IfErr r (IsMarked state))
    (is ∙ ap (λ (x : JournalFault). Err x) fault_is) marked

-- A sound journal tells so of its death.
pub tells_fault : {state : State} {fault : JournalFault} {side : Side} {count : ℕ} → IsSoundJournal state
    → state.dead ≡ Some (record { side = side; faults = count }) → fault ≡ faults.Dead side count → TellsFault fault
tells_fault {state} {fault} {side} {count} sound dead is =
    let given_up = sound.dead (record { side = side; faults = count }) dead in
    subst TellsFault (sym is) (given_up.side, given_up.some)

-- ---- records are moved

-- The record that comes next was taken and pushed.
pub next_to_more : (flow flow' : FlowView) (old new : State) (f : Filled) → flow' ≡ taken_on flow f → Pushes f.rec f.sync old new
    → IsNextTo flow old → IsNextTo flow' new
next_to_more flow flow' old new f taken pushes next = subst (λ (v : FlowView). IsNextTo v new) (sym taken) record {
  first = next.first ∙ sym (ap (λ (s : State). s.base) pushes.new_is);
  next = pushes.next ∙ sym (ap (end_after flow.first) (records_append flow.taken (f ∷ [])) ∙ end_push flow.first (records_of flow.taken) f.rec);
  all =
      let before = length-append old.queue.records (f.rec ∷ []) in
      let after = length-append flow.taken (f ∷ []) in
      let records = ap (λ (l : List Batch). length l) pushes.records in
      omega (arith, next.all, before, after, records, pushes.start);
}

pushes_more : (fs : List Filled) (f : Filled) (old mid new : State) → PushesAll fs old mid → Pushes f.rec f.sync mid new
    → PushesAll (fs ++ f ∷ []) old new
pushes_more [] f old mid new none one = (new, subst (λ (s : State). Pushes f.rec f.sync s new) none one, refl)
pushes_more (g ∷ fs) f old mid new (after, first, others) one = (after, first, pushes_more fs f after mid new others one)

module _ {Disk : Type 0} (tells : Bool) (view : Disk → DiskView) where
  -- none was
  pub moves_none : (flow : FlowView) (journal : JournalView Disk) → MovesNodes tells view flow journal flow journal
  moves_none flow journal = (
    [],
    record {
      taken = ap (λ (l : List Filled). record flow { taken = l }) (sym (append-nil flow.taken));
      pushes = refl;
      disk = refl;
      dead = refl;
      acked_is = refl;
      holds = λ start batches keeps.
          subst (λ (l : List Batch). JournalOutcome tells start l journal.state (view journal.disk)) (sym (append-nil batches)) keeps;
    },
  )

  -- one more was
  pub moves_more : (flow : FlowView) (old : JournalView Disk) (flow_mid : FlowView) (mid : JournalView Disk) (flow' : FlowView)
      (new : JournalView Disk) (f : Filled) → MovesNodes tells view flow old flow_mid mid → flow' ≡ taken_on flow_mid f
      → Pushes f.rec f.sync mid.state new.state → acked new.state ≡ acked mid.state → new.disk ≡ mid.disk
      → AddsRecord tells view f.rec mid new → KeepsBases tells view mid new → MovesNodes tells view flow old flow' new
  moves_more flow old flow_mid mid flow' new f (moved, m) taken pushes same_acked disk adds keeps_base = (
    moved ++ f ∷ [],
    record {
      taken = taken ∙ ap (λ (v : FlowView). taken_on v f) m.taken
          ∙ ap (λ (l : List Filled). record flow { taken = l }) (append_assoc flow.taken moved (f ∷ []));
      pushes = pushes_more moved f old.state mid.state new.state m.pushes pushes;
      disk = disk ∙ m.disk;
      dead = ap (λ (s : State). s.dead) pushes.new_is ∙ m.dead;
      acked_is = same_acked ∙ m.acked_is;
      holds = λ start batches keeps.
          let same = append_assoc batches (records_of moved) (f.rec ∷ [])
          ∙ ap (λ (l : List Batch). batches ++ l) (sym (records_append moved (f ∷ []))) in
          subst (λ (l : List Batch). JournalOutcome tells start l new.state (view new.disk)) same
          (outcome_added tells start view (batches ++ records_of moved) mid new f.rec f.sync pushes disk adds keeps_base
          (m.holds start batches keeps));
    },
  )

-- ---- what holds behind the lock

module _ {tells : Bool} {table : TableId} {queue : FlowId} {opening : Opening} where
  module _ {state : State} {v : DiskView} {seat : TableId} {f : View} {pops : FlowId} {flow : FlowView} {answers : ℕ}
      (flushes : Flushes tells table queue opening state v seat f pops flow answers) where
    -- the book was audited
    pub flushes_audited : (answers' : ℕ) → answers' ≡ answers → Flushes tells table queue opening state v seat f pops flow answers'
    flushes_audited answers' same = subst (λ (n : ℕ). Flushes tells table queue opening state v seat f pops flow n) (sym same) flushes

    -- an answer told that the journal is dead
    pub flushes_dead : (mark : DeadMark) (answers' : ℕ) → state.dead ≡ Some mark
        → Flushes tells table queue opening state v seat f pops flow answers'
    flushes_dead mark answers' dead = record {
      opened = flushes.opened;
      keeps = flushes.keeps;
      of_table = flushes.of_table;
      is_flush = flushes.is_flush;
      none_own = flushes.none_own;
      raised = flushes.raised;
      alive = λ lives. let clash : Some mark ≡ None = sym dead ∙ lives in absurd cc;
      of_queue = flushes.of_queue;
      first = flushes.first;
      next_to = flushes.next_to;
    }

    -- the acked word was raised, no further than the journal has synced
    pub flushes_raised : (seat' : TableId) (f' : View) (n r : ℕ) → seat' ≡ seat → RaisesAcked f n r f' → n ≡ acked state
        → Flushes tells table queue opening state v seat' f' pops flow answers
    flushes_raised seat' f' n r same (h, t, lesser, raised) is = record {
      opened = flushes.opened;
      keeps = flushes.keeps;
      of_table = same ∙ flushes.of_table;
      is_flush = ap (λ (x : View). x.acked_known.is_flush) raised ∙ flushes.is_flush;
      none_own = ap (λ (x : View). x.seat.own) raised ∙ flushes.none_own;
      raised = subst (λ (x : View). x.acked_known.raised ≤ acked state) (sym raised) (omega (arith, flushes.raised, lesser, is));
      alive = flushes.alive;
      of_queue = flushes.of_queue;
      first = flushes.first;
      next_to = flushes.next_to;
    }

    -- a call of the journal added no record
    pub flushes_kept : (new : State) (w : DiskView) → KeepsEnd state new → acked state ≤ acked new → (new.dead ≡ None → state.dead ≡ None)
        → JournalOutcome tells opening.start (records_of flow.taken) new w → Flushes tells table queue opening new w seat f pops flow answers
    flushes_kept new w setting acked_on lived keeps = record {
      opened = flushes.opened;
      keeps = keeps;
      of_table = flushes.of_table;
      is_flush = flushes.is_flush;
      none_own = flushes.none_own;
      raised = omega (arith, flushes.raised, acked_on);
      alive = λ lives. flushes.alive (lived lives);
      of_queue = flushes.of_queue;
      first = flushes.first;
      next_to = record {
        first = flushes.next_to.first ∙ sym setting.base;
        next = setting.next ∙ flushes.next_to.next;
        all = setting.end ∙ flushes.next_to.all;
      };
    }

    -- the pass took in the one that sent
    pub flushes_ended : (sender flow' : FlowView) (pops' : FlowId) → pops' ≡ pops → flow' ≡ ended_view sender flow
        → Flushes tells table queue opening state v seat f pops' flow' answers
    flushes_ended sender flow' pops' same ended = subst (λ (x : FlowView). Flushes tells table queue opening state v seat f pops' x answers)
        (sym ended) record {
          opened = flushes.opened;
          keeps = flushes.keeps;
          of_table = flushes.of_table;
          is_flush = flushes.is_flush;
          none_own = flushes.none_own;
          raised = flushes.raised;
          alive = flushes.alive;
          of_queue = same ∙ flushes.of_queue;
          first = flushes.first;
          next_to = record { first = flushes.next_to.first; next = flushes.next_to.next; all = flushes.next_to.all };
        }

-- Records were taken and pushed.
pub flushes_moved : {tells : Bool} {table : TableId} {queue : FlowId} {opening : Opening} {Disk : Type 0} (view : Disk → DiskView)
    {old new : JournalView Disk} {seat : TableId} {f : View} {pops pops' : FlowId} {flow flow' : FlowView} {answers : ℕ}
    → pops' ≡ pops → IsNextTo flow' new.state → MovesNodes tells view flow old flow' new
    → Flushes tells table queue opening old.state (view old.disk) seat f pops flow answers
    → Flushes tells table queue opening new.state (view new.disk) seat f pops' flow' answers
flushes_moved {tells} {table} {queue} {opening} {Disk} view {old} {new} {flow = flow} {flow' = flow'} same next (moved, m) flushes = record {
  opened = flushes.opened;
  keeps =
      let records = records_append flow.taken moved in
      let taken = ap (λ (x : FlowView). x.taken) m.taken in
      subst (λ (l : List Batch). JournalOutcome tells opening.start l new.state (view new.disk)) (sym records ∙ ap records_of (sym taken))
      (m.holds opening.start (records_of flow.taken) flushes.keeps);
  of_table = flushes.of_table;
  is_flush = flushes.is_flush;
  none_own = flushes.none_own;
  raised = omega (arith, flushes.raised, m.acked_is);
  alive = λ lives. flushes.alive (sym m.dead ∙ lives);
  of_queue = same ∙ flushes.of_queue;
  first = ap (λ (x : FlowView). x.first) m.taken ∙ flushes.first;
  next_to = next;
}

-- Polls were left to stall, which the opening allows.
pub flushes_stalled : {tells : Bool} {table : TableId} {queue : FlowId} {opening : Opening} {Disk : Type 0} (view : Disk → DiskView)
    {old new : JournalView Disk} {seat : TableId} {f : View} {pops : FlowId} {flow : FlowView} {answers : ℕ} (side : Side) (polls : ℕ)
    → opening.start.may_stall ≡ true → new.state ≡ old.state → Stalls side polls (view old.disk) (view new.disk)
    → KeepsRecords tells view old new → KeepsBases tells view old new
    → Flushes tells table queue opening old.state (view old.disk) seat f pops flow answers
    → Flushes tells table queue opening new.state (view new.disk) seat f pops flow answers
flushes_stalled {tells} {table} {queue} {opening} {Disk} view {old} {new} {seat} {f} {pops} {flow} {answers}
    side polls may same stalls keeps keeps_base flushes =
    let records = records_of flow.taken in
    subst (λ (s : State). Flushes tells table queue opening s (view new.disk) seat f pops flow answers) (sym same)
    (flushes_kept flushes old.state (view new.disk)
    (record { wal = refl; base = refl; threshold = refl; next = refl; end = refl }) (le_refl (acked old.state)) (λ lives. lives)
    (outcome_stalled tells opening.start records old.state (view old.disk) (view new.disk) side polls may stalls
    (subst (λ (s : State). StandsFor tells records s (view new.disk)) same (keeps records flushes.keeps.stands))
    (λ base was. subst (λ (s : State). KeepsBase tells base s (view new.disk)) same (keeps_base base was)) flushes.keeps))

-- The journal stepped.
pub flushes_stepped : {tells : Bool} {table : TableId} {queue : FlowId} {opening : Opening} {Disk : Type 0} {view : Disk → DiskView}
    {old new : JournalView Disk} {seat : TableId} {f : View} {pops : FlowId} {flow : FlowView} {answers : ℕ}
    → Lasts tells view old new → KeepsBases tells view old new → ((old.state.dead ≢ None) ⊎ IsIdle old.state → new ≡ old)
    → Flushes tells table queue opening old.state (view old.disk) seat f pops flow answers
    → Flushes tells table queue opening new.state (view new.disk) seat f pops flow answers
flushes_stepped {tells} {table} {queue} {opening} {Disk} {view} {old} {new} {flow = flow} lasts keeps_base still flushes =
    flushes_kept flushes new.state (view new.disk) lasts.setting lasts.acked (lived_before old new still)
    (outcome_further tells opening.start view (records_of flow.taken) old new lasts keeps_base flushes.keeps)

-- It did, and the acked word followed it.
pub flushes_driven : {tells : Bool} {table : TableId} {queue : FlowId} {opening : Opening} {Disk : Type 0} {view : Disk → DiskView}
    {old new : JournalView Disk} {seat seat' : TableId} {f f' : View} {pops : FlowId} {flow : FlowView} {answers : ℕ}
    → Lasts tells view old new → KeepsBases tells view old new → ((old.state.dead ≢ None) ⊎ IsIdle old.state → new ≡ old) → seat' ≡ seat
    → (n r : ℕ) → RaisesAcked f n r f' → n ≡ acked new.state
    → Flushes tells table queue opening old.state (view old.disk) seat f pops flow answers
    → Flushes tells table queue opening new.state (view new.disk) seat' f' pops flow answers
flushes_driven {view = view} lasts keeps_base still same n r raises is flushes =
    flushes_raised (flushes_stepped {view = view} lasts keeps_base still flushes) _ _ n r same raises is

-- The acked word was raised to what the journal has synced.
pub acks_synced : {was f f' : View} {n r : ℕ} (state : State) → f ≡ was → RaisesAcked f n r f' → n ≡ acked state
    → (raised : ℕ) × RaisesAcked was (acked state) raised f'
acks_synced {was} {f} {f'} {n} {r} state same raises is =
    (r, subst (λ (m : ℕ). RaisesAcked was m r f') is (subst (λ (v : View). RaisesAcked v n r f') same raises))

-- So it was raised since what was before the move.
pub acks_since : {Disk : Type 0} (old mid new : FlushView Disk) → mid.seat ≡ old.seat → AcksSynced mid new → HasAckedSynced old new
acks_since {Disk} old mid new same (raised, raises) = record {
  before = mid;
  since =
      subst (λ (v : View). HasLookedSince v new.seat) same (looks_to_raise mid.seat new.seat (acked new.journal.state) raised raises);
  acks = (raised, raises);
}

-- What was raised since then, and is raised again, was.
pub acks_again : {Disk : Type 0} (first old mid new : FlushView Disk) → HasAckedSynced first old → mid.seat ≡ old.seat → AcksSynced mid new
    → HasAckedSynced first new
acks_again {Disk} first old mid new had same acks = record {
  before = mid;
  since = looked_then first.seat old.seat new.seat had.since (acks_since old mid new same acks).since;
  acks = acks;
}
