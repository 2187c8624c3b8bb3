-- What the sides of a new pipeline are.
use Rattle.std.proofs.Common.{◌≡◌, ◌∙◌, ℕ, ◌≤◌, Bool, List, [], ap, sym, subst, refl, arith}
use Rattle.atomic_table.specs.Seated.{TableId}
use Rattle.record_flow.specs.Passes.{FlowId}
use Rattle.batch_repr.specs.declared.batch.Batch.{Batch}
use Rattle.batch_repr.specs.declared.limits.TheConstants.{NUMBER_MAX}
use Rattle.batch_repr.specs.Batches.{end_after}
use Rattle.disk_face.specs.View.{DiskView}
use Rattle.failover_writer.specs.State.{State, JournalView, len}
use Rattle.failover_writer.specs.Ranges.{Stands}
use Rattle.failover_writer.specs.Sound.{IsSoundJournal}
use Rattle.record_flow.specs.declared.rule.FlowView.{FlowView}
use Rattle.record_flow.specs.declared.flow.RecordFlow.{RecordFlow}
use Rattle.record_flow.specs.declared.passes.SendPass.{SendPass}
use Rattle.record_flow.specs.declared.passes.FlushPass.{FlushPass}
use Rattle.record_flow.specs.Views.{send_opened, flush_opened, records_of}
use Rattle.record_flow.specs.Passes as passes
use Rattle.record_flow.proofs.Laws.{first_is_next}
use Rattle.memtable_shards.specs.Versions.{Version}
use Rattle.memtable_shards.specs.Versions.{AreShardsOf}
use Rattle.commit_queue.specs.declared.pipe_table.PipeTable.{PipeTable}
use Rattle.commit_queue.specs.declared.seats.FlushSeat.{FlushSeat}
use Rattle.commit_queue.specs.declared.seats.ProducerSeat.{ProducerSeat}
use Rattle.commit_queue.specs.declared.seats.SessionSeat.{SessionSeat}
use Rattle.commit_queue.specs.declared.view.View.{View}
use Rattle.commit_queue.specs.Tables.{table_id_of}
use Rattle.commit_queue.specs.Seats.{producer_table, producer_view, flush_table, flush_seat_view}
use Rattle.commit_queue.specs.Views.{first_view, opened_view, flush_view}
use Rattle.commit_queue.proofs.Laws.{awaits_first}
use Rattle.failover_writer.specs.Outcome.{JournalOutcome}
use Rattle.failover_writer.proofs.Laws.{unbegun_on, outcome_begun}
use Rattle.commit_pipeline.specs.Openings.{Opening, IsOpened, opening_on}
use Rattle.commit_pipeline.specs.Parts.{PartsView, FitTogether}
use Rattle.commit_pipeline.specs.Ties.{Enrols, IsNextTo, Flushes}

-- The producer's seat of a new table has placed nothing, and nothing was sent.
enrols_none : (table : TableId) (queue : FlowId) (opening : Opening) (shards : List (List Version)) (v : View) (flow : FlowView) (next counted : ℕ)
    → AreShardsOf shards opening.base → opening.start.state.next ≤ NUMBER_MAX → next ≡ opening.start.state.next → v ≡ opened_view opening.start.state.next shards
    → flow ≡ send_opened next → counted ≡ 0 → Enrols table queue opening table v queue flow next 0 counted
enrols_none table queue opening shards v flow next counted are within next_is is sends count =
    subst (λ (n : ℕ). Enrols table queue opening table v queue flow n 0 counted) (sym next_is)
    (subst (λ (x : View). Enrols table queue opening table x queue flow opening.start.state.next 0 counted) (sym is)
    (subst (λ (x : FlowView). Enrols table queue opening table (opened_view opening.start.state.next shards) queue x opening.start.state.next 0 counted)
    (sym opens) record {
      of_table = refl;
      base = refl;
      shards = are;
      awaits = awaits_first (opened_view opening.start.state.next shards) opening.start.state.next shards refl;
      none = refl;
      none_own = refl;
      within = within;
      few = omega arith;
      counts = count;
      of_queue = refl;
      first = refl;
      sent = refl;
      follows = first_is_next opening.start.state.next (send_opened opening.start.state.next) refl;
    }))
  where
    opens : flow ≡ send_opened opening.start.state.next
    opens = sends ∙ ap send_opened next_is

-- The journal has no record, and none was taken.
next_to_none : (tells : Bool) (opening : Opening) (state : State) (flow : FlowView) → IsOpened tells opening → state ≡ opening.start.state → len state ≡ 0
    → flow ≡ flush_opened opening.start.state.next → IsNextTo flow state
unfolding end_after
next_to_none tells opening state flow opened same none is = subst (λ (x : FlowView). IsNextTo x state) (sym is) record {
  first = based ∙ sym (ap (λ (s : State). s.base) same);
  next = ap (λ (s : State). s.next) same ∙ ends;
  all = none;
}
  where
    based : opening.start.state.next ≡ opening.start.state.base
    based = opened.unbegun.empty.next

    ends : opening.start.state.next ≡ end_after opening.start.state.next []
    ends = refl

-- The flush seat of a new table has raised nothing, and nothing was taken.
flushes_none : (tells : Bool) (table : TableId) (queue : FlowId) (opening : Opening) (shards : List (List Version)) (state : State) (v : DiskView)
    (f : View) (flow : FlowView) (next answers : ℕ) → IsOpened tells opening → JournalOutcome tells opening.start [] state v → state ≡ opening.start.state
    → len state ≡ 0 → f ≡ flush_view (first_view next shards) → flow ≡ flush_opened opening.start.state.next → answers ≡ 0
    → Flushes tells table queue opening state v table f queue flow answers
flushes_none tells table queue opening shards state v f flow next answers opened keeps same none is pops told =
    subst (λ (x : View). Flushes tells table queue opening state v table x queue flow answers) (sym is) record {
      opened = opened;
      keeps = subst (λ (x : FlowView). JournalOutcome tells opening.start (records_of x.taken) state v) (sym pops) keeps;
      of_table = refl;
      is_flush = refl;
      none_own = refl;
      raised = omega arith;
      alive = λ lives. told;
      of_queue = refl;
      first = ap (λ (x : FlowView). x.first) pops;
      next_to = next_to_none tells opening state flow opened same none pops;
    }

-- The parts fit together, and this is what they open over the journal.
pub record FitJournal {Disk : Type 0} (view : Disk → DiskView) (journal : JournalView Disk) (opening : Opening) (id : TableId) (queue : FlowId) (base : List Batch)
    (next sessions : ℕ) (table : PipeTable) (producer : ProducerSeat) (flush : FlushSeat) (seats : List SessionSeat) (flow : RecordFlow) (sends : SendPass)
    (pops : FlushPass) : Type 0 where
  pub fit : FitTogether base journal.state.next sessions table producer flush seats
  pub opens : passes.OpensFlow next flow sends pops
  pub named : table_id_of table ≡ id
  pub queued : passes.flow_id flow ≡ queue
  pub next_is : next ≡ journal.state.next
  pub is : opening ≡ opening_on view base journal opening.start.may_stall

-- What a call of `Pipeline::new` asks of its parts makes them so.
pub fits_journal : {Disk : Type 0} (view : Disk → DiskView) (journal : JournalView Disk) (opening : Opening) (id : TableId) (queue : FlowId) (base : List Batch)
    (next sessions batches answers : ℕ) (table : PipeTable) (producer : ProducerSeat) (flush : FlushSeat) (seats : List SessionSeat) (flow : RecordFlow)
    (sends : SendPass) (pops : FlushPass) (parts : PartsView) → FitTogether base next sessions table producer flush seats
    → passes.OpensFlow next flow sends pops
    → record { base = base; next = next; sessions = sessions; table = table_id_of table; queue = passes.flow_id flow; batches = batches; answers = answers } ≡ parts
    → opening ≡ opening_on view parts.base journal opening.start.may_stall → parts.table ≡ id → parts.queue ≡ queue → journal.state.next ≡ parts.next
    → FitJournal view journal opening id queue base next sessions table producer flush seats flow sends pops
fits_journal view journal opening id queue base next sessions batches answers table producer flush seats flow sends pops parts fit opens are
    opened named queued next_is = record {
      fit = subst (λ (n : ℕ). FitTogether base n sessions table producer flush seats) same fit;
      opens = opens;
      named = ap (λ (p : PartsView). p.table) are ∙ named;
      queued = ap (λ (p : PartsView). p.queue) are ∙ queued;
      next_is = same;
      is = opened ∙ ap (λ (p : PartsView). opening_on view p.base journal opening.start.may_stall) (sym are);
    }
  where
    same : next ≡ journal.state.next
    same = ap (λ (p : PartsView). p.next) are ∙ sym next_is

module _ {Disk : Type 0} (tells : Bool) (view : Disk → DiskView) (journal : JournalView Disk) (opening : Opening) (id : TableId) (queue : FlowId)
    (base : List Batch) (next sessions : ℕ) (table : PipeTable) (producer : ProducerSeat) (flush : FlushSeat) (seats : List SessionSeat) (flow : RecordFlow)
    (sends : SendPass) (pops : FlushPass)
    (fits : FitJournal view journal opening id queue base next sessions table producer flush seats flow sends pops) where
  abbrev at : Opening
  at = opening_on view base journal opening.start.may_stall

  -- over a journal of no record the commit side enrols nothing
  pub enrols_at_first : (batches : ℕ) → batches ≡ 0
      → Enrols id queue opening (producer_table producer) (producer_view producer) (passes.send_queue sends) (passes.send_view sends) next 0 batches
  enrols_at_first batches none =
      subst (λ (o : Opening). Enrols id queue o (producer_table producer) (producer_view producer) (passes.send_queue sends) (passes.send_view sends) next 0 batches)
      (sym fits.is)
      (subst (λ (t : TableId). Enrols id queue at t (producer_view producer) (passes.send_queue sends) (passes.send_view sends) next 0 batches)
      (sym (fits.fit.producer_is.0 ∙ fits.named))
      (subst (λ (q : FlowId). Enrols id queue at id (producer_view producer) q (passes.send_view sends) next 0 batches)
      (sym (fits.opens.sends_into ∙ fits.queued))
      (enrols_none id queue at fits.fit.shards (producer_view producer) (passes.send_view sends) next batches fits.fit.of_base fits.fit.within fits.next_is
      fits.fit.producer_is.1 fits.opens.sender none)))

  -- and the flush side holds nothing
  pub flushes_at_first : (answers : ℕ) → len journal.state ≡ 0 → Stands tells journal.state (view journal.disk) → IsSoundJournal journal.state
      → answers ≡ 0
      → Flushes tells id queue opening journal.state (view journal.disk) (flush_table flush) (flush_seat_view flush) (passes.flush_queue pops)
      (passes.take_view pops) answers
  flushes_at_first answers empty stands sound untold =
      let opened : IsOpened tells at = record { base = fits.fit.base_is; unbegun = unbegun_on tells view journal opening.start.may_stall empty stands sound } in
      subst (λ (o : Opening). Flushes tells id queue o journal.state (view journal.disk) (flush_table flush) (flush_seat_view flush)
      (passes.flush_queue pops) (passes.take_view pops) answers) (sym fits.is)
      (subst (λ (t : TableId). Flushes tells id queue at journal.state (view journal.disk) t (flush_seat_view flush)
      (passes.flush_queue pops) (passes.take_view pops) answers) (sym (fits.fit.flush_is.0 ∙ fits.named))
      (subst (λ (q : FlowId). Flushes tells id queue at journal.state (view journal.disk) id (flush_seat_view flush)
      q (passes.take_view pops) answers) (sym (fits.opens.takes_from ∙ fits.queued))
      (flushes_none tells id queue at fits.fit.shards journal.state (view journal.disk) (flush_seat_view flush) (passes.take_view pops) journal.state.next
      answers opened (outcome_begun tells at.start opened.unbegun sound.least) refl empty fits.fit.flush_is.1 (fits.opens.taker ∙ ap flush_opened fits.next_is) untold)))
