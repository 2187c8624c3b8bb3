-- What holds behind the lock, once all seats have come back and the shares are audited, is what the end of a pipeline tells.
use Rattle.std.specs.Prelude.{Contains}
use Rattle.std.proofs.Common.{◌≡◌, ℕ, ◌+◌, ◌<◌, ◌≤◌, ⊎_elim, Bool, List, [], ◌∷◌, ◌++◌, length, append-nil, Contains, refl, sym, subst, ap, ◌∙◌, arith}
use Rattle.atomic_table.specs.Seated.{TableId}
use Rattle.record_flow.specs.Passes.{FlowId}
use Rattle.disk_face.specs.View.{DiskView}
use Rattle.batch_repr.specs.declared.batch.Batch.{Batch}
use Rattle.failover_writer.specs.State.{State}
use Rattle.record_queue.specs.declared.node.Filled.{Filled}
use Rattle.record_flow.specs.declared.rule.FlowView.{FlowView}
use Rattle.record_flow.specs.Views.{records_of}
use Rattle.record_flow.specs.Views as views
use Rattle.commit_queue.specs.declared.view.View.{View}
use Rattle.commit_queue.specs.Calls.{TakesBack}
use Rattle.commit_queue.specs.Shown.{end_of_first, shown_by}
use Rattle.failover_writer.specs.Outcome.{JournalOutcome}
use Rattle.commit_pipeline.specs.Openings.{Opening}
use Rattle.commit_pipeline.specs.declared.standing.Standing.{Standing}
use Rattle.commit_pipeline.specs.Ending.{EachOnce, Finishes, TakesAllBack, owned, all_deaths, numbers_in_order}
use Rattle.commit_pipeline.specs.Ties.{Enrols, Flushes}
use Rattle.commit_pipeline.proofs.TakesAllBack.{front_or_behind}

-- what told a session of a death is among them all
dead_within : (s : Standing) (ss : List Standing) → Contains ss s → s.dead + s.told ≤ all_deaths ss
dead_within s [] has = absurd (omega (arith, has.1))
dead_within s (x ∷ ss) has = ⊎_elim
    (λ e. let same = ap (λ y. y.dead + y.told) e in omega arith)
    (λ behind. let below = dead_within s ss behind in omega arith)
    (front_or_behind x s ss has)

numbers_of : (fs : List Filled) → views.first_numbers fs ≡ numbers_in_order (records_of fs)
numbers_of [] = refl
numbers_of (x ∷ fs) = ap (λ (l : List ℕ). x.rec.first ∷ l) (numbers_of fs)

module _ (tells : Bool) (table : TableId) (queue : FlowId) (opening : Opening) (state : State) (v : DiskView) (producer : TableId) (p p' p'' : View)
    (sends : FlowId) (sent : FlowView) (next placed counted : ℕ) (flush : TableId) (f : View) (pops : FlowId) (taken : FlowView) (answers : ℕ)
    (ss : List Standing) (enrols : Enrols table queue opening producer p sends sent next placed counted)
    (flushes : Flushes tells table queue opening state v flush f pops taken answers) (all_taken : taken.taken ≡ sent.sent) where
  -- What was taken is what the producer's seat has placed.
  same_batches : records_of taken.taken ≡ p.history
  same_batches = ap records_of all_taken ∙ enrols.sent

  -- The producer's seat has all batches, each once: they are as many as the book counts, and it began with none of its own.
  each_once : TakesAllBack (shown_by p) ss (shown_by p') → TakesBack p' f p'' → length (owned ss) ≡ counted → EachOnce (length p.history) (owned ss)
  each_once back last all = record { as_many = as_many; each = each }
    where
      as_many : length (owned ss) ≡ length p.history
      as_many = all ∙ enrols.counts ∙ sym enrols.awaits.placed_is

      own : p''.seat.own ≡ owned ss
      own = last.own ∙ ap (λ l. p'.seat.own ++ l) flushes.none_own ∙ append-nil p'.seat.own ∙ back.own
          ∙ ap (λ l. l ++ owned ss) enrols.none_own

      history : p''.history ≡ p.history
      history = last.history ∙ back.history

      each : (i : ℕ) → i < length p.history → Contains (owned ss) i
      each i below = subst (λ (l : List ℕ). Contains l i) own (last.all (omega (arith, as_many, ap length own, ap length history)) i
          (subst (λ h. i < length h) (sym history) below))

  pub finishes : TakesAllBack (shown_by p) ss (shown_by p') → TakesBack p' f p'' → length (owned ss) ≡ counted → all_deaths ss ≡ answers
      → Finishes tells opening p.history ss state v next placed
  finishes back last all told = record {
    opened = flushes.opened;
    keeps = subst (λ (bs : List Batch). JournalOutcome tells opening.start bs state v) same_batches flushes.keeps;
    seen = back.seen;
    own = each_once back last all;
    acked_is = λ s has.
        let raised = flushes.raised in
        let synced = last.flushed flushes.is_flush in
        let seen = back.acked s has in
        omega (arith, last.acked);
    dead = λ s has some lives.
        let none = flushes.alive lives in
        let within = dead_within s ss has in
        absurd (omega (arith, told, some));
    visible_is = enrols.awaits.next_is ∙ ap (λ n. end_of_first n p.history (length p.history)) enrols.base;
    count_is = sym enrols.awaits.placed_is;
    small = enrols.within;
    few = enrols.few;
  }

  -- the first numbers of what was taken are those of the batches, in order
  pub taken_firsts : views.first_numbers taken.taken ≡ numbers_in_order p.history
  taken_firsts = numbers_of taken.taken ∙ ap numbers_in_order same_batches
