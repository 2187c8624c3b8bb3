-- What holds behind the commit lock goes on to hold over each call there.
use Rattle.std.proofs.Common.{◌≡◌, Bool, ℕ, ◌+◌, ◌<◌, ◌≤◌, List, [], ◌∷◌, ◌++◌, length, Option, Some, ap, sym, ◌∙◌, subst, arith}
use Rattle.std.proofs.lemmas.List.{length-map}
use Rattle.atomic_table.specs.Seated.{TableId}
use Rattle.record_flow.specs.Passes.{FlowId}
use Rattle.batch_repr.specs.declared.batch.Batch.{Batch}
use Rattle.batch_repr.specs.declared.limits.TheConstants.{NUMBER_MAX, BATCHES_MAX}
use Rattle.batch_repr.specs.Batches.{count_of, end_of}
use Rattle.memtable_shards.specs.Versions.{AreShardsOf}
use Rattle.record_queue.specs.declared.node.Filled.{Filled}
use Rattle.record_flow.specs.declared.rule.FlowView.{FlowView}
use Rattle.record_flow.specs.Views.{records_of, sent_on}
use Rattle.record_flow.specs.Flows.{CanSend}
use Rattle.record_flow.proofs.Laws.{end_is_next, records_append}
use Rattle.commit_queue.specs.declared.view.View.{View}
use Rattle.commit_queue.specs.Calls.{AwaitsBatch, ReadsHeadSlot}
use Rattle.commit_queue.specs.Shown.{shown_by}
use Rattle.commit_queue.proofs.Laws.{awaits_read}
use Rattle.commit_pipeline.specs.Openings.{Opening}
use Rattle.commit_pipeline.specs.Numbering.{Appends}
use Rattle.commit_pipeline.specs.Ties.{Enrols}

module _ {table : TableId} {queue : FlowId} {opening : Opening} {seat : TableId} {v : View} {sends : FlowId} {flow : FlowView} {next placed counted : ℕ}
    (e : Enrols table queue opening seat v sends flow next placed counted) where
  -- the producer's seat read the slot at head
  pub enrols_read : (seat' : TableId) (v' : View) (free : Bool) → seat' ≡ seat → ReadsHeadSlot v free v'
      → Enrols table queue opening seat' v' sends flow next placed counted
  enrols_read seat' v' free same read = record {
    of_table = same ∙ e.of_table;
    base = ap (λ (x : View). x.base) read.1 ∙ e.base;
    shards = subst (λ (x : View). AreShardsOf x.opening opening.base) (sym read.1) e.shards;
    awaits = awaits_read v v' free next placed e.awaits read;
    none = ap (λ (x : View). x.pieces) read.1 ∙ e.none;
    none_own = ap (λ (x : View). x.seat.own) read.1 ∙ e.none_own;
    within = e.within;
    few = e.few;
    counts = e.counts;
    of_queue = e.of_queue;
    first = e.first;
    sent = e.sent ∙ sym (ap (λ (x : View). x.history) read.1);
    follows = e.follows;
  }

  -- a batch was entered, and its record sent
  pub enrols_entered : (f : Filled) (seat' : TableId) (v' : View) (sends' : FlowId) (flow' : FlowView) (counted' : ℕ) → seat' ≡ seat
      → AwaitsBatch v' (end_of f.rec) (placed + 1) → Appends f.rec (shown_by v) (shown_by v') → sends' ≡ sends → flow' ≡ sent_on flow f
      → end_of f.rec ≤ NUMBER_MAX → placed < BATCHES_MAX → counted' ≡ counted + 1
      → Enrols table queue opening seat' v' sends' flow' (end_of f.rec) (placed + 1) counted'
  enrols_entered f seat' v' sends' flow' counted' same awaits appends same_queue sent_is within few counts = record {
    of_table = same ∙ e.of_table;
    base = appends.base ∙ e.base;
    shards = subst (λ (x : List _). AreShardsOf x opening.base) (sym appends.opening) e.shards;
    awaits = awaits;
    none = appends.pieces;
    none_own = appends.own ∙ e.none_own;
    within = within;
    few = omega (arith, few);
    counts = omega (arith, e.counts, counts);
    of_queue = same_queue ∙ e.of_queue;
    first = ap (λ (x : FlowView). x.first) sent_is ∙ e.first;
    sent = ap (λ (x : FlowView). records_of x.sent) sent_is ∙ records_append flow.sent (f ∷ [])
        ∙ ap (λ (l : List Batch). l ++ f.rec ∷ []) e.sent ∙ sym appends.history;
    follows = end_is_next flow flow' f sent_is;
  }

  -- a filled node whose record comes next may be sent
  pub can_send : (f : Filled) (one : Option Filled) → one ≡ Some f → f.rec.first ≡ next → 0 < count_of f.rec.entries → placed < BATCHES_MAX
      → CanSend flow one
  can_send f one is first some few = (
    f,
    is,
    record {
      next = first ∙ e.follows;
      some = some;
      few = omega (arith, few, e.awaits.placed_is, ap length e.sent, length-map flow.sent (λ (x : Filled). x.rec));
    },
  )
