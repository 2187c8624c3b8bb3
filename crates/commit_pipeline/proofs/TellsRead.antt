-- What a read answers, by what its shard had as it was taken.
use Rattle.std.proofs.Common.{◌≡◌, ℕ, ◌+◌, ◌≤◌, List, [], ◌∷◌, ◌++◌, length, take, drop, None, refl, sym, ap, ◌∙◌, subst, le_refl}
use Rattle.std.specs.Prelude.{Option}
use Rattle.std.proofs.lemmas.List.{length-take-le, take-append-drop, take_all}
use Rattle.atomic_table.specs.Seated.{TableId}
use Rattle.wal_base.specs.Prefixes.{IsPrefixOf}
use Rattle.batch_repr.specs.declared.batch.Batch.{Batch}
use Rattle.batch_repr.specs.Batches.{IsContiguous, end_after, end_of, answer}
use Rattle.batch_repr.proofs.Laws.{contiguous_append, contiguous_front, end_append}
use Rattle.memtable_shards.specs.Versions.{Version}
use Rattle.memtable_shards.specs.Newest.{Found, FindsNewest, value_found}
use Rattle.memtable_shards.specs.Versions.{AreShardsOf, HaveBelow, shard_of}
use Rattle.memtable_shards.proofs.Laws.{below_append, shard_answers_below}
use Rattle.commit_queue.specs.declared.view.View.{View}
use Rattle.commit_queue.specs.Rule.{numbers}
use Rattle.commit_queue.specs.Shards.{ShowsBelow}
use Rattle.commit_queue.specs.Tells.{SeesVisible}
use Rattle.commit_queue.specs.Views.{but_turns, given_view, taking_view, visible_view}
use Rattle.commit_queue.specs.Shown.{end_of_first, shown_by}
use Rattle.shard_gate.specs.Gates.{ReadsNewest, visible_seen}
use Rattle.commit_pipeline.specs.Openings.{Opening, EndsBefore, first_of}
use Rattle.commit_pipeline.specs.Numbering.{SeatGoesOn}
use Rattle.commit_pipeline.specs.Standings.{standing, IsSession}
use Rattle.commit_pipeline.specs.Commits.{TellsRead, end_at}
use Rattle.commit_pipeline.proofs.Seen.{ends_take, seen_more}
use Rattle.commit_pipeline.proofs.TellsCommit.{session_on}

-- ---- the batches that are seen published, behind those of the base

-- Batches in a row end where they end by their counts.
row_end : (from : ℕ) (batches : List Batch) → IsContiguous from batches → end_after from batches ≡ end_of_first from batches (length batches)
unfolding IsContiguous end_after
row_end from [] row = refl
row_end from (b ∷ batches) row = row_end (end_of b) batches row.2 ∙ ap (λ (n : ℕ). end_of_first (n + numbers b) batches (length batches)) row.0

module _ (opening : Opening) (history : List Batch) (count visible : ℕ) (before : EndsBefore opening.base opening.start.state.next)
    (row : IsContiguous opening.start.state.next history) (within : count ≤ length history)
    (end_is : visible ≡ end_of_first opening.start.state.next history count) where
  abbrev seen : List Batch
  seen = take count history

  abbrev whole : List Batch
  whole = opening.base ++ seen

  -- the batches that are seen are in a row
  seen_row : IsContiguous opening.start.state.next seen
  seen_row = contiguous_front opening.start.state.next seen (drop count history)
      (subst (IsContiguous opening.start.state.next) (sym (take-append-drop count history)) row)

  -- and so are all, from the first of the base on
  whole_row : IsContiguous (first_of opening) whole
  whole_row = contiguous_append (first_of opening) opening.base seen before.contiguous
      (subst (λ (n : ℕ). IsContiguous n seen) (sym before.ends) seen_row)

  -- They end at the visible number.
  seen_end : visible ≡ end_at opening seen (length seen)
  seen_end = end_is ∙ sym (ends_take opening.start.state.next count count history within (le_refl count))
      ∙ ap (end_of_first opening.start.state.next seen) (sym (length-take-le count history within))

  -- and so do all
  whole_end : end_after (first_of opening) (take (length whole) whole) ≡ visible
  whole_end = ap (end_after (first_of opening)) (take_all (length whole) whole (le_refl (length whole)))
      ∙ end_append (first_of opening) opening.base seen
      ∙ ap (λ (n : ℕ). end_after n seen) before.ends
      ∙ row_end opening.start.state.next seen seen_row
      ∙ sym seen_end

  -- a shard that shows them and the opening's versions below their end answers as the store
  answers_whole : (shards : List (List Version)) (versions : List Version) (key : List ℕ) (found : Found) → AreShardsOf shards opening.base
      → ShowsBelow shards history count visible (shard_of key) versions → FindsNewest versions key visible found
      → value_found found ≡ answer whole (length whole) key
  answers_whole shards versions key found are (first, here, has) finds =
      shard_answers_below (first_of opening) (length whole) whole versions key found whole_row
      (subst (λ (n : ℕ). HaveBelow n whole (shard_of key) versions) (sym whole_end)
      (below_append visible opening.base seen (shard_of key) versions first (are.own (shard_of key) first here) has))
      (subst (λ (n : ℕ). FindsNewest versions key n found) (sym whole_end) finds)

-- ---- the read

-- The visible number was read from v, and then the key, by a seat that knows what w knows.
module _ (v v1 w : View) (visible : ℕ) (saw : SeesVisible v visible v1) (same : but_turns w ≡ but_turns v1) where
  -- what the seat knows but for its turn, by what was seen
  same_seen : but_turns w ≡ but_turns (visible_view v saw.count saw.history)
  same_seen = same ∙ ap but_turns saw.view

  -- It has seen so much published.
  pub reads_seen : visible ≡ visible_seen w
  reads_seen = saw.end_is ∙ ap visible_seen (sym same_seen)

  -- The turn is given back.
  pub read_on : (k : ℕ) (versions : List Version) (w' : View) → v.seat.turn ≡ None → w.pieces ≡ v.pieces
      → w' ≡ given_view (taking_view w k versions) → SeatGoesOn (shown_by v) (shown_by w')
  read_on k versions w' no_turn pieces is = subst (λ (x : View). SeatGoesOn (shown_by v) (shown_by x)) (sym is) record {
    history = subst (λ (x : View). IsPrefixOf v.history x.history) (sym same_seen) saw.grew.0;
    published = subst (λ (x : View). v.seat.published ≤ x.seat.published) (sym same_seen) saw.published;
    within = subst (λ (x : View). x.seat.published ≤ length x.history) (sym same_seen) saw.grew.1;
    acked = subst (λ (x : View). v.seat.acked ≤ x.seat.acked) (sym same_seen) (le_refl v.seat.acked);
    own = ap (λ (x : View). x.seat.own) same_seen;
    base = ap (λ (x : View). x.base) same_seen;
    opening = ap (λ (x : View). x.opening) same_seen;
    pieces = pieces;
    turn = sym no_turn;
  }

  -- It is a session still.
  pub session_read : (table : TableId) (opening : Opening) (seat seat' : TableId) (k own_parts own dead_parts told_parts : ℕ)
      (versions : List Version) (w' : View) → IsSession table opening seat (shown_by v) own_parts own dead_parts told_parts → seat' ≡ seat
      → w.pieces ≡ v.pieces → w' ≡ given_view (taking_view w k versions) → IsSession table opening seat' (shown_by w') own_parts own dead_parts told_parts
  session_read table opening seat seat' k own_parts own dead_parts told_parts versions w' session same_table pieces is =
      session_on table opening seat seat' v w' own_parts own_parts own own dead_parts dead_parts told_parts told_parts session same_table
      (read_on k versions w' session.idle.1 pieces is)
      (ap (λ (x : View). x.seat.held) is ∙ ap (λ (x : View). x.seat.held) same_seen ∙ session.idle.0) refl refl refl refl

  -- The value is what the store answers after all that is seen then.
  pub answers_read : (opening : Opening) (key : List ℕ) (value : Option (List ℕ)) (w' : View) (dead told : ℕ) → v.base ≡ opening.start.state.next
      → AreShardsOf v.opening opening.base → EndsBefore opening.base opening.start.state.next → ReadsNewest w key visible value w'
      → TellsRead opening key (record { visible = visible; value = value }) (standing (shown_by v) dead told) (standing (shown_by w') dead told)
  answers_read opening key value w' dead told base are before read =
      subst (TellsRead opening key (record { visible = visible; value = value }) (standing (shown_by v) dead told)) (sym stands) record {
        idles = record {
          goes_on = seen_more v (visible_view v saw.count saw.history) dead dead told told saw.grew.0 saw.published (le_refl v.seat.acked) refl;
          own = refl;
          told = refl;
        };
        dead = refl;
        visible = seen_end opening saw.history saw.count visible before row saw.grew.1 end_is;
        value = read.value_is ∙ answers_whole opening saw.history saw.count visible before row saw.grew.1 end_is v.opening read.versions key
            read.found are shows read.finds;
      }
    where
      stands : standing (shown_by w') dead told ≡ standing (shown_by (visible_view v saw.count saw.history)) dead told
      stands = ap (λ (x : View). standing (shown_by x) dead told) read.view ∙ ap (λ (x : View). standing (shown_by x) dead told) same_seen

      row : IsContiguous opening.start.state.next saw.history
      row = subst (λ (n : ℕ). IsContiguous n saw.history) base saw.row

      end_is : visible ≡ end_of_first opening.start.state.next saw.history saw.count
      end_is = saw.end_is ∙ ap (λ (n : ℕ). end_of_first n saw.history saw.count) base

      shows : ShowsBelow v.opening saw.history saw.count visible (shard_of key) read.versions
      shows = subst (λ (n : ℕ). ShowsBelow v.opening saw.history saw.count n (shard_of key) read.versions) (sym saw.end_is)
          (subst (λ (x : View). ShowsBelow x.opening x.history x.seat.published (end_of_first x.base x.history x.seat.published) (shard_of key) read.versions)
          same_seen read.taken.below)
