-- What a commit leaves of a session, by what its parts leave of the seat.
use Rattle.std.proofs.Common.{◌≡◌, ⊎_elim, ℕ, ◌+◌, ◌<◌, ◌≤◌, Bool, List, [], ◌∷◌, length, None, IsTrue, Err, refl, sym, ap, ◌∙◌, subst, arith}
use Rattle.std.proofs.lemmas.List.{length-take, length-take-le}
use Rattle.std.specs.declared.sync.ledger.Share.{Share}
use Rattle.std.specs.Prelude.{Contains}
use Rattle.atomic_table.specs.Seated.{TableId}
use Rattle.wal_base.specs.declared.entry.Entry.{Entry}
use Rattle.wal_base.specs.Prefixes.{IsPrefixOf}
use Rattle.wal_base.proofs.Laws.{at_prefix, prefix_then, within_cases}
use Rattle.batch_repr.specs.Batches.{count_of}
use Rattle.memtable_shards.specs.Versions.{Version}
use Rattle.memtable_shards.specs.Versions.{AreShardsOf}
use Rattle.commit_queue.specs.declared.view.View.{View}
use Rattle.commit_queue.specs.Seats.{session_table, session_view}
use Rattle.commit_queue.specs.Shown.{end_of_first, shown_by, session_shown}
use Rattle.commit_pipeline.specs.declared.fault.CommitFault.{CommitFault}
use Rattle.commit_pipeline.specs.declared.fault.CommitFault.TheVariants as fault
use Rattle.commit_pipeline.specs.Openings.{Opening}
use Rattle.commit_pipeline.specs.declared.desk.Desk.{Desk}
use Rattle.commit_pipeline.specs.declared.pipeline.Numbers.{Numbers}
use Rattle.commit_pipeline.specs.Standings.{standing, KnowsDeath, GainsOwn, IsSession}
use Rattle.commit_pipeline.specs.Desks.{known}
use Rattle.commit_pipeline.specs.Numbering.{numbered, SeatGoesOn, HoldsNumbered}
use Rattle.commit_pipeline.specs.Commits.{CommitsWell, TellsCommit}
use Rattle.commit_pipeline.specs.Waits.{StaysIdle, StartsCommit, deaths_started, StartsLiving, PublishesOwn, PublishesHeld, IsUnsynced, deaths_waited}
use Rattle.commit_pipeline.proofs.IsIdleDesk.{on_same}
use Rattle.commit_pipeline.proofs.Seen.{at_take, ends_take, seen_more, idles_on}

-- ---- nothing is added

-- It is a session's seat still, where nothing is added.
pub session_on : (table : TableId) (opening : Opening) (seat seat' : TableId) (v v' : View)
    (own_parts own_parts' own own' dead_parts dead_parts' told_parts told_parts' : ℕ)
    → IsSession table opening seat (shown_by v) own_parts own dead_parts told_parts → seat' ≡ seat → SeatGoesOn (shown_by v) (shown_by v') → v'.seat.held ≡ None
    → own_parts' ≡ own_parts → own' ≡ own → dead_parts' ≡ dead_parts → told_parts' ≡ told_parts
    → IsSession table opening seat' (shown_by v') own_parts' own' dead_parts' told_parts'
session_on table opening seat seat' v v' own_parts own_parts' own own' dead_parts dead_parts' told_parts told_parts' is same on held own_same amount
    dead_same told_same = record {
      of_table = same ∙ is.of_table;
      base = on.base ∙ is.base;
      shards = subst (λ (l : List (List Version)). AreShardsOf l opening.base) (sym on.opening) is.shards;
      before = is.before;
      idle = (held, on.turn ∙ is.idle.1);
      none = on.pieces ∙ is.none;
      within = on.within;
      out = λ i among. omega (arith, is.out i (subst (λ (l : List ℕ). Contains l i) on.own among), on.published);
      own_part = own_same ∙ is.own_part;
      own = amount ∙ is.own ∙ ap length (sym on.own);
      dead_part = dead_same ∙ is.dead_part;
      told_part = told_same ∙ is.told_part;
    }

-- What a commit answers where its start refused.
pub answers_refused : (opening : Opening) (entries : List Entry) (sync : Bool) (v v' : View) (dead dead' told told' : ℕ) (refused : CommitFault)
    → v.base ≡ opening.start.state.next → v.seat.published ≤ length v.history → StartsCommit opening entries (shown_by v) (Err refused) (shown_by v')
    → dead' ≡ dead + deaths_started (Err refused) → told' ≡ told + 0 → StartsLiving (dead + told) (Err refused)
    → TellsCommit opening entries sync (standing (shown_by v) dead told) (Err refused) (standing (shown_by v') dead' told')
answers_refused opening entries sync v v' dead dead' told told' (fault.Dead side faults) base within (stays, death) more same lives =
    (idles_on v v' dead dead' told told' stays.0 (omega (arith, same)), more, death)
answers_refused opening entries sync v v' dead dead' told told' (fault.TooManyBatches count) base within (stays, is, all) more same lives = (
  idles_on v v' dead dead' told told' stays.0 (omega (arith, same)),
  omega (arith, more),
  λ some. absurd (omega (arith, some, lives)),
  is,
  length-take-le v'.seat.published v'.history stays.0.within ∙ all,
)
answers_refused opening entries sync v v' dead dead' told told' (fault.SeqExhausted next) base within (stays, out) more same lives =
    let before = length-take-le v.seat.published v.history within in
    let after = length-take-le v'.seat.published v'.history stays.0.within in (
      idles_on v v' dead dead' told told' stays.0 (omega (arith, same)),
      omega (arith, more),
      λ some. absurd (omega (arith, some, lives)),
      record {
        placed = out.placed;
        no_fewer = omega (arith, before, out.no_fewer);
        few = out.few;
        seen = omega (arith, after, out.published);
        next_is = out.next_is ∙ sym (ends_take v'.base v'.seat.published out.placed v'.history stays.0.within out.published)
            ∙ ap (λ (n : ℕ). end_of_first n (standing (shown_by v') dead' told').seen out.placed) (stays.0.base ∙ base);
        over = out.over;
      },
    )
answers_refused opening entries sync v v' dead dead' told told' fault.NoMemory base within stays more same lives =
    (idles_on v v' dead dead' told told' stays.0 (omega (arith, same)), omega (arith, more))
answers_refused opening entries sync v v' dead dead' told told' (fault.Unsynced first count side faults) base within never more same lives =
    absurd never
answers_refused opening entries sync v v' dead dead' told told' (fault.NoMemorySync first count) base within never more same lives = absurd never

-- The seat holds nothing where the start of a commit refused.
refused_stays : (opening : Opening) (entries : List Entry) (v v' : View) (told : CommitFault) → StartsCommit opening entries (shown_by v) (Err told) (shown_by v') → StaysIdle (shown_by v) (shown_by v')
refused_stays opening entries v v' (fault.Dead side faults) started = started.0
refused_stays opening entries v v' (fault.TooManyBatches count) started = started.0
refused_stays opening entries v v' (fault.SeqExhausted next) started = started.0
refused_stays opening entries v v' fault.NoMemory started = started
refused_stays opening entries v v' (fault.Unsynced first count side faults) never = absurd never
refused_stays opening entries v v' (fault.NoMemorySync first count) never = absurd never

-- It is a session still where the start of a commit refused.
pub session_refused : {N M : Type 0} (table : TableId) (opening : Opening) (entries : List Entry) (told : CommitFault) (more : ℕ) (d d' : Desk N M)
    → IsSession table opening (session_table d.seat) (session_shown d.seat) d.own.parts d.own.amount d.dead.parts d.told.parts
    → StartsCommit opening entries (session_shown d.seat) (Err told) (session_shown d'.seat) → session_table d'.seat ≡ session_table d.seat
    → (d'.own.parts ≡ d.own.parts) × (d'.own.amount ≡ d.own.amount + 0) → (d'.dead.parts ≡ d.dead.parts) × (d'.dead.amount ≡ d.dead.amount + more)
    → d'.told.parts ≡ d.told.parts
    → IsSession table opening (session_table d'.seat) (session_shown d'.seat) d'.own.parts d'.own.amount d'.dead.parts d'.told.parts
session_refused table opening entries told more d d' is started same own dead met =
    let stays : StaysIdle (session_shown d.seat) (session_shown d'.seat) =
    refused_stays opening entries (session_view d.seat) (session_view d'.seat) told started in
    session_on table opening (session_table d.seat) (session_table d'.seat) (session_view d.seat) (session_view d'.seat) d.own.parts d'.own.parts
    d.own.amount d'.own.amount d.dead.parts d'.dead.parts d.told.parts d'.told.parts is same stays.0 stays.1 own.0 (omega (arith, own.1)) dead.0 met

-- ---- a batch of a session

-- the view with the batch of this place among its own
abbrev gained_view : View → ℕ → View
gained_view v place = record v { seat = record v.seat { own = place ∷ v.seat.own }; pieces = [] }

-- The desk's batch was numbered and published: it counts among its own, and no death was told of, nor known.
pub record HasPublished {N M : Type 0} (entries : List Entry) (first place : ℕ) (d d' : Desk N M) : Type 0 where
  pub between : View
  pub number : HoldsNumbered (numbered entries first) place (session_shown d.seat) (shown_by between)
  pub published : PublishesOwn place (shown_by between) (session_shown d'.seat)
  pub same : session_table d'.seat ≡ session_table d.seat
  pub own_parts : d'.own.parts ≡ d.own.parts
  pub own : d'.own.amount ≡ d.own.amount + 1
  pub dead_parts : d'.dead.parts ≡ d.dead.parts
  pub dead : d'.dead.amount ≡ d.dead.amount
  pub told_parts : d'.told.parts ≡ d.told.parts
  pub told : d'.told.amount ≡ d.told.amount
  pub none_known : known d ≡ 0

-- Then there was a wait, or none, which told of so many deaths.
pub record HasWaited {N M : Type 0} (deaths : ℕ) (d d' : Desk N M) : Type 0 where
  pub stays : StaysIdle (session_shown d.seat) (session_shown d'.seat)
  pub same : session_table d'.seat ≡ session_table d.seat
  pub own : d'.own ≡ d.own
  pub dead_parts : d'.dead.parts ≡ d.dead.parts
  pub dead : d'.dead.amount ≡ d.dead.amount + deaths
  pub told : d'.told ≡ d.told

-- It was numbered, and then published.
pub has_published : {N M : Type 0} (entries : List Entry) (first place : ℕ) (d d1 d2 : Desk N M)
    → HoldsNumbered (numbered entries first) place (session_shown d.seat) (session_shown d1.seat)
    → session_table d1.seat ≡ session_table d.seat
    → (d1.own.parts ≡ d.own.parts) × (d1.own.amount ≡ d.own.amount + 1)
    → (d1.dead.parts ≡ d.dead.parts) × (d1.dead.amount ≡ d.dead.amount + 0)
    → (d1.told.parts ≡ d.told.parts) × (d1.told.amount ≡ d.told.amount + 0) → known d ≡ 0
    → PublishesHeld (session_shown d1.seat) (session_shown d2.seat) → session_table d2.seat ≡ session_table d1.seat → d2.own ≡ d1.own
    → d2.dead ≡ d1.dead → d2.told ≡ d1.told → HasPublished entries first place d d2
has_published {N = N} {M = M} entries first place d d1 d2 number same own dead told none_known published same_then own_then dead_then told_then = record {
  between = session_view d1.seat;
  number = number;
  published = published place number.held;
  same = same_then ∙ same;
  own_parts = ap (λ (share : Share N). share.parts) own_then ∙ own.0;
  own = ap (λ (share : Share N). share.amount) own_then ∙ own.1;
  dead_parts = ap (λ (share : Share M). share.parts) dead_then ∙ dead.0;
  dead = omega (arith, ap (λ (share : Share M). share.amount) dead_then, dead.1);
  told_parts = ap (λ (share : Share M). share.parts) told_then ∙ told.0;
  told = omega (arith, ap (λ (share : Share M). share.amount) told_then, told.1);
  none_known = none_known;
}

-- No wait leaves all as it was.
pub has_not_waited : {N M : Type 0} (entries : List Entry) (first place : ℕ) (d d' : Desk N M) → HasPublished entries first place d d'
    → HasWaited 0 d' d'
has_not_waited entries first place d d' has = record {
  stays = (on_same (session_view d'.seat) has.published.seen.within, has.published.idle.0);
  same = refl;
  own = refl;
  dead_parts = refl;
  dead = omega arith;
  told = refl;
}

-- It is a session still, with the batch among its own.
pub session_commits : {N M : Type 0} (table : TableId) (opening : Opening) (entries : List Entry) (first place deaths : ℕ) (d d1 d2 : Desk N M)
    → IsSession table opening (session_table d.seat) (session_shown d.seat) d.own.parts d.own.amount d.dead.parts d.told.parts
    → HasPublished entries first place d d1 → HasWaited deaths d1 d2
    → IsSession table opening (session_table d2.seat) (session_shown d2.seat) d2.own.parts d2.own.amount d2.dead.parts d2.told.parts
session_commits {N = N} {M = M} table opening entries first place deaths d d1 d2 is has waited = record {
  of_table = waited.same ∙ has.same ∙ is.of_table;
  base = on.base ∙ more.base ∙ before.base ∙ is.base;
  shards = subst (λ (l : List (List Version)). AreShardsOf l opening.base) (sym (on.opening ∙ more.opening ∙ before.opening)) is.shards;
  before = is.before;
  idle = (waited.stays.1, on.turn ∙ has.published.idle.1);
  none = on.pieces ∙ has.published.none;
  within = on.within;
  out = λ i among. ⊎_elim
      (λ (here : place ≡ i). omega (arith, here, has.published.there, on.published))
      (λ (old : Contains (session_view d.seat).seat.own i). omega (arith, is.out i old, before.published, more.published, on.published))
      (within_cases place (session_view d.seat).seat.own i (subst (λ (l : List ℕ). Contains l i) its among));
  own_part = ap (λ (share : Share N). share.parts) waited.own ∙ has.own_parts ∙ is.own_part;
  own = omega (arith, ap (λ (share : Share N). share.amount) waited.own, has.own, is.own, ap length its);
  dead_part = waited.dead_parts ∙ has.dead_parts ∙ is.dead_part;
  told_part = ap (λ (share : Share M). share.parts) waited.told ∙ has.told_parts ∙ is.told_part;
}
  where
    before : SeatGoesOn (session_shown d.seat) (shown_by has.between)
    before = has.number.goes_on

    more : SeatGoesOn (shown_by (gained_view has.between place)) (session_shown d1.seat)
    more = has.published.seen

    on : SeatGoesOn (session_shown d1.seat) (session_shown d2.seat)
    on = waited.stays.0

    its : (session_view d2.seat).seat.own ≡ place ∷ (session_view d.seat).seat.own
    its = on.own ∙ has.published.own ∙ ap (λ (l : List ℕ). place ∷ l) before.own

-- And it gains the batch.
gains_batch : {N M : Type 0} (entries : List Entry) (first place deaths dead dead' : ℕ) (d d1 d2 : Desk N M)
    → HasPublished entries first place d d1 → HasWaited deaths d1 d2
    → GainsOwn (numbered entries first) place (standing (session_shown d.seat) dead d.told.amount)
    (standing (session_shown d2.seat) dead' d2.told.amount)
gains_batch {M = M} entries first place deaths dead dead' d d1 d2 has waited = record {
  goes_on = seen_more v (session_view d2.seat) dead dead' d.told.amount d2.told.amount
      (prefix_then v.history has.between.history (session_view d2.seat).history before.history after)
      (omega (arith, before.published, more.published, on.published)) (omega (arith, before.acked, more.acked, on.acked)) same;
  own = on.own ∙ has.published.own ∙ ap (λ (l : List ℕ). place ∷ l) before.own;
  at = at_take (session_view d2.seat).seat.published place (session_view d2.seat).history (numbered entries first)
      (omega (arith, has.published.there, on.published))
      (at_prefix has.between.history (session_view d2.seat).history after place (numbered entries first) has.number.at);
  behind = omega (arith, length-take v.seat.published v.history, before.published, has.number.behind);
  told = same;
}
  where
    same : d2.told.amount ≡ d.told.amount
    same = ap (λ (share : Share M). share.amount) waited.told ∙ has.told

    v : View
    v = session_view d.seat

    before : SeatGoesOn (shown_by v) (shown_by has.between)
    before = has.number.goes_on

    more : SeatGoesOn (shown_by (gained_view has.between place)) (session_shown d1.seat)
    more = has.published.seen

    on : SeatGoesOn (session_shown d1.seat) (session_shown d2.seat)
    on = waited.stays.0

    after : IsPrefixOf has.between.history (session_view d2.seat).history
    after = prefix_then has.between.history (session_view d1.seat).history (session_view d2.seat).history more.history on.history

-- It knew of no death.
knows_none : {N M : Type 0} (entries : List Entry) (first place : ℕ) (d d' : Desk N M) → HasPublished entries first place d d'
    → KnowsDeath (standing (session_shown d.seat) d.dead.amount d.told.amount) → ⊥
knows_none entries first place d d' has some = absurd (omega (arith, some, has.none_known))

-- The answer where the batch is acked, or need not be.
pub answers_committed : {N M : Type 0} (entries : List Entry) (sync : Bool) (first count place : ℕ) (d d1 d2 : Desk N M)
    → HasPublished entries first place d d1 → HasWaited 0 d1 d2 → count ≡ count_of entries
    → (IsTrue sync → place < (session_view d2.seat).seat.acked)
    → CommitsWell entries sync (record { first = first; count = count; synced = sync })
    (standing (session_shown d.seat) d.dead.amount d.told.amount) (standing (session_shown d2.seat) d2.dead.amount d2.told.amount)
answers_committed entries sync first count place d d1 d2 has waited counted acked = record {
  commits = record {
    place = place;
    gains = gains_batch entries first place 0 d.dead.amount d2.dead.amount d d1 d2 has waited;
    count_is = counted;
    lives = knows_none entries first place d d1 has;
  };
  dead = omega (arith, has.dead, waited.dead);
  synced = refl;
  acked = acked;
}

-- The answer where it is not known to be synced.
pub answers_unsynced : {N M : Type 0} (opening : Opening) (entries : List Entry) (sync : Bool) (of : Numbers) (told : CommitFault) (d d1 d2 : Desk N M)
    → HasPublished entries of.first of.index d d1 → HasWaited (deaths_waited (Err told)) d1 d2 → of.count ≡ count_of entries → IsTrue sync
    → IsUnsynced of told
    → TellsCommit opening entries sync (standing (session_shown d.seat) d.dead.amount d.told.amount) (Err told)
    (standing (session_shown d2.seat) d2.dead.amount d2.told.amount)
answers_unsynced opening entries sync of (fault.Unsynced first count side faults) d d1 d2 has waited counted asked (its_first, its_count, death) = (
  record {
    place = of.index;
    gains = subst (λ (n : ℕ). GainsOwn (numbered entries n) of.index (standing (session_shown d.seat) d.dead.amount d.told.amount)
        (standing (session_shown d2.seat) d2.dead.amount d2.told.amount)) (sym its_first)
        (gains_batch entries of.first of.index 1 d.dead.amount d2.dead.amount d d1 d2 has waited);
    count_is = its_count ∙ counted;
    lives = knows_none entries of.first of.index d d1 has;
  },
  omega (arith, has.dead, waited.dead),
  asked,
  death,
)
answers_unsynced opening entries sync of (fault.NoMemorySync first count) d d1 d2 has waited counted asked (its_first, its_count) = (
  record {
    place = of.index;
    gains = subst (λ (n : ℕ). GainsOwn (numbered entries n) of.index (standing (session_shown d.seat) d.dead.amount d.told.amount)
        (standing (session_shown d2.seat) d2.dead.amount d2.told.amount)) (sym its_first)
        (gains_batch entries of.first of.index 0 d.dead.amount d2.dead.amount d d1 d2 has waited);
    count_is = its_count ∙ counted;
    lives = knows_none entries of.first of.index d d1 has;
  },
  omega (arith, has.dead, waited.dead),
  asked,
)
answers_unsynced opening entries sync of (fault.Dead side faults) d d1 d2 has waited counted asked never = absurd never
answers_unsynced opening entries sync of (fault.TooManyBatches count) d d1 d2 has waited counted asked never = absurd never
answers_unsynced opening entries sync of (fault.SeqExhausted next) d d1 d2 has waited counted asked never = absurd never
answers_unsynced opening entries sync of fault.NoMemory d d1 d2 has waited counted asked never = absurd never
