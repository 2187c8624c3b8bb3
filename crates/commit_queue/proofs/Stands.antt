-- What holds of a seat between two calls holds after each call.
use Rattle.std.proofs.Common.{◌≡◌, Option, Some, None, [], ◌∷◌, ◌++◌, ℕ, suc, ◌+◌, ◌<◌, ◌≤◌, List, length, length-append, sym, refl, ap, ap₂, ◌∙◌, subst, arith, Bool, cond, false}
use Rattle.wal_base.proofs.Laws.{longer_prefix}
use Rattle.batch_repr.specs.declared.batch.Batch.{Batch}
use Rattle.batch_repr.specs.declared.limits.TheConstants.{BATCHES_MAX}
use Rattle.memtable_shards.specs.declared.sharding.TheConstants.{SHARDS}
use Rattle.memtable_shards.specs.Versions.{Version}
use Rattle.publish_core.specs.declared.seat.Kind.{Kind}
use Rattle.publish_core.specs.declared.seat.Kind.TheVariants.{Worker}
use Rattle.publish_core.specs.declared.seat.Claim.{Claim}
use Rattle.publish_core.specs.declared.state.TheConstants.{END_LIMIT}
use Rattle.publish_core.specs.Machine.{ends, both_held}
use Rattle.publish_core.proofs.Laws.{ends_snoc}
use Rattle.commit_queue.specs.declared.view.AckedKnown.{AckedKnown}
use Rattle.commit_queue.specs.declared.view.View.{View}
use Rattle.commit_queue.specs.Rule.{Slot, numbers}
use Rattle.commit_queue.specs.Views.{placed_view, admitted_view, without_batch, handed_view, telling_view, shown_view, flush_view, first_view, marked_view, but_turns}
use Rattle.commit_queue.specs.Tables.{TableSeat}
use Rattle.commit_queue.specs.Tells.{Seated}
use Rattle.commit_queue.specs.Stands.{HasTicket, HoldsLast, slots_out, CarriesTurn, ProducerStands, SessionStands, NoteStands, FlushStands}
use Rattle.commit_queue.specs.Calls.{next_number, CanPlace, HasPlaced, TakesBack, TakesIn, ViewGoesOn, EndsTurn}
use Rattle.commit_queue.proofs.Publishes.{at_end_of}

-- the producer's last batch, where neither the batch held nor the history changes
last_same : (v v' : View) (e : ℕ) → v'.seat.held ≡ v.seat.held → v'.history ≡ v.history → v'.base ≡ v.base → HoldsLast v e → HoldsLast v' e
last_same v v' e held hist base has j h = let t = has j (sym held ∙ h) in
    (t.0 ∙ ap length (sym hist), t.1 ∙ ap₂ (λ (b : ℕ) (l : List Batch). ends numbers b l (suc j)) (sym base) (sym hist), t.2)

last_placed : (v : View) (b : Batch) (e : ℕ) → b.first ≡ next_number v → e ≡ b.first + numbers b → e < END_LIMIT
    → HoldsLast (placed_view v b) e
last_placed v b e follows is small j h = let n : ℕ = length v.history in let same : n ≡ j = cc in (
  ap suc (sym same) ∙ (let g : suc n ≡ length (v.history ++ b ∷ []) = omega (arith, length-append v.history (b ∷ [])) in g),
  is ∙ ap (λ (x : ℕ). x + numbers b) follows ∙ sym (ends_snoc numbers v.base v.history b)
      ∙ ap (λ (x : ℕ). ends numbers v.base (v.history ++ b ∷ []) (suc x)) same,
  small,
)

-- a seat that holds nothing has no last batch
last_none : (v : View) (e : ℕ) → v.seat.held ≡ None → HoldsLast v e
last_none v e idle j h = let z : ◌≡◌ {A = Option ℕ} None (Some j) = sym idle ∙ h in cc

ticket_none : (v : View) (i e : ℕ) → v.seat.held ≡ None → HasTicket v i e
ticket_none v i e idle j h = let z : ◌≡◌ {A = Option ℕ} None (Some j) = sym idle ∙ h in cc

pub ticket_goes_on : (v v' : View) (i e : ℕ) → HasTicket v i e → ViewGoesOn v v' → HasTicket v' i e
ticket_goes_on v v' i e has g j h = let t = has j (sym g.held ∙ h) in let l = longer_prefix v.history v'.history g.history in
    let near : suc j ≤ length v.history = t.1 in (
      t.0,
      omega arith,
      t.2 ∙ at_end_of v.history v'.history g.history v.base (suc j) near ∙ ap (λ (b : ℕ). ends numbers b v'.history (suc j)) (sym g.base),
      t.3,
    )

ticket_taken_in : (v w v' : View) (i e : ℕ) → HasTicket w i e → TakesIn v w v' → v.seat.held ≡ None → HasTicket v' i e
ticket_taken_in v w v' i e has g idle j h = let held : v'.seat.held ≡ w.seat.held = g.held
    ∙ ap (λ (x : Option ℕ). both_held x w.seat.held) idle in let t = has j (sym held ∙ h) in
    let l = longer_prefix w.history v'.history g.has_both in let near : suc j ≤ length w.history = t.1 in (
      t.0,
      omega arith,
      t.2 ∙ at_end_of w.history v'.history g.has_both w.base (suc j) near
          ∙ ap (λ (b : ℕ). ends numbers b v'.history (suc j)) (g.same_base ∙ sym g.base),
      t.3,
    )

-- ---- a seat's turn

-- a seat that has no turn carries no slot
pub none_carried : (m : Seated) (turn : Option ℕ) → CarriesTurn m turn → m.0.seat.turn ≡ None → m.1 ≡ []
none_carried m turn t none = t.carries ∙ ap slots_out (sym t.turn_is ∙ none)

pub carries_on : (m m' : Seated) (turn : Option ℕ) → CarriesTurn m turn → m'.1 ≡ m.1 → m'.0.seat.turn ≡ m.0.seat.turn → CarriesTurn m' turn
carries_on m m' turn t carried same = record { turn_is = same ∙ t.turn_is; within = t.within; carries = carried ∙ t.carries }

-- a seat has no turn
pub carries_none : (m : Seated) → m.1 ≡ [] → m.0.seat.turn ≡ None → CarriesTurn m None
carries_none m carried none = record { turn_is = none; within = λ k e. let z : ◌≡◌ {A = Option ℕ} None (Some k) = e in cc; carries = carried }

-- a seat has the turn on this shard
pub carries_shard : (m : Seated) (k : ℕ) → k < SHARDS → m.1 ≡ slots_out (Some k) → m.0.seat.turn ≡ Some k → CarriesTurn m (Some k)
carries_shard m k small carried turn = record {
  turn_is = turn;
  within = λ j e. let same : k ≡ j = (let z : ◌≡◌ {A = Option ℕ} (Some k) (Some j) = e in cc) in omega arith;
  carries = carried;
}

-- a seat has ended its turn, as another that is the same has
pub turn_ended : (v : View) (x y : TableSeat) (a b : Bool) → x ≡ y → a ≡ b → EndsTurn v b y.me.0 → EndsTurn v a x.me.0
turn_ended v x y a b same applied ended = subst (λ (z : TableSeat × Bool). EndsTurn v z.1 z.0.me.0) (λ k. (sym same k, sym applied k)) ended

-- ---- the producer's seat

-- what a producer's seat that does not take in another keeps of its view in any case
abbrev kept_parts : View → Kind × List Batch × Claim × Option ℕ
kept_parts v = (v.seat.kind, v.absorbed, v.seat.claim, v.seat.turn)

-- the seat's view is v now, and keeps these parts; the rest is told anew
producer_stays : (id id' : ℕ) (m m' : Seated) (v : View) (head end head' end' : ℕ) (turn : Option ℕ) → ProducerStands id m head end turn
    → id' ≡ id → m'.1 ≡ m.1 → m'.0 ≡ v → kept_parts v ≡ kept_parts m.0 → v.head ≡ head' → v.head ≤ length v.history
    → length v.history ≤ BATCHES_MAX → v.seat.published ≤ length v.history → HoldsLast v end' → ProducerStands id' m' head' end' turn
producer_stays id id' m m' v head end head' end' turn p same carried e kept head_is admitted few within holds =
    subst (λ (x : View × List (ℕ × Slot)). ProducerStands id' x head' end' turn) (λ k. (sym e k, m'.1)) record {
      id_is = same ∙ p.id_is;
      kind = ap (λ (x : Kind × List Batch × Claim × Option ℕ). x.0) kept ∙ p.kind;
      head_is = head_is;
      calm = ap (λ (x : Kind × List Batch × Claim × Option ℕ). x.1) kept ∙ p.calm;
      free = ap (λ (x : Kind × List Batch × Claim × Option ℕ). x.2) kept ∙ p.free;
      carries = carries_on m (v, m'.1) turn p.carries carried (ap (λ (x : Kind × List Batch × Claim × Option ℕ). x.3) kept);
      admitted = admitted;
      few = few;
      within = within;
      holds = holds;
    }

pub producer_goes_on : (id id' : ℕ) (m m' : Seated) (head end : ℕ) (turn : Option ℕ) → ProducerStands id m head end turn → id' ≡ id
    → m'.1 ≡ m.1 → ViewGoesOn m.0 m'.0 → ProducerStands id' m' head end turn
producer_goes_on id id' m m' head end turn p same carried g = let hist : m'.0.history ≡ m.0.history = g.whole p.kind in
    let n : length m'.0.history ≡ length m.0.history = ap length hist in let a = p.admitted in let f = p.few in let h = g.head in
    let claim : m'.0.seat.claim ≡ m.0.seat.claim = g.claim p.free ∙ sym p.free in
    producer_stays id id' m m' m'.0 head end head end turn p same carried refl (λ k. (g.kind k, g.absorbed k, claim k, g.turn k))
    (g.head ∙ p.head_is) (omega arith) (omega arith) (g.within p.within) (last_same m.0 m'.0 end g.held hist g.base p.holds)

pub producer_opens : (id : ℕ) (m : Seated) (base : ℕ) (opening : List (List Version)) → id ≡ 0 → m ≡ (first_view base opening, [])
    → ProducerStands id m 0 0 None
producer_opens id m base opening z e = subst (λ (x : Seated). ProducerStands id x 0 0 None) (sym e) record {
  id_is = z;
  kind = refl;
  head_is = refl;
  calm = refl;
  free = refl;
  carries = carries_none (first_view base opening, []) refl refl;
  admitted = omega arith;
  few = omega arith;
  within = omega arith;
  holds = last_none (first_view base opening) 0 refl;
}

pub producer_places : (id id' : ℕ) (m m' : Seated) (b : Batch) (head end new : ℕ) (turn : Option ℕ) → ProducerStands id m head end turn
    → id' ≡ id → m'.1 ≡ m.1 → m'.0 ≡ placed_view m.0 b → CanPlace m.0 b → new ≡ b.first + numbers b → new < END_LIMIT
    → ProducerStands id' m' head new turn
producer_places id id' m m' b head end new turn p same carried e can is small = let a = p.admitted in let f = can.few in let w = p.within in
    let n : length (m.0.history ++ b ∷ []) ≡ length m.0.history + 1 = length-append m.0.history (b ∷ []) in
    producer_stays id id' m m' (placed_view m.0 b) head end head new turn p same carried e refl p.head_is (omega arith) (omega arith)
    (omega arith) (last_placed m.0 b new can.follows is small)

pub producer_admits : (id id' : ℕ) (m m' : Seated) (head end : ℕ) (turn : Option ℕ) → ProducerStands id m head end turn → id' ≡ id
    → m'.1 ≡ m.1 → m'.0 ≡ admitted_view m.0 → HasPlaced m.0 → ProducerStands id' m' (head + 1) end turn
producer_admits id id' m m' head end turn p same carried e placed = let l : length m.0.history ≡ m.0.head + 1 = placed in
    producer_stays id id' m m' (admitted_view m.0) head end (head + 1) end turn p same carried e refl (ap (λ (x : ℕ). x + 1) p.head_is)
    (omega arith) p.few p.within p.holds

pub producer_hands : (id id' : ℕ) (m m' : Seated) (head end : ℕ) (turn : Option ℕ) → ProducerStands id m head end turn → id' ≡ id
    → m' ≡ (without_batch m.0, m.1) → ProducerStands id' m' head end turn
producer_hands id id' m m' head end turn p same e =
    producer_stays id id' m m' (without_batch m.0) head end head end turn p same (ap (λ (x : Seated). x.1) e) (ap (λ (x : Seated). x.0) e)
    refl p.head_is p.admitted p.few p.within (last_none (without_batch m.0) end refl)

pub producer_tells : (id id' : ℕ) (m m' : Seated) (head end : ℕ) (turn : Option ℕ) → ProducerStands id m head end turn → id' ≡ id
    → m' ≡ (telling_view m.0, m.1) → ProducerStands id' m' head end turn
producer_tells id id' m m' head end turn p same e =
    producer_stays id id' m m' (telling_view m.0) head end head end turn p same (ap (λ (x : Seated). x.1) e) (ap (λ (x : Seated). x.0) e)
    refl p.head_is p.admitted p.few p.within p.holds

pub producer_marks : (id id' : ℕ) (m m' : Seated) (i head end : ℕ) (turn : Option ℕ) → ProducerStands id m head end turn → id' ≡ id
    → m'.1 ≡ m.1 → m'.0 ≡ marked_view m.0 i → ProducerStands id' m' head end turn
producer_marks id id' m m' i head end turn p same carried e =
    producer_stays id id' m m' (marked_view m.0 i) head end head end turn p same carried e refl p.head_is p.admitted p.few p.within
    (last_none (marked_view m.0 i) end refl)

-- the seat takes a shard, or gives it back
pub producer_turns : (id id' : ℕ) (m m' : Seated) (head end : ℕ) (turn turn' : Option ℕ) → ProducerStands id m head end turn → id' ≡ id
    → but_turns m'.0 ≡ but_turns m.0 → CarriesTurn m' turn' → ProducerStands id' m' head end turn'
producer_turns id id' m m' head end turn turn' p same t carries = record {
  id_is = same ∙ p.id_is;
  kind = ap (λ (v : View). v.seat.kind) t ∙ p.kind;
  head_is = ap (λ (v : View). v.head) t ∙ p.head_is;
  calm = ap (λ (v : View). v.absorbed) t ∙ p.calm;
  free = ap (λ (v : View). v.seat.claim) t ∙ p.free;
  carries = carries;
  admitted = subst (λ (v : View). v.head ≤ length v.history) (sym t) p.admitted;
  few = subst (λ (v : View). length v.history ≤ BATCHES_MAX) (sym t) p.few;
  within = subst (λ (v : View). v.seat.published ≤ length v.history) (sym t) p.within;
  holds = subst (λ (v : View). HoldsLast v end) (sym t) p.holds;
}

-- the seat took in another, for good
pub producer_takes_back : (id id' : ℕ) (m m' : Seated) (w : View) (head end : ℕ) (turn : Option ℕ) → ProducerStands id m head end turn
    → id' ≡ id → m'.1 ≡ m.1 → TakesBack m.0 w m'.0 → ProducerStands id' m' head end turn
producer_takes_back id id' m m' w head end turn p same carried t =
    let n : length m'.0.history ≡ length m.0.history = ap length t.history in let a = p.admitted in let f = p.few in let h = t.head in
    let calm : m'.0.absorbed ≡ m.0.absorbed = t.calm ∙ sym p.calm in
    producer_stays id id' m m' m'.0 head end head end turn p same carried refl (λ k. (t.kind k, calm k, t.claim k, t.turn k))
    (t.head ∙ p.head_is) (omega arith) (omega arith) t.within (last_same m.0 m'.0 end t.held t.history t.base p.holds)

-- the batch that the producer's seat holds, where it is admitted, is the one before head
pub last_index : (id : ℕ) (m : Seated) (head end i : ℕ) (turn : Option ℕ) → ProducerStands id m head end turn → m.0.seat.held ≡ Some i
    → i < m.0.head → suc i ≡ head
last_index id m head end i turn p holds below = let t = (p.holds i holds).0 in let a = p.admitted in let h = p.head_is in omega arith

-- ---- a session's seat

pub session_goes_on : (m m' : Seated) (index end : ℕ) (turn : Option ℕ) → SessionStands m index end turn → m'.1 ≡ m.1
    → ViewGoesOn m.0 m'.0 → SessionStands m' index end turn
session_goes_on m m' index end turn s carried g = record {
  kind = g.kind ∙ s.kind;
  calm = g.absorbed ∙ s.calm;
  free = g.claim s.free;
  carries = carries_on m m' turn s.carries carried g.turn;
  not_retired = g.retired ∙ s.not_retired;
  within = g.within s.within;
  ticket = ticket_goes_on m.0 m'.0 index end s.ticket g;
}

pub session_opens : (m : Seated) (v : View) → m ≡ (shown_view Worker v, []) → v.absorbed ≡ [] → v.seat.published ≤ length v.history
    → SessionStands m 0 0 None
session_opens m v e calm within = subst (λ (x : Seated). SessionStands x 0 0 None) (sym e) record {
  kind = refl;
  calm = calm;
  free = refl;
  carries = carries_none (shown_view Worker v, []) refl refl;
  not_retired = refl;
  within = within;
  ticket = ticket_none (shown_view Worker v) 0 0 refl;
}

pub session_marks : (m m' : Seated) (i index end : ℕ) (turn : Option ℕ) → SessionStands m index end turn → m'.1 ≡ m.1
    → m'.0 ≡ marked_view m.0 i → SessionStands m' index end turn
session_marks m m' i index end turn s carried e =
    subst (λ (x : View × List (ℕ × Slot)). SessionStands x index end turn) (λ k. (sym e k, m'.1)) record {
      kind = s.kind;
      calm = s.calm;
      free = s.free;
      carries = carries_on m (marked_view m.0 i, m'.1) turn s.carries carried refl;
      not_retired = s.not_retired;
      within = s.within;
      ticket = ticket_none (marked_view m.0 i) index end refl;
    }

-- the seat takes a shard, or gives it back
pub session_turns : (m m' : Seated) (index end : ℕ) (turn turn' : Option ℕ) → SessionStands m index end turn
    → but_turns m'.0 ≡ but_turns m.0 → CarriesTurn m' turn' → SessionStands m' index end turn'
session_turns m m' index end turn turn' s t carries = record {
  kind = ap (λ (v : View). v.seat.kind) t ∙ s.kind;
  calm = ap (λ (v : View). v.absorbed) t ∙ s.calm;
  free = ap (λ (v : View). v.seat.claim) t ∙ s.free;
  carries = carries;
  not_retired = ap (λ (v : View). v.acked_known.retired) t ∙ s.not_retired;
  within = subst (λ (v : View). v.seat.published ≤ length v.history) (sym t) s.within;
  ticket = subst (λ (v : View). HasTicket v index end) (sym t) s.ticket;
}

-- what a seat takes in with a note that is not the flush seat's
not_retired_in : (v w v' : View) → TakesIn v w v' → w.acked_known.is_flush ≡ false → v'.acked_known.retired ≡ None
not_retired_in v w v' g plain =
    ap (λ (k : AckedKnown). k.retired) g.acked_known ∙ ap (λ (b : Bool). cond b (Some w.acked_known.raised) None) plain

-- the seat took in a note that is not the flush seat's
pub session_takes_in : (m m' : Seated) (w : View) (index end i e : ℕ) (turn : Option ℕ) → SessionStands m index end turn → m'.1 ≡ m.1
    → TakesIn m.0 w m'.0 → w.acked_known.is_flush ≡ false → HasTicket w i e → m.0.seat.held ≡ None → SessionStands m' i e turn
session_takes_in m m' w index end i e turn s carried g plain has idle = record {
  kind = g.kind ∙ s.kind;
  calm = g.calm;
  free = g.claim ∙ s.free;
  carries = carries_on m m' turn s.carries carried g.turn;
  not_retired = not_retired_in m.0 w m'.0 g plain;
  within = g.within;
  ticket = ticket_taken_in m.0 w m'.0 i e has g idle;
}

-- ---- a note

pub note_opens : (m w : Seated) (head end index : ℕ) (id : ℕ) (turn : Option ℕ) → ProducerStands id m head end turn
    → w ≡ (handed_view m.0, []) → m.0.seat.held ≡ Some index → NoteStands w index end
note_opens m w head end index id turn p e holds = subst (λ (x : Seated). NoteStands x index end) (sym e) record {
  kind = refl;
  carries = refl;
  calm = p.calm;
  not_flush = refl;
  holds = holds;
  ticket = λ j h. let t = p.holds j h in let same : index ≡ j = (let q : ◌≡◌ {A = Option ℕ} (Some index) (Some j) = sym holds ∙ h in cc) in
      (sym same, (let l = t.0 in omega arith), t.1, t.2);
}

-- ---- the flush seat

pub flush_opens : (m : Seated) (v : View) → m ≡ (flush_view v, []) → v.absorbed ≡ [] → v.seat.published ≤ length v.history → FlushStands m
flush_opens m v e calm within = subst FlushStands (sym e) record {
  kind = refl;
  carries = refl;
  calm = calm;
  free = refl;
  no_turn = refl;
  is_flush = refl;
  idle = refl;
  within = within;
}
