-- What a call that publishes or reads leaves of a view, and what of calls in a row.
use Rattle.std.proofs.Common.{◌≡◌, ◌≢◌, ⊎_elim, le_refl, ℕ, ◌%◌, ◌≤◌, List, [], length, None, sym, refl, ap, ◌∙◌, subst, arith}
use Rattle.wal_base.specs.Prefixes.{IsPrefixOf}
use Rattle.wal_base.proofs.Laws.{longer_prefix, prefix_same, prefix_then}
use Rattle.batch_repr.specs.declared.batch.Batch.{Batch}
use Rattle.batch_repr.specs.declared.limits.TheConstants.{BATCHES_MAX}
use Rattle.publish_core.specs.declared.seat.Kind.TheVariants.{Producer}
use Rattle.publish_core.specs.declared.seat.Claim.TheVariants.{Free}
use Rattle.publish_core.specs.Machine.{ends, no_counts}
use Rattle.publish_core.proofs.Laws.{ends_mono}
use Rattle.commit_queue.specs.declared.published.Published.{Published}
use Rattle.commit_queue.specs.declared.published.Published.TheVariants.{Raised, NotReady, Raced}
use Rattle.commit_queue.specs.declared.view.View.{View}
use Rattle.commit_queue.specs.Rule.{numbers}
use Rattle.commit_queue.specs.Views.{read_view, ends_view, later, telling_view}
use Rattle.commit_queue.specs.Tells.{SeesVisible}
use Rattle.commit_queue.specs.Calls.{looked_view, Tries, ViewGoesOn, SeesAcked}
use Rattle.commit_queue.proofs.Publishes.{at_end_of}

-- the view but for what a seat sees of the table, and for what others tell it
abbrev but_seen : View → View
but_seen v = record v {
  seat = record v.seat { claim = Free; loaded = None; reading = None; seen = 0; published = 0; acked = 0; counts = no_counts };
  history = [];
  acked_known = later v.acked_known;
}

-- and but for what it looks at alone
abbrev but_looks : View → View
but_looks v = record v {
  seat = record v.seat { loaded = None; reading = None; counts = no_counts };
  acked_known = later v.acked_known;
}

-- a seat that has seen more
goes_on_by : (v v' : View) → but_seen v' ≡ but_seen v → (v.seat.claim ≡ Free → v'.seat.claim ≡ Free) → IsPrefixOf v.history v'.history
    → (v.seat.kind ≡ Producer → v'.history ≡ v.history) → v.seat.published ≤ v'.seat.published → v.seat.acked ≤ v'.seat.acked
    → (v.seat.published ≤ length v.history → v'.seat.published ≤ length v'.history) → ViewGoesOn v v'
goes_on_by v v' same claim history whole published acked within = record {
  kind = ap (λ (x : View). x.seat.kind) same;
  absorbed = ap (λ (x : View). x.absorbed) same;
  claim = claim;
  held = ap (λ (x : View). x.seat.held) same;
  own = ap (λ (x : View). x.seat.own) same;
  knows = ap (λ (x : View). x.seat.knows) same;
  pieces = ap (λ (x : View). x.pieces) same;
  turn = ap (λ (x : View). x.seat.turn) same;
  taken = ap (λ (x : View). x.taken) same;
  base = ap (λ (x : View). x.base) same;
  opening = ap (λ (x : View). x.opening) same;
  head = ap (λ (x : View). x.head) same;
  history = history;
  whole = whole;
  published = published;
  acked = acked;
  within = within;
  retired = ap (λ (x : View). x.acked_known.retired) same;
}

-- a seat that has only looked
looks_on : (v v' : View) → but_looks v' ≡ but_looks v → ViewGoesOn v v'
looks_on v v' same = let history : v'.history ≡ v.history = ap (λ (x : View). x.history) same in
    let published : v'.seat.published ≡ v.seat.published = ap (λ (x : View). x.seat.published) same in
    let acked : v'.seat.acked ≡ v.seat.acked = ap (λ (x : View). x.seat.acked) same in
    goes_on_by v v' (ap but_seen same) (λ e. ap (λ (x : View). x.seat.claim) same ∙ e)
    (subst (IsPrefixOf v.history) (sym history) (prefix_same v.history)) (λ _. history) (omega arith) (omega arith)
    (λ all. subst (λ (x : View). x.seat.published ≤ length x.history) (sym same) all)

pub goes_on_same : (v : View) → ViewGoesOn v v
goes_on_same v = looks_on v v refl

pub goes_on_both : (a b c : View) → ViewGoesOn a b → ViewGoesOn b c → ViewGoesOn a c
goes_on_both a b c f g = record {
  kind = g.kind ∙ f.kind;
  absorbed = g.absorbed ∙ f.absorbed;
  claim = λ e. g.claim (f.claim e);
  held = g.held ∙ f.held;
  own = g.own ∙ f.own;
  knows = g.knows ∙ f.knows;
  pieces = g.pieces ∙ f.pieces;
  turn = g.turn ∙ f.turn;
  taken = g.taken ∙ f.taken;
  base = g.base ∙ f.base;
  opening = g.opening ∙ f.opening;
  head = g.head ∙ f.head;
  history = prefix_then a.history b.history c.history f.history g.history;
  whole = λ k. g.whole (f.kind ∙ k) ∙ f.whole k;
  published = (let x = f.published in let y = g.published in omega arith);
  acked = (let x = f.acked in let y = g.acked in omega arith);
  within = λ all. g.within (f.within all);
  retired = g.retired ∙ f.retired;
}

-- a slot was read
pub goes_on_read : (v : View) (at w : ℕ) → ViewGoesOn v (read_view v at w)
goes_on_read v at w = looks_on v (read_view v at w) refl

-- another seat was made
pub goes_on_tells : (v : View) → ViewGoesOn v (telling_view v)
goes_on_tells v = looks_on v (telling_view v) refl

pub tries_goes_on : (v v' : View) (p : Published) → Tries v p v' → ViewGoesOn v v'
tries_goes_on v v' (Raised i e) t = subst (ViewGoesOn v) (sym t.view)
    (goes_on_by v _ refl (λ _. refl) (prefix_then v.history t.claimed t.history t.goes_on t.goes_further) t.whole t.published
    (le_refl v.seat.acked) (λ _. t.reached))
tries_goes_on v v' (NotReady h t w) s = ⊎_elim
    (λ (a : (h ≡ t) × (w ≡ 0) × (v' ≡ ends_view v h t)). subst (ViewGoesOn v) (sym a.2) (looks_on v (ends_view v h t) refl))
    (λ (a : (h ≢ t) × (w % 2 ≡ 0) × (v' ≡ looked_view v h t w)).
    subst (ViewGoesOn v) (sym a.2) (looks_on v (looked_view v h t w) refl))
    s
tries_goes_on v v' (Raced h t) s = subst (ViewGoesOn v) (sym s.view) (looks_on v _ refl)

pub sees_goes_on : (v v' : View) (r : ℕ) → SeesVisible v r v' → ViewGoesOn v v'
sees_goes_on v v' r t = subst (ViewGoesOn v) (sym t.view)
    (goes_on_by v _ refl (λ e. e) t.grew.0 t.grew.2 t.published (le_refl v.seat.acked) (λ _. t.grew.1))

pub acked_goes_on : (v v' : View) (r : ℕ) → SeesAcked v r v' → ViewGoesOn v v'
acked_goes_on v v' r t = subst (ViewGoesOn v) (sym t.0)
    (goes_on_by v _ refl (λ e. e) (prefix_same v.history) (λ _. refl) (le_refl v.seat.published) t.1 (λ all. all))

-- the first n batches, which end at or below what was seen, are published
pub past_all : (a v v' : View) (r n e : ℕ) → ViewGoesOn a v → SeesVisible v r v' → n ≤ length a.history
    → e ≡ ends numbers a.base a.history n → e ≤ r → n ≤ v'.seat.published
past_all a v v' r n e g t few end le = let h : List Batch = t.history in
    let pre : IsPrefixOf a.history h = prefix_then a.history v.history h g.history t.grew.0 in let l = longer_prefix a.history h pre in
    let same : e ≡ ends numbers v.base h n = end ∙ at_end_of a.history h pre a.base n few
    ∙ ap (λ (x : ℕ). ends numbers x h n) (sym g.base) in
    let end_is = t.end_is in
    let in_it : n ≤ t.count = t.reaches n (omega arith) (omega arith) in subst (λ (x : View). n ≤ x.seat.published) (sym t.view) in_it

-- the visible number is no less than what was seen
pub visible_no_less : (v v' : View) (r : ℕ) (t : SeesVisible v r v') → ends numbers v.base t.history v.seat.published ≤ r
visible_no_less v v' r t = let a = ends_mono numbers v.base t.history v.seat.published t.count t.published in
    let b = t.end_is in omega arith

-- what was seen published is among the history that was seen
pub seen_within : (v v' : View) (r : ℕ) → SeesVisible v r v' → v'.seat.published ≤ length v'.history
seen_within v v' r t = subst (λ (x : View). x.seat.published ≤ length x.history) (sym t.view) t.grew.1

-- no seat has seen more batches than a table takes
pub seen_few : (v v' : View) (r : ℕ) → SeesVisible v r v' → length v'.history ≤ BATCHES_MAX
seen_few v v' r t = subst (λ (x : View). length x.history ≤ BATCHES_MAX) (sym t.view) t.few
