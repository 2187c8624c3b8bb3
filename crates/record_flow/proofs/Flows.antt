-- Each step keeps the rule of the queue: the opening, its split into two passes, a push, a pop, and the join at the end.
use Rattle.std.proofs.Common.{◌≡◌, ◌≢◌, ⊎_elim, ℕ, zero, suc, true, true≢false, List, [], ◌∷◌, ◌++◌, length, map, set, Option, Some, Ok, Err, MatchResult, sym, refl, ap, ◌∙◌, subst, arith, append_assoc, length-append}
use Rattle.std.specs.declared.result.Result.{Result}
use mathlib.Core.Option.{some, some-ne-none}
use lib.ListN.{get_elem?}
use Rattle.crossbeam_queue.specs.Fifo.{Pushes, Pops, Forks, Merges}
use Rattle.crossbeam_queue.proofs.Lists.{at_set, at_snoc}
use Rattle.batch_repr.specs.Batches.{end_after, IsContiguous}
use Rattle.record_queue.specs.declared.node.Filled.{Filled}
use Rattle.record_flow.specs.declared.rule.FlowView.{FlowView}
use Rattle.record_flow.specs.Views.{opening_view, send_opened, flush_opened, ended_view, used_up_view, sent_on, taken_on, records_of}
use Rattle.record_flow.specs.Flows.{PassFits, Flows, ComesNext, CanSend}
use Rattle.record_flow.proofs.ComesNext.{none_in_order, one_more, begins_after}

at_end : (l : List FlowView) (a b : FlowView) (j : ℕ) → get_elem? l j ≢ some b → get_elem? (l ++ a ∷ []) j ≡ some b → j ≡ length l
at_end [] a b zero n e = refl
at_end [] a b (suc j) n e = absurd (some-ne-none b (sym e))
at_end (x ∷ xs) a b zero n e = absurd (n e)
at_end (x ∷ xs) a b (suc j) n e = ap suc (at_end xs a b j n e)

abbrev All : (ℕ → FlowView → Type 0) → List FlowView → Type 0
All F views = (port : ℕ) (v : FlowView) → get_elem? views port ≡ some v → F port v

-- what holds of each pass, where one view changed
all_set : (F : ℕ → FlowView → Type 0) (views : List FlowView) (port : ℕ) (w : FlowView) → F port w → ((j : ℕ) (u : FlowView) → j ≢ port → get_elem? views j ≡ some u → F j u) → All F (set views port w)
all_set F views port w mine others j u e = ⊎_elim (λ (x : (j ≡ port) × (w ≡ u)). subst (λ (y : ℕ × FlowView). F y.0 y.1) (λ i. (sym x.0 i, x.1 i)) mine)
    (λ (x : (j ≢ port) × (get_elem? views j ≡ some u)). others j u x.0 x.1) (at_set views port j w u e)

map_snoc : (xs : List Filled) (f : Filled) → map {A = Filled} {B = Option Filled} Some xs ++ Some f ∷ [] ≡ map Some (xs ++ f ∷ [])
map_snoc [] f = refl
map_snoc (x ∷ xs) f = ap (λ (l : List (Option Filled)). Some x ∷ l) (map_snoc xs f)

-- what stands first among nodes that are all filled
front : (x : Option Filled) (nodes : List (Option Filled)) (rest : List Filled) → x ∷ nodes ≡ map Some rest → (f : Filled) × (more : List Filled) × (x ≡ Some f) × (nodes ≡ map Some more) × (rest ≡ f ∷ more)
front x nodes [] e = absurd (cc e)
front x nodes (f ∷ more) e = (f, more, cc e, cc e, refl)

pub begins : Flows [] (opening_view ∷ [])
begins = record {
  sender = 0;
  taker = 0;
  first = 0;
  sent = [];
  taken = [];
  rest = [];
  filled = refl;
  whole = refl;
  in_order = none_in_order 0;
  few = omega arith;
  each = all_set (PassFits 0 0 0 [] []) (opening_view ∷ []) 0 opening_view (record { pushes = λ _. (refl, refl, refl); pops = λ _. (refl, refl, refl) })
      (λ j u other e. absurd (other (at_end [] opening_view u j (λ x. some-ne-none u (sym x)) e)));
}

pub sends : (n port : ℕ) (v : FlowView) (x : Option Filled) → v.pushes ≡ true → CanSend v x → Pushes Flows n port v x (λ w. (f : Filled) → x ≡ Some f → w ≡ sent_on v f)
sends n port v x may can nodes views _ h at =
    let f : Filled = can.0 in let w : FlowView = sent_on v f in let mine = h.each port v at in let is : v.sent ≡ h.sent = (mine.pushes may).1 in let from : v.first ≡ h.first = (mine.pushes may).2 in let sent : List Filled = h.sent ++ f ∷ [] in
    let comes : ComesNext h.first h.sent f = subst (λ (y : ℕ × List Filled). ComesNext y.0 y.1 f) (λ k. (from k, is k)) can.2 in (
      w,
      record {
        sender = h.sender;
        taker = h.taker;
        first = h.first;
        sent = sent;
        taken = h.taken;
        rest = h.rest ++ f ∷ [];
        filled = (λ k. h.filled k ++ can.1 k ∷ []) ∙ map_snoc h.rest f;
        whole = ap (λ (l : List Filled). l ++ f ∷ []) h.whole ∙ append_assoc h.taken h.rest (f ∷ []);
        in_order = one_more h.first h.sent f h.in_order comes;
        few = (let q = length-append h.sent (f ∷ []) in let c = comes.few in omega arith);
        each = all_set (PassFits h.sender h.taker h.first sent h.taken) views port w (record { pushes = λ _. ((mine.pushes may).0, ap (λ (l : List Filled). l ++ f ∷ []) is, from); pops = mine.pops })
            (λ j u other e. record { pushes = λ p. absurd (other (((h.each j u e).pushes p).0 ∙ sym (mine.pushes may).0)); pops = (h.each j u e).pops });
      },
      λ f' e. ap (sent_on v) (let same : Some f ≡ Some f' = sym can.1 ∙ e in cc same),
    )

-- a pass that pushes goes on to push
pub still_pushes : (I K : Type 0) (v w : FlowView) (x : Option Filled) (r : Result (Unit {0}) (Option Filled)) → v.pushes ≡ true → CanSend v x
    → MatchResult r (λ _. ((f : Filled) → x ≡ Some f → w ≡ sent_on v f) × I) (λ y. (y ≡ x) × (w ≡ v) × K) → w.pushes ≡ true
still_pushes I K v w x (Ok u) may can told = ap (λ (y : FlowView). y.pushes) (told.0 can.0 can.1) ∙ may
still_pushes I K v w x (Err e) may can told = ap (λ (y : FlowView). y.pushes) told.1 ∙ may

pub takes : (port : ℕ) (v : FlowView) → v.pops ≡ true → Pops Flows port v (λ x w. (f : Filled) × (x ≡ Some f) × (w ≡ taken_on v f) × ComesNext v.first v.taken f)
takes port v may x nodes views h at =
    let fr = front x nodes h.rest h.filled in let f : Filled = fr.0 in let more : List Filled = fr.1 in let w : FlowView = taken_on v f in let mine = h.each port v at in let is : v.taken ≡ h.taken = (mine.pops may).1 in let from : v.first ≡ h.first = (mine.pops may).2 in let taken : List Filled = h.taken ++ f ∷ [] in
    let whole : h.sent ≡ h.taken ++ f ∷ more = h.whole ∙ ap (λ (l : List Filled). h.taken ++ l) fr.4 in
    let there = begins_after h.first h.taken f more (subst (λ (l : List Filled). IsContiguous h.first (records_of l)) whole h.in_order) in
    let n = length-append h.taken (f ∷ more) in let m : length h.sent ≡ length (h.taken ++ f ∷ more) = ap length whole in (
      w,
      record {
        sender = h.sender;
        taker = h.taker;
        first = h.first;
        sent = h.sent;
        taken = taken;
        rest = more;
        filled = fr.3;
        whole = whole ∙ sym (append_assoc h.taken (f ∷ []) more);
        in_order = h.in_order;
        few = h.few;
        each = all_set (PassFits h.sender h.taker h.first h.sent taken) views port w (record { pushes = mine.pushes; pops = λ _. ((mine.pops may).0, ap (λ (l : List Filled). l ++ f ∷ []) is, from) })
            (λ j u other e. record { pushes = (h.each j u e).pushes; pops = λ p. absurd (other (((h.each j u e).pops p).0 ∙ sym (mine.pops may).0)) });
      },
      (
        f,
        fr.2,
        refl,
        record {
          next = there.0 ∙ (λ k. end_after (sym from k) (records_of (sym is k)));
          some = there.1;
          few = (let l : length v.taken ≡ length h.taken = ap length is in let s = h.few in omega arith);
        },
      ),
    )

pub splits : (port : ℕ) (v : FlowView) (first : ℕ) → v ≡ opening_view → Forks Flows port v (send_opened first) (flush_opened first)
splits port v first is nodes views h at =
    let l : FlowView = send_opened first in let r : FlowView = flush_opened first in let mine = h.each port v at in let vs : List FlowView = set views port l in
    let a : v.pushes ≡ true = ap (λ (x : FlowView). x.pushes) is in let b : v.pops ≡ true = ap (λ (x : FlowView). x.pops) is in
    let none : h.sent ≡ [] = sym (mine.pushes a).1 ∙ ap (λ (x : FlowView). x.sent) is in let taken : h.taken ≡ [] = sym (mine.pops b).1 ∙ ap (λ (x : FlowView). x.taken) is in
    let rest : h.rest ≡ [] = ap (λ (x : List Filled). x ++ h.rest) (sym taken) ∙ sym h.whole ∙ none in
    let Old : ℕ → FlowView → Type 0 = λ j u. (u.pushes ≡ true → (j ≡ port) × (u.sent ≡ []) × (u.first ≡ first)) × (u.pops ≢ true) in
    let old : All Old vs = all_set Old views port l ((λ _. (refl, refl, refl)), λ p. true≢false (sym p))
    (λ j u other e. ((λ p. absurd (other (((h.each j u e).pushes p).0 ∙ sym (mine.pushes a).0))), λ p. other (((h.each j u e).pops p).0 ∙ sym (mine.pops b).0))) in
    record {
      sender = port;
      taker = length vs;
      first = first;
      sent = [];
      taken = [];
      rest = [];
      filled = h.filled ∙ ap (λ (x : List Filled). map Some x) rest;
      whole = refl;
      in_order = none_in_order first;
      few = omega arith;
      each = λ j u e. ⊎_elim (λ x. record { pushes = (old j u x).0; pops = λ p. absurd ((old j u x).1 p) })
          (λ (same : r ≡ u). record { pushes = λ p. absurd (true≢false (sym (ap (λ (y : FlowView). y.pushes) same ∙ p))); pops = λ p. (at_end vs r u j (λ x. (old j u x).1 p) e, ap (λ (y : FlowView). y.taken) (sym same), ap (λ (y : FlowView). y.first) (sym same)) }) (at_snoc vs r u j e);
    }

pub ends : (port : ℕ) (v : FlowView) (other : ℕ) (u : FlowView) → v.pops ≡ true → u.pushes ≡ true → Merges Flows port v other u (ended_view u v) used_up_view
ends port v other u a b nodes views h at two at' =
    let both : FlowView = ended_view u v in let mine = h.each port v at in let vs : List FlowView = set views port both in
    let was : get_elem? views other ≡ some u = ⊎_elim (λ x. absurd (two x.0)) (λ x. x.1) (at_set views port other both u at') in let theirs = (h.each other u was).pushes b in let own = mine.pops a in
    let Now : ℕ → FlowView → Type 0 = λ j y. j ≢ other → PassFits port h.taker h.first h.sent h.taken j y in
    let now : All Now vs = all_set Now views port both (λ _. record { pushes = λ _. (refl, theirs.1, own.2); pops = λ _. own })
    (λ j y _ e apart. record { pushes = λ p. absurd (apart (((h.each j y e).pushes p).0 ∙ sym theirs.0)); pops = (h.each j y e).pops }) in
    record {
      sender = port;
      taker = h.taker;
      first = h.first;
      sent = h.sent;
      taken = h.taken;
      rest = h.rest;
      filled = h.filled;
      whole = h.whole;
      in_order = h.in_order;
      few = h.few;
      each = all_set (PassFits port h.taker h.first h.sent h.taken) vs other used_up_view (record { pushes = λ p. absurd (true≢false (sym p)); pops = λ p. absurd (true≢false (sym p)) }) (λ j y apart e. now j y e apart);
    }
