-- What a pass learns of the nodes that are on their way.
use Rattle.std.proofs.Common.{◌≡◌, ℕ, List, [], ◌∷◌, ◌++◌, map, Option, Some, None, MatchOption, IfNone, sym, refl, ap, ◌∙◌, subst}
use Rattle.std.proofs.lemmas.List.{append-nil}
use Rattle.crossbeam_queue.specs.Fifo.{Learns}
use Rattle.wal_base.specs.Prefixes.{IsPrefixOf}
use Rattle.batch_repr.specs.Batches.{IsContiguous}
use Rattle.record_queue.specs.declared.node.Filled.{Filled}
use Rattle.record_flow.specs.declared.rule.FlowView.{FlowView}
use Rattle.record_flow.specs.Views.{first_numbers, records_of}
use Rattle.record_flow.specs.Flows.{Flows, HasEnded, OnTheWay}
use Rattle.record_flow.specs.Theorems.{TakenIsPrefixOfSent}

pub learns : (port : ℕ) (v : FlowView) → Learns Flows port v (OnTheWay v)
learns port v nodes views h at = let mine = h.each port v at in record {
  first = h.first;
  sent = h.sent;
  taken = h.taken;
  rest = h.rest;
  filled = h.filled;
  whole = h.whole;
  by_sender = λ p. ((mine.pushes p).1, (mine.pushes p).2);
  by_taker = λ p. ((mine.pops p).1, (mine.pops p).2);
}

-- what was taken is a prefix of what was sent, where one pass knows both
pub prefix_known : (v : FlowView) (nodes : List (Option Filled)) → HasEnded v → OnTheWay v nodes → IsPrefixOf v.taken v.sent
prefix_known v nodes e o = (o.rest, (o.by_sender e.0).0 ∙ o.whole ∙ ap (λ (l : List Filled). l ++ o.rest) (sym (o.by_taker e.1).0))

nothing : (xs : List Filled) → [] ≡ map {A = Filled} {B = Option Filled} Some xs → xs ≡ []
nothing [] e = refl
nothing (x ∷ xs) e = absurd (cc e)

-- nothing is left on its way, so all that was sent is taken
all_taken : (v : FlowView) → OnTheWay v [] → HasEnded v → v.sent ≡ v.taken
all_taken v o e =
    let none : o.rest ≡ [] = nothing o.rest o.filled in
    (o.by_sender e.0).0 ∙ o.whole ∙ ap (λ (l : List Filled). o.taken ++ l) none ∙ append-nil o.taken ∙ sym (o.by_taker e.1).0

-- a pass that found nothing on its way, and knows that nothing more is sent
pub none_left : (K : Type 0) (F : Option Filled → Type 0) (v : FlowView) (r : Option (Option Filled)) → MatchOption r (K × OnTheWay v []) F → IfNone r (HasEnded v → v.sent ≡ v.taken)
none_left K F v None told = λ e. all_taken v told.1 e
none_left K F v (Some x) told = tt

numbers_append : (xs ys : List Filled) → first_numbers (xs ++ ys) ≡ first_numbers xs ++ first_numbers ys
numbers_append [] ys = refl
numbers_append (x ∷ xs) ys = ap (λ (l : List ℕ). x.rec.first ∷ l) (numbers_append xs ys)

pub taken_is_prefix : TakenIsPrefixOfSent
taken_is_prefix nodes views i j s p h at may at' may' =
    let sender = (h.each i s at).pushes may in let taker = (h.each j p at').pops may' in
    let whole : s.sent ≡ p.taken ++ h.rest = sender.1 ∙ h.whole ∙ ap (λ (l : List Filled). l ++ h.rest) (sym taker.1) in
    record {
      numbers = (first_numbers h.rest, ap first_numbers whole ∙ numbers_append p.taken h.rest);
      records = (h.rest, whole);
      first = taker.2 ∙ sym sender.2;
      in_order = subst (λ (y : ℕ × List Filled). IsContiguous y.0 (records_of y.1)) (λ k. (sym sender.2 k, sym sender.1 k)) h.in_order;
    }
