-- A record that comes next after others stands in order with them.
use Rattle.std.proofs.Common.{◌≡◌, ℕ, ◌+◌, ◌<◌, List, [], ◌∷◌, ◌++◌, length, refl, sym, ap, subst, ◌∙◌, arith, length-append}
use Rattle.batch_repr.specs.declared.batch.Batch.{Batch}
use Rattle.batch_repr.specs.Batches.{count_of, end_of, end_after, IsContiguous}
use Rattle.batch_repr.proofs.Laws.{contiguous_back, contiguous_push, end_push}
use Rattle.record_queue.specs.declared.node.Filled.{Filled}
use Rattle.record_flow.specs.declared.rule.FlowView.{FlowView}
use Rattle.record_flow.specs.Views.{records_of, send_opened, sent_on}
use Rattle.record_flow.specs.Flows.{ComesNext, next_to_send}

pub records_append : (xs ys : List Filled) → records_of (xs ++ ys) ≡ records_of xs ++ records_of ys
records_append [] ys = refl
records_append (x ∷ xs) ys = ap (λ (l : List Batch). x.rec ∷ l) (records_append xs ys)

pub none_in_order : (first : ℕ) → IsContiguous first []
unfolding IsContiguous
none_in_order first = tt

-- One more that comes next.
pub one_more : (first : ℕ) (xs : List Filled) (f : Filled) → IsContiguous first (records_of xs) → ComesNext first xs f
    → IsContiguous first (records_of (xs ++ f ∷ []))
one_more first xs f row c = subst (IsContiguous first) (sym (records_append xs (f ∷ []))) (contiguous_push first (records_of xs) f.rec row c.next c.some)

-- The record after the first ones begins where they end.
pub begins_after : (first : ℕ) (xs : List Filled) (f : Filled) (rest : List Filled) → IsContiguous first (records_of (xs ++ f ∷ rest))
    → (f.rec.first ≡ end_after first (records_of xs)) × (0 < count_of f.rec.entries)
unfolding IsContiguous
begins_after first xs f rest row =
    let r : IsContiguous (end_after first (records_of xs)) (f.rec ∷ records_of rest) = contiguous_back first (records_of xs) (f.rec ∷ records_of rest) (subst (IsContiguous first) (records_append xs (f ∷ rest)) row) in
    (r.0, r.1)

-- The first record of a new queue has its first number.
pub first_is_next : (first : ℕ) (v : FlowView) → v ≡ send_opened first → first ≡ next_to_send v
unfolding end_after
first_is_next first v new = ap (λ (x : FlowView). next_to_send x) (sym new)

-- The record that is sent next begins where the last one that was sent ends.
pub end_is_next : (v w : FlowView) (f : Filled) → w ≡ sent_on v f → end_of f.rec ≡ next_to_send w
end_is_next v w f sent = sym (ap (λ (x : FlowView). next_to_send x) sent ∙ ap (λ (l : List Batch). end_after v.first l) (records_append v.sent (f ∷ [])) ∙ end_push v.first (records_of v.sent) f.rec)

pub one_more_is_next : (n : ℕ) (v w : FlowView) (f : Filled) → w ≡ sent_on v f → f.rec.first ≡ n → count_of f.rec.entries ≡ 1 → n + 1 ≡ next_to_send w
one_more_is_next n v w f sent first one = (let e : end_of f.rec ≡ n + 1 = omega (arith, first, one) in sym e) ∙ end_is_next v w f sent

pub one_more_is_counted : (n : ℕ) (v w : FlowView) (f : Filled) → w ≡ sent_on v f → n ≡ length v.sent → n + 1 ≡ length w.sent
one_more_is_counted n v w f sent is = (let l = length-append v.sent (f ∷ []) in let e : n + 1 ≡ length (v.sent ++ f ∷ []) = omega arith in e) ∙ ap (λ (x : FlowView). length x.sent) (sym sent)
