-- What is dropped of the settled records and of the nodes is dropped of all the records.
use Rattle.std.proofs.Common.{◌≡◌, ◌∙◌, ◌-◌, min, ap, sym, subst, ℕ, List, Option, ◌++◌, length, drop, deque_len, arith, rules}
use Rattle.std.proofs.lemmas.List.{length-append, length-drop}
use Rattle.record_queue.specs.declared.node.Filled.{Filled}
use Rattle.record_queue.specs.Nodes.{linked_in, AreFilled}
use Rattle.record_queue.proofs.Linking.{linked_drop, drop_both}
use Rattle.record_queue.proofs.queue.RecordQueue.release.Goals as goal

pub invariant_of-self : goal.invariant_of-self
invariant_of-self c = let i = c.self.inside in
    let xs : List (Option Filled) = i.linked in
    let k : ℕ = c.saturating_sub.result in
    let d = linked_drop k xs c.self.invariant.2 in
    let v : i.records.items ++ linked_in xs ≡ c.args.self.now.records = (λ j. (c.self.view_is j).records) in
    let s : i.start ≡ c.args.self.now.start = (λ j. (c.self.view_is j).start) in
    let l = length-append i.records.items (linked_in xs) in
    let m : length (i.records.items ++ linked_in xs) ≡ length c.args.self.now.records = ap length v in
    let n : deque_len i.records ≡ length i.records.items = search rules in
    let full = c.self.invariant.2 in
    let cut = length-drop k xs in
    let new : length c.drop_linked.new.linked ≡ length (drop k xs) = ap length c.drop_linked.ensures in
    let front = c.drop_front.ensures.len in
    ((let a = c.requires in let b = c.min.ensures in let e = c.saturating_sub.ensures in let f = c.len-settled.ensures in let low = c.if-self-upto.true in let g = c.self.invariant.0 in omega arith), (let m = c.self.invariant.1 in omega arith), subst AreFilled (sym c.drop_linked.ensures) d.1, λ some. c.self.invariant.3 (omega arith))

pub returns-then-self-upto-clause-records : goal.returns-then-self-upto-clause-records
returns-then-self-upto-clause-records c = let i = c.self.inside in
    let xs : List (Option Filled) = i.linked in
    let k : ℕ = c.saturating_sub.result in
    let d = linked_drop k xs c.self.invariant.2 in
    let n : ℕ = c.args.upto - i.start in
    let settled : c.len-settled.result ≡ length i.records.items = search rules in
    let a : c.min.result ≡ min n (length i.records.items) = (let b = c.min.ensures in omega arith) in
    let b : k ≡ n - length i.records.items = (let e = c.saturating_sub.ensures in omega arith) in
    let front : c.drop_front.new.records.items ≡ drop (min n (length i.records.items)) i.records.items = c.drop_front.ensures.items ∙ ap (λ (j : ℕ). drop j i.records.items) a in
    let rest : linked_in c.drop_linked.new.linked ≡ drop (n - length i.records.items) (linked_in xs) = ap linked_in c.drop_linked.ensures ∙ d.0 ∙ ap (λ (j : ℕ). drop j (linked_in xs)) b in
    (λ j. front j ++ rest j) ∙ drop_both n i.records.items (linked_in xs) ∙ (λ j. drop (c.args.upto - (c.self.view_is j).start) (c.self.view_is j).records)

pub returns-then-self-upto-clause-end : goal.returns-then-self-upto-clause-end
returns-then-self-upto-clause-end c = let i = c.self.inside in
    let s : i.start ≡ c.args.self.now.start = (λ j. (c.self.view_is j).start) in
    let e : length (c.drop_front.new.records.items ++ linked_in c.drop_linked.new.linked) ≡ length (drop (c.args.upto - c.args.self.now.start) c.args.self.now.records) = ap length (returns-then-self-upto-clause-records c) in
    let cut = length-drop (c.args.upto - c.args.self.now.start) c.args.self.now.records in let r = c.requires in let low = c.if-self-upto.true in omega arith
