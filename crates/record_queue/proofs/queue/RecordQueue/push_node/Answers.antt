-- The one node of the list is filled, and its record comes after the others.
use Rattle.std.proofs.Common.{refl, ◌≡◌, ◌∙◌, ◌<◌, ◌+◌, ◌-◌, ◌^◌, ap, sym, subst, List, Option, Some, ◌++◌, ◌∷◌, [], length, deque_len, arith, rules, append_assoc}
use Rattle.std.proofs.lemmas.List.{length-append}
use Rattle.batch_repr.specs.declared.batch.Batch.{Batch}
use Rattle.record_queue.specs.declared.node.Filled.{Filled}
use Rattle.record_queue.specs.Queue.{Queue}
use Rattle.record_queue.specs.Nodes.{linked_in, AreFilled}
use Rattle.record_queue.proofs.Linking.{alone, linked, full_more}
use Rattle.record_queue.proofs.queue.RecordQueue.push_node.Goals as goal

pub invariant_of-self : goal.invariant_of-self
invariant_of-self c = let i = c.self.inside in
    let xs : List (Option Filled) = i.linked in
    let ys : List (Option Filled) = c.node.inside.nodes in
    let f : Filled = c.requires.filled.0 in
    let one : ys ≡ Some f ∷ [] = alone ys f c.node.invariant (c.node.view_is ∙ c.requires.filled.1) in
    let few : i.start + deque_len i.records + length xs < 2 ^ 63 - 1 =
    (let v : i.records.items ++ linked_in xs ≡ c.args.self.now.records = (λ k. (c.self.view_is k).records) in
    let s : i.start ≡ c.args.self.now.start = (λ k. (c.self.view_is k).start) in
    let l = length-append i.records.items (linked_in xs) in
    let m : length (i.records.items ++ linked_in xs) ≡ length c.args.self.now.records = ap length v in
    let d : deque_len i.records ≡ length i.records.items = search rules in let r = c.requires.few in let full = c.self.invariant.2 in omega arith) in
    let n : length ys ≡ 1 = c.node.invariant in
    let new : c.append-linked.new.self ≡ xs ++ ys = (let ok = c.append-linked.ensures.succeeds (omega arith) in
    let e = c.append-linked.ensures.items in search rules) in
    let all : c.append-linked.new.self ≡ xs ++ Some f ∷ [] = new ∙ ap (λ (l : List (Option Filled)). xs ++ l) one in (
      (let a = ap length all in
          let b = length-append xs (Some f ∷ []) in omega arith),
      (let m = c.self.invariant.1 in omega arith),
      subst AreFilled (sym all) (full_more xs f c.self.invariant.2),
      λ _. refl,
    )

pub returns-clause-records : goal.returns-clause-records
returns-clause-records c = λ f is. let i = c.self.inside in
    let xs : List (Option Filled) = i.linked in
    let ys : List (Option Filled) = c.node.inside.nodes in
    let one : ys ≡ Some f ∷ [] = alone ys f c.node.invariant (c.node.view_is ∙ is) in
    let few : length xs < 2 ^ 63 - 1 =
    (let v : i.records.items ++ linked_in xs ≡ c.args.self.now.records = (λ k. (c.self.view_is k).records) in
    let l = length-append i.records.items (linked_in xs) in
    let m : length (i.records.items ++ linked_in xs) ≡ length c.args.self.now.records = ap length v in let r = c.requires.few in let full = c.self.invariant.2 in omega arith) in
    let n : length ys ≡ 1 = c.node.invariant in
    let new : c.append-linked.new.self ≡ xs ++ ys = (let ok = c.append-linked.ensures.succeeds (omega arith) in
    let e = c.append-linked.ensures.items in search rules) in
    ap (λ (l : List (Option Filled)). i.records.items ++ linked_in l) (new ∙ ap (λ (l : List (Option Filled)). xs ++ l) one) ∙ ap (λ (l : List Batch). i.records.items ++ l) (linked xs f) ∙ sym (append_assoc i.records.items (linked_in xs) (f.rec ∷ [])) ∙ ap (λ (q : Queue). q.records ++ f.rec ∷ []) c.self.view_is
