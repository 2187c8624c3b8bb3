use Rattle.std.proofs.Common.{◌≡◌, ℕ, ◌+◌, ◌-◌, List, [], ◌∷◌, ◌++◌, length, map, sym, ap, subst, ◌∙◌, arith, rules, length-append}
use Rattle.std.specs.Map.Iter.{deref_pair}
use Rattle.std.proofs.lemmas.Map.Iter.{rest_more}
use Rattle.batch_repr.specs.Written.{written}
use Rattle.disk_face.specs.Image.{log_number}
use Rattle.text_lines.specs.Holding.{shown}
use Rattle.table_text.specs.Tables.{IsHeldWithin, head_bytes, set_batch, set_batches}
use Rattle.table_text.specs.Writing.{HasLaid}
use Rattle.table_text.proofs.Laid.{lays_none}
use Rattle.table_text.proofs.LiveRows.{gone_over, written_push, written_none, next_within, gone_on}
use Rattle.table_text.proofs.Written.{record_short}
use Rattle.table_text.proofs.writing.put_table_text.Goals as goal

pub loop-key-init : goal.loop-key-init
loop-key-init c =
    let log = log_number c.args.upto in
    let start : c.new-framer.result ≡ record { log = log; place = 0 } = c.new-framer.ensures ∙ ap (λ (n : ℕ). record { log = n; place = 0 }) c.log_of.ensures in
    let number : ℕ = c.args.next - c.len-keys.result in
    let records : c.head_of.result ∷ [] ≡ head_bytes c.args.next c.len-keys.result ∷ map written (set_batches number []) =
    (λ i. c.head_of.ensures i ∷ sym (written_none number) i) in
    record {
      laid = subst (λ (rs : List (List ℕ)). HasLaid log rs c.lay.new.framer c.lay.new.out) records
          (c.in_ok-lay.ensures log [] (lays_none log c.new-framer.result c.in_ok-out.out start c.in_ok-out.ensures));
      number_is = omega arith;
      left = search rules;
    }

pub put_set-requires : goal.put_set-requires
put_set-requires c =
    let next = rest_more deref_pair c.loop-key.key-iterator c.next.new.self c.next.result (c.in-Some.key, c.in-Some.value) c.in-Some.is c.next.ensures.steps in
    next_within c.loop-key.yielded (c.in-Some.key, c.in-Some.value) c.loop-key.key-iterator c.next.new.self c.args.live.now.entries c.loop-key.invariant.left next c.requires.within

pub lay-requires-in-loop-key : goal.lay-requires-in-loop-key
lay-requires-in-loop-key c =
    let next = rest_more deref_pair c.loop-key.key-iterator c.next.new.self c.next.result (c.in-Some.key, c.in-Some.value) c.in-Some.is c.next.ensures.steps in
    let within : IsHeldWithin (shown (c.in-Some.key.now, c.in-Some.value.now)) =
    next_within c.loop-key.yielded (c.in-Some.key, c.in-Some.value) c.loop-key.key-iterator c.next.new.self c.args.live.now.entries c.loop-key.invariant.left next c.requires.within in
    let text : c.as_slice.result.now ≡ written (set_batch c.loop-key.number (shown (c.in-Some.key.now, c.in-Some.value.now))) = c.as_slice.ensures.value
    ∙ c.in_ok-put_set.ensures ∙ ap (λ (t : List ℕ). t ++ written (set_batch c.loop-key.number (shown (c.in-Some.key.now, c.in-Some.value.now)))) c.clear.ensures.items in
    omega (arith, ap length text, record_short c.loop-key.number (shown (c.in-Some.key.now, c.in-Some.value.now)) within)

pub loop-key-preserved : goal.loop-key-preserved
loop-key-preserved c =
    let log = log_number c.args.upto in
    let number : ℕ = c.args.next - c.len-keys.result in
    let head : List ℕ = head_bytes c.args.next c.len-keys.result in
    let next = rest_more deref_pair c.loop-key.key-iterator c.next.new.self c.next.result (c.in-Some.key, c.in-Some.value) c.in-Some.is c.next.ensures.steps in
    let so_far : List (List ℕ) = map written (set_batches number (gone_over c.loop-key.yielded)) in
    let text : c.as_slice.result.now ≡ written (set_batch (number + length c.loop-key.yielded) (shown (c.in-Some.key.now, c.in-Some.value.now))) = c.as_slice.ensures.value
    ∙ c.in_ok-put_set.ensures ∙ ap (λ (t : List ℕ). t ++ written (set_batch c.loop-key.number (shown (c.in-Some.key.now, c.in-Some.value.now)))) c.clear.ensures.items
    ∙ ap (λ (n : ℕ). written (set_batch n (shown (c.in-Some.key.now, c.in-Some.value.now)))) c.loop-key.invariant.number_is in
    let records : (head ∷ so_far) ++ c.as_slice.result.now ∷ [] ≡ head ∷ map written (set_batches number (gone_over (c.loop-key.yielded ++ (c.in-Some.key, c.in-Some.value) ∷ []))) =
    ap (λ (t : List ℕ). head ∷ so_far ++ t ∷ []) text ∙ ap (λ (rs : List (List ℕ)). head ∷ rs) (sym (written_push number c.loop-key.yielded (c.in-Some.key, c.in-Some.value))) in
    record {
      laid = subst (λ (rs : List (List ℕ)). HasLaid log rs c.lay-in-loop-key.new.framer c.lay-in-loop-key.new.out) records
          (c.in_ok-lay-2.ensures log (head ∷ so_far) c.loop-key.invariant.laid);
      number_is = omega (arith, c.loop-key.invariant.number_is, length-append c.loop-key.yielded ((c.in-Some.key, c.in-Some.value) ∷ []));
      left = gone_on c.loop-key.yielded (c.in-Some.key, c.in-Some.value) c.loop-key.key-iterator c.next.new.self c.args.live.now.entries c.loop-key.invariant.left next;
    }
