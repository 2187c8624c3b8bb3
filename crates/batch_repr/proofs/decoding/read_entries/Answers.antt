use Rattle.std.proofs.Common.{◌≡◌, ◌-◌, ◌++◌, ◌∷◌, [], arith, length, take, drop, refl, sym, ap, ◌∙◌, append_assoc, length-drop, List}
use Rattle.std.proofs.lemmas.List.{append-nil, length_push, take-append-drop, take_rest}
use Rattle.wal_base.specs.declared.entry.Entry.{Entry}
use Rattle.batch_repr.proofs.Entries.{EntriesAt-push}
use Rattle.batch_repr.proofs.decoding.read_entries.Goals as goal

pub loop-rest-init : goal.loop-rest-init
loop-rest-init c =
    let rest : take (length c.as_slice.result.now - 12) (drop 12 c.as_slice.result.now) ≡ drop 12 c.args.text.now =
    take_rest c.as_slice.result.now 12 ∙ ap (drop 12) c.as_slice.ensures in
    record {
      read = [];
      added = sym (append-nil c.args.entries.now.items);
      so_far = rw rest refl;
      ends = rw rest (take 12 c.args.text.now, sym (take-append-drop 12 c.args.text.now));
      few = rw rest (omega (arith, length-drop 12 c.args.text.now));
    }

pub loop-rest-preserved : goal.loop-rest-preserved
loop-rest-preserved c =
    let i = c.loop-rest.invariant in
    let entry = c.in_ok-entry.entry in
    record {
      read = i.read ++ entry ∷ [];
      added = c.in_ok-push.ensures.items ∙ ap (λ (es : List Entry). es ++ entry ∷ []) i.added ∙ append_assoc c.args.entries.now.items i.read (entry ∷ []);
      so_far = EntriesAt-push (length c.args.text.now) (drop 12 c.args.text.now) i.read c.loop-rest.rest.now entry
          c.in_ok-entry.after.now i.so_far c.in_ok-entry.ensures.exact;
      ends = c.in_ok-entry.ensures.rest;
      few = rw length_push (omega (arith, c.in_ok-entry.ensures.shorter, i.few));
    }
