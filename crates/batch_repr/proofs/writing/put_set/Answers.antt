use Rattle.std.proofs.Common.{◌≡◌, ◌++◌, ℕ, [], ◌∷◌, List, ap, ◌∙◌, append_assoc, append-nil, rules}
use Rattle.std.specs.Int.{w32, w64, to_le_bytes}
use Rattle.wal_base.specs.declared.entry.Entry.TheVariants.{Set}
use Rattle.batch_repr.specs.Written.{written, written_entries, written_entry}
use Rattle.batch_repr.proofs.writing.put_set.Goals as goal

-- the parts of a text, added one after another
in_turn : (out one two all a b e : List ℕ) → one ≡ out ++ a → two ≡ one ++ b → all ≡ two ++ e → all ≡ out ++ (a ++ (b ++ (e ++ [])))
in_turn out one two all a b e first second third =
    third ∙ ap (λ (t : List ℕ). t ++ e) second ∙ ap (λ (t : List ℕ). (t ++ b) ++ e) first ∙ simp (append_assoc, append-nil)

pub returns : goal.returns
unfolding written written_entries
returns c =
    let one : c.extend_from_slice.new.self.items ≡ c.args.out.now.items ++ to_le_bytes w64 c.args.first = search rules in
    let two : c.extend_from_slice-2.new.self.items ≡ c.extend_from_slice.new.self.items ++ to_le_bytes w32 1 = search rules in
    in_turn c.args.out.now.items c.extend_from_slice.new.self.items c.extend_from_slice-2.new.self.items c.push_set.new.out.items (to_le_bytes w64 c.args.first)
    (to_le_bytes w32 1) (written_entry (Set c.args.key.now c.args.value.now)) one two c.in_ok-push_set.ensures.ok
