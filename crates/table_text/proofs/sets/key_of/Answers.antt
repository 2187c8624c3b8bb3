use Rattle.std.proofs.Common.{◌≡◌, [], ◌∷◌, refl, sym, ◌∙◌, arith, rules}
use Rattle.text_lines.specs.Store.{Held}
use Rattle.table_text.specs.Tables.{set_of}
use Rattle.table_text.proofs.sets.key_of.Goals as goal

pub returns : goal.returns
returns c =
    let held : Held = record { key = c.in-Some.key.now; value = c.in-Some.value.now } in
    let first : c.args.batch.now.first ≡ c.args.number = search rules in
    let entries : c.args.batch.now.entries ≡ set_of held ∷ [] = sym c.as_slice.ensures ∙ c.in-Some.ensures.some in
    record {
      held = held;
      is = record { within = (omega arith, omega arith); batch_is = λ i. record { first = first i; entries = entries i }; bytes_are = c.in_ok-is_written.ensures.0 c.if-not-branch.false };
      key_is = refl;
    }
