use Rattle.std.proofs.Common.{◌≡◌, ℕ, List, ◌++◌, refl}
use Rattle.std.specs.List.{flat_map}
use Rattle.std.proofs.lemmas.Result.{on_ok_weaker}
use Rattle.text_lines.specs.Holding.{held_keys}
use Rattle.text_lines.specs.Store.{held_line, IsStoreText}
use Rattle.text_lines.proofs.Begins.{whole}
use Rattle.text_lines.proofs.store.put_store.Goals as goal

pub returns-clause-ok : goal.returns-clause-ok
returns-clause-ok c =
    let live = held_keys c.in_ok-live.live in
    whole (λ text. (lines : List ℕ) × IsStoreText c.args.batches.now lines × (text ≡ c.args.out.now ++ lines)) c.whole_or_none.new.out c.add_holding-added.new.out c.whole_or_none.result c.add_holding-added.result c.whole_or_none.ensures.same c.whole_or_none.ensures.ok
    (on_ok_weaker c.add_holding-added.result
    (λ is. (flat_map held_line live, record { store = live; is = c.in_ok-live.ensures.store; text_is = refl }, is)) c.add_holding-added.ensures.lines)
