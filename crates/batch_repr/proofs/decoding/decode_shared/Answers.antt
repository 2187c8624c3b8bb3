use Rattle.std.proofs.Common.{ℕ, List, sym, subst}
use Rattle.batch_repr.specs.Spelling.{SpellsBatch}
use Rattle.batch_repr.proofs.Written.{written_spells}
use Rattle.batch_repr.proofs.Agreement.{is_found, is_only, is_first}
use Rattle.batch_repr.proofs.decoding.decode_shared.Goals as goal

pub returns-clause-found : goal.returns-clause-found
returns-clause-found c = is_found c.args.text.now c.outcome.result c.outcome.ensures.bytes c.outcome.ensures.met

pub returns-clause-only : goal.returns-clause-only
returns-clause-only c = λ batch s. is_only c.args.text.now c.outcome.result batch c.outcome.ensures.met s

pub returns-clause-written : goal.returns-clause-written
returns-clause-written c = λ batch fits within e.
    is_only c.args.text.now c.outcome.result batch c.outcome.ensures.met
    (subst (λ (x : List ℕ). SpellsBatch x batch) (sym e) (written_spells batch fits within))

pub returns-clause-first : goal.returns-clause-first
returns-clause-first c = λ fault f. is_first c.args.text.now c.outcome.result fault c.outcome.ensures.met f
