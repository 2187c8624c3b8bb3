use Rattle.std.proofs.Common.{ℕ, List, sym, subst}
use Rattle.batch_repr.specs.Spelling.{SpellsBatch}
use Rattle.batch_repr.proofs.Written.{written_spells}
use Rattle.batch_repr.proofs.Blocks.{adds_found, adds_only, adds_first}
use Rattle.batch_repr.proofs.reader.BatchReader.add.Goals as goal

pub returns-clause-found : goal.returns-clause-found
returns-clause-found c = adds_found c.args.text.now c.args.self c.read.result c.read.ensures.bytes c.read.ensures.met

pub returns-clause-only : goal.returns-clause-only
returns-clause-only c = λ batch s. adds_only c.args.text.now c.args.self c.read.result batch c.read.ensures.met s

pub returns-clause-written : goal.returns-clause-written
returns-clause-written c = λ batch fits within e.
    adds_only c.args.text.now c.args.self c.read.result batch c.read.ensures.met
    (subst (λ (x : List ℕ). SpellsBatch x batch) (sym e) (written_spells batch fits within))

pub returns-clause-first : goal.returns-clause-first
returns-clause-first c = λ fault f. adds_first c.args.text.now c.args.self c.read.result fault c.read.ensures.met f
