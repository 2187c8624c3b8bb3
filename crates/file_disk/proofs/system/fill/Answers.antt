use Rattle.std.proofs.Common.{◌≡◌, ◌∙◌, take, sym, subst, rules}
use Rattle.std.specs.Io.KnownBytes.{Consumes}
use Rattle.std.proofs.lemmas.List.{take-append-le}
use Rattle.file_disk.proofs.Filled.{filled_on, read_on}
use Rattle.file_disk.proofs.system.fill.Goals as goal

pub loop-filled-preserved : goal.loop-filled-preserved
loop-filled-preserved g c =
    let copied : c.copy_from_slice.new.self ≡ take c.in_ok-count.count c.read_again.new.buf = c.copy_from_slice.ensures.after
    ∙ take-append-le c.in_ok-count.count c.read_again.new.buf _ c.in_ok-count.ensures.within in
    let more = subst (Consumes (g.I.Read.remaining c.loop-filled.input) (g.I.Read.remaining c.read_again.new.input)) (sym copied)
    c.in_ok-count.ensures.passed.0 in
    record {
      within = search rules;
      long = search rules;
      room = search rules;
      behind = filled_on c.loop-filled.filled c.in_ok-count.count c.loop-filled.buf c.args.buf.now c.copy_from_slice.new.self (search rules)
          (search rules) c.loop-filled.invariant.behind;
      read = read_on _ _ _ c.loop-filled.filled c.in_ok-count.count c.loop-filled.buf c.copy_from_slice.new.self (search rules)
          (search rules) c.loop-filled.invariant.read more;
    }
