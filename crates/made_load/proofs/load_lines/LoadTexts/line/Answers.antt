use Rattle.std.proofs.Common.{sym, subst, ap, ◌∙◌}
use Rattle.batch_repr.specs.Building.{MakesBatch}
use Rattle.made_load.specs.Load.{load_line, load_entries}
use Rattle.made_load.specs.EveryNth.{nth_number}
use Rattle.made_load.proofs.LoadEntries.{makes_batch}
use Rattle.made_load.proofs.LoadMade.{is_made, commits}
use Rattle.made_load.proofs.load_lines.LoadTexts.line.Goals as goal

pub unwrap-requires : goal.unwrap-requires
unwrap-requires c =
    let all = c.args.self.now.batches in
    is_made c.of.result (MakesBatch c.in_ok-entries.entries) c.of.ensures.none
    (subst MakesBatch (sym c.in_ok-entries.ensures) (makes_batch all.seed (nth_number all c.args.place)))

pub returns : goal.returns
returns c =
    let all = c.args.self.now.batches in
    let index = c.number-index.result in
    commits all.seed index c.is_synced.result c.of.result c.in_ok-entries.entries c.unwrap.result c.is_synced.ensures c.unwrap.ensures
    c.of.ensures.some (c.in_ok-entries.ensures ∙ ap (load_entries all.seed) (sym c.number-index.ensures))
    ∙ ap (load_line all.seed) c.number-index.ensures
