-- Line by line each session has its count.
use Rattle.std.specs.Prelude.{◌≡◌, ◌<◌, ◌≤◌, length, slice_index, vec_len}
use Rattle.std.proofs.Common.{ap, ◌∙◌, arith, rules}
use Rattle.std.proofs.lemmas.List.{get_or_default}
use Rattle.session_replies.specs.declared.script.Line.{Line}
use Rattle.session_rounds.proofs.AreDealt.{is_of_some, counts_within, one_counted}
use Rattle.session_rounds.proofs.playing.count_lines.Goals as goal

pub overflow_add-index_mut : goal.overflow_add-index_mut
overflow_add-index_mut c =
    let lines = c.args.lines.now in
    let line = c.line-item.result in
    let counts = c.loop-line.counts.items in
    let count : length counts ≡ vec_len c.loop-line.counts = search rules in
    let some = is_of_some c.args.sessions lines c.loop-line.line-index line c.requires c.loop-line-test.true in
    let here : line.session < length counts =
    omega (arith, some, ap (λ (l : Line). l.session) c.line-item.is, c.loop-line.invariant.all, count) in
    let was : c.index_mut.result.now ≡ slice_index counts line.session = c.index_mut.ensures.value ∙ get_or_default counts line.session _ 0 here in
    let within : c.index_mut.result.now ≤ c.loop-line.line-index =
    omega (arith, was, counts_within lines c.loop-line.line-index line.session counts c.loop-line.invariant.each) in
    search rules

pub loop-line-preserved : goal.loop-line-preserved
loop-line-preserved c =
    let lines = c.args.lines.now in
    let line = c.line-item.result in
    let counts = c.loop-line.counts.items in
    let count : length counts ≡ vec_len c.loop-line.counts = search rules in
    let some = is_of_some c.args.sessions lines c.loop-line.line-index line c.requires c.loop-line-test.true in
    let here : line.session < length counts =
    omega (arith, some, ap (λ (l : Line). l.session) c.line-item.is, c.loop-line.invariant.all, count) in
    let was : c.index_mut.result.now ≡ slice_index counts line.session = c.index_mut.ensures.value ∙ get_or_default counts line.session _ 0 here in
    record {
      all = c.loop-line.invariant.all;
      each = one_counted lines c.loop-line.line-index line counts c.index_mut.result.now c.loop-line-test.true c.line-item.is here was
          c.loop-line.invariant.each;
    }
