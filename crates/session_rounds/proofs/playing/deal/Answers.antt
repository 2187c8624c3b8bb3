-- Line by line each session has its lines.
use Rattle.std.specs.Prelude.{◌≡◌, ◌<◌, ℕ, length, Some, slice_get, vec_len}
use Rattle.std.proofs.Common.{ap, sym, subst, ◌∙◌, rules}
use Rattle.std.proofs.lemmas.Option.{slice_get-get_or}
use Rattle.session_rounds.specs.Transcripts.{blank_of}
use Rattle.session_rounds.proofs.AreDealt.{DealtSoFar, none_dealt, next_is_of_some, one_more}
use Rattle.session_rounds.proofs.playing.deal.Goals as goal

pub loop-line-init : goal.loop-line-init
loop-line-init g c =
    subst (DealtSoFar (blank_of c.args.transcript.now) c.args.sessions.items c.args.lines c.args.lines) (sym c.in_ok-turns.ensures)
    (none_dealt (blank_of c.args.transcript.now) c.args.sessions.items c.args.lines c.requires)

pub index_mut-requires : goal.index_mut-requires
index_mut-requires g c =
    let count : length c.loop-line.turns.items ≡ vec_len c.loop-line.turns = search rules in
    subst (λ (n : ℕ). c.in-Some.line.session < n) count
    (next_is_of_some (blank_of c.args.transcript.now) c.args.sessions.items c.args.lines c.loop-line.left c.pop.new.self c.in-Some.line c.loop-line.turns.items
    c.loop-line.invariant c.in-Some.ensures.some)

pub loop-line-preserved : goal.loop-line-preserved
loop-line-preserved g c =
    let line = c.in-Some.line in
    let turns = c.loop-line.turns.items in
    let turn = c.index_mut.result.now in
    let below : line.session < length turns =
    next_is_of_some (blank_of c.args.transcript.now) c.args.sessions.items c.args.lines c.loop-line.left c.pop.new.self line turns c.loop-line.invariant c.in-Some.ensures.some in
    let there : slice_get turns line.session ≡ Some turn =
    slice_get-get_or turns line.session turn below ∙ ap Some (sym c.index_mut.ensures.value) in
    one_more (blank_of c.args.transcript.now) c.args.sessions.items c.args.lines c.loop-line.left c.pop.new.self line turns turn c.put_first.new.self c.loop-line.invariant
    c.in-Some.ensures.some there c.in_ok-put_first.ensures
