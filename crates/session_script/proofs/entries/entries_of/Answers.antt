use Rattle.std.proofs.Common.{rules, ℕ, List, ◌∷◌, Err, ap, ◌∙◌}
use Rattle.std.specs.Prelude.{codes}
use Rattle.session_script.specs.declared.fault.LineFault.{LineFault}
use Rattle.session_script.proofs.Comparing.{differs, agrees}
use Rattle.session_script.proofs.EntriesSoFar.{handed_on, no_entry_so_far, no_next, no_semicolon, entry_more, all_spelled}
use Rattle.session_script.proofs.entries.entries_of.Goals as goal

pub loop-entries-init : goal.loop-entries-init
loop-entries-init c = no_entry_so_far c.args.words.now c.in_ok-entries.entries c.in_ok-entries.ensures

pub returns-in_err-entry-clause-bad : goal.returns-in_err-entry-clause-bad
returns-in_err-entry-clause-bad c e =
    no_next c.args.words.now c.loop-entries.words c.loop-entries.entries c.loop-entries.invariant
    (c.in_err-entry.ensures.bad (ap (λ (x : LineFault). Err x)
    (handed_on c.from_residual-in_err-entry.result c.in_err-entry.field-0.0 c.from_residual-in_err-entry.ensures.1 e)))

pub returns-in_default-clause-ok : goal.returns-in_default-clause-ok
returns-in_default-clause-ok c =
    all_spelled c.args.words.now c.loop-entries.words c.loop-entries.entries c.loop-entries.invariant c.in_ok-entry.ensures.entry.0
    c.next_entry.new.words c.in_ok-entry.entry c.in_ok-entry.ensures.entry.1 c.in_ok-entry.ensures.entry.2 c.push.new.self
    (search rules) c.in_default.ensures.none.0

pub returns-then-ne-clause-bad : goal.returns-then-ne-clause-bad
returns-then-ne-clause-bad c e =
    no_semicolon c.args.words.now c.loop-entries.words c.loop-entries.entries c.loop-entries.invariant c.in_ok-entry.ensures.entry.0
    c.next_entry.new.words c.in_ok-entry.entry c.in_ok-entry.ensures.entry.1 c.in_ok-entry.ensures.entry.2 c.in-Some.word.now c.next.new.self
    c.in-Some.ensures.some (differs c.in-Some.word.now (codes ";") c.as_slice.result.now c.ne.result c.ne.ensures c.as_slice.ensures c.if-ne.true)

pub loop-entries-preserved : goal.loop-entries-preserved
loop-entries-preserved c =
    entry_more c.args.words.now c.loop-entries.words c.loop-entries.entries c.loop-entries.invariant c.in_ok-entry.ensures.entry.0
    c.next_entry.new.words c.in_ok-entry.entry c.in_ok-entry.ensures.entry.1 c.in_ok-entry.ensures.entry.2 c.push.new.self
    (search rules) c.next.new.self
    (c.in-Some.ensures.some
    ∙ ap (λ (w : List ℕ). w ∷ c.next.new.self)
    (agrees c.in-Some.word.now (codes ";") c.as_slice.result.now c.ne.result c.ne.ensures c.as_slice.ensures c.if-ne.false))
