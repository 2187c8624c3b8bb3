-- Key by key.
use Rattle.std.proofs.Common.{◌≡◌, ◌∙◌, ◌+◌, List, ℕ, sym, subst}
use Rattle.made_load.specs.Load.{load_key}
use Rattle.script_runner.proofs.CountsKeys.{KeysSoFar, no_key_yet, some_reader, one_live, none_live, all_counted}
use Rattle.script_runner.proofs.loads.count_live.Goals.{then-is_some, else-is_some}
use Rattle.script_runner.proofs.loads.count_live.Goals as goal

pub loop-index-init : goal.loop-index-init
loop-index-init g c = no_key_yet g.N.PipeName.opening c.args.readers.now c.requires.some

pub get-requires : goal.get-requires
get-requires g c = record {
  some = some_reader g.N.PipeName.opening c.args.readers.now c.loop-index.readers c.loop-index.index c.loop-index.live c.loop-index.invariant;
}

pub loop-index-preserved : goal.loop-index-preserved
loop-index-preserved g c =
    let opening = g.N.PipeName.opening in
    let old = c.args.readers.now in
    let mid = c.loop-index.readers in
    let new = c.get.new.self in
    let index = c.loop-index.index in
    let key : List ℕ = c.as_slice.result.now in
    let key_is : key ≡ load_key index = c.as_slice.ensures ∙ c.in_ok-key.ensures in
    elim c.if-is_some.branch [
      | then-is_some w ↦ subst (KeysSoFar opening old new (index + 1)) (sym w.live-is)
          (one_live opening old mid new index c.loop-index.live key c.in_ok-get.field-0 c.loop-index.invariant c.loop-index-test.true key_is
          c.in_ok-get.ensures (sym c.is_some.ensures ∙ w.if-is_some.true))
      | else-is_some w ↦ subst (KeysSoFar opening old new (index + 1)) (sym w.live-is)
          (none_live opening old mid new index c.loop-index.live key c.in_ok-get.field-0 c.loop-index.invariant c.loop-index-test.true key_is
          c.in_ok-get.ensures (sym c.is_some.ensures ∙ w.if-is_some.false))
    ]

pub returns : goal.returns
returns g c =
    all_counted g.N.PipeName.opening c.args.readers.now c.loop-index.readers c.loop-index.index c.loop-index.live c.loop-index-test.false
    c.loop-index.invariant
