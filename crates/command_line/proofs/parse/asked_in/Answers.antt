use Rattle.std.proofs.Common.{◌≡◌, ◌∙◌, ap, sym, Some, None, codes}
use Rattle.clap.specs.Walk.{first_of, rows_of}
use Rattle.clap.specs.Matches.{found_of}
use Rattle.clap.specs.Simple.{subcommand_rows_of}
use Rattle.clap.proofs.WalkLemmas.{first_value-rows}
use Rattle.command_line.specs.declared.asked.Asked.TheVariants as asks
use Rattle.command_line.specs.Program.{command_alone}
use Rattle.command_line.proofs.Entered.{met_is, nothing_read, some_read}
use Rattle.command_line.proofs.parse.asked_in.Goals as goal

pub returns-in_err-get_str-in-load-clause-none : goal.returns-in_err-get_str-in-load-clause-none
returns-in_err-get_str-in-load-clause-none c =
    let rows = rows_of (found_of c.in_ok-name.found.now) in
    let met = met_is c.args.matches.now c.in_ok-name.name.now rows c.in_ok-name.ensures.name c.in_ok-name.ensures.rows in
    let none : None ≡ first_of (codes "seed") rows = c.in_err-get_str-in-load.ensures ∙ first_value-rows (found_of c.in_ok-name.found.now) (codes "seed") in
    nothing_read c.from_residual-in_err-get_str-in-load.result (subcommand_rows_of c.args.matches.now) c.in_ok-name.name.now rows
    c.from_residual-in_err-get_str-in-load.ensures met
    (c.in-load.not-replay, ap command_alone c.in-load.is, λ is seed count has also. let bad : None ≡ Some seed = none ∙ has in cc)

pub returns-in_err-get_str-in-load-2-clause-none : goal.returns-in_err-get_str-in-load-2-clause-none
returns-in_err-get_str-in-load-2-clause-none c =
    let rows = rows_of (found_of c.in_ok-name.found.now) in
    let met = met_is c.args.matches.now c.in_ok-name.name.now rows c.in_ok-name.ensures.name c.in_ok-name.ensures.rows in
    let none : None ≡ first_of (codes "count") rows = c.in_err-get_str-in-load-2.ensures ∙ first_value-rows (found_of c.in_ok-name.found.now) (codes "count") in
    nothing_read c.from_residual-in_err-get_str-in-load-2.result (subcommand_rows_of c.args.matches.now) c.in_ok-name.name.now rows
    c.from_residual-in_err-get_str-in-load-2.ensures met
    (c.in-load.not-replay, ap command_alone c.in-load.is, λ is seed count has also. let bad : None ≡ Some count = none ∙ also in cc)

pub returns-in-replay-clause-some : goal.returns-in-replay-clause-some
returns-in-replay-clause-some c =
    let rows = rows_of (found_of c.in_ok-name.found.now) in
    let met = met_is c.args.matches.now c.in_ok-name.name.now rows c.in_ok-name.ensures.name c.in_ok-name.ensures.rows in
    some_read (subcommand_rows_of c.args.matches.now) c.in_ok-name.name.now rows (asks.Replay c.get_str.result) met
    (c.in-replay.is, c.get_str.ensures ∙ first_value-rows (found_of c.in_ok-name.found.now) (codes "threshold"))

pub returns-in_ok-get_str-in-load-2-clause-some : goal.returns-in_ok-get_str-in-load-2-clause-some
returns-in_ok-get_str-in-load-2-clause-some c =
    let rows = rows_of (found_of c.in_ok-name.found.now) in
    let met = met_is c.args.matches.now c.in_ok-name.name.now rows c.in_ok-name.ensures.name c.in_ok-name.ensures.rows in
    some_read (subcommand_rows_of c.args.matches.now) c.in_ok-name.name.now rows
    (asks.Load c.in_ok-get_str-in-load.field-0 c.in_ok-get_str-in-load-2.field-0) met (
      c.in-load.is,
      sym (c.in_ok-get_str-in-load.ensures ∙ first_value-rows (found_of c.in_ok-name.found.now) (codes "seed")),
      sym (c.in_ok-get_str-in-load-2.ensures ∙ first_value-rows (found_of c.in_ok-name.found.now) (codes "count")),
    )
