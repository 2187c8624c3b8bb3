use Rattle.std.proofs.Common.{◌∙◌, map}
use Rattle.std.specs.String.{string_bytes}
use Rattle.clap.specs.Simple.{app_of}
use Rattle.command_line.proofs.Parsed.{accepted, ended, has_end_is, never_nothing, refused}
use Rattle.command_line.proofs.parse.parse.Goals as goal

pub returns-then-has_end-clause-none : goal.returns-then-has_end-clause-none
returns-then-has_end-clause-none c =
    ended (map string_bytes c.args.words.now) (has_end_is string_bytes c.args.words.now _ c.has_end.result c.has_end.ensures c.if-has_end.true)

pub returns-in-Ok-clause-some : goal.returns-in-Ok-clause-some
returns-in-Ok-clause-some c =
    accepted (app_of c.in_ok-program.field-0) (map string_bytes c.args.words.now) c.in-Ok.matches c.asked_in.result c.in_ok-program.ensures.0
    (has_end_is string_bytes c.args.words.now _ c.has_end.result c.has_end.ensures c.if-has_end.false)
    c.in-Ok.ensures.kinds c.in-Ok.ensures.matches c.asked_in.ensures.some

pub returns-in-Ok-clause-none : goal.returns-in-Ok-clause-none
returns-in-Ok-clause-none c =
    never_nothing (app_of c.in_ok-program.field-0) (map string_bytes c.args.words.now) c.in-Ok.matches c.asked_in.result c.in_ok-program.ensures.0
    (has_end_is string_bytes c.args.words.now _ c.has_end.result c.has_end.ensures c.if-has_end.false)
    c.in-Ok.ensures.kinds c.in-Ok.ensures.matches c.asked_in.ensures.none

pub returns : goal.returns
returns c = record {
  some = tt;
  none = refused (app_of c.in_ok-program.field-0) (map string_bytes c.args.words.now) c.in-Err.error c.in_ok-program.ensures.0
      c.in-Err.ensures.kinds (λ memory. c.in_default.not-OutOfMemory (c.kind.ensures ∙ memory));
}
