use Rattle.std.proofs.Common.{◌<◌}
use Rattle.std.specs.Prelude.{Contains}
use Rattle.arena_list.specs.Versions.{KeyVersion}
use Rattle.index_bench.proofs.list_run.fill.Given as goal

-- Each version has a number below the next one.
abbrev pub invariant-loop-number : goal.invariant-loop-number
invariant-loop-number l = (version : KeyVersion) → Contains l.list.versions version → version.number < l.number
