-- What the run had to say is written, and so its status says.
use Rattle.std.proofs.Common.{List, ℕ, map, sym, subst}
use Rattle.std.specs.String.{string_bytes}
use Rattle.wal_top.specs.declared.said.Said.{Said}
use Rattle.wal_top.specs.declared.status.Status.{Status}
use Rattle.wal_top.specs.Call.{Invocation, call_of, change_in}
use Rattle.wal_top.specs.Rightly.{SaysRightly}
use Rattle.wal_top.specs.Run.{YieldsTo}
use Rattle.wal_top.proofs.Saying.{ok_then}
use Rattle.wal_top.proofs.top.run.Goals as goal

pub returns-in-Ok-clause-says : goal.returns-in-Ok-clause-says
returns-in-Ok-clause-says g c =
    let words : List (List ℕ) = map string_bytes c.args.words.now in
    let call : Invocation = call_of g.S.Source.left g.S.Source.faults c.args.src.now c.answered-said.new.src g.D.Disk.tells g.D.Disk.view c.args.disk c.answered-said.result.disk in
    c.ended-status.ensures.says words call
    (ok_then (λ (s : Said). SaysRightly words call s.status s.text) c.answered-said.result.said c.in-Ok.said c.in-Ok.is c.answered-said.ensures.says)

pub returns-in-Ok-clause-comes : goal.returns-in-Ok-clause-comes
returns-in-Ok-clause-comes g c = λ status due.
    let words : List (List ℕ) = map string_bytes c.args.words.now in
    let call : Invocation = call_of g.S.Source.left g.S.Source.faults c.args.src.now c.answered-said.new.src g.D.Disk.tells g.D.Disk.view c.args.disk c.answered-said.result.disk in
    let rightly : SaysRightly words call c.in-Ok.said.status c.in-Ok.said.text =
    ok_then (λ (s : Said). SaysRightly words call s.status s.text) c.answered-said.result.said c.in-Ok.said c.in-Ok.is c.answered-said.ensures.says in
    subst (λ (s : Status). YieldsTo (change_in g.K.Sink.faults c.args.out.now c.ended-status.new.out) s c.ended-status.result)
    (sym (rightly.due status due)) c.ended-status.ensures.yields
