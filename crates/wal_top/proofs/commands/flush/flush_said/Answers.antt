-- What a flush answers, said in words of the store.
use Rattle.std.proofs.Common.{◌++◌, ◌∙◌, Ok, ap}
use Rattle.wal_top.specs.Call.{change_in}
use Rattle.wal_top.specs.Flush.{flush_text}
use Rattle.wal_top.proofs.Saying.{ok_map}
use Rattle.wal_top.proofs.Flush.{says_unflushed}
use Rattle.wal_top.proofs.commands.flush.flush_said.Goals as goal

pub returns-in_ok-put_flushed-in-Ok-clause-says : goal.returns-in_ok-put_flushed-in-Ok-clause-says
returns-in_ok-put_flushed-in-Ok-clause-says g c = record {
  flushed = c.in-Ok.flushed;
  told = c.in-Ok.ensures.flushed;
  text_is = c.in_ok-put_flushed-in-Ok.ensures ∙ ap (λ (t : _). t ++ flush_text c.in-Ok.flushed) c.in_ok-text-in-Ok.ensures;
  nothing = λ none. c.in-Ok.ensures.nothing (ap (λ (o : _). Ok o) none);
}

pub returns-in-Err-clause-says : goal.returns-in-Err-clause-says
returns-in-Err-clause-says g c =
    let e = c.in-Err.ensures in
    let over = change_in g.D.Disk.view c.args.disk.now c.flush.new.disk in
    ok_map c.unrecovered.result c.unrecovered.ensures (λ said p.
    says_unflushed g.D.Disk.tells over said.text e.idle c.in-Err.fault said.status p e.disk e.refused e.untouched)
