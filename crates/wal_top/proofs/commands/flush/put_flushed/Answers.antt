-- The pieces, one after another, are the line.
use Rattle.std.proofs.Common.{◌≡◌, ◌++◌, Option, append_assoc, sym, subst}
use Rattle.std.specs.Result.{OnOk}
use Rattle.std.proofs.lemmas.List.{append-nil}
use Rattle.flush_table.specs.declared.flushing.Flushed.{Flushed}
use Rattle.wal_top.specs.Flush.{flush_text}
use Rattle.wal_top.proofs.commands.flush.put_flushed.Goals as goal

pub returns : goal.returns
returns c =
    subst (λ (flushed : Option Flushed). OnOk c.put_pieces.result (c.put_pieces.new.out ≡ c.args.text.now ++ flush_text flushed)) (sym c.in-Some.is)
    (simp append_assoc (simp append-nil at c.put_pieces.ensures.ok))
