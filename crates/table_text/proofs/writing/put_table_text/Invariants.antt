use Rattle.std.proofs.Common.{◌≡◌, ◌+◌, ◌-◌, ◌∷◌, ◌++◌, length, map}
use Rattle.std.specs.Map.Iter.{deref_pair}
use Rattle.batch_repr.specs.Written.{written}
use Rattle.disk_face.specs.Image.{log_number}
use Rattle.table_text.specs.Tables.{head_bytes, set_batches}
use Rattle.table_text.specs.Writing.{HasLaid}
use Rattle.table_text.proofs.LiveRows.{gone_over}
use Rattle.table_text.proofs.writing.put_table_text.Given as goal

abbrev pub invariant-loop-key : goal.invariant-loop-key
invariant-loop-key l = record {
  laid : HasLaid (log_number l.fn.upto) (head_bytes l.fn.next l.keys ∷ map written (set_batches (l.fn.next - l.keys) (gone_over l.yielded))) l.framer l.out;
  number_is : l.number ≡ l.fn.next - l.keys + length l.yielded;
  left : map deref_pair l.yielded ++ l.key-iterator ≡ l.live.entries;
}
