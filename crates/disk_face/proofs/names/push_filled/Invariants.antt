use Rattle.std.proofs.Common.{◌≡◌, ◌+◌, ◌++◌, replicate}
use Rattle.arrayvec.specs.ArrayVec.{array_vec_len}
use Rattle.disk_face.proofs.names.push_filled.Given as goal

abbrev pub invariant-loop-zero : goal.invariant-loop-zero
invariant-loop-zero l = record {
  items : l.text.items ≡ l.initial.text.items ++ replicate l._zero 48;
  len : array_vec_len l.text ≡ array_vec_len l.initial.text + l._zero;
}
