-- What a call on tables, or a removal, answers and leaves where it was to fail (docs/formats/disk.md, "Tables").
use Rattle.std.specs.Prelude.{◌≡◌, ℕ, ◌/◌, true, false, List, length, take, Some, None, option_map, Result, IfOk, IsErrOf}
use Rattle.disk_face.specs.declared.DiskErr.{DiskErr}
use Rattle.disk_face.specs.declared.DiskErr.TheVariants.{Failed, NoMemory}
use Rattle.disk_face.specs.View.{Place, table, File, DiskView, files}

-- a call that is to fail fails, but where there is no memory, and no other call fails
abbrev pub AnswersIf : {T : Type 0} → Type 0 → Result T DiskErr → Type 0
AnswersIf fails result = IfOk result (λ t. fails → ⊥) × (IsErrOf result Failed → fails)

-- a table of which the first half was put, rounded down, and no more
abbrev pub half_put : List ℕ → File
half_put bytes = record {
  sent = bytes;
  done = length bytes / 2;
  stable = 0;
  created = false;
  leaving = false;
  reads = take (length bytes / 2) bytes;
}

-- a put that failed leaves the first half of the table, and one for which there was no memory leaves none of that number
abbrev pub LeavesPart : {T : Type 0} → ℕ → List ℕ → Result T DiskErr → DiskView → Type 0
LeavesPart upto bytes result v =
    (IsErrOf result Failed → files v (table upto) ≡ Some (half_put bytes)) × (IsErrOf result NoMemory → files v (table upto) ≡ None)

-- a file whose removal failed
abbrev pub left_over : File → File
left_over f = record f { leaving = true }

-- a removal that failed leaves the file
abbrev pub LeavesFile : {T : Type 0} → Place → Result T DiskErr → DiskView → DiskView → Type 0
LeavesFile p result old new = IsErrOf result Failed → files new p ≡ option_map left_over (files old p)
