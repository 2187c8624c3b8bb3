-- The lines that name why directories are refused (docs/formats/program.md, "Refused directories").
use Rattle.std.specs.Prelude.{ℕ, List, [], ◌∷◌, ◌++◌, codes}
use Rattle.std.specs.Fmt.{decimal}
use Rattle.batch_repr.specs.declared.fault.BatchFault.{BatchFault}
use Rattle.batch_repr.specs.declared.fault.BatchFault.TheVariants as faults
use Rattle.disk_face.specs.declared.SegName.{SegName}
use Rattle.disk_face.specs.Names.{seg_text}

-- `refused duplicate NAME`
abbrev pub duplicate_line : SegName → List ℕ
duplicate_line name = codes "refused duplicate " ++ seg_text name ++ 10 ∷ []

-- what is wrong with the bytes of a batch (out of memory is no such fault, and has no words)
abbrev pub fault_words : BatchFault → List ℕ
fault_words faults.ShortHeader = codes "short-header"
fault_words (faults.ShortEntry at) = codes "short-entry " ++ decimal at
fault_words (faults.BadVarint at) = codes "bad-varint " ++ decimal at
fault_words (faults.TooLong at) = codes "too-long " ++ decimal at
fault_words (faults.UnknownKind at kind) = codes "unknown-kind " ++ decimal at ++ codes " " ++ decimal kind
fault_words (faults.Count said found) = codes "count " ++ decimal said ++ codes " " ++ decimal found
fault_words (faults.SeqRange first) = codes "seq-range " ++ decimal first
fault_words faults.NoMemory = []

-- `refused batch NAME PLACE FAULT`
abbrev pub bad_batch_line : SegName → ℕ → BatchFault → List ℕ
bad_batch_line name place fault = codes "refused batch " ++ seg_text name ++ codes " " ++ decimal place ++ codes " " ++ fault_words fault ++ 10 ∷ []

-- `refused gap NAME expected E found F`
abbrev pub gap_line : SegName → ℕ → ℕ → List ℕ
gap_line name expected found = codes "refused gap " ++ seg_text name ++ codes " expected " ++ decimal expected ++ codes " found " ++ decimal found ++ 10 ∷ []

-- `refused conflict NAME F`
abbrev pub conflict_line : SegName → ℕ → List ℕ
conflict_line name first = codes "refused conflict " ++ seg_text name ++ codes " " ++ decimal first ++ 10 ∷ []

-- `refused corrupt NAME AT SHOWN`
abbrev pub corrupt_line : SegName → ℕ → ℕ → List ℕ
corrupt_line name at shown_at = codes "refused corrupt " ++ seg_text name ++ codes " " ++ decimal at ++ codes " " ++ decimal shown_at ++ 10 ∷ []
