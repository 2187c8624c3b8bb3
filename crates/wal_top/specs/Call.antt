-- What a run goes by besides its words, and what is seen of it: its source, its disk and its sink (docs/formats/program.md, "Commands").
use Rattle.std.specs.Prelude.{◌≡◌, ℕ, Bool, List, Option}
use Rattle.wal_base.specs.Faults.{Rose}
use Rattle.disk_face.specs.declared.Side.{Side}
use Rattle.disk_face.specs.View.{DiskView}

-- something as it was before, and as it is after
pub record Change (X : Type 0) : Type 0 where
  pub before : X
  pub after : X

-- what is seen of something, before and after
abbrev pub change_in : {Thing X : Type 0} → (Thing → X) → Thing → Thing → Change X
change_in view old new = record { before = view old; after = view new }

-- a call: the bytes that the source has left, the count of its faults, whether the disk tells its files, and the disk
pub record Invocation : Type 0 where
  pub left : Change (Option (List ℕ))
  pub source_faults : Change ℕ
  pub tells : Bool
  pub disk : Change DiskView

abbrev pub call_of : {Source Disk : Type 0} → (Source → Option (List ℕ)) → (Source → ℕ) → Source → Source → Bool
    → (Disk → DiskView) → Disk → Disk → Invocation
call_of left faults source source_then tells view disk disk_then = record {
  left = change_in left source source_then;
  source_faults = change_in faults source source_then;
  tells = tells;
  disk = change_in view disk disk_then;
}

-- a run: its call, the bytes written to the sink, and the counts of its faults and shortages
pub record Run : Type 0 where
  pub call : Invocation
  pub written : Change (Option (List ℕ))
  pub sink_faults : Change ℕ
  pub shortages : Change ℕ

abbrev pub run_of : {Sink : Type 0} → Invocation → (Sink → Option (List ℕ)) → (Sink → ℕ) → (Sink → ℕ) → Sink → Sink → Run
run_of call written faults shortages sink sink_then = record {
  call = call;
  written = change_in written sink sink_then;
  sink_faults = change_in faults sink sink_then;
  shortages = change_in shortages sink sink_then;
}

-- It is as it was.
abbrev pub Stays : {X : Type 0} → Change X → Type 0
Stays x = x.after ≡ x.before

-- A fault or a shortage was counted.
abbrev pub Rises : Change ℕ → Type 0
Rises count = Rose count.before count.after

-- The source counted no fault.
abbrev pub HasCalmSource : Invocation → Type 0
HasCalmSource c = Rises c.source_faults → ⊥

-- No side of the disk counted a fault.
abbrev pub IsCalmDisk : Change DiskView → Type 0
IsCalmDisk disk = (side : Side) → Rose (disk.before.faults side) (disk.after.faults side) → ⊥
