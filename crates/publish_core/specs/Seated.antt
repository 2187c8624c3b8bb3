-- How a seat's batches go over to another (docs/formats/ring.md, "The events of the ring").
use Rattle.std.specs.Prelude.{◌≡◌, ◌⊎◌, ℕ, ◌==◌, cond, List, Option, Some, None, Vec}
use Rattle.std.specs.declared.alloc.Global.{Global}
use Rattle.publish_core.specs.declared.seat.BatchShape.{BatchShape}
use Rattle.publish_core.specs.Machine.{Among, CoreState, updated, renamed}

-- the seat whose own a batch is, once the seat note is the seat into
abbrev pub renamed_owner : ℕ → ℕ → ℕ → ℕ
renamed_owner note into owner = cond (owner == note) into owner

-- the state, once the batch i goes over
abbrev pub passed : CoreState BatchShape → ℕ → ℕ → ℕ → CoreState BatchShape
passed s i note into =
    record s {
      stage = updated s.stage i (renamed note into (s.stage i));
      owner = updated s.owner i (renamed_owner note into (s.owner i));
    }

-- the same of the batch that a seat holds, if any
abbrev pub passed_held : CoreState BatchShape → Option ℕ → ℕ → ℕ → CoreState BatchShape
passed_held s None note into = s
passed_held s (Some i) note into = passed s i note into

-- The batches xs went over, and nothing else changed. Another batch may have gone over too
pub record HandsOn (note into : ℕ) (xs : List ℕ) (s t : CoreState BatchShape) : Type 0 where
  pub rest : t ≡ record s { stage = t.stage; owner = t.owner }
  pub each : (i : ℕ)
      → ((t.stage i ≡ renamed note into (s.stage i)) × (t.owner i ≡ renamed_owner note into (s.owner i)))
      ⊎ ((Among i xs → ⊥) × (t.stage i ≡ s.stage i) × (t.owner i ≡ s.owner i))

-- a list that may be replaced
abbrev pub list_or : {A : Type 0} → List A → Option (Vec A Global) → List A
list_or xs None = xs
list_or xs (Some v) = v.items
