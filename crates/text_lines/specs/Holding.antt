-- What is held while a store is printed: each key that has a value, with it, both borrowed from the batches (docs/formats/program.md, "The text of a store").
use Rattle.std.specs.Prelude.{ℕ, ◌+◌, ◌≤◌, List, cond, length, map, Option, None, option_map}
use Rattle.std.specs.Borrow.{Bor}
use Rattle.std.specs.Ordering.{nat_cmp}
use Rattle.std.specs.Cmp.Lexicographic.{slice_cmp}
use Rattle.std.specs.BTreeMap.{BTreeMap, get_by}
use Rattle.wal_base.specs.declared.entry.Entry.{Entry}
use Rattle.batch_repr.specs.Batches.{count_of, is_within, is_about, value_left}
use Rattle.text_lines.specs.Store.{Held}

-- borrowed keys with borrowed values
abbrev pub Holding : Type 0
Holding = BTreeMap (Bor (List ℕ)) (Bor (List ℕ))

-- the value that is held of a key
abbrev pub held : Holding → List ℕ → Option (List ℕ)
held holding key = option_map (λ value. value.now) (get_by (λ own. slice_cmp nat_cmp key own.now) holding)

-- the value of a key after an entry, from the one before it
abbrev pub changed : List ℕ → Option (List ℕ) → Entry → Option (List ℕ)
changed key before entry = cond (is_about key entry) (value_left entry) before

-- the value of a key once each key within a range is let go
abbrev pub let_go : List ℕ → List ℕ → List ℕ → Option (List ℕ) → Option (List ℕ)
let_go start end key before = cond (is_within start end key) None before

-- a borrowed key with its value, as the store has them
abbrev pub shown : Bor (List ℕ) × Bor (List ℕ) → Held
shown pair = record { key = pair.0.now; value = pair.1.now }

-- how many keys are held
abbrev pub count_held : Holding → ℕ
count_held holding = length holding.entries

-- No more keys are held than before but those of entries that take a number.
abbrev pub HoldsFew : Holding → Holding → List Entry → Type 0
HoldsFew old new entries = count_held new ≤ count_held old + count_of entries

-- the keys that are held, each with its value, as the store has them
abbrev pub held_keys : Holding → List Held
held_keys holding = map shown holding.entries
