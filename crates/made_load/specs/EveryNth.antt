-- Every so many-th batch of a load, and what is made of them (docs/formats/program.md, "The generated load").
use Rattle.std.specs.Prelude.{ℕ, ◌+◌, ◌*◌, List, map}
use Rattle.std.specs.List.{flat_map, range_with_len}
use Rattle.wal_base.specs.declared.entry.Entry.{Entry}
use Rattle.made_load.specs.declared.every_nth.EveryNth.{EveryNth}
use Rattle.session_replies.specs.declared.script.Line.{Line}
use Rattle.made_load.specs.Load.{load_key, load_value, load_entries, load_line, key_and_value}

-- ---- the batch at a place

-- its number
abbrev pub nth_number : EveryNth → ℕ → ℕ
nth_number b place = b.first + b.step * place

-- the key that it sets
abbrev pub key_at : EveryNth → ℕ → List ℕ
key_at b place = load_key (nth_number b place)

-- what it sets its key to
abbrev pub value_at : EveryNth → ℕ → List ℕ
value_at b place = load_value b.seed (nth_number b place)

abbrev pub entries_at : EveryNth → ℕ → List Entry
entries_at b place = load_entries b.seed (nth_number b place)

-- the line that commits it
abbrev pub line_at : EveryNth → ℕ → Line
line_at b place = load_line b.seed (nth_number b place)

-- ---- all of them

-- the lines of the first so many
abbrev pub lines_before : EveryNth → ℕ → List Line
lines_before b place = map (line_at b) (range_with_len 0 place)

abbrev pub lines_of_each : EveryNth → List Line
lines_of_each b = lines_before b b.count

-- the keys and values of the first so many, one after the other
unfoldable pub texts_before : EveryNth → ℕ → List ℕ
texts_before b place = flat_map (λ k. key_and_value b.seed (nth_number b k)) (range_with_len 0 place)

abbrev pub texts_of : EveryNth → List ℕ
texts_of b = texts_before b b.count
