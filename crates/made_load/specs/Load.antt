-- The batches of a generated load, and what is printed at its end (docs/formats/program.md, "The generated load").
use Rattle.std.specs.Prelude.{ℕ, zero, suc, ◌+◌, ◌-◌, ◌*◌, ◌/◌, ◌%◌, ◌^◌, ◌==◌, min, false, List, [], ◌∷◌, ◌++◌, length, map, count_by, is_some, codes, if◌then◌else◌}
use Rattle.std.specs.Fmt.{decimal, digit_glyph}
use Rattle.std.specs.Int.{div_ceil}
use Rattle.std.specs.List.{repeat, range_with_len}
use Rattle.wal_base.specs.declared.entry.Entry.{Entry}
use Rattle.wal_base.specs.declared.entry.Entry.TheVariants.{Set, Delete}
use Rattle.batch_repr.specs.declared.batch.Batch.{Batch}
use Rattle.batch_repr.specs.Batches.{answer}
use Rattle.made_load.specs.declared.load.TheConstants.{LOAD_SEED_STEP, LOAD_BATCH_STEP, LOAD_KEYS, LOAD_ROUND, LOAD_SESSIONS}
use Rattle.made_load.specs.declared.load_end.LoadEnd.{LoadEnd}
use Rattle.session_replies.specs.declared.script.Act.TheVariants.{Commit}
use Rattle.session_replies.specs.declared.script.Line.{Line}
use Rattle.session_replies.specs.declared.script.Round.{Round}
use Rattle.session_replies.specs.declared.script.Script.{Script}

-- ---- digits

-- the last k digits of a number in a base, with zeros in front where it has fewer
unfoldable pub last_digits : ℕ → ℕ → ℕ → List ℕ
last_digits base zero n = []
last_digits base (suc k) n = last_digits base k (n / base) ++ digit_glyph false (n % base) ∷ []

-- a number below 2^64 as 16 hexadecimal digits
abbrev pub word_of_number : ℕ → List ℕ
word_of_number n = last_digits 16 16 n

-- ---- batch i of a load

-- the number whose digits it sets
unfoldable pub load_number : ℕ → ℕ → ℕ
load_number seed i = (seed * LOAD_SEED_STEP + i * LOAD_BATCH_STEP) % 2 ^ 64

-- the key of a number: `k`, and the last four digits of it
unfoldable pub load_key : ℕ → List ℕ
load_key i = codes "k" ++ last_digits 10 4 (i % LOAD_KEYS)

-- what it sets its key to
unfoldable pub load_value : ℕ → ℕ → List ℕ
load_value seed i = repeat 4 (word_of_number (load_number seed i))

-- what it deletes
abbrev pub load_deletes : ℕ → List Entry
load_deletes i = if i % 8 == 7 then Delete (load_key (i - 4)) ∷ [] else []

unfoldable pub load_entries : ℕ → ℕ → List Entry
load_entries seed i = Set (load_key i) (load_value seed i) ∷ load_deletes i

-- the line that commits it
unfoldable pub load_line : ℕ → ℕ → Line
load_line seed i = record { session = i % LOAD_SESSIONS; act = Commit (i % 16 == 15) (load_entries seed i) }

-- ---- a load of so many batches

-- the lines of so many batches, from batch i on
abbrev pub load_lines : ℕ → ℕ → ℕ → List Line
load_lines seed i count = map (load_line seed) (range_with_len i count)

-- round r: 1,000 batches, or as many as are left
unfoldable pub load_round : ℕ → ℕ → ℕ → Round
load_round seed batches r = record { stalls = []; lines = load_lines seed (LOAD_ROUND * r) (min LOAD_ROUND (batches - LOAD_ROUND * r)) }

-- its rounds, in order
unfoldable pub load_rounds : ℕ → ℕ → List Round
load_rounds seed batches = map (load_round seed batches) (range_with_len 0 (div_ceil batches LOAD_ROUND))

-- the script of it
abbrev pub load_script_of : ℕ → ℕ → Script
load_script_of seed batches = record { rounds = load_rounds seed batches; halted = false; sessions = min LOAD_SESSIONS batches }

-- ---- the end of a load

-- the keys that a load may set, in order
unfoldable pub load_keys : List (List ℕ)
load_keys = map load_key (range_with_len 0 LOAD_KEYS)

-- how many of them have a value after all batches of a store
unfoldable pub live_keys : List Batch → ℕ
live_keys store = count_by (λ key. is_some (answer store (length store) key)) load_keys

-- `load batches B visible V live L acked A segments G last Y`
unfoldable pub load_end_line : LoadEnd → List ℕ
load_end_line end =
    codes "load batches " ++ decimal end.batches ++ codes " visible " ++ decimal end.visible ++ codes " live " ++ decimal end.live ++ codes
    " acked " ++ decimal end.acked ++ codes " segments " ++ decimal end.segments ++ codes " last " ++ word_of_number end.last ++ codes "\n"

-- ---- inside

-- the key that batch i sets, and then the value
abbrev pub key_and_value : ℕ → ℕ → List ℕ
key_and_value seed i = load_key i ++ load_value seed i
