-- A script takes no more numbers than it has bytes, and one.
use Rattle.std.proofs.Common.{◌≡◌, ℕ, ◌+◌, ◌≤◌, Bool, true, false, cond, List, [], ◌∷◌, ◌++◌, length, map, Option, Some, None, refl, ap, ◌∙◌, arith}
use Rattle.std.specs.Prelude.{codes, sum_by, ◌==◌, ◌||◌}
use Rattle.std.specs.List.{slice_split, onto_first}
use Rattle.std.specs.Option.{option_to_list}
use Rattle.std.specs.Str.{bytes_eq}
use Rattle.std.proofs.lemmas.List.Splits.{length-slice_split}
use Rattle.std.proofs.lemmas.List.Sums.{sum_by-cons, sum_by-append, count_by-le-length}
use Rattle.wal_base.specs.declared.entry.Entry.{Entry}
use Rattle.batch_repr.specs.Batches.{is_counted}
use Rattle.session_replies.specs.declared.script.Act.{Act}
use Rattle.session_replies.specs.declared.script.Act.TheVariants.{Commit, Get}
use Rattle.session_replies.specs.declared.script.Line.{Line}
use Rattle.session_replies.specs.declared.script.Script.{Script}
use Rattle.session_script.specs.declared.saying.Saying.{Saying}
use Rattle.session_script.specs.declared.saying.Saying.TheVariants as sayings
use Rattle.line_words.specs.Words.{lines_of, words_of}
use Rattle.session_script.specs.Words.{parts_of, SpellEntries}
use Rattle.session_script.specs.Lines.{AsksToAct, LineSays}
use Rattle.session_script.specs.Script.{LinesSay, ends_round, round_of, rounds_of, halt_if, IsScript}
use Rattle.session_replies.specs.Rounds.{numbers_taken, round_numbers, script_numbers}

-- ---- the rounds

-- how many numbers a saying takes
abbrev said_numbers : Saying → ℕ
said_numbers (sayings.Does line) = numbers_taken line.act
said_numbers (sayings.Stalls line) = 0
said_numbers sayings.EndsRound = 0
said_numbers sayings.Halts = 0

line_numbers : Line → ℕ
line_numbers line = numbers_taken line.act

numbers_in : List (List Saying) → ℕ
numbers_in parts = sum_by round_numbers (map round_of parts)

part_numbers : (part : List Saying) → round_numbers (round_of part) ≡ sum_by said_numbers part
part_numbers [] = refl
part_numbers (sayings.Does line ∷ part) = omega
    (arith, sum_by-cons (λ (l : Line). numbers_taken l.act) line (round_of part).lines, sum_by-cons said_numbers (sayings.Does line) part, part_numbers part)
part_numbers (sayings.Stalls line ∷ part) = omega (arith, sum_by-cons said_numbers (sayings.Stalls line) part, part_numbers part)
part_numbers (sayings.EndsRound ∷ part) = omega (arith, sum_by-cons said_numbers sayings.EndsRound part, part_numbers part)
part_numbers (sayings.Halts ∷ part) = omega (arith, sum_by-cons said_numbers sayings.Halts part, part_numbers part)

parts_numbers : (parts : List (List Saying)) → sum_by round_numbers (map round_of parts) ≡ sum_by (sum_by said_numbers) parts
parts_numbers [] = refl
parts_numbers (part ∷ parts) = omega (
  arith,
  sum_by-cons round_numbers (round_of part) (map round_of parts),
  sum_by-cons
      (sum_by said_numbers) part parts,
  part_numbers part,
  parts_numbers parts,
)

-- A sum over a list is the sum over its parts, where what is cut at counts nothing.
onto_sum : (saying : Saying) (parts : List (List Saying))
    → sum_by (sum_by said_numbers) (onto_first saying parts) ≡ said_numbers saying + sum_by (sum_by said_numbers) parts
onto_sum saying [] = omega (arith, sum_by-cons said_numbers saying [])
onto_sum saying (part ∷ parts) = omega
    (arith, sum_by-cons said_numbers saying part, sum_by-cons (sum_by said_numbers) (saying ∷ part) parts, sum_by-cons (sum_by said_numbers) part parts)

split_sum : (said : List Saying) → sum_by (sum_by said_numbers) (slice_split ends_round said) ≡ sum_by said_numbers said
split_sum [] = refl
split_sum (sayings.Does line ∷ said) = onto_sum (sayings.Does line) (slice_split ends_round said)
    ∙ omega (arith, sum_by-cons said_numbers (sayings.Does line) said, split_sum said)
split_sum (sayings.Stalls line ∷ said) = onto_sum (sayings.Stalls line) (slice_split ends_round said)
    ∙ omega (arith, sum_by-cons said_numbers (sayings.Stalls line) said, split_sum said)
split_sum (sayings.EndsRound ∷ said) = omega
    (arith, sum_by-cons (sum_by said_numbers) [] (slice_split ends_round said), sum_by-cons said_numbers sayings.EndsRound said, split_sum said)
split_sum (sayings.Halts ∷ said) = onto_sum sayings.Halts (slice_split ends_round said)
    ∙ omega (arith, sum_by-cons said_numbers sayings.Halts said, split_sum said)

-- ---- the lines

as_many : (entries : List Entry) (parts : List (List (List ℕ))) → SpellEntries entries parts → length entries ≡ length parts
unfolding SpellEntries
as_many [] [] s = refl
as_many [] (part ∷ parts) s = absurd s
as_many (entry ∷ entries) [] s = absurd s
as_many (entry ∷ entries) (part ∷ parts) s = omega (arith, as_many entries parts s.1)

few_parts : (words : List (List ℕ)) → length (parts_of words) ≤ length words + 1
unfolding parts_of
few_parts words = omega (arith, length-slice_split (λ word. bytes_eq word (codes ";")) words, count_by-le-length (λ word. bytes_eq word (codes ";")) words)

few_words : (line : List ℕ) → length (words_of line) ≤ length line + 1
unfolding words_of
few_words line = omega (arith, length-slice_split (λ b. b == 32 || b == 9) line, count_by-le-length (λ b. b == 32 || b == 9) line)

act_takes : (line : List ℕ) (session : ℕ) (act : Act) → AsksToAct (words_of line) session act → numbers_taken act ≤ length line + 1
act_takes line session (Commit sync entries) asks =
    omega (
      arith,
      count_by-le-length is_counted entries,
      as_many entries
          (parts_of asks.rest) asks.spelled,
      few_parts asks.rest,
      ap length asks.words_are,
      few_words line,
    )
act_takes line session (Get key) asks = omega arith

line_takes : (line : List ℕ) (here : Option Saying) → LineSays line here → sum_by said_numbers (option_to_list here) ≤ length line + 1
line_takes line None says = omega arith
line_takes line (Some (sayings.Does x)) says = omega (arith, sum_by-cons said_numbers (sayings.Does x) [], act_takes line x.session x.act says.1)
line_takes line (Some (sayings.Stalls x)) says = omega (arith, sum_by-cons said_numbers (sayings.Stalls x) [])
line_takes line (Some sayings.EndsRound) says = omega (arith, sum_by-cons said_numbers sayings.EndsRound [])
line_takes line (Some sayings.Halts) says = omega (arith, sum_by-cons said_numbers sayings.Halts [])

abbrev line_room : List ℕ → ℕ
line_room line = length line + 1

lines_take : (lines : List (List ℕ)) (said : List Saying) → LinesSay lines said → sum_by said_numbers said ≤ sum_by line_room lines
lines_take [] said h = rw h (omega arith)
lines_take (line ∷ lines) said h =
    rw h.4 (omega (
      arith,
      sum_by-append said_numbers
          (option_to_list h.0) h.1,
      line_takes line h.0 h.2,
      lines_take lines h.1 h.3,
      sum_by-cons line_room line lines,
    ))

-- The lines have all bytes but those at which they are cut.
onto_room : (b : ℕ) (lines : List (List ℕ)) → 0 + 1 ≤ length lines → sum_by line_room (onto_first b lines) ≡ 1 + sum_by line_room lines
onto_room b [] some = absurd (omega (arith, some))
onto_room b (line ∷ lines) some = omega (arith, sum_by-cons line_room (b ∷ line) lines, sum_by-cons line_room line lines)

room_of : (cut : ℕ → Bool) (bytes : List ℕ) → sum_by line_room (slice_split cut bytes) ≡ length bytes + 1
room_of cut [] = refl
room_of cut (b ∷ bytes) = by_test (cut b) (omega (arith, length-slice_split cut bytes)) (room_of cut bytes)
  where
    by_test : (yes : Bool) → 0 + 1 ≤ length (slice_split cut bytes) → sum_by line_room (slice_split cut bytes) ≡ length bytes + 1
        → sum_by line_room (cond yes ([] ∷ slice_split cut bytes) (onto_first b (slice_split cut bytes))) ≡ length (b ∷ bytes) + 1
    by_test true some h = omega (arith, h, sum_by-cons line_room [] (slice_split cut bytes))
    by_test false some h = omega (arith, h, onto_room b (slice_split cut bytes) some)

script_room : (bytes : List ℕ) → sum_by line_room (lines_of bytes) ≡ length bytes + 1
unfolding lines_of
script_room bytes = room_of (λ b. b == 10) bytes

pub few_numbers : (bytes : List ℕ) (script : Script) → IsScript bytes script → script_numbers script ≤ length bytes + 1
unfolding rounds_of
few_numbers bytes script is =
    omega (
      arith,
      ap (sum_by round_numbers) is.rounds,
      parts_numbers (slice_split ends_round is.said),
      split_sum is.said,
      sum_by-append said_numbers is.said (halt_if script.halted),
      lines_take (lines_of bytes) (is.said ++ halt_if script.halted) is.says,
      script_room bytes,
    )
