-- Worked examples of scripts and of bad lines, as the checker computes them.
use Rattle.std.proofs.Common.{◌≡◌, ◌≢◌, inl, inr, ℕ, ◌<◌, true, false, List, [], ◌∷◌, length, get_or, drop, Some, None, refl, sym, ap, ◌∙◌, subst, arith}
use Rattle.std.specs.Prelude.{codes, slice_get}
use Rattle.std.specs.Fmt.{decimal, digits}
use Rattle.std.proofs.lemmas.Fmt.{decimal_injective}
use Rattle.wal_base.specs.declared.entry.Entry.{Entry}
use Rattle.wal_base.specs.declared.entry.Entry.TheVariants.{Set, Delete, Note}
use Rattle.batch_repr.specs.Batches.{count_of}
use Rattle.batch_repr.specs.Limits.{IsWithinLimits}
use Rattle.batch_repr.specs.Written.{written_entries, written_entry, varint}
use Rattle.batch_repr.specs.declared.limits.TheConstants.{SESSIONS_MAX}
use Rattle.disk_face.specs.declared.Side.TheVariants.{Primary}
use Rattle.session_replies.specs.declared.script.Act.{Act}
use Rattle.session_replies.specs.declared.script.Act.TheVariants.{Commit, Get}
use Rattle.session_replies.specs.declared.script.Line.{Line}
use Rattle.session_replies.specs.declared.script.StallLine.{StallLine}
use Rattle.session_replies.specs.declared.script.Script.{Script}
use Rattle.session_script.specs.declared.saying.Saying.{Saying}
use Rattle.session_script.specs.declared.saying.Saying.TheVariants as sayings
use Rattle.line_words.specs.Words.{lines_of, words_of, IsWord}
use Rattle.session_script.specs.Words.{parts_of, SpellEntries}
use Rattle.session_script.specs.Lines.{AsksToAct, WordsSay, SaysNothing, LineSays, IsNoLine}
use Rattle.session_script.specs.Script.{rounds_of, sessions_of, IsScript}
use Rattle.session_script.proofs.OneScript.{spell_one}
use Rattle.line_words.proofs.Laws.{all_of, is_word}

-- ---- a transfer

abbrev transfer : List ℕ
transfer = codes "# transfer\ncommit 0 sync set acct/1 90 ; set acct/2 110 ; note t7\nget 0 acct/1\ncommit 0 nosync del acct/1\nget 0 acct/3\n"

abbrev transfer_entries : List Entry
transfer_entries = Set (codes "acct/1") (codes "90") ∷ Set (codes "acct/2") (codes "110") ∷ Note (codes "t7") ∷ []

abbrev first_line : Line
first_line = record { session = 0; act = Commit true transfer_entries }

abbrev second_line : Line
second_line = record { session = 0; act = Get (codes "acct/1") }

abbrev third_line : Line
third_line = record { session = 0; act = Commit false (Delete (codes "acct/1") ∷ []) }

abbrev fourth_line : Line
fourth_line = record { session = 0; act = Get (codes "acct/3") }

abbrev transfer_script : Script
transfer_script = record {
  rounds = record { stalls = []; lines = first_line ∷ second_line ∷ third_line ∷ fourth_line ∷ [] } ∷ [];
  halted = false;
  sessions = 1;
}

word_1 : IsWord (codes "acct/1")
word_1 = is_word 97 (codes "cct/1") refl

word_2 : IsWord (codes "acct/2")
word_2 = is_word 97 (codes "cct/2") refl

word_3 : IsWord (codes "acct/3")
word_3 = is_word 97 (codes "cct/3") refl

transfer_len : length (written_entries transfer_entries) ≡ 27
unfolding written_entries written_entry varint
transfer_len = refl

delete_len : length (written_entries (Delete (codes "acct/1") ∷ [])) ≡ 8
unfolding written_entries written_entry varint
delete_len = refl

first_says : LineSays (codes "commit 0 sync set acct/1 90 ; set acct/2 110 ; note t7") (Some (sayings.Does first_line))
unfolding words_of parts_of digits SpellEntries
first_says = (
  omega arith,
  record {
    rest = codes "set" ∷ codes "acct/1" ∷ codes "90" ∷ codes ";" ∷ codes "set" ∷ codes "acct/2" ∷ codes "110" ∷ codes ";" ∷ codes "note" ∷ codes "t7" ∷ [];
    words_are = refl;
    spelled = ((refl, word_1, is_word 57 (codes "0") refl), ((refl, word_2, is_word 49 (codes "10") refl), ((refl, is_word 116 (codes "7") refl), tt)));
    counted = omega arith;
    fits = record {
      limits = all_of IsWithinLimits transfer_entries
          ((omega arith, omega arith), ((omega arith, omega arith), (omega arith, tt)));
      size = omega (arith, transfer_len);
    };
  },
)

second_says : LineSays (codes "get 0 acct/1") (Some (sayings.Does second_line))
unfolding words_of digits
second_says = (omega arith, record { words_are = refl; key_word = word_1; short = omega arith })

third_says : LineSays (codes "commit 0 nosync del acct/1") (Some (sayings.Does third_line))
unfolding words_of parts_of digits SpellEntries
third_says = (
  omega arith,
  record {
    rest = codes "del" ∷ codes "acct/1" ∷ [];
    words_are = refl;
    spelled = ((refl, word_1), tt);
    counted = omega arith;
    fits = record { limits = all_of IsWithinLimits (Delete (codes "acct/1") ∷ []) (omega arith, tt); size = omega (arith, delete_len) };
  },
)

fourth_says : LineSays (codes "get 0 acct/3") (Some (sayings.Does fourth_line))
unfolding words_of digits
fourth_says = (omega arith, record { words_are = refl; key_word = word_3; short = omega arith })

is_transfer : IsScript transfer transfer_script
unfolding lines_of rounds_of sessions_of
is_transfer = record {
  said = sayings.Does first_line ∷ sayings.Does second_line ∷ sayings.Does third_line ∷ sayings.Does fourth_line ∷ [];
  says = (
    None,
    _,
    inr refl,
    (
      Some (sayings.Does first_line),
      _,
      first_says,
      (
        Some (sayings.Does second_line),
        _,
        second_says,
        (
          Some (sayings.Does third_line),
          _,
          third_says,
          (Some (sayings.Does fourth_line), _, fourth_says, (None, [], inl refl, refl, refl), refl),
          refl,
        ),
        refl,
      ),
      refl,
    ),
    refl,
  );
  going = (λ e. absurd cc, (λ e. absurd cc, (λ e. absurd cc, (λ e. absurd cc, tt))));
  rounds = refl;
  sessions = refl;
}

-- ---- two rounds, a stall, and a halt without a line feed

abbrev stalled : StallLine
stalled = record { side = Primary; polls = 3 }

abbrev read : Line
read = record { session = 1; act = Get (codes "k") }

stall_says : LineSays (codes "stall p 3") (Some (sayings.Stalls stalled))
unfolding words_of digits
stall_says = (refl, omega arith, omega arith)

read_says : LineSays (codes "get 1 k") (Some (sayings.Does read))
unfolding words_of digits
read_says = (omega arith, record { words_are = refl; key_word = is_word 107 [] refl; short = omega arith })

round_says : LineSays (codes "round") (Some sayings.EndsRound)
unfolding words_of
round_says = refl

halt_says : LineSays (codes "halt") (Some sayings.Halts)
unfolding words_of
halt_says = refl

two_rounds : IsScript (codes "get 1 k\nround\nstall p 3\nhalt")
    (record { rounds = record { stalls = []; lines = read ∷ [] } ∷ record { stalls = stalled ∷ []; lines = [] } ∷ []; halted = true; sessions = 2 })
unfolding lines_of rounds_of sessions_of
two_rounds = record {
  said = sayings.Does read ∷ sayings.EndsRound ∷ sayings.Stalls stalled ∷ [];
  says = (
    Some (sayings.Does read),
    _,
    read_says,
    (
      Some sayings.EndsRound,
      _,
      round_says,
      (Some (sayings.Stalls stalled), _, stall_says, (Some sayings.Halts, [], halt_says, refl, refl), refl),
      refl,
    ),
    refl,
  );
  going = (λ e. absurd cc, (λ e. absurd cc, (λ e. absurd cc, tt)));
  rounds = refl;
  sessions = refl;
}

-- ---- bad lines

-- the first byte of the first word
abbrev lead : List (List ℕ) → ℕ
lead words = get_or (get_or words 0 []) 0 0

-- A line is bad that begins as a commit or a read does, and asks for neither.
module _ (line : List ℕ) (words : List (List ℕ)) (words_are : words_of line ≡ words) (first : ℕ) (begins : slice_get line 0 ≡ Some first)
    (other : first ≢ 35) (low : lead words < 104)
    (no_act : (session : ℕ) (act : Act) → session < SESSIONS_MAX → AsksToAct words session act → ⊥) where
  says_something : SaysNothing line → ⊥
  says_something (inl e) = let no : None ≡ Some first = ap (λ (l : List ℕ). slice_get l 0) (sym e) ∙ begins in absurd cc
  says_something (inr e) = (let same = sym begins ∙ e in other cc)

  says_none : (saying : Saying) → WordsSay words saying → ⊥
  says_none (sayings.Does l) says = no_act l.session l.act says.0 says.1
  says_none (sayings.Stalls l) says = omega (arith, low, ap lead says.0)
  says_none sayings.EndsRound says = omega (arith, low, ap lead says)
  says_none sayings.Halts says = omega (arith, low, ap lead says)

  is_bad : IsNoLine line
  is_bad None says = says_something says
  is_bad (Some saying) says = says_none saying (subst (λ (ws : List (List ℕ)). WordsSay ws saying) words_are says)

-- session 64
abbrev past_words : List (List ℕ)
past_words = codes "commit" ∷ codes "64" ∷ codes "sync" ∷ codes "set" ∷ codes "a" ∷ codes "1" ∷ []

past_cut : words_of (codes "commit 64 sync set a 1") ≡ past_words
unfolding words_of
past_cut = refl

sixty_four : codes "64" ≡ decimal 64
unfolding digits
sixty_four = refl

no_session_64 : (session : ℕ) (act : Act) → session < SESSIONS_MAX → AsksToAct past_words session act → ⊥
no_session_64 session (Commit sync entries) low a =
    let same : decimal 64 ≡ decimal session = sym sixty_four ∙ ap (λ (ws : List (List ℕ)). get_or ws 1 []) a.words_are in
    omega (arith, low, decimal_injective 64 session (omega arith) (omega (arith, low)) same)
no_session_64 session (Get key) low a = omega (arith, ap lead a.words_are)

session_64_is_bad : IsNoLine (codes "commit 64 sync set a 1")
session_64_is_bad = is_bad (codes "commit 64 sync set a 1") past_words past_cut 99 refl (λ e. omega (arith, e)) (omega arith) no_session_64

-- a batch of a note alone
abbrev note_words : List (List ℕ)
note_words = codes "commit" ∷ codes "0" ∷ codes "sync" ∷ codes "note" ∷ codes "x" ∷ []

note_cut : words_of (codes "commit 0 sync note x") ≡ note_words
unfolding words_of
note_cut = refl

note_spelled : SpellEntries (Note (codes "x") ∷ []) (parts_of (codes "note" ∷ codes "x" ∷ []))
unfolding parts_of SpellEntries
note_spelled = ((refl, is_word 120 [] refl), tt)

no_note_alone : (session : ℕ) (act : Act) → session < SESSIONS_MAX → AsksToAct note_words session act → ⊥
no_note_alone session (Commit sync entries) low a =
    let rest : codes "note" ∷ codes "x" ∷ [] ≡ a.rest = ap (λ (ws : List (List ℕ)). drop 3 ws) a.words_are in
    let one : entries ≡ Note (codes "x") ∷ [] = spell_one (parts_of a.rest) entries (Note (codes "x") ∷ []) a.spelled
    (subst (λ (r : List (List ℕ)). SpellEntries (Note (codes "x") ∷ []) (parts_of r)) rest note_spelled) in
    omega (arith, a.counted, ap count_of one)
no_note_alone session (Get key) low a = omega (arith, ap lead a.words_are)

a_note_alone_is_bad : IsNoLine (codes "commit 0 sync note x")
a_note_alone_is_bad = is_bad (codes "commit 0 sync note x") note_words note_cut 99 refl (λ e. omega (arith, e)) (omega arith) no_note_alone

-- two blanks, with an empty word between them
abbrev blank_words : List (List ℕ)
blank_words = codes "get" ∷ codes "0" ∷ [] ∷ codes "a" ∷ []

blank_cut : words_of (codes "get 0  a") ≡ blank_words
unfolding words_of
blank_cut = refl

no_empty_word : (session : ℕ) (act : Act) → session < SESSIONS_MAX → AsksToAct blank_words session act → ⊥
no_empty_word session (Commit sync entries) low a = omega (arith, ap lead a.words_are)
no_empty_word session (Get key) low a = omega (arith, ap (λ (ws : List (List ℕ)). length ws) a.words_are)

two_blanks_are_bad : IsNoLine (codes "get 0  a")
two_blanks_are_bad = is_bad (codes "get 0  a") blank_words blank_cut 103 refl (λ e. omega (arith, e)) (omega arith) no_empty_word
