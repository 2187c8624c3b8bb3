-- Which replies to a script are legal (docs/formats/program.md, "Which replies are legal").
use Rattle.std.specs.Prelude.{◌≡◌, ℕ, ◌+◌, ◌-◌, ◌<◌, ◌≤◌, ◌==◌, Bool, true, List, [], ◌∷◌, ◌++◌, length, map, take, drop, filter, Option, Some, None, slice_get, IsTrue}
use Rattle.std.specs.List.{filter_map, flat_map}
use Rattle.std.specs.List.Sorted.{IsPermutation}
use Rattle.wal_base.specs.declared.entry.Entry.{Entry}
use Rattle.batch_repr.specs.declared.batch.Batch.{Batch}
use Rattle.batch_repr.specs.declared.limits.TheConstants.{NUMBER_MAX, BATCHES_MAX}
use Rattle.batch_repr.specs.Batches.{count_of, IsContiguous, end_after, answer}
use Rattle.session_replies.specs.declared.script.Act.{Act}
use Rattle.session_replies.specs.declared.script.Act.TheVariants.{Commit, Get}
use Rattle.session_replies.specs.declared.script.Line.{Line}
use Rattle.session_replies.specs.declared.script.Round.{Round}
use Rattle.session_replies.specs.declared.replies.Said.{Said}
use Rattle.session_replies.specs.declared.replies.Said.TheVariants.{Committed, Unsynced, Dead, Limit, Got}
use Rattle.session_replies.specs.Replies.{reply_line}

-- ---- the lines and their replies

-- a line with its reply
pub record Replied : Type 0 where
  pub line : Line
  pub said : Said

-- whether a line is of this session
abbrev pub is_of : ℕ → Line → Bool
is_of session line = line.session == session

-- the lines of one session, in their order
abbrev pub lines_of_session : ℕ → List Line → List Line
lines_of_session session lines = filter (is_of session) lines

-- the replies of one session, in their order
abbrev pub replies_of_session : ℕ → List Replied → List Replied
replies_of_session session replies = filter (λ (r : Replied). is_of session r.line) replies

-- The numbers of the sessions never fall, and the first is at least this one.
unfoldable pub AreBySession : ℕ → List Replied → Type 0
AreBySession low [] = Unit {0}
AreBySession low (reply ∷ replies) = (low ≤ reply.line.session) × AreBySession reply.line.session replies

-- Each line of a round has its reply: they stand session by session, and those of one session in the order of its lines.
pub record RepliesTo (lines : List Line) (replies : List Replied) : Type 0 where
  pub by_session : AreBySession 0 replies
  pub same : (session : ℕ) → map (λ (r : Replied). r.line) (replies_of_session session replies) ≡ lines_of_session session lines

-- Each round has its replies.
unfoldable pub RepliesToRounds : List Round → List (List Replied) → Type 0
RepliesToRounds [] [] = Unit {0}
RepliesToRounds [] (replies ∷ more) = ⊥
RepliesToRounds (round ∷ rounds) [] = ⊥
RepliesToRounds (round ∷ rounds) (replies ∷ more) = RepliesTo round.lines replies × RepliesToRounds rounds more

-- the text of the replies, a line for each
abbrev pub replies_text : List (List Replied) → List ℕ
replies_text rounds = flat_map (λ (replies : List Replied). flat_map (λ (r : Replied). reply_line r.line.session r.said) replies) rounds

-- the batch that an act made, if its reply tells a number
abbrev pub batch_said : Act → Said → Option Batch
batch_said (Commit sync entries) (Committed first count synced) = Some (record { first = first; entries = entries })
batch_said (Commit sync entries) (Unsynced first count) = Some (record { first = first; entries = entries })
batch_said (Commit sync entries) Dead = None
batch_said (Commit sync entries) Limit = None
batch_said (Commit sync entries) (Got key value visible) = None
batch_said (Get key) said = None

-- the batch that a line made, if its reply tells a number
abbrev pub batch_of : Replied → Option Batch
batch_of reply = batch_said reply.line.act reply.said

-- A store is all batches of a run in their order, those of the base first. It is numbered from this number on, so many of its batches
-- are the base's, and the run's journal died or did not.
module _ (from : ℕ) (store : List Batch) (base : ℕ) (died : Bool) where
  -- the number that is visible after the first n batches
  abbrev pub visible_after : ℕ → ℕ
  visible_after n = end_after from (take n store)

  -- How an act is answered where its session has seen the first n batches, and how many it has seen then. A commit is the next batch,
  -- and is synced where it asked for that, unless the journal died; or the journal was dead, or a limit is reached, and there is no
  -- batch. A read answers after those n.
  pub data Answers (n : ℕ) : Act → ℕ → Said → Type 0 where
    committed : (sync : Bool) (batch : Batch) → slice_get store n ≡ Some batch
        → Answers n (Commit sync batch.entries) (n + 1) (Committed batch.first (count_of batch.entries) sync)
    unsynced : (batch : Batch) → slice_get store n ≡ Some batch → IsTrue died
        → Answers n (Commit true batch.entries) (n + 1) (Unsynced batch.first (count_of batch.entries))
    dead : (sync : Bool) (entries : List Entry) → IsTrue died → Answers n (Commit sync entries) n Dead
    past_numbers : (sync : Bool) (entries : List Entry) → NUMBER_MAX < visible_after n + count_of entries → Answers n (Commit sync entries) n Limit
    past_batches : (sync : Bool) (entries : List Entry) → n ≡ base + BATCHES_MAX → Answers n (Commit sync entries) n Limit
    read : (key : List ℕ) → Answers n (Get key) n (Got key (answer store n key) (visible_after n))

  -- The lines are answered one after another, the first after n batches, with no batch between them but their own.
  unfoldable pub AnswersInOrder : ℕ → List Replied → ℕ → Type 0
  AnswersInOrder n [] end = end ≡ n
  AnswersInOrder n (reply ∷ replies) end = (next : ℕ) × Answers n reply.line.act next reply.said × AnswersInOrder next replies end

  -- The lines of one session are answered one after another. Before each of them, and at the end, it may see more of the store, and
  -- never less.
  unfoldable pub AnswersInTurn : ℕ → List Replied → ℕ → Type 0
  AnswersInTurn n [] end = n ≤ end
  AnswersInTurn n (reply ∷ replies) end = (m next : ℕ) × (n ≤ m) × Answers m reply.line.act next reply.said × AnswersInTurn next replies end

  -- A round begins after n batches of the store and ends after `end`. Those between are the batches that its replies number, each
  -- once, and each session is answered within them.
  pub record IsLegalRound (n : ℕ) (replies : List Replied) (end : ℕ) : Type 0 where
    pub later : n ≤ end
    pub within : end ≤ length store
    pub own : IsPermutation (filter_map batch_of replies) (take (end - n) (drop n store))
    pub sessions : (session : ℕ) → AnswersInTurn n (replies_of_session session replies) end

  -- Each round is legal, and begins where the one before it ends.
  unfoldable pub AreLegalRounds : ℕ → List (List Replied) → ℕ → Type 0
  AreLegalRounds n [] end = end ≡ n
  AreLegalRounds n (replies ∷ rounds) end = (mid : ℕ) × IsLegalRound n replies mid × AreLegalRounds mid rounds end

-- The replies to the rounds are legal over the base, and add these batches to it. The base is numbered from this number on; where it
-- is empty, that is the number of the first batch.
pub record AreLegal (from : ℕ) (base : List Batch) (died : Bool) (rounds : List Round) (batches : List Batch) (replies : List (List Replied)) : Type 0 where
  pub numbered : IsContiguous from (base ++ batches)
  pub small : end_after from (base ++ batches) ≤ NUMBER_MAX
  pub few : length batches ≤ BATCHES_MAX
  pub answered : RepliesToRounds rounds replies
  pub legal : AreLegalRounds from (base ++ batches) (length base) died (length base) replies (length (base ++ batches))
