-- Laws of replies, each as one statement (docs/formats/program.md, "Which replies are legal").
use Rattle.std.specs.Prelude.{◌≡◌, ◌⊎◌, ℕ, ◌+◌, ◌<◌, ◌≤◌, List, ◌++◌, length, Bool, true, false, map}
use Rattle.std.specs.List.{AllByRecursion, list_any}
use Rattle.batch_repr.specs.declared.batch.Batch.{Batch}
use Rattle.batch_repr.specs.declared.limits.TheConstants.{NUMBER_MAX, BATCHES_MAX}
use Rattle.batch_repr.specs.Batches.{end_after}
use Rattle.session_replies.specs.declared.script.Round.{Round}
use Rattle.session_replies.specs.declared.replies.Said.{Said}
use Rattle.session_replies.specs.declared.replies.Said.TheVariants.{Committed, Unsynced, Dead, Limit, Got}
use Rattle.session_replies.specs.Rounds.{rounds_numbers, rounds_commits}
use Rattle.session_replies.specs.Legal.{Replied, lines_of_session, AnswersInOrder, IsLegalRound, AreLegal}

-- ---- replies

-- A round whose lines are answered one after another is legal.
abbrev pub AnswersInOrderAreLegal : Type 0
AnswersInOrderAreLegal = (from : ℕ) (store : List Batch) (base : ℕ) (died : Bool) (replies : List Replied) (n end : ℕ) → n ≤ length store
    → AnswersInOrder from store base died n replies end → IsLegalRound from store base died n replies end

-- All lines of the round are of one session.
abbrev pub IsOfOneSession : Round → Type 0
IsOfOneSession round = (session : ℕ) × (lines_of_session session round.lines ≡ round.lines)

-- a reply, but for what it says of a sync
abbrev pub but_for_sync : Said → Said
but_for_sync (Committed first count synced) = Committed first count false
but_for_sync (Unsynced first count) = Committed first count false
but_for_sync Dead = Dead
but_for_sync Limit = Limit
but_for_sync (Got key value visible) = Got key value visible

-- whether a reply tells that the journal is dead
abbrev pub tells_death : Said → Bool
tells_death (Committed first count synced) = false
tells_death (Unsynced first count) = false
tells_death Dead = true
tells_death Limit = false
tells_death (Got key value visible) = false

-- the replies to the lines of each round, but for what they say of a sync
abbrev pub all_but_for_sync : List (List Replied) → List (List Said)
all_but_for_sync rounds = map (map (λ (r : Replied). but_for_sync r.said)) rounds

-- which lines of each round are told that the journal is dead
abbrev pub deaths_told : List (List Replied) → List (List Bool)
deaths_told rounds = map (map (λ (r : Replied). tells_death r.said)) rounds

-- Where each round is of one session, two legal answers that tell the same lines of a dead journal have the same batches, and the same
-- replies but for what they say of a sync.
abbrev pub OneSessionFixesReplies : Type 0
OneSessionFixesReplies =
    (from : ℕ) (base : List Batch) (died other_died : Bool) (rounds : List Round) (batches others : List Batch) (replies other_replies : List (List Replied))
    → AllByRecursion IsOfOneSession rounds → AreLegal from base died rounds batches replies → AreLegal from base other_died rounds others other_replies
    → deaths_told replies ≡ deaths_told other_replies → (batches ≡ others) × (all_but_for_sync replies ≡ all_but_for_sync other_replies)

-- ---- limits

-- whether a reply tells that a limit is reached
abbrev pub tells_limit : Said → Bool
tells_limit (Committed first count synced) = false
tells_limit (Unsynced first count) = false
tells_limit Dead = false
tells_limit Limit = true
tells_limit (Got key value visible) = false

-- whether one of the replies to the rounds does
abbrev pub limit_told : List (List Replied) → Bool
limit_told rounds = list_any (list_any (λ (r : Replied). tells_limit r.said)) rounds

-- The rounds ask for more numbers than are left after the base, or for more batches than a run may commit.
abbrev pub AsksTooMuch : ℕ → List Batch → List Round → Type 0
AsksTooMuch from base rounds = (NUMBER_MAX < end_after from base + rounds_numbers rounds) ⊎ (BATCHES_MAX < rounds_commits rounds)

-- A run takes no more than its rounds ask for. Where its journal did not die, it takes all of it or a reply tells a limit, and that
-- happens exactly where the rounds ask for too much.
pub record IsLimitedExactly (from : ℕ) (base : List Batch) (died : Bool) (rounds : List Round) (batches : List Batch)
    (replies : List (List Replied)) : Type 0 where
  pub numbers_asked : end_after from (base ++ batches) ≤ end_after from base + rounds_numbers rounds
  pub batches_asked : length batches ≤ rounds_commits rounds
  pub cause : limit_told replies ≡ true → AsksTooMuch from base rounds
  pub none : end_after from base + rounds_numbers rounds ≤ NUMBER_MAX → rounds_commits rounds ≤ BATCHES_MAX → limit_told replies ≡ false
  pub all_numbers : died ≡ false → limit_told replies ≡ false → end_after from (base ++ batches) ≡ end_after from base + rounds_numbers rounds
  pub all_batches : died ≡ false → limit_told replies ≡ false → length batches ≡ rounds_commits rounds
  pub some : died ≡ false → AsksTooMuch from base rounds → limit_told replies ≡ true

-- Legal replies tell a limit where the rounds ask for too much, and only there.
abbrev pub LimitsAreExact : Type 0
LimitsAreExact = (from : ℕ) (base : List Batch) (died : Bool) (rounds : List Round) (batches : List Batch) (replies : List (List Replied))
    → AreLegal from base died rounds batches replies → IsLimitedExactly from base died rounds batches replies
