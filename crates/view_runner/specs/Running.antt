-- What a run keeps, and which state it stands for. Nothing of it is seen from outside.
use Rattle.std.specs.Prelude.{◌≡◌, ℕ, suc, ◌≤◌, List, [], ◌∷◌, ◌++◌, Option, Some, None}
use Rattle.batch_repr.specs.declared.batch.Batch.{Batch}
use Rattle.batch_repr.specs.Batches.{end_after}
use Rattle.snapshot_view.specs.declared.view.SnapId.{SnapId}
use Rattle.view_script.specs.declared.view_line.ViewLine.{ViewLine}
use Rattle.view_runner.specs.declared.run.Run.{Run}
use Rattle.view_runner.specs.Replies.{ViewState, Replies, AreReplies, IsFirstState}

-- The holds of hold lines, the numbers at which the view's holds from one on stand, and the numbers of the lines.
pub data AreHeld : ℕ → List (Option SnapId) → List (Option ℕ) → List (Option ℕ) → Type 0 where
  none : (n : ℕ) → AreHeld n [] [] []
  refused : (n : ℕ) (ids : List (Option SnapId)) (held numbers : List (Option ℕ)) → AreHeld n ids held numbers
      → AreHeld n (None ∷ ids) held (None ∷ numbers)
  stands : (n at : ℕ) (ids : List (Option SnapId)) (held numbers : List (Option ℕ)) → AreHeld (suc n) ids held numbers
      → AreHeld n (Some (record { number = n }) ∷ ids) (Some at ∷ held) (Some at ∷ numbers)
  released : (n : ℕ) (ids : List (Option SnapId)) (held numbers : List (Option ℕ)) → AreHeld (suc n) ids held numbers
      → AreHeld n (None ∷ ids) (None ∷ held) (None ∷ numbers)

-- The run has come to the state.
pub record HasCome (run : Run) (state : ViewState) : Type 0 where
  pub floor_is : state.floor ≡ run.view.floor
  pub left_is : state.left ≡ run.view.versions
  pub holds : AreHeld 0 run.holds.items run.view.holds state.holds
  pub low : run.view.floor ≤ run.view.next

-- The run has come to some state.
abbrev pub CanGoOn : Run → Type 0
CanGoOn run = (state : ViewState) × HasCome run state

-- The line is answered in a state to which the run has come, and the run comes to the state after it.
pub record AnswersLine (old : Run) (state : ViewState) (line : ViewLine) (new : Run) : Type 0 where
  pub reply : List ℕ
  pub after : ViewState
  pub is : Replies old.view.batches old.view.next state line reply after
  pub text_is : new.text ≡ old.text ++ reply
  pub come : HasCome new after
  pub same_batches : new.view.batches ≡ old.view.batches
  pub same_next : new.view.next ≡ old.view.next

-- The line is answered, whatever the state to which the run has come.
abbrev pub AnswersFrom : Run → ViewLine → Run → Type 0
AnswersFrom old line new = (state : ViewState) → HasCome old state → AnswersLine old state line new

-- The lines are answered, over batches that are viewed from a floor on.
pub record HasAnswered (batches : List Batch) (floor : ℕ) (lines : List ViewLine) (run : Run) : Type 0 where
  pub first : ViewState
  pub last : ViewState
  pub begins : IsFirstState batches floor first
  pub replies : AreReplies batches (end_after floor batches) first lines run.text last
  pub come : HasCome run last
  pub same_batches : run.view.batches ≡ batches
  pub same_next : run.view.next ≡ end_after floor batches
