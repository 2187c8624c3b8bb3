-- What the lines of a view are answered (docs/formats/view.md, "The replies").
use Rattle.std.specs.Prelude.{◌≡◌, ◌⊎◌, ◌↔◌, ℕ, ◌+◌, ◌<◌, ◌≤◌, List, [], ◌∷◌, ◌++◌, Option, Some, None, Contains, length}
use Rattle.std.specs.List.{slice_set}
use Rattle.batch_repr.specs.declared.batch.Batch.{Batch}
use Rattle.batch_repr.specs.Batches.{end_after}
use Rattle.batch_repr.specs.Versions.{answer_at}
use Rattle.arena_list.specs.Versions.{KeyVersion, AscendVersions}
use Rattle.arena_list.specs.Marks.{KeepsMarked}
use Rattle.snapshot_view.specs.Scans.{KeyValue}
use Rattle.snapshot_view.specs.Views.{LeaveVersion, HoldsAt, HoldStands, held_numbers, IsScanOf}
use Rattle.view_script.specs.declared.view_line.ViewLine.{ViewLine}
use Rattle.view_script.specs.declared.view_line.ViewLine.TheVariants.{Hold, Get, Scan, Release, Purge}
use Rattle.view_runner.specs.Texts.{hold_line, above_line, gone_line, got_line, scan_lines, release_line, purge_line, not_held_line}

-- What the lines have come to: the floor, the number of each hold line, which is none where it was refused or is released, and the
-- versions that are left.
pub record ViewState : Type 0 where
  pub floor : ℕ
  pub holds : List (Option ℕ)
  pub left : List KeyVersion

-- the state with one hold line more
abbrev pub with_hold : ViewState → Option ℕ → ViewState
with_hold state hold = record state { holds = state.holds ++ hold ∷ [] }

-- The number can be held: it is at the floor or above, or a hold stands at it.
abbrev pub IsKept : ViewState → ℕ → Type 0
IsKept state at = (state.floor ≤ at) ⊎ Contains state.holds (Some at)

-- How a line is answered in a state, and the state after it, over batches after which this number comes next.
pub data Replies (batches : List Batch) (next : ℕ) (state : ViewState) : ViewLine → List ℕ → ViewState → Type 0 where
  held : (at : ℕ) → at ≤ next → IsKept state at
      → Replies batches next state (Hold at) (hold_line (length state.holds) at) (with_hold state (Some at))
  above : (at : ℕ) → next < at
      → Replies batches next state (Hold at) (above_line next) (with_hold state None)
  gone : (at : ℕ) → at ≤ next → at < state.floor → (Contains state.holds (Some at) → ⊥)
      → Replies batches next state (Hold at) (gone_line state.floor) (with_hold state None)
  got : (i at : ℕ) (key : List ℕ) → HoldsAt state.holds i at
      → Replies batches next state (Get i key) (got_line key (answer_at batches at key) at) state
  scanned : (i at : ℕ) (from : List ℕ) (pairs : List KeyValue) → HoldsAt state.holds i at → IsScanOf batches from at pairs
      → Replies batches next state (Scan i from) (scan_lines pairs at) state
  released : (i : ℕ) → HoldStands state.holds i
      → Replies batches next state (Release i) (release_line i) (record state { holds = slice_set state.holds i None })
  get_not_held : (i : ℕ) (key : List ℕ) → (HoldStands state.holds i → ⊥)
      → Replies batches next state (Get i key) not_held_line state
  scan_not_held : (i : ℕ) (from : List ℕ) → (HoldStands state.holds i → ⊥)
      → Replies batches next state (Scan i from) not_held_line state
  release_not_held : (i : ℕ) → (HoldStands state.holds i → ⊥)
      → Replies batches next state (Release i) not_held_line state
  purged : (count : ℕ) (left : List KeyVersion) → KeepsMarked state.left (next ∷ held_numbers state.holds) left → AscendVersions left
      → count + length left ≡ length state.left
      → Replies batches next state Purge (purge_line count) (record state { floor = next; left = left })

-- The lines are answered one after another from a state on. Their replies are this text, and leave this state.
unfoldable pub AreReplies : List Batch → ℕ → ViewState → List ViewLine → List ℕ → ViewState → Type 0
AreReplies batches next state [] text end = (text ≡ []) × (end ≡ state)
AreReplies batches next state (line ∷ lines) text end =
    (reply rest : List ℕ) × (after : ViewState) × Replies batches next state line reply after × AreReplies batches next after lines rest end
    × (text ≡ reply ++ rest)

-- No line is answered yet: nothing is held, and all versions are left.
pub record IsFirstState (batches : List Batch) (floor : ℕ) (state : ViewState) : Type 0 where
  pub floor_is : state.floor ≡ floor
  pub none_held : state.holds ≡ []
  pub all_left : (version : KeyVersion) → Contains state.left version ↔ LeaveVersion batches version
  pub ascend : AscendVersions state.left

-- The text has the replies to the lines, over batches that are viewed from a floor on.
pub record IsViewText (batches : List Batch) (floor : ℕ) (lines : List ViewLine) (text : List ℕ) : Type 0 where
  pub first : ViewState
  pub last : ViewState
  pub begins : IsFirstState batches floor first
  pub replies : AreReplies batches (end_after floor batches) first lines text last
