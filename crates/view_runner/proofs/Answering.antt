-- A line is answered as the state says to which the run has come.
use Rattle.std.proofs.Common.{◌≡◌, ◌⊎◌, inl, inr, ℕ, zero, suc, ◌+◌, ◌<◌, ◌≤◌, List, [], ◌∷◌, ◌++◌, length, Option, Some, None, refl, sym, ap, ◌∙◌, subst, arith}
use Rattle.std.specs.Prelude.{Contains, slice_get, slice_set}
use Rattle.batch_repr.specs.Versions.{answer_at}
use Rattle.arena_list.specs.Versions.{KeyVersion, AscendVersions}
use Rattle.arena_list.specs.Marks.{KeepsMarked}
use Rattle.snapshot_view.specs.declared.view.SnapId.{SnapId}
use Rattle.snapshot_view.specs.Scans.{KeyValue}
use Rattle.snapshot_view.specs.Views.{View, HoldsAt, HoldStands, IsScanOf, numbers_shown}
use Rattle.view_script.specs.declared.view_line.ViewLine.{ViewLine}
use Rattle.view_script.specs.declared.view_line.ViewLine.TheVariants.{Hold, Get, Scan, Release, Purge}
use Rattle.view_runner.specs.declared.run.Run.{Run}
use Rattle.view_runner.specs.Texts.{hold_line, above_line, gone_line, got_line, scan_lines, release_line, purge_line, not_held_line}
use Rattle.view_runner.specs.Replies.{ViewState, with_hold, IsKept, Replies, held, above, gone, got, scanned, released, get_not_held, scan_not_held, release_not_held, purged}
use Rattle.view_runner.specs.Running.{AreHeld, HasCome, CanGoOn, AnswersLine, AnswersFrom}
use Rattle.view_runner.proofs.Holding.{one_more, none_more, stands_at, let_go_both, none_stands, same_count, same_numbers, in_lines, in_view}

-- the view's hold of a line stands
pub is_held : (run : Run) (i : ℕ) (id : SnapId) → CanGoOn run → slice_get run.holds.items i ≡ Some (Some id) → HoldStands run.view.holds id.number
is_held run i id (state, come) here =
    let it = stands_at run.holds.items run.view.holds state.holds come.holds i id here in (it.0, it.1)

-- ---- what only reads

-- a run whose text has this reply more
abbrev pub with_text : Run → List ℕ → Run
with_text run text = record run { text = text }

-- The reply to the line is added, and the state stays.
abbrev Reads : Run → List ℕ → ViewLine → Type 0
Reads run text line = (state : ViewState) → HasCome run state
    → (reply : List ℕ) × Replies run.view.batches run.view.next state line reply state × (text ≡ run.text ++ reply)

reads : (run : Run) (text : List ℕ) (line : ViewLine) → Reads run text line → AnswersFrom run line (with_text run text)
reads run text line answers state come =
    let it = answers state come in
    record {
      reply = it.0;
      after = state;
      is = it.1;
      text_is = it.2;
      come = record { floor_is = come.floor_is; left_is = come.left_is; holds = come.holds; low = come.low };
      same_batches = refl;
      same_next = refl;
    }

pub gets : (run : Run) (text : List ℕ) (i : ℕ) (key : List ℕ) (id : SnapId) → slice_get run.holds.items i ≡ Some (Some id)
    → ((at : ℕ) → HoldsAt run.view.holds id.number at → text ≡ run.text ++ got_line key (answer_at run.view.batches at key) at)
    → AnswersFrom run (Get i key) (with_text run text)
gets run text i key id here written = reads run text (Get i key) (λ state come.
    let it = stands_at run.holds.items run.view.holds state.holds come.holds i id here in
    (got_line key (answer_at run.view.batches it.0 key) it.0, got i it.0 key it.2, written it.0 it.1))

pub scans : (run : Run) (text : List ℕ) (i : ℕ) (from : List ℕ) (id : SnapId) → slice_get run.holds.items i ≡ Some (Some id)
    → ((at : ℕ) → HoldsAt run.view.holds id.number at
    → (pairs : List KeyValue) × IsScanOf run.view.batches from at pairs × (text ≡ run.text ++ scan_lines pairs at))
    → AnswersFrom run (Scan i from) (with_text run text)
scans run text i from id here written = reads run text (Scan i from) (λ state come.
    let it = stands_at run.holds.items run.view.holds state.holds come.holds i id here in
    let shown = written it.0 it.1 in
    (scan_lines shown.0 it.0, scanned i it.0 from shown.0 it.2 shown.1, shown.2))

-- ---- what names no hold

module _ (run : Run) (text : List ℕ) (i : ℕ) (no : (id : SnapId) → slice_get run.holds.items i ≡ Some (Some id) → ⊥)
    (written : text ≡ run.text ++ not_held_line) where
  not_held : (state : ViewState) → HasCome run state → HoldStands state.holds i → ⊥
  not_held state come = none_stands 0 run.holds.items run.view.holds state.holds come.holds i no

  pub gets_none : (key : List ℕ) → AnswersFrom run (Get i key) (with_text run text)
  gets_none key = reads run text (Get i key) (λ state come. (not_held_line, get_not_held i key (not_held state come), written))

  pub scans_none : (from : List ℕ) → AnswersFrom run (Scan i from) (with_text run text)
  scans_none from = reads run text (Scan i from) (λ state come. (not_held_line, scan_not_held i from (not_held state come), written))

  pub releases_none : AnswersFrom run (Release i) (with_text run text)
  releases_none = reads run text (Release i) (λ state come. (not_held_line, release_not_held i (not_held state come), written))

-- ---- what changes the holds

either : (floor at : ℕ) → (floor ≤ at) ⊎ (at < floor)
either zero at = inl (omega arith)
either (suc floor) zero = inr (omega arith)
either (suc floor) (suc at) = elim (either floor at) [ inl high ↦ inl (omega (arith, high)) | inr low ↦ inr (omega (arith, low)) ]

kept : (run : Run) (state : ViewState) (at : ℕ) → HasCome run state → (at < run.view.floor → Contains run.view.holds (Some at)) → IsKept state at
kept run state at come low =
    elim (either run.view.floor at) [
      | inl high ↦ inl (subst (λ (n : ℕ). n ≤ at) (sym come.floor_is) high)
      | inr under ↦ inr (in_lines 0 run.holds.items run.view.holds state.holds come.holds at (low under))
    ]

-- What the state after a line has of a run whose view has changed its holds alone.
come_to : (old new : Run) (state : ViewState) (standing numbers : List (Option ℕ)) → HasCome old state
    → new.view ≡ record old.view { holds = standing } → AreHeld 0 new.holds.items standing numbers → HasCome new (record state { holds = numbers })
come_to old new state standing numbers come is are =
    record {
      floor_is = come.floor_is ∙ sym (ap (λ (v : View). v.floor) is);
      left_is = come.left_is ∙ sym (ap (λ (v : View). v.versions) is);
      holds = subst (λ (v : View). AreHeld 0 new.holds.items v.holds numbers) (sym is) are;
      low = subst (λ (v : View). v.floor ≤ v.next) (sym is) come.low;
    }

pub holds_at : (old new : Run) (at : ℕ) (id : SnapId) → new.view ≡ record old.view { holds = old.view.holds ++ Some at ∷ [] }
    → id.number ≡ length old.view.holds → (at ≤ old.view.next) × (at < old.view.floor → Contains old.view.holds (Some at))
    → new.text ≡ old.text ++ hold_line (length old.holds.items) at → new.holds.items ≡ old.holds.items ++ Some id ∷ []
    → AnswersFrom old (Hold at) new
holds_at old new at id is number_is taken text_is ids_are state come =
    record {
      reply = hold_line (length state.holds) at;
      after = with_hold state (Some at);
      is = held at taken.0 (kept old state at come taken.1);
      text_is = text_is ∙ ap (λ (n : ℕ). old.text ++ hold_line n at) (same_count 0 old.holds.items old.view.holds state.holds come.holds);
      come = come_to old new state _ (state.holds ++ Some at ∷ []) come is
          (subst (λ (l : List (Option SnapId)). AreHeld 0 l (old.view.holds ++ Some at ∷ []) (state.holds ++ Some at ∷ [])) (sym ids_are)
          (one_more 0 id.number at old.holds.items old.view.holds state.holds come.holds (omega (arith, number_is))));
      same_batches = ap (λ (v : View). v.batches) is;
      same_next = ap (λ (v : View). v.next) is;
    }

refuses : (old new : Run) (at : ℕ) (reply : List ℕ) (state : ViewState) → HasCome old state → new.view ≡ old.view
    → new.text ≡ old.text ++ reply → new.holds.items ≡ old.holds.items ++ None ∷ []
    → Replies old.view.batches old.view.next state (Hold at) reply (with_hold state None) → AnswersLine old state (Hold at) new
refuses old new at reply state come is text_is ids_are replied =
    record {
      reply = reply;
      after = with_hold state None;
      is = replied;
      text_is = text_is;
      come = come_to old new state _ (state.holds ++ None ∷ []) come is
          (subst (λ (l : List (Option SnapId)). AreHeld 0 l old.view.holds (state.holds ++ None ∷ [])) (sym ids_are)
          (none_more 0 old.holds.items old.view.holds state.holds come.holds));
      same_batches = ap (λ (v : View). v.batches) is;
      same_next = ap (λ (v : View). v.next) is;
    }

pub refuses_above : (old new : Run) (at next : ℕ) → new.view ≡ old.view → (next ≡ old.view.next) × (next < at)
    → new.text ≡ old.text ++ above_line next → new.holds.items ≡ old.holds.items ++ None ∷ [] → AnswersFrom old (Hold at) new
refuses_above old new at next is past text_is ids_are state come =
    refuses old new at (above_line old.view.next) state come is (text_is ∙ ap (λ (n : ℕ). old.text ++ above_line n) past.0) ids_are
    (above at (subst (λ (n : ℕ). n < at) past.0 past.1))

pub refuses_gone : (old new : Run) (at floor : ℕ) → new.view ≡ old.view
    → (floor ≡ old.view.floor) × (at < floor) × (Contains old.view.holds (Some at) → ⊥)
    → new.text ≡ old.text ++ gone_line floor → new.holds.items ≡ old.holds.items ++ None ∷ [] → AnswersFrom old (Hold at) new
refuses_gone old new at floor is lost text_is ids_are state come =
    refuses old new at (gone_line state.floor) state come is (text_is ∙ ap (λ (n : ℕ). old.text ++ gone_line n) same) ids_are
    (gone at within (subst (λ (n : ℕ). at < n) same lost.1)
    (λ h. lost.2 (in_view 0 old.holds.items old.view.holds state.holds come.holds at h)))
  where
    same : floor ≡ state.floor
    same = lost.0 ∙ sym come.floor_is

    within : at ≤ old.view.next
    within = omega (arith, lost.0, lost.1, come.low)

pub releases : (old new : Run) (i : ℕ) (id : SnapId) → slice_get old.holds.items i ≡ Some (Some id)
    → new.view ≡ record old.view { holds = slice_set old.view.holds id.number None }
    → new.holds.items ≡ slice_set old.holds.items i None → new.text ≡ old.text ++ release_line i → AnswersFrom old (Release i) new
releases old new i id here is ids_are text_is state come =
    record {
      reply = release_line i;
      after = record state { holds = slice_set state.holds i None };
      is = released i (let it = stands_at old.holds.items old.view.holds state.holds come.holds i id here in (it.0, it.2));
      text_is = text_is;
      come = come_to old new state _ (slice_set state.holds i None) come is
          (subst (λ (l : List (Option SnapId)). AreHeld 0 l (slice_set old.view.holds id.number None) (slice_set state.holds i None)) (sym ids_are)
          (let_go_both old.holds.items old.view.holds state.holds come.holds i id here));
      same_batches = ap (λ (v : View). v.batches) is;
      same_next = ap (λ (v : View). v.next) is;
    }

-- ---- what changes the versions

pub purges : (run : Run) (view : View) (text : List ℕ) (count : ℕ)
    → view ≡ record run.view { floor = run.view.next; versions = view.versions }
    → KeepsMarked run.view.versions (numbers_shown run.view) view.versions → AscendVersions view.versions
    → count + length view.versions ≡ length run.view.versions → text ≡ run.text ++ purge_line count
    → AnswersFrom run Purge (record run { view = view; text = text })
purges run view text count view_is keeps ascend fewer text_is state come =
    record {
      reply = purge_line count;
      after = record state { floor = run.view.next; left = view.versions };
      is = purged count view.versions
          (subst (λ (l : List ℕ). KeepsMarked state.left (run.view.next ∷ l) view.versions)
          (same_numbers 0 run.holds.items run.view.holds state.holds come.holds)
          (subst (λ (l : List KeyVersion). KeepsMarked l (numbers_shown run.view) view.versions) (sym come.left_is) keeps))
          ascend (fewer ∙ ap (λ (l : List KeyVersion). length l) (sym come.left_is));
      text_is = text_is;
      come = record {
        floor_is = sym (ap (λ (v : View). v.floor) view_is);
        left_is = refl;
        holds = subst (λ (l : List (Option ℕ)). AreHeld 0 run.holds.items l state.holds) (sym (ap (λ (v : View). v.holds) view_is)) come.holds;
        low = subst (λ (v : View). v.floor ≤ v.next) (sym view_is) (omega arith);
      };
      same_batches = ap (λ (v : View). v.batches) view_is;
      same_next = ap (λ (v : View). v.next) view_is;
    }
