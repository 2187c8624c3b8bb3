-- A line more is answered.
use Rattle.std.proofs.Common.{◌≡◌, ◌↔◌, Option, ℕ, ◌≤◌, List, [], ◌∷◌, ◌++◌, refl, sym, ap, ◌∙◌, subst, append_assoc, append-nil, arith}
use Rattle.std.specs.Prelude.{Contains}
use Rattle.batch_repr.specs.declared.batch.Batch.{Batch}
use Rattle.batch_repr.specs.Batches.{end_after}
use Rattle.arena_list.specs.Versions.{KeyVersion, AscendVersions}
use Rattle.snapshot_view.specs.declared.view.SnapId.{SnapId}
use Rattle.snapshot_view.specs.Views.{CanBeViewed, LeaveVersion}
use Rattle.view_script.specs.declared.view_line.ViewLine.{ViewLine}
use Rattle.view_runner.specs.declared.run.Run.{Run}
use Rattle.view_runner.specs.Replies.{ViewState, Replies, AreReplies, IsViewText}
use Rattle.view_runner.specs.Running.{AreHeld, none, AnswersFrom, HasAnswered}

line_more : (batches : List Batch) (next : ℕ) (lines : List ViewLine) (line : ViewLine) (text reply : List ℕ) (first mid last : ViewState)
    → AreReplies batches next first lines text mid → Replies batches next mid line reply last
    → AreReplies batches next first (lines ++ line ∷ []) (text ++ reply) last
unfolding AreReplies
line_more batches next [] line text reply first mid last (empty, same) is = (
  reply,
  [],
  last,
  subst (λ (s : ViewState). Replies batches next s line reply last) same is,
  (refl, refl),
  ap (λ (t : List ℕ). t ++ reply) empty ∙ sym (append-nil reply),
)
line_more batches next (other ∷ lines) line text reply first mid last (head, rest, after, answered, more, text_is) is = (
  head,
  rest ++ reply,
  after,
  answered,
  line_more batches next lines line rest reply after mid last more is,
  ap (λ (t : List ℕ). t ++ reply) text_is ∙ append_assoc head rest reply,
)

-- the floor is at most the next number
floor_low : (batches : List Batch) (floor : ℕ) → CanBeViewed batches floor → floor ≤ end_after floor batches
unfolding end_after
floor_low [] floor viewed = omega arith
floor_low (batch ∷ batches) floor viewed = viewed.to

pub none_answered : (batches : List Batch) (floor : ℕ) (run : Run) → CanBeViewed batches floor → run.view.batches ≡ batches → run.view.floor ≡ floor
    → run.view.next ≡ end_after floor batches → run.view.holds ≡ []
    → ((version : KeyVersion) → Contains run.view.versions version ↔ LeaveVersion batches version) → AscendVersions run.view.versions
    → run.holds.items ≡ [] → run.text ≡ [] → HasAnswered batches floor [] run
unfolding AreReplies
none_answered batches floor run viewed batches_is floor_is next_is holds_is left ascend ids_is text_is =
    record {
      first = state;
      last = state;
      begins = record { floor_is = floor_is; none_held = holds_is; all_left = left; ascend = ascend };
      replies = (text_is, refl);
      come = record {
        floor_is = refl;
        left_is = refl;
        holds = subst (λ (l : List (Option SnapId)). AreHeld 0 l run.view.holds run.view.holds) (sym ids_is)
            (subst (λ (l : List (Option ℕ)). AreHeld 0 [] l l) (sym holds_is) (none 0));
        low = omega (arith, floor_low batches floor viewed, floor_is, next_is);
      };
      same_batches = batches_is;
      same_next = next_is;
    }
  where
    state : ViewState
    state = record { floor = run.view.floor; holds = run.view.holds; left = run.view.versions }

module _ (batches : List Batch) (floor : ℕ) (lines : List ViewLine) where
  pub answered_more : (old new : Run) (line : ViewLine) → HasAnswered batches floor lines old → AnswersFrom old line new
      → HasAnswered batches floor (lines ++ line ∷ []) new
  answered_more old new line all goes =
      let it = goes all.last all.come in
      record {
        first = all.first;
        last = it.after;
        begins = all.begins;
        replies = subst (λ (t : List ℕ). AreReplies batches (end_after floor batches) all.first (lines ++ line ∷ []) t it.after) (sym it.text_is)
            (line_more batches (end_after floor batches) lines line old.text it.reply all.first all.last it.after all.replies
            (subst (λ (bs : List Batch). Replies bs (end_after floor batches) all.last line it.reply it.after) all.same_batches
            (subst (λ (n : ℕ). Replies old.view.batches n all.last line it.reply it.after) all.same_next it.is)));
        come = it.come;
        same_batches = it.same_batches ∙ all.same_batches;
        same_next = it.same_next ∙ all.same_next;
      }

  pub answered_all : (run : Run) → HasAnswered batches floor lines run → IsViewText batches floor lines run.text
  answered_all run all = record { first = all.first; last = all.last; begins = all.begins; replies = all.replies }
