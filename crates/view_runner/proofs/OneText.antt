-- Lines have one text: each line has one reply in a state, and one state after it.
use Rattle.std.proofs.Common.{◌≡◌, inl, inr, ℕ, ◌+◌, ◌<◌, ◌≤◌, List, [], ◌∷◌, ◌++◌, length, Option, Some, None, Less, nat_cmp, refl, sym, ap, ◌∙◌, subst, arith}
use Rattle.std.specs.Prelude.{Contains}
use Rattle.std.specs.List.{slice_set}
use Rattle.std.proofs.lemmas.Cmp.{tied_itself, nat_list_cmp_total}
use Rattle.std.specs.Cmp.{IsTotalOrder}
use Rattle.std.specs.Cmp.Lexicographic.{slice_cmp}
use Rattle.wal_base.proofs.Laws.{none_within, within_head, within_tail, within_cases}
use Rattle.batch_repr.specs.declared.batch.Batch.{Batch}
use Rattle.batch_repr.specs.Batches.{end_after}
use Rattle.batch_repr.specs.Versions.{answer_at}
use Rattle.arena_list.specs.Versions.{KeyVersion, AscendVersions, Precedes}
use Rattle.arena_list.specs.Marks.{KeepsMarked}
use Rattle.arena_list.proofs.Laws.{before_along, never_before_itself}
use Rattle.snapshot_view.specs.Scans.{KeyValue, AscendByKey}
use Rattle.snapshot_view.specs.Views.{HoldsAt, HoldStands, held_numbers, IsScanOf}
use Rattle.view_script.specs.declared.view_line.ViewLine.{ViewLine}
use Rattle.view_script.specs.declared.view_line.ViewLine.TheVariants.{Hold, Get, Scan, Release, Purge}
use Rattle.view_runner.specs.Texts.{hold_line, above_line, gone_line, got_line, scan_lines, release_line, purge_line, not_held_line}
use Rattle.view_runner.specs.Replies.{ViewState, with_hold, IsKept, Replies, held, above, gone, got, scanned, released, get_not_held, scan_not_held, release_not_held, purged, AreReplies, IsFirstState}
use Rattle.view_runner.specs.Theorems.{ViewsHaveOneText}

-- ---- lists in order are fixed by what they contain

module _ {X : Type 0} (Before : X → X → Type 0) (along : (x y z : X) → Before x y → Before y z → Before x z) (apart : (x : X) → Before x x → ⊥)
    (Ascend : List X → Type 0) (first : (x : X) (xs : List X) → Ascend (x ∷ xs) → (y : X) → Contains xs y → Before x y)
    (later : (x : X) (xs : List X) → Ascend (x ∷ xs) → Ascend xs) where
  same_first : (x y : X) (xs ys : List X) → Ascend (x ∷ xs) → Ascend (y ∷ ys) → Contains (y ∷ ys) x → Contains (x ∷ xs) y → x ≡ y
  same_first x y xs ys a b here there =
      elim (within_cases y ys x here) [
        | inl is ↦ sym is
        | inr after ↦
            elim (within_cases x xs y there) [
              | inl is ↦ is
              | inr behind ↦ absurd (apart x (along x y x (first x xs a y behind) (first y ys b x after)))
            ]
      ]

  others : (x : X) (xs ys : List X) → Ascend (x ∷ xs) → ((z : X) → Contains (x ∷ xs) z → Contains (x ∷ ys) z) → (z : X) → Contains xs z → Contains ys z
  others x xs ys a same z h =
      elim (within_cases x ys z (same z (within_tail x xs z h))) [
        | inl is ↦ absurd (apart x (subst (Before x) (sym is) (first x xs a z h)))
        | inr there ↦ there
      ]

  pub one_list : (xs ys : List X) → Ascend xs → Ascend ys → ((z : X) → Contains xs z → Contains ys z) → ((z : X) → Contains ys z → Contains xs z) → xs ≡ ys
  one_list [] [] a b here there = refl
  one_list [] (y ∷ ys) a b here there = absurd (none_within y (there y (within_head y ys)))
  one_list (x ∷ xs) [] a b here there = absurd (none_within x (here x (within_head x xs)))
  one_list (x ∷ xs) (y ∷ ys) a b here there =
      let same = same_first x y xs ys a b (here x (within_head x xs)) (there y (within_head y ys)) in
      let here' : (z : X) → Contains (x ∷ xs) z → Contains (x ∷ ys) z = subst (λ (w : X). (z : X) → Contains (x ∷ xs) z → Contains (w ∷ ys) z) (sym same) here in
      let there' : (z : X) → Contains (x ∷ ys) z → Contains (x ∷ xs) z = subst (λ (w : X). (z : X) → Contains (w ∷ ys) z → Contains (x ∷ xs) z) (sym same) there in
      let b' : Ascend (x ∷ ys) = subst (λ (w : X). Ascend (w ∷ ys)) (sym same) b in
      ap (λ (l : List X). x ∷ l) (one_list xs ys (later x xs a) (later y ys b) (others x xs ys a here') (others x ys xs b' there'))
      ∙ ap (λ (w : X). w ∷ ys) same

one_left : (one other : List KeyVersion) → AscendVersions one → AscendVersions other → ((v : KeyVersion) → Contains one v → Contains other v)
    → ((v : KeyVersion) → Contains other v → Contains one v) → one ≡ other
unfolding AscendVersions
one_left one other a b here there =
    one_list Precedes (λ x y z p q. before_along x y z.key z.number p q) never_before_itself AscendVersions (λ x xs up. up.0) (λ x xs up. up.1)
    one other a b here there

one_scan : (one other : List KeyValue) → AscendByKey one → AscendByKey other → ((p : KeyValue) → Contains one p → Contains other p)
    → ((p : KeyValue) → Contains other p → Contains one p) → one ≡ other
unfolding AscendByKey
one_scan one other a b here there =
    one_list (λ (x y : KeyValue). slice_cmp nat_cmp x.key y.key ≡ Less) (λ x y z p q. IsTotalOrder.trans nat_list_cmp_total x.key y.key z.key p q)
    (λ x p. let tied = tied_itself nat_list_cmp_total x.key in absurd cc) AscendByKey (λ x xs up. up.0) (λ x xs up. up.1)
    one other a b here there

-- ---- one line

module _ (batches : List Batch) (next : ℕ) (state : ViewState) where
  -- what a reply to a line comes to
  data HoldReply (at : ℕ) (text : List ℕ) (after : ViewState) : Type 0 where
    is_held : at ≤ next → IsKept state at → text ≡ hold_line (length state.holds) at → after ≡ with_hold state (Some at) → HoldReply at text after
    is_above : next < at → text ≡ above_line next → after ≡ with_hold state None → HoldReply at text after
    is_gone : at ≤ next → at < state.floor → (Contains state.holds (Some at) → ⊥) → text ≡ gone_line state.floor → after ≡ with_hold state None
        → HoldReply at text after

  data GetReply (i : ℕ) (key text : List ℕ) (after : ViewState) : Type 0 where
    is_got : (at : ℕ) → HoldsAt state.holds i at → text ≡ got_line key (answer_at batches at key) at → after ≡ state → GetReply i key text after
    is_lost : (HoldStands state.holds i → ⊥) → text ≡ not_held_line → after ≡ state → GetReply i key text after

  data ScanReply (i : ℕ) (from text : List ℕ) (after : ViewState) : Type 0 where
    is_scanned : (at : ℕ) (pairs : List KeyValue) → HoldsAt state.holds i at → IsScanOf batches from at pairs → text ≡ scan_lines pairs at → after ≡ state
        → ScanReply i from text after
    is_unseen : (HoldStands state.holds i → ⊥) → text ≡ not_held_line → after ≡ state → ScanReply i from text after

  data ReleaseReply (i : ℕ) (text : List ℕ) (after : ViewState) : Type 0 where
    is_released : HoldStands state.holds i → text ≡ release_line i → after ≡ record state { holds = slice_set state.holds i None } → ReleaseReply i text after
    is_kept : (HoldStands state.holds i → ⊥) → text ≡ not_held_line → after ≡ state → ReleaseReply i text after

  record PurgeReply (text : List ℕ) (after : ViewState) : Type 0 where
    count : ℕ
    left : List KeyVersion
    keeps : KeepsMarked state.left (next ∷ held_numbers state.holds) left
    ascend : AscendVersions left
    counted : count + length left ≡ length state.left
    text_is : text ≡ purge_line count
    after_is : after ≡ record state { floor = next; left = left }

  abbrev ReplyTo : ViewLine → List ℕ → ViewState → Type 0
  ReplyTo (Hold at) text after = HoldReply at text after
  ReplyTo (Get i key) text after = GetReply i key text after
  ReplyTo (Scan i from) text after = ScanReply i from text after
  ReplyTo (Release i) text after = ReleaseReply i text after
  ReplyTo Purge text after = PurgeReply text after

  reply_to : (line : ViewLine) (text : List ℕ) (after : ViewState) → Replies batches next state line text after → ReplyTo line text after
  reply_to _ _ _ (held at within kept) = is_held within kept refl refl
  reply_to _ _ _ (above at past) = is_above past refl refl
  reply_to _ _ _ (gone at within low lost) = is_gone within low lost refl refl
  reply_to _ _ _ (got i at key here) = is_got at here refl refl
  reply_to _ _ _ (scanned i at from pairs here is) = is_scanned at pairs here is refl refl
  reply_to _ _ _ (released i here) = is_released here refl refl
  reply_to _ _ _ (get_not_held i key lost) = is_lost lost refl refl
  reply_to _ _ _ (scan_not_held i from lost) = is_unseen lost refl refl
  reply_to _ _ _ (release_not_held i lost) = is_kept lost refl refl
  reply_to _ _ _ (purged count left keeps ascend counted) =
      record { count = count; left = left; keeps = keeps; ascend = ascend; counted = counted; text_is = refl; after_is = refl }

  -- Both replies are one, and so are the states after them.
  abbrev AreOne : List ℕ → ViewState → List ℕ → ViewState → Type 0
  AreOne text after text' after' = (text ≡ text') × (after ≡ after')

  kept_or_lost : (at : ℕ) → IsKept state at → at < state.floor → (Contains state.holds (Some at) → ⊥) → ⊥
  kept_or_lost at (inl high) low lost = omega (arith, high, low)
  kept_or_lost at (inr here) low lost = lost here

  one_hold : (at : ℕ) (text text' : List ℕ) (after after' : ViewState) → HoldReply at text after → HoldReply at text' after' → AreOne text after text' after'
  one_hold at text text' after after' (is_held w k t s) (is_held w' k' t' s') = (t ∙ sym t', s ∙ sym s')
  one_hold at text text' after after' (is_held w k t s) (is_above p t' s') = absurd (omega (arith, w, p))
  one_hold at text text' after after' (is_held w k t s) (is_gone w' l n t' s') = absurd (kept_or_lost at k l n)
  one_hold at text text' after after' (is_above p t s) (is_held w k t' s') = absurd (omega (arith, w, p))
  one_hold at text text' after after' (is_above p t s) (is_above p' t' s') = (t ∙ sym t', s ∙ sym s')
  one_hold at text text' after after' (is_above p t s) (is_gone w l n t' s') = absurd (omega (arith, w, p))
  one_hold at text text' after after' (is_gone w l n t s) (is_held w' k t' s') = absurd (kept_or_lost at k l n)
  one_hold at text text' after after' (is_gone w l n t s) (is_above p t' s') = absurd (omega (arith, w, p))
  one_hold at text text' after after' (is_gone w l n t s) (is_gone w' l' n' t' s') = (t ∙ sym t', s ∙ sym s')

  one_at : (i at at' : ℕ) → HoldsAt state.holds i at → HoldsAt state.holds i at' → at ≡ at'
  one_at i at at' h h' = let same : Some (Some at) ≡ Some (Some at') = sym h ∙ h' in cc

  one_get : (i : ℕ) (key text text' : List ℕ) (after after' : ViewState) → GetReply i key text after → GetReply i key text' after' → AreOne text after text' after'
  one_get i key text text' after after' (is_got at h t s) (is_got at' h' t' s') =
      (t ∙ ap (λ (n : ℕ). got_line key (answer_at batches n key) n) (one_at i at at' h h') ∙ sym t', s ∙ sym s')
  one_get i key text text' after after' (is_got at h t s) (is_lost n t' s') = absurd (n (at, h))
  one_get i key text text' after after' (is_lost n t s) (is_got at h t' s') = absurd (n (at, h))
  one_get i key text text' after after' (is_lost n t s) (is_lost n' t' s') = (t ∙ sym t', s ∙ sym s')

  same_pairs : (from : List ℕ) (at : ℕ) (pairs pairs' : List KeyValue) → IsScanOf batches from at pairs → IsScanOf batches from at pairs' → pairs ≡ pairs'
  same_pairs from at pairs pairs' is is' = one_scan pairs pairs' is.ascend is'.ascend
      (λ p h. (is'.same p.key p.value).1 ((is.same p.key p.value).0 h)) (λ p h. (is.same p.key p.value).1 ((is'.same p.key p.value).0 h))

  one_scan_reply : (i : ℕ) (from text text' : List ℕ) (after after' : ViewState) → ScanReply i from text after → ScanReply i from text' after'
      → AreOne text after text' after'
  one_scan_reply i from text text' after after' (is_scanned at pairs h is t s) (is_scanned at' pairs' h' is' t' s') =
      let same = one_at i at at' h h' in
      let is_too : IsScanOf batches from at pairs' = subst (λ (n : ℕ). IsScanOf batches from n pairs') (sym same) is' in (
        t ∙ ap (λ (l : List KeyValue). scan_lines l at) (same_pairs from at pairs pairs' is is_too) ∙ ap (λ (n : ℕ). scan_lines pairs' n) same ∙ sym t',
        s ∙ sym s',
      )
  one_scan_reply i from text text' after after' (is_scanned at pairs h is t s) (is_unseen n t' s') = absurd (n (at, h))
  one_scan_reply i from text text' after after' (is_unseen n t s) (is_scanned at pairs h is t' s') = absurd (n (at, h))
  one_scan_reply i from text text' after after' (is_unseen n t s) (is_unseen n' t' s') = (t ∙ sym t', s ∙ sym s')

  one_release : (i : ℕ) (text text' : List ℕ) (after after' : ViewState) → ReleaseReply i text after → ReleaseReply i text' after' → AreOne text after text' after'
  one_release i text text' after after' (is_released h t s) (is_released h' t' s') = (t ∙ sym t', s ∙ sym s')
  one_release i text text' after after' (is_released h t s) (is_kept n t' s') = absurd (n h)
  one_release i text text' after after' (is_kept n t s) (is_released h t' s') = absurd (n h)
  one_release i text text' after after' (is_kept n t s) (is_kept n' t' s') = (t ∙ sym t', s ∙ sym s')

  one_purge : (text text' : List ℕ) (after after' : ViewState) → PurgeReply text after → PurgeReply text' after' → AreOne text after text' after'
  one_purge text text' after after' p q = (
    p.text_is ∙ ap purge_line counts ∙ sym q.text_is,
    p.after_is ∙ ap (λ (l : List KeyVersion). record state { floor = next; left = l }) same ∙ sym q.after_is,
  )
    where
      same : p.left ≡ q.left
      same = one_left p.left q.left p.ascend q.ascend (λ v h. (q.keeps v).1 ((p.keeps v).0 h)) (λ v h. (p.keeps v).1 ((q.keeps v).0 h))

      lengths : length p.left ≡ length q.left
      lengths = ap length same

      counts : p.count ≡ q.count
      counts = omega (arith, p.counted, q.counted, lengths)

  one_reply_to : (line : ViewLine) (text text' : List ℕ) (after after' : ViewState) → ReplyTo line text after → ReplyTo line text' after'
      → AreOne text after text' after'
  one_reply_to (Hold at) text text' after after' p q = one_hold at text text' after after' p q
  one_reply_to (Get i key) text text' after after' p q = one_get i key text text' after after' p q
  one_reply_to (Scan i from) text text' after after' p q = one_scan_reply i from text text' after after' p q
  one_reply_to (Release i) text text' after after' p q = one_release i text text' after after' p q
  one_reply_to Purge text text' after after' p q = one_purge text text' after after' p q

  one_reply : (line : ViewLine) (text text' : List ℕ) (after after' : ViewState) → Replies batches next state line text after
      → Replies batches next state line text' after' → AreOne text after text' after'
  one_reply line text text' after after' p q =
      one_reply_to line text text' after after' (reply_to line text after p) (reply_to line text' after' q)

-- ---- all lines

same_text : (batches : List Batch) (next : ℕ) (lines : List ViewLine) (state : ViewState) (one other : List ℕ) (end end' : ViewState)
    → AreReplies batches next state lines one end → AreReplies batches next state lines other end' → one ≡ other
unfolding AreReplies
same_text batches next [] state one other end end' p q = p.0 ∙ sym q.0
same_text batches next (line ∷ lines) state one other end end' (reply, rest, after, is, more, text_is) (reply', rest', after', is', more', text_is') =
    let both = one_reply batches next state line reply reply' after after' is is' in
    let more_too : AreReplies batches next after lines rest' end' = subst (λ (s : ViewState). AreReplies batches next s lines rest' end') (sym both.1) more' in
    let same = same_text batches next lines after rest rest' end end' more more_too in
    text_is ∙ ap (λ (t : List ℕ). t ++ rest) both.0 ∙ ap (λ (t : List ℕ). reply' ++ t) same ∙ sym text_is'

same_state : (batches : List Batch) (floor : ℕ) (one other : ViewState) → IsFirstState batches floor one → IsFirstState batches floor other → one ≡ other
same_state batches floor one other a b =
    ap (λ (n : ℕ). record one { floor = n }) (a.floor_is ∙ sym b.floor_is)
    ∙ ap (λ (l : List (Option ℕ)). record one { floor = other.floor; holds = l }) (a.none_held ∙ sym b.none_held)
    ∙ ap (λ (l : List KeyVersion). record other { left = l })
    (one_left one.left other.left a.ascend b.ascend (λ v h. (b.all_left v).1 ((a.all_left v).0 h)) (λ v h. (a.all_left v).1 ((b.all_left v).0 h)))

pub one_text : ViewsHaveOneText
one_text batches floor lines one other a b =
    same_text batches (end_after floor batches) lines a.first one other a.last b.last a.replies
    (subst (λ (s : ViewState). AreReplies batches (end_after floor batches) s lines other b.last)
    (same_state batches floor b.first a.first b.begins a.begins) b.replies)
