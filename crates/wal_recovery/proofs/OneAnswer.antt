-- Directories recover to at most one list of batches.
use Rattle.batch_repr.specs.declared.limits.TheConstants.{NUMBER_FIRST}
use Rattle.std.proofs.Common.{◌≡◌, inl, inr, ℕ, suc, ◌≤◌, ◌<◌, List, [], ◌∷◌, ◌++◌, sym, subst, ap, ◌∙◌, refl, arith}
use Rattle.std.specs.Prelude.{Contains}
use Rattle.std.specs.List.{filter}
use Rattle.disk_face.specs.Image.{log_number}
use Rattle.batch_repr.specs.declared.batch.Batch.{Batch}
use Rattle.batch_repr.specs.Batches.{end_after}
use Rattle.batch_repr.specs.Spelling.{SpellsBatch}
use Rattle.block_record.specs.declared.records.ReadOut.{ReadOut}
use Rattle.block_record.specs.declared.records.Rec.{Rec}
use Rattle.block_record.specs.ReadOut.{ReadsOut}
use Rattle.disk_face.specs.View.{Dirs}
use Rattle.segment_merge.proofs.Laws.{none_within, within_head, within_tail, within_cases, one_merged}
use Rattle.segment_merge.specs.Merging.{Merged}
use Rattle.wal_recovery.specs.declared.reports.Mode.{Mode}
use Rattle.wal_recovery.specs.declared.reports.Mode.TheVariants.{Strict}
use Rattle.wal_recovery.specs.Listing.{Stored, Wal, AreByIndex, AreByNumber, IsOf, IsListingOf}
use Rattle.wal_recovery.specs.Recovering.{takes_number, Spell, HoldsBatches, HoldRow, WalsMerge, RecoversFrom, Recovers}
use Rattle.wal_recovery.proofs.WalsMerge.{listed_some}
use Rattle.wal_recovery.proofs.OneReading as reading

-- ---- one listing

pub by_low : (low : ℕ) (segments : List Stored) (s : Stored) → AreByIndex low segments → Contains segments s → low ≤ s.index
unfolding AreByIndex
by_low low [] s by h = absurd (none_within s h)
by_low low (a ∷ segments) s by h = elim (within_cases a segments s h) [
  | inl e ↦ subst (λ (x : Stored). low ≤ x.index) e by.0
  | inr later ↦ omega (arith, by.0, by_low (suc a.index) segments s by.1 later)
]

tail_only : (a b : Stored) (xs ys : List Stored) → AreByIndex (suc a.index) xs → a ≡ b → ((s : Stored) → Contains (a ∷ xs) s → Contains (b ∷ ys) s)
    → (s : Stored) → Contains xs s → Contains ys s
tail_only a b xs ys by e sub s h = elim (within_cases b ys s (sub s (within_tail a xs s h))) [
  | inl is ↦ absurd (omega (arith, by_low (suc a.index) xs s by h, ap (λ (x : Stored). x.index) (e ∙ is)))
  | inr later ↦ later
]

one_segments : (low high : ℕ) (xs ys : List Stored) → AreByIndex low xs → AreByIndex high ys
    → ((s : Stored) → Contains xs s → Contains ys s) → ((s : Stored) → Contains ys s → Contains xs s) → xs ≡ ys
unfolding AreByIndex
one_segments low high [] [] bx by xy yx = refl
one_segments low high [] (y ∷ ys) bx by xy yx = absurd (none_within y (yx y (within_head y ys)))
one_segments low high (x ∷ xs) [] bx by xy yx = absurd (none_within x (xy x (within_head x xs)))
one_segments low high (x ∷ xs) (y ∷ ys) bx by xy yx =
    let e : x ≡ y = elim (within_cases y ys x (xy x (within_head x xs))) [
      | inl is ↦ sym is
      | inr later ↦ elim (within_cases x xs y (yx y (within_head y ys))) [
        | inl is ↦ is
        | inr behind ↦ absurd (omega (arith, by_low (suc y.index) ys x by.1 later, by_low (suc x.index) xs y bx.1 behind))
      ]
    ] in
    ap (λ l. x ∷ l) (one_segments (suc x.index) (suc y.index) xs ys bx.1 by.1 (tail_only x y xs ys bx.1 e xy)
    (tail_only y x ys xs by.1 (sym e) yx)) ∙ ap (λ a. a ∷ ys) e

of_head : (w : Wal) (ws : List Wal) (s : Stored) → Contains w.segments s → IsOf (w ∷ ws) w.number s
of_head w ws s h = (w, within_head w ws, refl, h)

of_tail : (w : Wal) (ws : List Wal) (n : ℕ) (s : Stored) → IsOf ws n s → IsOf (w ∷ ws) n s
of_tail w ws n s (u, h, is, at) = (u, within_tail w ws u h, is, at)

pub of_low : (low : ℕ) (ws : List Wal) (n : ℕ) (s : Stored) → AreByNumber low ws → IsOf ws n s → low ≤ n
unfolding AreByNumber
of_low low [] n s by (u, h, is, at) = absurd (none_within u h)
of_low low (w ∷ ws) n s by (u, h, is, at) = elim (within_cases w ws u h) [
  | inl e ↦ omega (arith, by.0, is, ap (λ (x : Wal). x.number) e)
  | inr later ↦ omega (arith, by.0, of_low (suc w.number) ws n s by.3 (u, later, is, at))
]

-- a segment of the first WAL's number is of the first WAL, and one of another number is after it
head_of : (w : Wal) (ws : List Wal) (n : ℕ) (s : Stored) → AreByNumber (suc w.number) ws → n ≡ w.number → IsOf (w ∷ ws) n s → Contains w.segments s
head_of w ws n s by e (u, h, is, at) = elim (within_cases w ws u h) [
  | inl eq ↦ subst (λ (x : Wal). Contains x.segments s) (sym eq) at
  | inr later ↦ absurd (omega (arith, e, of_low (suc w.number) ws n s by (u, later, is, at)))
]

tail_of : (w : Wal) (ws : List Wal) (n : ℕ) (s : Stored) → w.number < n → IsOf (w ∷ ws) n s → IsOf ws n s
tail_of w ws n s low (u, h, is, at) = elim (within_cases w ws u h) [
  | inl eq ↦ absurd (omega (arith, low, is, ap (λ (x : Wal). x.number) eq))
  | inr later ↦ (u, later, is, at)
]

same_wals : (low high : ℕ) (ws vs : List Wal) → AreByNumber low ws → AreByNumber high vs
    → ((n : ℕ) (s : Stored) → IsOf ws n s → IsOf vs n s) → ((n : ℕ) (s : Stored) → IsOf vs n s → IsOf ws n s) → ws ≡ vs
unfolding AreByNumber
same_wals low high [] [] bw bv wv vw = refl
same_wals low high [] (v ∷ vs) bw bv wv vw =
    let some = listed_some high (v ∷ vs) v bv (within_head v vs) in
    let none = vw v.number some.0 (of_head v vs some.0 some.1) in absurd (none_within none.0 none.1)
same_wals low high (w ∷ ws) [] bw bv wv vw =
    let some = listed_some low (w ∷ ws) w bw (within_head w ws) in
    let none = wv w.number some.0 (of_head w ws some.0 some.1) in absurd (none_within none.0 none.1)
same_wals low high (w ∷ ws) (v ∷ vs) bw bv wv vw =
    let sw = listed_some low (w ∷ ws) w bw (within_head w ws) in
    let sv = listed_some high (v ∷ vs) v bv (within_head v vs) in
    let up : v.number ≤ w.number = of_low v.number (v ∷ vs) w.number sw.0 (omega arith, bv.1, bv.2, bv.3) (wv w.number sw.0 (of_head w ws sw.0 sw.1)) in
    let down : w.number ≤ v.number = of_low w.number (w ∷ ws) v.number sv.0 (omega arith, bw.1, bw.2, bw.3) (vw v.number sv.0 (of_head v vs sv.0 sv.1)) in
    let n : w.number ≡ v.number = omega (arith, up, down) in
    let segments : w.segments ≡ v.segments = one_segments 0 0 w.segments v.segments bw.2 bv.2
    (λ s h. head_of v vs w.number s bv.3 n (wv w.number s (of_head w ws s h)))
    (λ s h. head_of w ws v.number s bw.3 (sym n) (vw v.number s (of_head v vs s h))) in
    let e : w ≡ v = (λ i. record { number = n i; segments = segments i }) in
    let tails : ws ≡ vs = same_wals (suc w.number) (suc v.number) ws vs bw.3 bv.3
    (λ m s h. tail_of v vs m s (omega (arith, n, of_low (suc w.number) ws m s bw.3 h)) (wv m s (of_tail w ws m s h)))
    (λ m s h. tail_of w ws m s (omega (arith, n, of_low (suc v.number) vs m s bv.3 h)) (vw m s (of_tail v vs m s h))) in
    ap (λ l. w ∷ l) tails ∙ ap (λ a. a ∷ vs) e

pub one_listing : (dirs : Dirs) (ws vs : List Wal) → IsListingOf dirs ws → IsListingOf dirs vs → ws ≡ vs
one_listing dirs ws vs lw lv = same_wals 0 0 ws vs lw.order lv.order (λ n s h. (lv.same n s).1 ((lw.same n s).0 h))
    (λ n s h. (lw.same n s).1 ((lv.same n s).0 h))

-- ---- one answer, where read-out and spelling give one

module _ (one_read : (bytes : List ℕ) (log : ℕ) (r s : ReadOut) → ReadsOut bytes log r → ReadsOut bytes log s → r ≡ s)
    (one_spelled : (bytes : List ℕ) (b c : Batch) → SpellsBatch bytes b → SpellsBatch bytes c → b ≡ c) where
  one_spell : (records : List Rec) (bs cs : List Batch) → Spell records bs → Spell records cs → bs ≡ cs
  one_spell [] [] [] h k = refl
  one_spell [] [] (c ∷ cs) h k = absurd k
  one_spell [] (b ∷ bs) cs h k = absurd h
  one_spell (r ∷ records) [] cs h k = absurd h
  one_spell (r ∷ records) (b ∷ bs) [] h k = absurd k
  one_spell (r ∷ records) (b ∷ bs) (c ∷ cs) h k = ap (λ l. b ∷ l) (one_spell records bs cs h.1 k.1) ∙ ap (λ x. x ∷ cs) (one_spelled r.bytes b c h.0 k.0)

  one_holds : (mode : Mode) (log : ℕ) (content : List ℕ) (bs cs : List Batch) → HoldsBatches mode log content bs → HoldsBatches mode log content cs → bs ≡ cs
  one_holds mode log content bs cs h k =
      let records : h.read.records ≡ k.read.records = ap (λ (r : ReadOut). r.records) (one_read content log h.read k.read h.reads k.reads) in
      h.counted_are ∙ ap (filter takes_number) (one_spell k.read.records h.all k.all (subst (λ r. Spell r h.all) records h.spelled) k.spelled) ∙ sym k.counted_are

  pub one_row : (mode : Mode) (log : ℕ) (segments : List Stored) (rows others : List (List Batch)) → HoldRow mode log segments rows → HoldRow mode log segments others → rows ≡ others
  one_row mode log [] [] [] h k = refl
  one_row mode log [] [] (c ∷ cs) h k = absurd k
  one_row mode log [] (b ∷ bs) cs h k = absurd h
  one_row mode log (s ∷ segments) [] cs h k = absurd h
  one_row mode log (s ∷ segments) (b ∷ bs) [] h k = absurd k
  one_row mode log (s ∷ segments) (b ∷ bs) (c ∷ cs) h k = ap (λ l. b ∷ l) (one_row mode log segments bs cs h.1 k.1)
      ∙ ap (λ x. x ∷ cs) (one_holds mode log s.content b c h.0 k.0)

  pub one_wals : (first : ℕ) (wals : List Wal) (as_one as_two : List Batch) → WalsMerge first wals as_one → WalsMerge first wals as_two → as_one ≡ as_two
  unfolding WalsMerge
  one_wals first [] a b h k = h ∙ sym k
  one_wals first (wal ∷ wals) a b (own, later, here, rest, is) (own2, later2, here2, rest2, is2) =
      let rows : here.row ≡ here2.row = one_row Strict (log_number wal.number) wal.segments here.row here2.row here.holds here2.holds in
      let owns : own ≡ own2 = one_merged first here2.row own own2 (subst (λ r. Merged first r own) rows here.merges) here2.merges in
      let laters : later ≡ later2 = one_wals (end_after first own2) wals later later2 (subst (λ o. WalsMerge (end_after first o) wals later) owns rest) rest2 in
      is ∙ ap (λ o. o ++ later) owns ∙ ap (λ l. own2 ++ l) laters ∙ sym is2

  -- The same, of any such laws.
  pub one_recovered : (first : ℕ) (dirs : Dirs) (a b : List Batch) → RecoversFrom first dirs a → RecoversFrom first dirs b → a ≡ b
  one_recovered first dirs a b h k =
      one_wals first k.wals a b (subst (λ w. WalsMerge first w a) (one_listing dirs h.wals k.wals h.listed k.listed) h.merges) k.merges

-- Directories recover to at most one list of batches.
pub recovers_once_from : (first : ℕ) (dirs : Dirs) (a b : List Batch) → RecoversFrom first dirs a → RecoversFrom first dirs b → a ≡ b
recovers_once_from first dirs a b h k = one_recovered reading.one_read reading.one_spelled first dirs a b h k

pub recovers_once : (dirs : Dirs) (a b : List Batch) → Recovers dirs a → Recovers dirs b → a ≡ b
recovers_once = recovers_once_from NUMBER_FIRST
