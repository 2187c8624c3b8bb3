-- A segment reads as one list of records.
use Rattle.std.proofs.Common.{◌≡◌, ℕ, Bool, false, Option, Some, None, List, [], ◌∷◌, length, not, ◌==◌, drop, sym, subst, ap, ◌∙◌, refl, arith}
use Rattle.std.specs.List.{list_any}
use Rattle.crc_chunk.specs.Chunk.{Chunk}
use Rattle.crc_chunk.proofs.Laws.{one_chunk}
use Rattle.block_record.specs.declared.records.ReadOut.{ReadOut}
use Rattle.block_record.specs.declared.records.Rec.{Rec}
use Rattle.block_record.specs.declared.records.Shown.{Shown}
use Rattle.block_record.specs.ReadOut.{place_after, stopped_at, TellsShown, leaves_open, IsChain, spelled_from, nothing, ReadsOut}

-- Of two chains of one length from one place, both are one.
one_chain : (bytes : List ℕ) (log at : ℕ) (is_open : Bool) (ls ms : List Chunk) → IsChain bytes log at is_open ls
    → IsChain bytes log at is_open ms → length ls ≡ length ms → ls ≡ ms
one_chain bytes log at is_open [] [] a b e = refl
one_chain bytes log at is_open [] (m ∷ ms) a b e = absurd (omega (arith, e))
one_chain bytes log at is_open (l ∷ ls) [] a b e = absurd (omega (arith, e))
one_chain bytes log at is_open (l ∷ ls) (m ∷ ms) a b e =
    let here : l ≡ m = one_chunk a.1 b.1 in
    let rest : IsChain bytes log (place_after at l) (leaves_open l.kind) ms = subst
    (λ (x : Chunk). IsChain bytes log (place_after at x) (leaves_open x.kind) ms) (sym here) b.2 in
    let len : length ls ≡ length ms = omega (arith, e) in
    ap (λ x. l ∷ x) (one_chain bytes log (place_after at l) (leaves_open l.kind) ls ms a.2 rest len) ∙ ap (λ x. x ∷ ms) here

-- One thing shows that the bytes at a place are corrupt, or nothing does.
one_told : (bytes : List ℕ) (log at : ℕ) (x y : Option Shown) → TellsShown bytes log at x → TellsShown bytes log at y → x ≡ y
one_told bytes log at None None a b = refl
one_told bytes log at None (Some y) a b = absurd (a y.shown_at b.shows)
one_told bytes log at (Some x) None a b = absurd (b x.shown_at a.shows)
one_told bytes log at (Some x) (Some y) a b =
    let place : x.shown_at ≡ y.shown_at = omega (arith, a.least y.shown_at b.shows, b.least x.shown_at a.shows) in
    ap (λ (n : ℕ). Some (record { at = n; shown_at = x.shown_at })) (a.at_is ∙ sym b.at_is)
    ∙ ap (λ (n : ℕ). Some (record { at = y.at; shown_at = n })) place

-- A segment is read in one way.
pub one_read : (bytes : List ℕ) (log : ℕ) (r s : ReadOut) → ReadsOut bytes log r → ReadsOut bytes log s → r ≡ s
one_read bytes log r s a b =
    ap (λ (records : List Rec). record r { records = records }) records ∙ ap (λ (n : ℕ). record r { records = s.records; ends_at = n }) end
    ∙ ap (λ (t : Bool). record s { torn = t; shown = r.shown }) torn ∙ ap (λ (o : Option Shown). record s { shown = o }) shown
  where
    links : a.links ≡ b.links
    links =
        let len : length a.links ≡ length b.links = omega (arith, a.longest.longest b.links b.longest.chain, b.longest.longest a.links a.longest.chain) in
        one_chain bytes log 0 false a.links b.links a.longest.chain b.longest.chain len

    records : r.records ≡ s.records
    records = a.records_are ∙ ap (λ ls. (spelled_from 0 nothing ls).records) links ∙ sym b.records_are

    end : r.ends_at ≡ s.ends_at
    end = a.end_is ∙ ap (λ ls. (spelled_from 0 nothing ls).ends_at) links ∙ sym b.end_is

    torn : r.torn ≡ s.torn
    torn = a.torn_is ∙ ap (λ n. list_any (λ c. not (c == 0)) (drop n bytes)) end ∙ sym b.torn_is

    shown : r.shown ≡ s.shown
    shown = one_told bytes log (stopped_at 0 b.links) r.shown s.shown (subst (λ (ls : List Chunk). TellsShown bytes log (stopped_at 0 ls) r.shown) links a.shown_is) b.shown_is
