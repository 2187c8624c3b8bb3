-- The segments of a journal stand apart by their indexes, so that what changes at one is beside the others.
use Rattle.std.proofs.Common.{◌≡◌, ◌≢◌, inl, inr, ℕ, suc, ◌+◌, ◌≤◌, Bool, List, [], ◌∷◌, ◌++◌, length, map, ap, subst, ◌∙◌, refl, arith, cond}
use Rattle.std.specs.Prelude.{max, Contains, count_by}
use Rattle.std.specs.List.{AllByRecursion}
use Rattle.std.proofs.lemmas.List.Elements.{Contains-append_cases, Contains-push_cases}
use Rattle.std.proofs.lemmas.List.Sums.{sum_by-append}
use Rattle.disk_face.specs.declared.Side.{Side}
use Rattle.disk_face.specs.declared.FilePlace.TheVariants.{Segment, Table}
use Rattle.disk_face.specs.View.{Place, segment, DiskView}
use Rattle.batch_repr.specs.declared.batch.Batch.{Batch}
use Rattle.log_writer.specs.Writer.{Writer}
use Rattle.log_writer.specs.Fits.{Fits, SameFile, place_of_writer}
use Rattle.log_writer.proofs.Laws.{fits_beside}
use Rattle.failover_writer.specs.State.{most_synced}
use Rattle.failover_writer.specs.Ranges.{side_at, IsSegmentAt, AreJoined, sent_to_current}

-- the index that a place names
abbrev pub index_in : Place → ℕ
index_in (Segment side name) = name.index
index_in (Table number) = 0

-- the place of the segment of this index
abbrev pub place_at : ℕ → ℕ → Place
place_at wal index = segment (side_at index) (record { wal = wal; index = index })

-- ---- what holds of each

pub all_push : {X : Type 0} (P : X → Type 0) (xs : List X) (x : X) → AllByRecursion P xs → P x → AllByRecursion P (xs ++ x ∷ [])
all_push P [] x all last = (last, tt)
all_push P (y ∷ xs) x all last = (all.0, all_push P xs x all.1 last)

pub all_front : {X : Type 0} (P : X → Type 0) (xs ys : List X) → AllByRecursion P (xs ++ ys) → AllByRecursion P xs
all_front P [] ys all = tt
all_front P (x ∷ xs) ys all = (all.0, all_front P xs ys all.1)

pub all_last : {X : Type 0} (P : X → Type 0) (xs : List X) (x : X) → AllByRecursion P (xs ++ x ∷ []) → P x
all_last P [] x all = all.0
all_last P (y ∷ xs) x all = all_last P xs x all.1

-- where it follows for each element
pub all_from : {X : Type 0} (P Q R : X → Type 0) (xs : List X) → ((x : X) → P x → Q x → R x) → AllByRecursion P xs → AllByRecursion Q xs → AllByRecursion R xs
all_from P Q R [] step all also = tt
all_from P Q R (x ∷ xs) step all also = (step x all.0 also.0, all_from P Q R xs step all.1 also.1)

-- ---- places

-- A segment of joined ones has the place of its index.
pub place_is : (wal index : ℕ) (w : Writer) → IsSegmentAt wal index w → place_of_writer w ≡ place_at wal index
place_is wal index w is = ap (λ (s : Side). segment s w.name) is.side ∙ ap (segment (side_at index)) is.name

pub index_is : (wal index : ℕ) (w : Writer) → IsSegmentAt wal index w → index_in (place_of_writer w) ≡ index
index_is wal index w is = ap index_in (place_is wal index w is)

-- Each place of another index is none of theirs.
pub apart_from : (wal index synced : ℕ) (ws : List Writer) (place : Place) → index + length ws ≤ index_in place
    → AreJoined wal index synced ws → AllByRecursion (λ (w : Writer). place_of_writer w ≢ place) ws
unfolding AreJoined
apart_from wal index synced [] place high joined = tt
apart_from wal index synced (w ∷ ws) place high joined = (
  λ e. absurd (omega (arith, high, index_is wal index w joined.0, ap index_in e)),
  apart_from wal (suc index) (max synced w.synced) ws place (omega (arith, high)) joined.2,
)

pub last_is : (wal index synced : ℕ) (ws : List Writer) (w : Writer) → AreJoined wal index synced (ws ++ w ∷ [])
    → IsSegmentAt wal (index + length ws) w × (w.from ≤ most_synced synced ws)
unfolding AreJoined most_synced
last_is wal index synced [] w joined = (subst (λ (n : ℕ). IsSegmentAt wal n w) (omega arith) joined.0, joined.1)
last_is wal index synced (u ∷ ws) w joined =
    let rest = last_is wal (suc index) (max synced u.synced) ws w joined.2 in
    (subst (λ (n : ℕ). IsSegmentAt wal n w) (omega arith) rest.0, rest.1)

pub joined_front : (wal index synced : ℕ) (ws more : List Writer) → AreJoined wal index synced (ws ++ more) → AreJoined wal index synced ws
unfolding AreJoined
joined_front wal index synced [] more joined = tt
joined_front wal index synced (u ∷ ws) more joined = (joined.0, joined.1, joined_front wal (suc index) (max synced u.synced) ws more joined.2)

pub joined_push : (wal index synced : ℕ) (ws : List Writer) (w : Writer) → AreJoined wal index synced ws
    → IsSegmentAt wal (index + length ws) w → w.from ≤ most_synced synced ws → AreJoined wal index synced (ws ++ w ∷ [])
unfolding AreJoined most_synced
joined_push wal index synced [] w joined is begins = (subst (λ (n : ℕ). IsSegmentAt wal n w) (omega arith) is, begins, tt)
joined_push wal index synced (u ∷ ws) w joined is begins =
    (joined.0, joined.1, joined_push wal (suc index) (max synced u.synced) ws w joined.2 (subst (λ (n : ℕ). IsSegmentAt wal n w) (omega arith) is) begins)

-- The last one stands apart from those before it.
pub apart_from_last : (wal : ℕ) (ws : List Writer) (w : Writer) → AreJoined wal 0 0 (ws ++ w ∷ [])
    → AllByRecursion (λ (u : Writer). place_of_writer u ≢ place_of_writer w) ws
apart_from_last wal ws w joined =
    apart_from wal 0 0 ws (place_of_writer w) (omega (arith, index_is wal (0 + length ws) w (last_is wal 0 0 ws w joined).0))
    (joined_front wal 0 0 ws (w ∷ []) joined)

-- A place that is none of theirs is not in the list of their places.
pub not_theirs : (ws : List Writer) (place : Place) → AllByRecursion (λ (w : Writer). place_of_writer w ≢ place) ws
    → Contains (map place_of_writer ws) place → ⊥
not_theirs [] place apart here = omega (arith, here.1)
not_theirs (w ∷ ws) place apart here = elim (Contains-append_cases (place_of_writer w ∷ []) (map place_of_writer ws) place here) [
  | inl one ↦ elim (Contains-push_cases [] (place_of_writer w) place one) [ inl none ↦ omega (arith, none.1) | inr e ↦ apart.0 e ]
  | inr there ↦ not_theirs ws place apart.1 there
]

-- ---- changes beside them

pub fit_beside : (tells : Bool) (records : List Batch) (place : Place) (old new : DiskView) (ws : List Writer)
    → ((other : Place) → other ≢ place → SameFile tells other old new)
    → AllByRecursion (λ (w : Writer). place_of_writer w ≢ place) ws → AllByRecursion (λ (w : Writer). Fits tells records w old) ws
    → AllByRecursion (λ (w : Writer). Fits tells records w new) ws
fit_beside tells records place old new ws same apart fit =
    all_from (λ (w : Writer). place_of_writer w ≢ place) (λ (w : Writer). Fits tells records w old) (λ (w : Writer). Fits tells records w new) ws
    (λ w ne fits. fits_beside tells records w old new fits (same (place_of_writer w) ne)) apart fit

-- ---- numbers

pub most_synced_push : (acked : ℕ) (ws : List Writer) (w : Writer) → most_synced acked (ws ++ w ∷ []) ≡ max (most_synced acked ws) w.synced
unfolding most_synced
most_synced_push acked [] w = refl
most_synced_push acked (u ∷ ws) w = most_synced_push (max acked u.synced) ws w

pub sent_to_last : (none : ℕ) (ws : List Writer) (w : Writer) → sent_to_current none (ws ++ w ∷ []) ≡ w.sent
sent_to_last none [] w = refl
sent_to_last none (u ∷ ws) w = sent_to_last u.sent ws w

pub count_push : (test : Writer → Bool) (ws : List Writer) (w : Writer) → count_by test (ws ++ w ∷ []) ≡ count_by test ws + count_by test (w ∷ [])
count_push test ws w = sum_by-append (λ (u : Writer). cond (test u) 1 0) ws (w ∷ [])

-- What is synced is within the records.
pub synced_within : (tells : Bool) (records : List Batch) (v : DiskView) (acked : ℕ) (ws : List Writer) → acked ≤ length records
    → AllByRecursion (λ (w : Writer). Fits tells records w v) ws → most_synced acked ws ≤ length records
unfolding most_synced
synced_within tells records v acked [] low fit = low
synced_within tells records v acked (w ∷ ws) low fit =
    synced_within tells records v (max acked w.synced) ws (omega (arith, low, fit.0.ordered.synced, fit.0.ordered.written, fit.0.ordered.sent)) fit.1
