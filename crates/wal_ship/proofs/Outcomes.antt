-- The same bytes beside the same batches come to the same.
use Rattle.std.proofs.Common.{◌≡◌, ℕ, ◌+◌, List, [], ◌++◌, length, refl, sym, ap, ◌∙◌, subst, arith, append-nil}
use Rattle.std.specs.Prelude.{Bool, true, false, Option, Some, None}
use Rattle.std.proofs.lemmas.List.{append_cancel_left, append_cancel_right}
use Rattle.batch_repr.specs.declared.batch.Batch.{Batch}
use Rattle.wal_ship.specs.declared.fault.FollowFault.{FollowFault}
use Rattle.wal_ship.specs.Stream.{end_mark, magic}
use Rattle.wal_ship.specs.Following.{AreFrames, AreRight, Comes}
use Rattle.wal_ship.specs.Following.Comes.{greets, goes_on, ends, is_none, is_wrong}
use Rattle.wal_ship.specs.Theorems.{BytesComeToOne, RowsAreTaken}
use Rattle.wal_ship.proofs.Greetings.{Greets, part, differs, greets_or_magic, one_greeting}
use Rattle.wal_ship.proofs.Rows.{sooner, later, rows_behind, rows_meet}
use Rattle.wal_ship.proofs.Tails.{TailComes, begun, one_tail, tail_ends, tail_or_row, tail_shows}

-- right frames of what is known, and what stands behind them
record Cut (local : List Batch) (bytes : List ℕ) (known : List Batch) (ended : Bool) (fault : Option FollowFault) : Type 0 where
  pub frames : List ℕ
  pub tail : List ℕ
  pub is : bytes ≡ magic ++ (frames ++ tail)
  pub read : AreFrames local frames known
  pub comes : TailComes known (8 + length frames) tail ended fault

-- bytes come to a greeting, or are cut behind right frames
data Parts (local : List Batch) (bytes : List ℕ) (known : List Batch) : Bool → Option FollowFault → Type 0 where
  early : (fault : Option FollowFault) → Greets bytes fault → known ≡ local → Parts local bytes known false fault
  behind : (ended : Bool) (fault : Option FollowFault) → Cut local bytes known ended fault → Parts local bytes known ended fault

cut_at : (local : List Batch) (bytes : List ℕ) (known : List Batch) (front tail : List ℕ) (ended : Bool) (fault : Option FollowFault)
    → AreRight local front known → bytes ≡ front ++ tail → TailComes known (length front) tail ended fault → Parts local bytes known ended fault
cut_at local bytes known front tail ended fault right is comes = behind ended fault (record {
  frames = right.frames;
  tail = tail;
  is = is ∙ ap (λ (l : List ℕ). l ++ tail) right.is;
  read = right.read;
  comes = subst (λ (at : ℕ). TailComes known at tail ended fault) (let e : length front ≡ 8 + length right.frames = omega (arith, ap length right.is) in e) comes;
})

parts : (local : List Batch) (bytes : List ℕ) (known : List Batch) (frame : List ℕ) (ended : Bool) (fault : Option FollowFault)
    → Comes local bytes known frame ended fault → Parts local bytes known ended fault
parts local bytes _ _ _ _ (greets rest is some) = early None (part rest is some) refl
parts local bytes _ _ _ _ (goes_on front frame known right is b) = cut_at local bytes known front frame false None right is (begun b)
parts local bytes _ _ _ _ (ends front known right is) =
    cut_at local bytes known front end_mark true None right is (tail_ends known (length front))
parts local bytes _ _ _ _ (is_none at byte few is other) = early _ (differs at byte few is other) refl
parts local bytes _ _ _ _ (is_wrong front bad known fault right is shows) =
    cut_at local bytes known front bad false (Some fault) right is (tail_shows known (length front) bad fault shows)

-- what bytes come to is one
pub record IsOneOutcome (known : List Batch) (ended : Bool) (fault : Option FollowFault) (known' : List Batch) (ended' : Bool)
    (fault' : Option FollowFault) : Type 0 where
  pub batches : known ≡ known'
  pub ends : ended ≡ ended'
  pub faults : fault ≡ fault'

-- where the second goes on with a row behind the first
sooner_one : (local : List Batch) (bytes : List ℕ) (known known' : List Batch) (ended ended' : Bool) (fault fault' : Option FollowFault)
    (c : Cut local bytes known ended fault) (c' : Cut local bytes known' ended' fault') (mid : List ℕ)
    → c.frames ++ c.tail ≡ c'.frames ++ c'.tail → c.tail ≡ mid ++ c'.tail → AreFrames known mid known'
    → IsOneOutcome known ended fault known' ended' fault'
sooner_one local bytes known known' ended ended' fault fault' c c' mid both is row =
    let at = 8 + length c.frames in
    let no_row = tail_or_row known at mid c'.tail known' ended fault row (subst (λ (l : List ℕ). TailComes known at l ended fault) is c.comes) in
    let tails : c.tail ≡ c'.tail = is ∙ ap (λ (l : List ℕ). l ++ c'.tail) no_row.empty in
    let fronts : c.frames ≡ c'.frames =
    append_cancel_right c.frames c'.frames c'.tail (ap (λ (l : List ℕ). c.frames ++ l) (sym tails) ∙ both) in
    let end = one_tail known at c.tail ended fault ended' fault' c.comes
    (subst (λ (k : List Batch). TailComes k at c.tail ended' fault') (sym no_row.same)
    (subst (λ (l : List ℕ). TailComes known' at l ended' fault') (sym tails)
    (subst (λ (l : List ℕ). TailComes known' (8 + length l) c'.tail ended' fault') (sym fronts) c'.comes))) in
    record { batches = no_row.same; ends = end.ends; faults = end.faults }

one_behind : (local : List Batch) (bytes : List ℕ) (known known' : List Batch) (ended ended' : Bool) (fault fault' : Option FollowFault)
    → Cut local bytes known ended fault → Cut local bytes known' ended' fault' → IsOneOutcome known ended fault known' ended' fault'
one_behind local bytes known known' ended ended' fault fault' c c' =
    elim (rows_meet local c.frames known c.tail local c'.frames known' c'.tail c.read c'.read refl both) [
      | sooner mid is row ↦ sooner_one local bytes known known' ended ended' fault fault' c c' mid both is row
      | later mid is row ↦
          let o = sooner_one local bytes known' known ended' ended fault' fault c' c mid (sym both) is row in
          record { batches = sym o.batches; ends = sym o.ends; faults = sym o.faults }
    ]
  where
    both : c.frames ++ c.tail ≡ c'.frames ++ c'.tail
    both = append_cancel_left magic (c.frames ++ c.tail) (c'.frames ++ c'.tail) (sym c.is ∙ c'.is)

early_or_behind : (local : List Batch) (bytes : List ℕ) (known : List Batch) (ended : Bool) (fault fault' : Option FollowFault) → Greets bytes fault'
    → Cut local bytes known ended fault → ⊥
early_or_behind local bytes known ended fault fault' g c = greets_or_magic bytes fault' (c.frames ++ c.tail) g c.is

one_outcome : (local : List Batch) (bytes : List ℕ) (known known' : List Batch) (ended ended' : Bool) (fault fault' : Option FollowFault)
    → Parts local bytes known ended fault → Parts local bytes known' ended' fault' → IsOneOutcome known ended fault known' ended' fault'
one_outcome local bytes known known' _ _ _ _ (early fault g k) (early fault' g' k') =
    record { batches = k ∙ sym k'; ends = refl; faults = one_greeting bytes fault fault' g g' }
one_outcome local bytes known known' _ _ _ _ (early fault g k) (behind ended' fault' c') =
    absurd (early_or_behind local bytes known' ended' fault' fault g c')
one_outcome local bytes known known' _ _ _ _ (behind ended fault c) (early fault' g' k') =
    absurd (early_or_behind local bytes known ended fault fault' g' c)
one_outcome local bytes known known' _ _ _ _ (behind ended fault c) (behind ended' fault' c') =
    one_behind local bytes known known' ended ended' fault fault' c c'

pub comes_to_one : (local : List Batch) (bytes : List ℕ) (known known' : List Batch) (frame frame' : List ℕ) (ended ended' : Bool)
    (fault fault' : Option FollowFault)
    → Comes local bytes known frame ended fault → Comes local bytes known' frame' ended' fault' → IsOneOutcome known ended fault known' ended' fault'
comes_to_one local bytes known known' frame frame' ended ended' fault fault' c c' =
    one_outcome local bytes known known' ended ended' fault fault' (parts local bytes known frame ended fault c)
    (parts local bytes known' frame' ended' fault' c')

pub bytes_come_to_one : BytesComeToOne
bytes_come_to_one one other bytes same p q =
    let o = comes_to_one other.local bytes (other.local ++ one.taken) (other.local ++ other.taken) one.frame other.frame one.ended other.ended
    one.fault other.fault (subst (λ (l : List Batch). Comes l bytes (l ++ one.taken) one.frame one.ended one.fault) same p.comes) q.comes in
    (append_cancel_left other.local one.taken other.taken o.batches, o.ends, o.faults)

-- ---- rows of right frames

row_behind : (local : List Batch) (bytes : List ℕ) (all : List Batch) (ended : Bool) (fault : Option FollowFault) (known : List Batch)
    (front rest : List ℕ)
    → AreRight local front known → bytes ≡ front ++ rest → Parts local bytes all ended fault → (new : List Batch) × (all ≡ known ++ new)
row_behind local bytes all _ _ known front rest right is (early fault g k) =
    absurd (greets_or_magic bytes fault (right.frames ++ rest) g (is ∙ ap (λ (l : List ℕ). l ++ rest) right.is))
row_behind local bytes all _ _ known front rest right is (behind ended fault c) =
    elim (rows_meet local right.frames known rest local c.frames all c.tail right.read c.read refl both) [
      | sooner mid here row ↦ rows_behind known mid all row
      | later mid here row ↦
          let at = 8 + length c.frames in
          let no_row = tail_or_row all at mid rest known ended fault row (subst (λ (l : List ℕ). TailComes all at l ended fault) here c.comes) in
          ([], no_row.same ∙ sym (append-nil known))
    ]
  where
    both : right.frames ++ rest ≡ c.frames ++ c.tail
    both = append_cancel_left magic (right.frames ++ rest) (c.frames ++ c.tail)
        (sym (is ∙ ap (λ (l : List ℕ). l ++ rest) right.is) ∙ c.is)

pub rows_taken : RowsAreTaken
rows_taken follower front rest known right has =
    let all = follower.local ++ follower.taken in
    row_behind follower.local (front ++ rest) all follower.ended follower.fault known front rest right refl
    (parts follower.local (front ++ rest) all follower.frame follower.ended follower.fault has.comes)
