-- What stands behind right frames, where no right frame of a batch that joins them does: bytes are that in one way.
use Rattle.std.proofs.Common.{◌≡◌, ◌≢◌, inl, inr, ℕ, ◌+◌, ◌<◌, ◌≤◌, List, [], ◌∷◌, ◌++◌, length, refl, sym, ap, ◌∙◌, subst, arith, append-nil, append_assoc}
use Rattle.std.specs.Prelude.{Bool, true, false, Option, Some, None}
use Rattle.std.proofs.lemmas.List.{nil_from_length}
use Rattle.batch_repr.specs.declared.batch.Batch.{Batch}
use Rattle.batch_repr.specs.declared.fault.BatchFault.{BatchFault}
use Rattle.batch_repr.specs.declared.limits.TheConstants.{BATCH_MAX}
use Rattle.batch_repr.specs.Reading.{IsFirstFault}
use Rattle.batch_repr.specs.Spelling.{SpellsBatch}
use Rattle.batch_repr.proofs.Laws.{one_fault, reads_no_fault, spelled_reads}
use Rattle.wal_ship.specs.declared.fault.FollowFault.{FollowFault}
use Rattle.wal_ship.specs.declared.fault.FollowFault.TheVariants as faults
use Rattle.wal_ship.specs.Stream.{end_mark, in_frame}
use Rattle.wal_ship.specs.Following.{AreFrames, IsBegun, IsFrameOf, IsFull, IsWrongNext, Joins, ShowsFault, len_said}
use Rattle.wal_ship.specs.Following.AreFrames.{none, more}
use Rattle.wal_ship.specs.Following.ShowsFault.{too_long, wrong_sum, no_batch, wrong_next, past_end}
use Rattle.wal_ship.proofs.Cutting.{begins_with, one_batch, one_cut}
use Rattle.wal_ship.proofs.Rows.{joins_or_wrong, one_wrong}

-- What a whole frame with a right checksum comes to, by its text and what stands behind it.
pub data FrameComes (known : List Batch) (at : ℕ) (text rest : List ℕ) : Bool → Option FollowFault → Type 0 where
  stops : text ≡ [] → rest ≡ [] → FrameComes known at text rest true None
  goes_past : text ≡ [] → rest ≢ [] → FrameComes known at text rest false (Some (faults.After (at + 8)))
  is_none : (fault : BatchFault) → text ≢ [] → rest ≡ [] → IsFirstFault text fault → FrameComes known at text rest false (Some (faults.Batch at fault))
  is_other : (batch : Batch) (fault : FollowFault) → text ≢ [] → rest ≡ [] → SpellsBatch text batch → IsWrongNext known at batch fault
      → FrameComes known at text rest false (Some fault)

-- What the bytes behind right frames come to.
pub data TailComes (known : List Batch) (at : ℕ) (bytes : List ℕ) : Bool → Option FollowFault → Type 0 where
  begun : IsBegun bytes → TailComes known at bytes false None
  long : length bytes ≡ 4 → BATCH_MAX < len_said bytes → TailComes known at bytes false (Some (faults.Length at (len_said bytes)))
  sum : IsFull bytes → ((text : List ℕ) → bytes ≢ in_frame text) → TailComes known at bytes false (Some (faults.Sum at))
  whole : (text rest : List ℕ) (ended : Bool) (fault : Option FollowFault) → length text ≤ BATCH_MAX → bytes ≡ in_frame text ++ rest
      → FrameComes known at text rest ended fault → TailComes known at bytes ended fault

-- ---- what the definition names

whole_text : (text : List ℕ) → in_frame text ≡ in_frame text ++ []
whole_text text = sym (append-nil (in_frame text))

pub tail_shows : (known : List Batch) (at : ℕ) (bytes : List ℕ) (fault : FollowFault) → ShowsFault known at bytes fault
    → TailComes known at bytes false (Some fault)
tail_shows known at _ _ (too_long head four above) = long four above
tail_shows known at _ _ (wrong_sum frame full other) = sum full other
tail_shows known at _ _ (no_batch text fault some size first) =
    whole text [] false (Some (faults.Batch at fault)) size (whole_text text) (is_none fault some refl first)
tail_shows known at _ _ (wrong_next frame batch fault f wrong) =
    whole f.text [] false (Some fault) f.size (f.is ∙ whole_text f.text) (is_other batch fault f.some refl f.spells wrong)
tail_shows known at _ _ (past_end byte) =
    whole [] (byte ∷ []) false (Some (faults.After (at + 8))) (omega arith) refl (goes_past refl (λ e. omega (arith, ap length e)))

pub tail_ends : (known : List Batch) (at : ℕ) → TailComes known at end_mark true None
tail_ends known at = whole [] [] true None (omega arith) (whole_text []) (stops refl refl)

-- ---- one way

-- a frame that is begun is no whole one, and one whose checksum is wrong neither
begun_or_whole : (bytes text rest : List ℕ) → length text ≤ BATCH_MAX → bytes ≡ in_frame text ++ rest → IsBegun bytes → ⊥
begun_or_whole bytes text rest size is (inl few) = let b = begins_with bytes text rest size is in omega (arith, few, b.long)
begun_or_whole bytes text rest size is (inr (head, fits, few)) =
    let b = begins_with bytes text rest size is in omega (arith, few, b.said, b.long)

full_or_whole : (bytes text rest : List ℕ) → length text ≤ BATCH_MAX → bytes ≡ in_frame text ++ rest → IsFull bytes
    → ((other : List ℕ) → bytes ≢ in_frame other) → ⊥
full_or_whole bytes text rest size is full other =
    let b = begins_with bytes text rest size is in
    let done : rest ≡ [] = nil_from_length rest (omega (arith, full.long, b.said, b.long)) in
    other text (is ∙ ap (λ (l : List ℕ). in_frame text ++ l) done ∙ append-nil (in_frame text))

four_or_whole : (bytes text rest : List ℕ) → length text ≤ BATCH_MAX → bytes ≡ in_frame text ++ rest → length bytes ≡ 4 → ⊥
four_or_whole bytes text rest size is four = omega (arith, four, (begins_with bytes text rest size is).long)

begun_or_long : (bytes : List ℕ) → IsBegun bytes → length bytes ≡ 4 → BATCH_MAX < len_said bytes → ⊥
begun_or_long bytes (inl few) four above = omega (arith, few, four)
begun_or_long bytes (inr (head, fits, few)) four above = omega (arith, fits, above)

begun_or_full : (bytes : List ℕ) → IsBegun bytes → IsFull bytes → ⊥
begun_or_full bytes (inl few) full = omega (arith, few, full.head)
begun_or_full bytes (inr (head, fits, few)) full = omega (arith, few, full.long)

long_or_full : (bytes : List ℕ) → length bytes ≡ 4 → IsFull bytes → ⊥
long_or_full bytes four full = omega (arith, four, full.head)

pub record IsOneEnd (ended : Bool) (fault : Option FollowFault) (ended' : Bool) (fault' : Option FollowFault) : Type 0 where
  pub ends : ended ≡ ended'
  pub faults : fault ≡ fault'

spelled_or_fault : (text : List ℕ) (batch : Batch) (fault : BatchFault) → SpellsBatch text batch → IsFirstFault text fault → ⊥
spelled_or_fault text batch fault s first = reads_no_fault text batch fault (spelled_reads text batch s) first

one_frame_comes : (known : List Batch) (at : ℕ) (text rest : List ℕ) (ended : Bool) (fault : Option FollowFault) (ended' : Bool)
    (fault' : Option FollowFault)
    → FrameComes known at text rest ended fault → FrameComes known at text rest ended' fault' → IsOneEnd ended fault ended' fault'
one_frame_comes known at text rest _ _ _ _ (stops e r) (stops e' r') = record { ends = refl; faults = refl }
one_frame_comes known at text rest _ _ _ _ (stops e r) (goes_past e' r') = absurd (r' r)
one_frame_comes known at text rest _ _ _ _ (stops e r) (is_none fault' e' r' first') = absurd (e' e)
one_frame_comes known at text rest _ _ _ _ (stops e r) (is_other batch' fault' e' r' s' w') = absurd (e' e)
one_frame_comes known at text rest _ _ _ _ (goes_past e r) (stops e' r') = absurd (r r')
one_frame_comes known at text rest _ _ _ _ (goes_past e r) (goes_past e' r') = record { ends = refl; faults = refl }
one_frame_comes known at text rest _ _ _ _ (goes_past e r) (is_none fault' e' r' first') = absurd (e' e)
one_frame_comes known at text rest _ _ _ _ (goes_past e r) (is_other batch' fault' e' r' s' w') = absurd (e' e)
one_frame_comes known at text rest _ _ _ _ (is_none fault e r first) (stops e' r') = absurd (e e')
one_frame_comes known at text rest _ _ _ _ (is_none fault e r first) (goes_past e' r') = absurd (e e')
one_frame_comes known at text rest _ _ _ _ (is_none fault e r first) (is_none fault' e' r' first') = record {
  ends = refl;
  faults = ap (λ (f : BatchFault). Some (faults.Batch at f)) (one_fault text fault fault' first first');
}
one_frame_comes known at text rest _ _ _ _ (is_none fault e r first) (is_other batch' fault' e' r' s' w') =
    absurd (spelled_or_fault text batch' fault s' first)
one_frame_comes known at text rest _ _ _ _ (is_other batch fault e r s w) (stops e' r') = absurd (e e')
one_frame_comes known at text rest _ _ _ _ (is_other batch fault e r s w) (goes_past e' r') = absurd (e e')
one_frame_comes known at text rest _ _ _ _ (is_other batch fault e r s w) (is_none fault' e' r' first') =
    absurd (spelled_or_fault text batch fault' s first')
one_frame_comes known at text rest _ _ _ _ (is_other batch fault e r s w) (is_other batch' fault' e' r' s' w') = record {
  ends = refl;
  faults = ap (λ (f : FollowFault). Some f) (one_wrong known at batch' fault fault'
      (subst (λ (b : Batch). IsWrongNext known at b fault) (one_batch text batch batch' s s') w) w');
}

-- bytes behind right frames come to one end
pub one_tail : (known : List Batch) (at : ℕ) (bytes : List ℕ) (ended : Bool) (fault : Option FollowFault) (ended' : Bool) (fault' : Option FollowFault)
    → TailComes known at bytes ended fault → TailComes known at bytes ended' fault' → IsOneEnd ended fault ended' fault'
one_tail known at bytes _ _ _ _ (begun b) (begun b') = record { ends = refl; faults = refl }
one_tail known at bytes _ _ _ _ (begun b) (long four above) = absurd (begun_or_long bytes b four above)
one_tail known at bytes _ _ _ _ (begun b) (sum full other) = absurd (begun_or_full bytes b full)
one_tail known at bytes _ _ _ _ (begun b) (whole text rest ended' fault' size is c) = absurd (begun_or_whole bytes text rest size is b)
one_tail known at bytes _ _ _ _ (long four above) (begun b) = absurd (begun_or_long bytes b four above)
one_tail known at bytes _ _ _ _ (long four above) (long four' above') = record { ends = refl; faults = refl }
one_tail known at bytes _ _ _ _ (long four above) (sum full other) = absurd (long_or_full bytes four full)
one_tail known at bytes _ _ _ _ (long four above) (whole text rest ended' fault' size is c) = absurd (four_or_whole bytes text rest size is four)
one_tail known at bytes _ _ _ _ (sum full other) (begun b) = absurd (begun_or_full bytes b full)
one_tail known at bytes _ _ _ _ (sum full other) (long four above) = absurd (long_or_full bytes four full)
one_tail known at bytes _ _ _ _ (sum full other) (sum full' other') = record { ends = refl; faults = refl }
one_tail known at bytes _ _ _ _ (sum full other) (whole text rest ended' fault' size is c) = absurd (full_or_whole bytes text rest size is full other)
one_tail known at bytes _ _ _ _ (whole text rest ended fault size is c) (begun b) = absurd (begun_or_whole bytes text rest size is b)
one_tail known at bytes _ _ _ _ (whole text rest ended fault size is c) (long four above) = absurd (four_or_whole bytes text rest size is four)
one_tail known at bytes _ _ _ _ (whole text rest ended fault size is c) (sum full other) = absurd (full_or_whole bytes text rest size is full other)
one_tail known at bytes _ _ _ _ (whole text rest ended fault size is c) (whole text' rest' ended' fault' size' is' c') =
    let cut = one_cut text' rest' text rest size' size (sym is' ∙ is) in
    one_frame_comes known at text rest ended fault ended' fault' c
    (subst (λ (t : List ℕ). FrameComes known at t rest ended' fault') cut.texts
    (subst (λ (r : List ℕ). FrameComes known at text' r ended' fault') cut.rests c'))

-- ---- no right frame

frame_or_comes : (known : List Batch) (at : ℕ) (frame : List ℕ) (batch : Batch) (joined : List Batch) (rest : List ℕ) (ended : Bool)
    (fault : Option FollowFault) (f : IsFrameOf frame batch) → Joins known batch joined → FrameComes known at f.text rest ended fault → ⊥
frame_or_comes known at frame batch joined rest _ _ f j (stops e r) = f.some e
frame_or_comes known at frame batch joined rest _ _ f j (goes_past e r) = f.some e
frame_or_comes known at frame batch joined rest _ _ f j (is_none fault e r first) = spelled_or_fault f.text batch fault f.spells first
frame_or_comes known at frame batch joined rest _ _ f j (is_other batch' fault e r s w) =
    joins_or_wrong known at batch joined fault j
    (subst (λ (b : Batch). IsWrongNext known at b fault) (one_batch f.text batch' batch s f.spells) w)

-- no right frame of a batch that joins what is known stands there
frame_or_tail : (known : List Batch) (at : ℕ) (bytes frame : List ℕ) (batch : Batch) (joined : List Batch) (behind : List ℕ) (ended : Bool)
    (fault : Option FollowFault)
    → TailComes known at bytes ended fault → (f : IsFrameOf frame batch) → Joins known batch joined → bytes ≡ in_frame f.text ++ behind → ⊥
frame_or_tail known at bytes frame batch joined behind _ _ (begun b) f j here = begun_or_whole bytes f.text behind f.size here b
frame_or_tail known at bytes frame batch joined behind _ _ (long four above) f j here = four_or_whole bytes f.text behind f.size here four
frame_or_tail known at bytes frame batch joined behind _ _ (sum full other) f j here = full_or_whole bytes f.text behind f.size here full other
frame_or_tail known at bytes frame batch joined behind _ _ (whole text rest ended fault size is c) f j here =
    frame_or_comes known at frame batch joined rest ended fault f j
    (subst (λ (t : List ℕ). FrameComes known at t rest ended fault) (one_cut text rest f.text behind size f.size (sym is ∙ here)).texts c)

-- a row of right frames that begins there is empty
pub record IsNoRow (known : List Batch) (bytes : List ℕ) (all : List Batch) : Type 0 where
  pub empty : bytes ≡ []
  pub same : known ≡ all

pub tail_or_row : (known : List Batch) (at : ℕ) (row rest : List ℕ) (all : List Batch) (ended : Bool) (fault : Option FollowFault)
    → AreFrames known row all → TailComes known at (row ++ rest) ended fault → IsNoRow known row all
tail_or_row _ at _ rest _ ended fault (none known) t = record { empty = refl; same = refl }
tail_or_row _ at _ rest _ ended fault (more known bytes frame batch joined all f j others) t =
    absurd (frame_or_tail known at ((frame ++ bytes) ++ rest) frame batch joined (bytes ++ rest) ended fault t f j
    (append_assoc frame bytes rest ∙ ap (λ (l : List ℕ). l ++ (bytes ++ rest)) f.is))
