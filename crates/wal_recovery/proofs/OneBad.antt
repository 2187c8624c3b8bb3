-- Of segments one is the first that is wrong, by a record that spells no batch or by what shows it corrupt, and none is where they hold batches.
use Rattle.std.proofs.Common.{◌≡◌, ℕ, Option, Some, None, List, [], ◌∷◌, ◌++◌, sym, subst, ap, ◌∙◌}
use Rattle.batch_repr.specs.declared.batch.Batch.{Batch}
use Rattle.batch_repr.specs.declared.fault.BatchFault.{BatchFault}
use Rattle.batch_repr.specs.Spelling.{SpellsBatch}
use Rattle.batch_repr.specs.Reading.{IsFirstFault}
use Rattle.batch_repr.proofs.Laws.{spelled_reads, reads_no_fault, one_fault}
use Rattle.block_record.specs.declared.records.ReadOut.{ReadOut}
use Rattle.block_record.specs.declared.records.Rec.{Rec}
use Rattle.block_record.specs.declared.records.Shown.{Shown}
use Rattle.block_record.specs.ReadOut.{ReadsOut}
use Rattle.segment_merge.proofs.Laws.{Places, sooner, one, later, places}
use Rattle.wal_recovery.specs.declared.reports.Mode.{Mode}
use Rattle.wal_recovery.specs.declared.reports.Mode.TheVariants.{Strict}
use Rattle.wal_recovery.specs.Listing.{Stored}
use Rattle.wal_recovery.specs.Recovering.{Spell, HoldsBatches, HoldRow}
use Rattle.wal_recovery.specs.Refused.{IsBadRecord, HasBadRecord, IsShownCorrupt, IsFirstWrongSegment, IsBadBatch, IsCorrupt}
use Rattle.wal_recovery.proofs.OneReading.{one_read}

-- ---- records

spelled_at : (front : List Rec) (bad : Rec) (back : List Rec) (batches : List Batch) → Spell (front ++ bad ∷ back) batches → (b : Batch)
    × SpellsBatch bad.bytes b
spelled_at [] bad back [] h = absurd h
spelled_at [] bad back (b ∷ batches) h = (b, h.0)
spelled_at (r ∷ front) bad back [] h = absurd h
spelled_at (r ∷ front) bad back (b ∷ batches) h = spelled_at front bad back batches h.1

-- records that spell batches have no bad one, not even with others after it
spelled_or_bad : (records front back : List Rec) (bad : Rec) (batches : List Batch) (fault : BatchFault) → records ≡ front ++ bad ∷ back
    → Spell records batches → IsFirstFault bad.bytes fault → ⊥
spelled_or_bad records front back bad batches fault is h wrong =
    let s = spelled_at front bad back batches (subst (λ (r : List Rec). Spell r batches) is h) in
    reads_no_fault bad.bytes s.0 fault (spelled_reads bad.bytes s.0 s.1) wrong

one_bad_record : (records : List Rec) (p q : ℕ) (f g : BatchFault) → IsBadRecord records p f → IsBadRecord records q g → (p ≡ q) × (f ≡ g)
one_bad_record records p q f g a b = of_places (places a.front a.bad a.back b.front b.bad b.back (sym a.records_are ∙ b.records_are))
  where
    of_places : Places a.front a.bad a.back b.front b.bad b.back → (p ≡ q) × (f ≡ g)
    of_places (sooner mid is) = absurd (spelled_or_bad b.front a.front mid a.bad b.batches f is b.spelled a.fault_is)
    of_places (one fronts bads backs) = (
      a.place_is ∙ ap (λ (r : Rec). r.at) bads ∙ sym b.place_is,
      one_fault b.bad.bytes f g (subst (λ (r : Rec). IsFirstFault r.bytes f) bads a.fault_is) b.fault_is,
    )
    of_places (later mid is) = absurd (spelled_or_bad a.front b.front mid b.bad a.batches g is a.spelled b.fault_is)

-- ---- one segment

same_records : (content : List ℕ) (log : ℕ) (r s : ReadOut) → ReadsOut content log r → ReadsOut content log s → r.records ≡ s.records
same_records content log r s a b = ap (λ (read : ReadOut). read.records) (one_read content log r s a b)

-- A segment that holds batches has no bad record.
bad_or_held_one : (mode : Mode) (log place : ℕ) (fault : BatchFault) (content : List ℕ) (batches : List Batch) → HasBadRecord log place fault content
    → HoldsBatches mode log content batches → ⊥
bad_or_held_one mode log place fault content batches wrong h =
    let records : h.read.records ≡ wrong.read.records = same_records content log h.read wrong.read h.reads wrong.reads in
    spelled_or_bad wrong.read.records wrong.bad.front wrong.bad.back wrong.bad.bad h.all fault wrong.bad.records_are
    (subst (λ (r : List Rec). Spell r h.all) records h.spelled) wrong.bad.fault_is

-- Where no gap is accepted, it is not shown corrupt.
corrupt_or_held_one : (log at shown_at : ℕ) (content : List ℕ) (batches : List Batch) → IsShownCorrupt log at shown_at content
    → HoldsBatches Strict log content batches → ⊥
corrupt_or_held_one log at shown_at content batches wrong h =
    let it : Shown = record { at = at; shown_at = shown_at } in
    let same : h.read.shown ≡ Some it = ap (λ (r : ReadOut). r.shown) (one_read content log h.read wrong.read h.reads wrong.reads) ∙ wrong.shown in
    let none : h.read.shown ≡ None = h.passes in absurd cc

-- Of one that is shown corrupt all records spell batches.
bad_or_corrupt : (log place at shown_at : ℕ) (fault : BatchFault) (content : List ℕ) → HasBadRecord log place fault content
    → IsShownCorrupt log at shown_at content → ⊥
bad_or_corrupt log place at shown_at fault content wrong c =
    let records : c.read.records ≡ wrong.read.records = same_records content log c.read wrong.read c.reads wrong.reads in
    spelled_or_bad wrong.read.records wrong.bad.front wrong.bad.back wrong.bad.bad c.all fault wrong.bad.records_are
    (subst (λ (r : List Rec). Spell r c.all) records c.spelled) wrong.bad.fault_is

one_bad_of : (log p q : ℕ) (f g : BatchFault) (content : List ℕ) → HasBadRecord log p f content → HasBadRecord log q g content → (p ≡ q) × (f ≡ g)
one_bad_of log p q f g content a b =
    let records : a.read.records ≡ b.read.records = same_records content log a.read b.read a.reads b.reads in
    one_bad_record b.read.records p q f g (subst (λ (r : List Rec). IsBadRecord r p f) records a.bad) b.bad

abbrev at_of : Option Shown → ℕ
at_of None = 0
at_of (Some s) = s.at

abbrev shown_of : Option Shown → ℕ
shown_of None = 0
shown_of (Some s) = s.shown_at

one_shown_of : (log p q x y : ℕ) (content : List ℕ) → IsShownCorrupt log p x content → IsShownCorrupt log q y content → (p ≡ q) × (x ≡ y)
one_shown_of log p q x y content a b =
    let same : Some (record { at = p; shown_at = x }) ≡ Some (record { at = q; shown_at = y }) =
    sym a.shown ∙ ap (λ (r : ReadOut). r.shown) (one_read content log a.read b.read a.reads b.reads) ∙ b.shown in
    (ap at_of same, ap shown_of same)

-- ---- segments

held_at : (mode : Mode) (log : ℕ) (before : List Stored) (here : Stored) (after : List Stored) (row : List (List Batch))
    → HoldRow mode log (before ++ here ∷ after) row → (batches : List Batch) × HoldsBatches mode log here.content batches
held_at mode log [] here after [] h = absurd h
held_at mode log [] here after (b ∷ row) h = (b, h.0)
held_at mode log (s ∷ before) here after [] h = absurd h
held_at mode log (s ∷ before) here after (b ∷ row) h = held_at mode log before here after row h.1

-- What is wrong with a segment that then holds no batches.
abbrev Excludes : Mode → ℕ → (List ℕ → Type 0) → Type 0
Excludes mode log Wrong = (content : List ℕ) (batches : List Batch) → Wrong content → HoldsBatches mode log content batches → ⊥

-- segments that hold batches are not those up to a wrong one, nor have it among them
held_or_wrong_at : (mode : Mode) (log : ℕ) (segments all mid : List Stored) (row : List (List Batch)) (index : ℕ) (Wrong : List ℕ → Type 0)
    → Excludes mode log Wrong
    → (first : IsFirstWrongSegment mode log segments index Wrong) → all ≡ first.before ++ first.here ∷ mid → HoldRow mode log all row → ⊥
held_or_wrong_at mode log segments all mid row index Wrong none first is h =
    let here = held_at mode log first.before first.here mid row (subst (λ (s : List Stored). HoldRow mode log s row) is h) in
    none first.here.content here.0 first.wrong here.1

held_or_wrong : (mode : Mode) (log : ℕ) (segments : List Stored) (row : List (List Batch)) (index : ℕ) (Wrong : List ℕ → Type 0) → Excludes mode log Wrong
    → HoldRow mode log segments row → IsFirstWrongSegment mode log segments index Wrong → ⊥
held_or_wrong mode log segments row index Wrong none h first =
    held_or_wrong_at mode log segments segments first.after row index Wrong none first first.segments_are h

-- The first segment that is wrong is one.
one_first : (mode : Mode) (log : ℕ) (segments : List Stored) (i j : ℕ) (P Q : List ℕ → Type 0) → Excludes mode log P → Excludes mode log Q
    → IsFirstWrongSegment mode log segments i P → IsFirstWrongSegment mode log segments j Q → (i ≡ j) × (content : List ℕ) × P content × Q content
one_first mode log segments i j P Q none never a b =
    of_places (places a.before a.here a.after b.before b.here b.after (sym a.segments_are ∙ b.segments_are))
  where
    of_places : Places a.before a.here a.after b.before b.here b.after → (i ≡ j) × (content : List ℕ) × P content × Q content
    of_places (sooner mid is) = absurd (held_or_wrong_at mode log segments b.before mid b.rows i P none a is b.right)
    of_places (one befores heres afters) = (
      a.index_is ∙ ap (λ (s : Stored). s.index) heres ∙ sym b.index_is,
      b.here.content,
      subst (λ (s : Stored). P s.content) heres a.wrong,
      b.wrong,
    )
    of_places (later mid is) = absurd (held_or_wrong_at mode log segments a.before mid a.rows j Q never b is a.right)

pub held_or_bad : (mode : Mode) (log : ℕ) (segments : List Stored) (row : List (List Batch)) (index place : ℕ) (fault : BatchFault)
    → HoldRow mode log segments row → IsBadBatch mode log segments index place fault → ⊥
held_or_bad mode log segments row index place fault h bad =
    held_or_wrong mode log segments row index (HasBadRecord log place fault) (bad_or_held_one mode log place fault) h bad

pub held_or_corrupt : (log : ℕ) (segments : List Stored) (row : List (List Batch)) (index at shown_at : ℕ)
    → HoldRow Strict log segments row → IsCorrupt log segments index at shown_at → ⊥
held_or_corrupt log segments row index at shown_at h bad =
    held_or_wrong Strict log segments row index (IsShownCorrupt log at shown_at) (corrupt_or_held_one log at shown_at) h bad

pub one_bad_batch : (mode : Mode) (log : ℕ) (segments : List Stored) (i p j q : ℕ) (f g : BatchFault) → IsBadBatch mode log segments i p f
    → IsBadBatch mode log segments j q g → (i ≡ j) × (p ≡ q) × (f ≡ g)
one_bad_batch mode log segments i p j q f g a b =
    let both = one_first mode log segments i j (HasBadRecord log p f) (HasBadRecord log q g) (bad_or_held_one mode log p f) (bad_or_held_one mode log q g) a b in
    let same = one_bad_of log p q f g both.1 both.2 both.3 in
    (both.0, same.0, same.1)

pub one_corrupt : (log : ℕ) (segments : List Stored) (i p x j q y : ℕ) → IsCorrupt log segments i p x → IsCorrupt log segments j q y
    → (i ≡ j) × (p ≡ q) × (x ≡ y)
one_corrupt log segments i p x j q y a b =
    let both = one_first Strict log segments i j (IsShownCorrupt log p x) (IsShownCorrupt log q y) (corrupt_or_held_one log p x) (corrupt_or_held_one log q y) a b in
    let same = one_shown_of log p q x y both.1 both.2 both.3 in
    (both.0, same.0, same.1)

pub not_bad_and_corrupt : (log : ℕ) (segments : List Stored) (i p j q y : ℕ) (f : BatchFault) → IsBadBatch Strict log segments i p f
    → IsCorrupt log segments j q y → ⊥
not_bad_and_corrupt log segments i p j q y f a b =
    let both = one_first Strict log segments i j (HasBadRecord log p f) (IsShownCorrupt log q y) (bad_or_held_one Strict log p f) (corrupt_or_held_one log q y) a b in
    bad_or_corrupt log p q y f both.1 both.2 both.3
