-- Where gaps are accepted, directories have one answer. Of two WALs that are refused the lesser is merged on the way to the other.
use Rattle.std.proofs.Common.{◌≡◌, ◌⊎◌, inl, inr, ℕ, List, [], ◌∷◌, ◌++◌, map, sym, subst, ap, ◌∙◌, refl, append_assoc}
use Rattle.std.proofs.lemmas.List.{map-append}
use Rattle.disk_face.specs.Image.{log_number}
use Rattle.batch_repr.specs.declared.batch.Batch.{Batch}
use Rattle.segment_merge.specs.declared.segment.SegmentRead.{SegmentRead}
use Rattle.segment_merge.specs.declared.fault.MergeFault.TheVariants as merges
use Rattle.segment_merge.specs.Rows.{batches_in}
use Rattle.segment_merge.specs.Lenient.{MergedLenient, IsLenientConflict}
use Rattle.segment_merge.proofs.Laws.{one_lenient, merged_or_conflict, one_conflict, Places, sooner, one, later, places}
use Rattle.disk_face.specs.View.{Dirs}
use Rattle.wal_recovery.specs.declared.fault.RecoverFault.{RecoverFault}
use Rattle.wal_recovery.specs.declared.fault.RecoverFault.TheVariants as faults
use Rattle.wal_recovery.specs.declared.reports.Mode.TheVariants.{Lenient}
use Rattle.wal_recovery.specs.Listing.{Wal}
use Rattle.wal_recovery.specs.Recovering.{HoldAll, RecoversLenient, RecoversLenientAfter}
use Rattle.wal_recovery.specs.Refused.{by_index, segments_of, ReachesLenient, IsLenientlyRefused, IsLenientlyRefusedAfter}
use Rattle.wal_recovery.specs.OneWal.{HoldsRow, IsLenientlyRefusedWal}
use Rattle.wal_recovery.proofs.IsReportOf.{batches_by_index}
use Rattle.wal_recovery.proofs.AreReportsMerged.{all_batches}
use Rattle.wal_recovery.proofs.Duplicates.{listed_or_twice, one_duplicate}
use Rattle.wal_recovery.proofs.OneBad.{held_or_bad, one_bad_batch}
use Rattle.wal_recovery.proofs.OneAnswer.{one_listing, one_row}
use Rattle.wal_recovery.proofs.OneRefusal.{IsTwiceNamed, wal_of, same_row, bad_or_held, one_named}
use Rattle.wal_recovery.proofs.OneReading as reading

-- ---- the rows of all WALs

one_all : (wals : List Wal) (rows others : List (List Batch)) → HoldAll wals rows → HoldAll wals others → rows ≡ others
unfolding HoldAll
one_all [] rows others h k = h ∙ sym k
one_all (wal ∷ wals) rows others (own, more, here, rest, is) (own2, more2, here2, rest2, is2) =
    let owns : own ≡ own2 = one_row reading.one_read reading.one_spelled Lenient (log_number wal.number) wal.segments own own2 here here2 in
    let mores : more ≡ more2 = one_all wals more more2 rest rest2 in
    is ∙ ap (λ (l : List (List Batch)). l ++ more) owns ∙ ap (λ (l : List (List Batch)). own2 ++ l) mores ∙ sym is2

-- the rows of WALs, up to one of them
record HoldsUpTo (before : List Wal) (wal : Wal) (rows : List (List Batch)) : Type 0 where
  earlier : List (List Batch)
  held : HoldsRow Lenient wal
  more : List (List Batch)
  hold : HoldAll before earlier
  is : rows ≡ earlier ++ (held.row ++ more)

holds_up_to : (before : List Wal) (wal : Wal) (after : List Wal) (rows : List (List Batch)) → HoldAll (before ++ wal ∷ after) rows → HoldsUpTo before wal rows
unfolding HoldAll
holds_up_to [] wal after rows (own, more, here, rest, is) = record
    { earlier = []; held = record { row = own; holds = here }; more = more; hold = refl; is = is }
holds_up_to (w ∷ before) wal after rows (own, more, here, rest, is) =
    let r = holds_up_to before wal after more rest in
    record {
      earlier = own ++ r.earlier;
      held = r.held;
      more = r.more;
      hold = (own, r.earlier, here, r.hold, refl);
      is = is ∙ ap (λ (l : List (List Batch)). own ++ l) r.is ∙ sym (append_assoc own r.earlier (r.held.row ++ r.more));
    }

-- ---- what recovers

pub lenient_once_after : (front : List SegmentRead) (dirs : Dirs) (a b : List Batch) → RecoversLenientAfter front dirs a
    → RecoversLenientAfter front dirs b → a ≡ b
lenient_once_after front dirs a b h k =
    let held : HoldAll k.wals h.rows = subst (λ (w : List Wal). HoldAll w h.rows) (one_listing dirs h.wals k.wals h.listed k.listed) h.hold in
    one_lenient (batches_in front ++ k.rows) a b (subst (λ (r : List (List Batch)). MergedLenient (batches_in front ++ r) a)
    (one_all k.wals h.rows k.rows held k.hold) h.merges) k.merges

pub lenient_once : (dirs : Dirs) (a b : List Batch) → RecoversLenient dirs a → RecoversLenient dirs b → a ≡ b
lenient_once = lenient_once_after []

-- ---- one WAL after those before it

-- a row that goes on after a conflict has it too
conflict_on : (row more : List SegmentRead) (index first : ℕ) → IsLenientConflict row index first → IsLenientConflict (row ++ more) index first
conflict_on row more index first w = record {
  before = w.before;
  segment = w.segment;
  after = w.after ++ more;
  row = ap (λ (l : List SegmentRead). l ++ more) w.row ∙ append_assoc w.before (w.segment ∷ w.after) more;
  index_is = w.index_is;
  front = w.front;
  batch = w.batch;
  back = w.back;
  cut = w.cut;
  right = w.right;
  wrong = w.wrong;
  found_is = w.found_is;
}

-- rows as segments
abbrev plain : List (List Batch) → List SegmentRead
plain rows = map (λ (b : List Batch). record { index = 0; batches = b }) rows

batches_plain : (rows : List (List Batch)) → batches_in (plain rows) ≡ rows
batches_plain [] = refl
batches_plain (b ∷ rows) = ap (λ (l : List (List Batch)). b ∷ l) (batches_plain rows)

row_batches : (front : List SegmentRead) (before : List Wal) (wal : Wal) (rows more : List (List Batch)) (held : HoldsRow Lenient wal)
    → HoldAll before rows
    → batches_in (((front ++ by_index (segments_of before) rows) ++ by_index wal.segments held.row) ++ plain more)
    ≡ batches_in front ++ (rows ++ (held.row ++ more))
row_batches front before wal rows more held hold =
    let earlier = by_index (segments_of before) rows in
    let here = by_index wal.segments held.row in
    ap (λ (l : List SegmentRead). batches_in (l ++ plain more)) (append_assoc front earlier here)
    ∙ ap batches_in (append_assoc front (earlier ++ here) (plain more))
    ∙ map-append (λ (s : SegmentRead). s.batches) front ((earlier ++ here) ++ plain more)
    ∙ ap (λ (l : List (List Batch)). batches_in front ++ l) (map-append (λ (s : SegmentRead). s.batches) (earlier ++ here) (plain more)
    ∙ ap (λ (l : List (List Batch)). l ++ batches_in (plain more)) (map-append (λ (s : SegmentRead). s.batches) earlier here)
    ∙ append_assoc (batches_in earlier) (batches_in here) (batches_in (plain more))
    ∙ ap (λ (l : List (List Batch)). l ++ (batches_in here ++ batches_in (plain more))) (all_batches before rows hold)
    ∙ ap (λ (l : List (List Batch)). rows ++ (l ++ batches_in (plain more))) (batches_by_index Lenient (log_number wal.number) wal.segments held.row held.holds)
    ∙ ap (λ (l : List (List Batch)). rows ++ (held.row ++ l)) (batches_plain more))

merged_or_conflict_behind : (front : List SegmentRead) (before : List Wal) (wal : Wal) (rows more : List (List Batch)) (held : HoldsRow Lenient wal)
    (merged : List Batch) (index first : ℕ) → HoldAll before rows → MergedLenient (batches_in front ++ (rows ++ (held.row ++ more))) merged
    → IsLenientConflict ((front ++ by_index (segments_of before) rows) ++ by_index wal.segments held.row) index first → ⊥
merged_or_conflict_behind front before wal rows more held merged index first hold m wrong =
    let row = (front ++ by_index (segments_of before) rows) ++ by_index wal.segments held.row in
    merged_or_conflict (row ++ plain more) merged index first
    (subst (λ (r : List (List Batch)). MergedLenient r merged) (sym (row_batches front before wal rows more held hold)) m)
    (conflict_on row (plain more) index first wrong)

merged_or_wrong : (front : List SegmentRead) (before : List Wal) (wal : Wal) (rows more : List (List Batch)) (held : HoldsRow Lenient wal)
    (merged : List Batch) (fault : RecoverFault) → HoldAll before rows → MergedLenient (batches_in front ++ (rows ++ (held.row ++ more))) merged
    → IsLenientlyRefusedWal (front ++ by_index (segments_of before) rows) wal fault → ⊥
merged_or_wrong front before wal rows more held merged (faults.Disk side) hold m w = w
merged_or_wrong front before wal rows more held merged (faults.DuplicateSegment number index) hold m w = w
merged_or_wrong front before wal rows more held merged (faults.BadBatch number index place fault) hold m w = held_or_bad Lenient
    (log_number wal.number) wal.segments held.row index place fault held.holds w.1
merged_or_wrong front before wal rows more held merged (faults.Gap number index expected found) hold m w = w
merged_or_wrong front before wal rows more held merged (faults.Conflict number index first) hold m w =
    merged_or_conflict_behind front before wal rows more held merged index first hold m
    (subst (λ (row : List (List Batch)). IsLenientConflict ((front ++ by_index (segments_of before) rows) ++ by_index wal.segments row) index first)
    (same_row Lenient wal w.1 held) w.2)
merged_or_wrong front before wal rows more held merged (faults.Corrupt number index at shown_at) hold m w = w
merged_or_wrong front before wal rows more held merged faults.NoMemory hold m w = w

one_wrong : (before : List SegmentRead) (wal : Wal) (f g : RecoverFault) → IsLenientlyRefusedWal before wal f → IsLenientlyRefusedWal before wal g → f ≡ g
one_wrong before wal (faults.Disk side) g a b = absurd a
one_wrong before wal (faults.DuplicateSegment w i) g a b = absurd a
one_wrong before wal (faults.Gap w i e x) g a b = absurd a
one_wrong before wal faults.NoMemory g a b = absurd a
one_wrong before wal (faults.Corrupt w i p x) g a b = absurd a
one_wrong before wal (faults.BadBatch w i p f) (faults.Corrupt v j q y) a b = absurd b
one_wrong before wal (faults.Conflict w i x) (faults.Corrupt v j q y) a b = absurd b
one_wrong before wal (faults.BadBatch w i p f) (faults.Disk side) a b = absurd b
one_wrong before wal (faults.BadBatch w i p f) (faults.DuplicateSegment v j) a b = absurd b
one_wrong before wal (faults.BadBatch w i p f) (faults.Gap v j e x) a b = absurd b
one_wrong before wal (faults.BadBatch w i p f) faults.NoMemory a b = absurd b
one_wrong before wal (faults.BadBatch w i p f) (faults.BadBatch v j q g) a b =
    let same = one_bad_batch Lenient (log_number wal.number) wal.segments i p j q f g a.1 b.1 in
    let wals : w ≡ v = a.0 ∙ sym b.0 in
    λ k. faults.BadBatch (wals k) (same.0 k) (same.1 k) (same.2 k)
one_wrong before wal (faults.BadBatch w i p f) (faults.Conflict v j x) a b = absurd (bad_or_held Lenient wal i p f a.1 b.1)
one_wrong before wal (faults.Conflict w i x) (faults.Disk side) a b = absurd b
one_wrong before wal (faults.Conflict w i x) (faults.DuplicateSegment v j) a b = absurd b
one_wrong before wal (faults.Conflict w i x) (faults.Gap v j e y) a b = absurd b
one_wrong before wal (faults.Conflict w i x) faults.NoMemory a b = absurd b
one_wrong before wal (faults.Conflict w i x) (faults.BadBatch v j q g) a b = absurd (bad_or_held Lenient wal j q g b.1 a.1)
one_wrong before wal (faults.Conflict w i x) (faults.Conflict v j y) a b =
    let wrong : IsLenientConflict (before ++ by_index wal.segments b.1.row) i x = subst
    (λ (row : List (List Batch)). IsLenientConflict (before ++ by_index wal.segments row) i x) (same_row Lenient wal a.1 b.1) a.2 in
    one_named wal.number w v (merges.Conflict i x) (merges.Conflict j y) a.0 b.0 (one_conflict (before ++ by_index wal.segments b.1.row) i x j y wrong b.2)

-- ---- all WALs

-- a WAL of the directories is refused
record IsWrongAt (front : List SegmentRead) (dirs : Dirs) (fault : RecoverFault) : Type 0 where
  wal : Wal
  reached : ReachesLenient front dirs wal.number wal.segments
  wrong : IsLenientlyRefusedWal (front ++ by_index (segments_of reached.before) reached.rows) wal fault

-- so no WALs are merged that go on after it
wrong_behind : (front : List SegmentRead) (dirs : Dirs) (fault : RecoverFault) (w : IsWrongAt front dirs fault) (wals mid : List Wal)
    (rows : List (List Batch)) (merged : List Batch) → wals ≡ w.reached.before ++ w.wal ∷ mid → HoldAll wals rows
    → MergedLenient (batches_in front ++ rows) merged → ⊥
wrong_behind front dirs fault w wals mid rows merged is h m =
    let cut = holds_up_to w.reached.before w.wal mid rows (subst (λ (l : List Wal). HoldAll l rows) is h) in
    let earlier : cut.earlier ≡ w.reached.rows = one_all w.reached.before cut.earlier w.reached.rows cut.hold w.reached.hold in
    merged_or_wrong front w.reached.before w.wal w.reached.rows cut.more cut.held merged fault w.reached.hold
    (subst (λ (r : List (List Batch)). MergedLenient (batches_in front ++ (r ++ (cut.held.row ++ cut.more))) merged) earlier
    (subst (λ (r : List (List Batch)). MergedLenient (batches_in front ++ r) merged) cut.is m)) w.wrong

recovered_or_wrong : (front : List SegmentRead) (dirs : Dirs) (merged : List Batch) (fault : RecoverFault) → RecoversLenientAfter front dirs merged
    → IsWrongAt front dirs fault → ⊥
recovered_or_wrong front dirs merged fault r w =
    wrong_behind front dirs fault w r.wals w.reached.after r.rows merged
    (one_listing dirs r.wals (w.reached.before ++ w.wal ∷ w.reached.after) r.listed w.reached.listed) r.hold r.merges

one_wrong_at : (front : List SegmentRead) (dirs : Dirs) (f g : RecoverFault) → IsWrongAt front dirs f → IsWrongAt front dirs g → f ≡ g
one_wrong_at front dirs f g a b =
    of_places (places a.reached.before a.wal a.reached.after b.reached.before b.wal b.reached.after
    (one_listing dirs (a.reached.before ++ a.wal ∷ a.reached.after) (b.reached.before ++ b.wal ∷ b.reached.after) a.reached.listed b.reached.listed))
  where
    of_places : Places a.reached.before a.wal a.reached.after b.reached.before b.wal b.reached.after → f ≡ g
    of_places (sooner mid is) = absurd (wrong_behind front dirs f a b.reached.before mid b.reached.rows b.reached.base is b.reached.hold b.reached.merges)
    of_places (one befores wals afters) =
        let hold : HoldAll b.reached.before a.reached.rows = subst (λ (l : List Wal). HoldAll l a.reached.rows) befores a.reached.hold in
        let rows : a.reached.rows ≡ b.reached.rows = one_all b.reached.before a.reached.rows b.reached.rows hold b.reached.hold in
        one_wrong (front ++ by_index (segments_of b.reached.before) b.reached.rows) b.wal f g
        (subst (λ (x : Wal). IsLenientlyRefusedWal (front ++ by_index (segments_of b.reached.before) b.reached.rows) x f) wals
        (subst (λ (r : List (List Batch)). IsLenientlyRefusedWal (front ++ by_index (segments_of b.reached.before) r) a.wal f) rows
        (subst (λ (l : List Wal). IsLenientlyRefusedWal (front ++ by_index (segments_of l) a.reached.rows) a.wal f) befores a.wrong))) b.wrong
    of_places (later mid is) = absurd (wrong_behind front dirs g b a.reached.before mid a.reached.rows a.reached.base is a.reached.hold a.reached.merges)

-- ---- the directories

why : (front : List SegmentRead) (dirs : Dirs) (fault : RecoverFault) → IsLenientlyRefusedAfter front dirs fault
    → IsTwiceNamed dirs fault ⊎ IsWrongAt front dirs fault
why front dirs (faults.Disk side) r = absurd r
why front dirs (faults.DuplicateSegment w i) r = inl (w, i, refl, r)
why front dirs (faults.BadBatch w i p f) r = inr (record { wal = wal_of w r.segments; reached = r.reached; wrong = (refl, r.bad) })
why front dirs (faults.Corrupt w i p x) r = absurd r
why front dirs (faults.Gap w i e x) r = absurd r
why front dirs (faults.Conflict w i x) r = inr (record {
  wal = wal_of w r.segments;
  reached = r.reached;
  wrong = (refl, record { row = r.own; holds = r.holds }, r.wrong);
})
why front dirs faults.NoMemory r = absurd r

-- directories that recover are refused by nothing
pub lenient_or_refused_after : (front : List SegmentRead) (dirs : Dirs) (merged : List Batch) (fault : RecoverFault)
    → RecoversLenientAfter front dirs merged → IsLenientlyRefusedAfter front dirs fault → ⊥
lenient_or_refused_after front dirs merged fault r refused = elim (why front dirs fault refused) [
  | inl twice ↦ listed_or_twice dirs r.wals twice.0 twice.1 r.listed twice.3.twice
  | inr wrong ↦ recovered_or_wrong front dirs merged fault r wrong
]

pub lenient_or_refused : (dirs : Dirs) (merged : List Batch) (fault : RecoverFault) → RecoversLenient dirs merged → IsLenientlyRefused dirs fault → ⊥
lenient_or_refused = lenient_or_refused_after []

-- and directories that are refused are refused for one reason
pub lenient_refused_once_after : (front : List SegmentRead) (dirs : Dirs) (f g : RecoverFault) → IsLenientlyRefusedAfter front dirs f
    → IsLenientlyRefusedAfter front dirs g → f ≡ g
lenient_refused_once_after front dirs f g a b = elim (why front dirs f a) [
  | inl twice ↦ elim (why front dirs g b) [
    | inl again ↦ twice.2 ∙ one_duplicate dirs twice.0 twice.1 again.0 again.1 twice.3 again.3 ∙ sym again.2
    | inr wrong ↦ absurd (listed_or_twice dirs (wrong.reached.before ++ wrong.wal ∷ wrong.reached.after) twice.0 twice.1 wrong.reached.listed twice.3.twice)
  ]
  | inr wrong ↦ elim (why front dirs g b) [
    | inl again ↦ absurd (listed_or_twice dirs (wrong.reached.before ++ wrong.wal ∷ wrong.reached.after) again.0 again.1 wrong.reached.listed again.3.twice)
    | inr also ↦ one_wrong_at front dirs f g wrong also
  ]
]

pub lenient_refused_once : (dirs : Dirs) (f g : RecoverFault) → IsLenientlyRefused dirs f → IsLenientlyRefused dirs g → f ≡ g
lenient_refused_once = lenient_refused_once_after []
