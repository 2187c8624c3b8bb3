-- The journal's own segments in an image: those that stand, by their indexes, and the ranges of records that they hold.
use Rattle.std.proofs.Common.{◌≡◌, ◌≢◌, ◌⊎◌, inl, inr, ℕ, zero, suc, ◌+◌, ◌-◌, ◌<◌, ◌≤◌, Bool, List, [], ◌∷◌, length, map, take, drop, Option, Some, None, IsTrue, ap, sym, subst, ◌∙◌, refl, arith}
use Rattle.std.specs.Prelude.{max, Contains, ◌↔◌}
use Rattle.std.specs.List.{AllByRecursion}
use Rattle.std.proofs.lemmas.Bool.{lt-ltb}
use Rattle.crc_chunk.specs.Chunk.{IsChunkOf}
use Rattle.batch_repr.specs.declared.batch.Batch.{Batch}
use Rattle.batch_repr.specs.Batches.{count_of, end_of, IsContiguous}
use Rattle.batch_repr.specs.Spelling.{SpellsBatch}
use Rattle.batch_repr.specs.Written.{written}
use Rattle.block_record.specs.declared.records.Rec.{Rec}
use Rattle.block_record.specs.ReadOut.{bytes_of}
use Rattle.disk_face.specs.declared.Side.{Side}
use Rattle.disk_face.specs.declared.SegName.{SegName}
use Rattle.disk_face.specs.View.{Place, segment, Dirs, DiskView, files}
use Rattle.disk_face.specs.Image.{IsImage, IsChanceFree, log_number}
use Rattle.disk_face.proofs.Laws.{same_number, same_side}
use Rattle.segment_merge.specs.Ranges as ranges
use Rattle.segment_merge.specs.Ranges.{between, Range, AreRanges}
use Rattle.segment_merge.proofs.Laws.{none_within, within_head, within_tail, within_cases}
use Rattle.wal_recovery.specs.declared.reports.Mode.TheVariants.{Strict}
use Rattle.wal_recovery.specs.Listing.{Stored, place_in, AreByIndex, StandsIn}
use Rattle.wal_recovery.specs.Recovering.{taking_numbers, Spell, HoldsBatches, HoldRow}
use Rattle.log_writer.specs.Writer.{Writer}
use Rattle.log_writer.specs.Fits.{Fits, place_of_writer}
use Rattle.log_writer.specs.Kept.{IsPrefixRead, IsKeptAs}
use Rattle.log_writer.proofs.Laws.{fits_kept}
use Rattle.failover_writer.specs.State.{most_synced}
use Rattle.failover_writer.specs.Ranges.{side_at, AreJoined, IsSpelled}
use Rattle.failover_writer.proofs.Segments.{index_in, place_at, place_is, index_is, not_theirs}
use Rattle.block_record.proofs.Laws.{Reading, readable}

-- ---- records

-- What is written of it spells it, and it takes a number.
pub record IsRecord (batch : Batch) : Type 0 where
  pub spelled : IsSpelled batch
  pub some : 0 < count_of batch.entries

pub are_records : (from : ℕ) (batches : List Batch) → IsContiguous from batches → AllByRecursion IsSpelled batches → AllByRecursion IsRecord batches
unfolding IsContiguous
are_records from [] contiguous spelled = tt
are_records from (batch ∷ batches) contiguous spelled = (
  record { spelled = spelled.0; some = contiguous.1 },
  are_records (end_of batch) batches contiguous.2 spelled.1,
)

all_take : {X : Type 0} (P : X → Type 0) (n : ℕ) (xs : List X) → AllByRecursion P xs → AllByRecursion P (take n xs)
all_take P zero xs all = tt
all_take P (suc n) [] all = tt
all_take P (suc n) (x ∷ xs) all = (all.0, all_take P n xs all.1)

all_drop : {X : Type 0} (P : X → Type 0) (n : ℕ) (xs : List X) → AllByRecursion P xs → AllByRecursion P (drop n xs)
all_drop P zero xs all = all
all_drop P (suc n) [] all = tt
all_drop P (suc n) (x ∷ xs) all = all_drop P n xs all.1

all_counted : (batches : List Batch) → AllByRecursion IsRecord batches → taking_numbers batches ≡ batches
all_counted [] are = refl
all_counted (batch ∷ batches) are = rw (lt-ltb 0 (count_of batch.entries) are.0.some) (ap (λ (bs : List Batch). batch ∷ bs) (all_counted batches are.1))

-- Records that read as batches are written spell them.
read_spells : (read : List Rec) (batches : List Batch) → bytes_of read ≡ map written batches → AllByRecursion IsRecord batches → Spell read batches
read_spells [] [] e are = tt
read_spells [] (batch ∷ batches) e are = absurd cc
read_spells (one ∷ read) [] e are = absurd cc
read_spells (one ∷ read) (batch ∷ batches) e are =
    let here : one.bytes ≡ written batch = cc in
    let later : bytes_of read ≡ map written batches = cc in
    (subst (λ (bytes : List ℕ). SpellsBatch bytes batch) (sym here) are.0.spelled, read_spells read batches later are.1)

-- A segment that is kept holds the records from where it begins up to some number, not below what is synced.
kept_holds : (log : ℕ) (content : List ℕ) (from synced : ℕ) (records : List Batch) → AllByRecursion IsRecord records → from ≤ synced
    → IsKeptAs log from synced records (Some content)
    → (to : ℕ) × (synced ≤ to) × (to ≤ length records) × HoldsBatches Strict log content (between from to records)
kept_holds log content from synced records are low kept = (
  from + first.count,
  omega (arith, low, first.has_synced),
  first.within,
  record {
    read = reading.read;
    reads = reading.reads;
    passes = as_kept.1;
    all = between from (from + first.count) records;
    spelled = read_spells reading.read.records (between from (from + first.count) records)
        (first.first ∙ ap (λ (n : ℕ). map written (take n (drop from records))) count_is) part_are;
    counted_are = sym (all_counted (between from (from + first.count) records) part_are);
  },
)
  where
    reading : Reading content log
    reading = readable content log

    as_kept : IsPrefixRead from synced records (bytes_of reading.read.records) × (reading.read.shown ≡ None)
    as_kept = kept reading.read reading.reads

    first : IsPrefixRead from synced records (bytes_of reading.read.records)
    first = as_kept.0

    count_is : first.count ≡ from + first.count - from
    count_is = omega arith

    part_are : AllByRecursion IsRecord (between from (from + first.count) records)
    part_are = all_take IsRecord (from + first.count - from) (drop from records) (all_drop IsRecord from records are)

-- ---- the segments of writers

-- What an image has of the segment of a writer.
pub record IsKeptIn (wal : ℕ) (records : List Batch) (dirs : Dirs) (w : Writer) : Type 0 where
  pub begins : w.from ≤ w.synced
  pub kept : IsKeptAs (log_number wal) w.from w.synced records (dirs (place_of_writer w))

pub all_kept : (tells : Bool) (records : List Batch) (v : DiskView) (dirs : Dirs) → IsTrue tells → IsImage (files v) dirs
    → IsChanceFree IsChunkOf (files v) dirs → (wal index synced : ℕ) (ws : List Writer)
    → AreJoined wal index synced ws → AllByRecursion (λ (w : Writer). Fits tells records w v) ws → AllByRecursion (IsKeptIn wal records dirs) ws
unfolding AreJoined
all_kept tells records v dirs told image chance_free wal index synced [] joined fit = tt
all_kept tells records v dirs told image chance_free wal index synced (w ∷ ws) joined fit =
    let log_is : w.log ≡ log_number wal = fit.0.ordered.log ∙ ap (λ (name : SegName). log_number name.wal) joined.0.name in
    let kept : IsKeptAs w.log w.from w.synced records (dirs (place_of_writer w)) = fits_kept tells records w v fit.0 told dirs image chance_free in (
      record { begins = fit.0.ordered.from; kept = subst (λ (log : ℕ). IsKeptAs log w.from w.synced records (dirs (place_of_writer w))) log_is kept },
      all_kept tells records v dirs told image chance_free wal (suc index) (max synced w.synced) ws joined.2 fit.1,
    )

-- A place of a lower index is none of theirs.
pub apart_below : (wal index synced : ℕ) (ws : List Writer) (place : Place) → index_in place < index → AreJoined wal index synced ws
    → AllByRecursion (λ (w : Writer). place_of_writer w ≢ place) ws
unfolding AreJoined
apart_below wal index synced [] place low joined = tt
apart_below wal index synced (w ∷ ws) place low joined = (
  λ e. omega (arith, low, index_is wal index w joined.0, ap index_in e),
  apart_below wal (suc index) (max synced w.synced) ws place
      (omega (arith, low)) joined.2,
)

-- ---- the row

pub there_or_not : {X : Type 0} (o : Option X) → (o ≡ None) ⊎ ((x : X) × (o ≡ Some x))
there_or_not None = inl refl
there_or_not (Some x) = inr (x, refl)

pub not_both : {X Y : Type 0} (o : Option X) (x : X) → o ≡ None → o ≡ Some x → Y
not_both o x none some = let no : None ≡ Some x = sym none ∙ some in absurd cc

by_weaker : (low high : ℕ) (segments : List Stored) → low ≤ high → AreByIndex high segments → AreByIndex low segments
unfolding AreByIndex
by_weaker low high [] le by = tt
by_weaker low high (stored ∷ segments) le by = (omega (arith, le, by.0), by.1)

-- the row of these writers in an image, from one index on
pub record OwnRow (wal : ℕ) (records : List Batch) (dirs : Dirs) (index synced : ℕ) (ws : List Writer) : Type 0 where
  pub segments : List Stored
  pub held : List Range
  pub are : AreRanges (length records) synced held
  pub kept : most_synced synced ws ≤ ranges.greatest_synced synced held
  pub by : AreByIndex index segments
  pub holds : HoldRow Strict (log_number wal) segments (map (ranges.records_in records) held)
  pub same : (stored : Stored) → Contains segments stored ↔ ((index ≤ stored.index) × StandsIn dirs wal stored)

module _ (wal : ℕ) (named : wal ≤ 999999999999) (records : List Batch) (are : AllByRecursion IsRecord records) (dirs : Dirs) where
  -- No other segment of the WAL stands from this index on.
  abbrev pub NoneBeside : ℕ → List Writer → Type 0
  NoneBeside index ws = (side : Side) (n : ℕ) → index ≤ n → n ≤ 999 → (Contains (map place_of_writer ws) (place_in wal side n) → ⊥)
      → dirs (place_in wal side n) ≡ None

  none_behind : (index synced : ℕ) (w : Writer) (ws : List Writer) → AreJoined wal index synced (w ∷ ws) → NoneBeside index (w ∷ ws) → NoneBeside (suc index) ws
  unfolding AreJoined
  none_behind index synced w ws joined none side n le few not_there =
      none side n (omega (arith, le)) few (λ there. elim (within_cases (place_of_writer w) (map place_of_writer ws) (place_in wal side n) there) [
        | inl e ↦ omega (arith, le, index_is wal index w joined.0, ap index_in e)
        | inr later ↦ not_there later
      ])

  -- At the index of a writer only its own side has a segment.
  at_index : (index synced : ℕ) (w : Writer) (ws : List Writer) (stored : Stored) → AreJoined wal index synced (w ∷ ws)
      → NoneBeside index (w ∷ ws) → stored.index ≡ index → stored.index ≤ 999
      → dirs (place_in wal stored.side stored.index) ≡ Some stored.content → (stored.side ≡ side_at index) × (dirs (place_at wal index) ≡ Some stored.content)
  unfolding AreJoined
  at_index index synced w ws stored joined none e few there = elim (same_side stored.side (side_at index)) [
    | inl s ↦ (
      s,
      subst (λ (n : ℕ). dirs (place_in wal (side_at index) n) ≡ Some stored.content) e
          (subst (λ (side : Side). dirs (place_in wal side stored.index) ≡ Some stored.content) s there),
    )
    | inr other ↦
        let gone : dirs (place_in wal stored.side stored.index) ≡ None =
        none stored.side stored.index (omega (arith, e)) few (not_theirs (w ∷ ws) (place_in wal stored.side stored.index) (
          λ is. other (side_of stored.side (side_at index) (sym is ∙ place_is wal index w joined.0)),
          apart_below wal (suc index) (max synced w.synced) ws (place_in wal stored.side stored.index) (omega (arith, e)) joined.2,
        )) in
        not_both (dirs (place_in wal stored.side stored.index)) stored.content gone there
  ]
    where
      side_of : (one two : Side) {a b : SegName} → segment one a ≡ segment two b → one ≡ two
      side_of one two same = cc

  -- Where a writer's segment is gone, nothing of it was synced.
  row_without : (index synced : ℕ) (w : Writer) (ws : List Writer) → AreJoined wal index synced (w ∷ ws) → NoneBeside index (w ∷ ws)
      → IsKeptIn wal records dirs w → dirs (place_at wal index) ≡ None
      → OwnRow wal records dirs (suc index) (max synced w.synced) ws → OwnRow wal records dirs index synced (w ∷ ws)
  unfolding AreJoined most_synced
  row_without index synced w ws joined none kept gone later =
      let nothing : w.synced ≡ w.from = subst (λ (o : Option (List ℕ)). IsKeptAs (log_number wal) w.from w.synced records o)
      (ap dirs (place_is wal index w joined.0) ∙ gone) kept.kept in
      let still : max synced w.synced ≡ synced = omega (arith, nothing, joined.1) in
      record {
        segments = later.segments;
        held = later.held;
        are = subst (λ (n : ℕ). AreRanges (length records) n later.held) still later.are;
        kept = subst (λ (n : ℕ). most_synced (max synced w.synced) ws ≤ ranges.greatest_synced n later.held) still later.kept;
        by = by_weaker index (suc index) later.segments (omega arith) later.by;
        holds = later.holds;
        same = λ stored. (
          λ h. let there = (later.same stored).0 h in (omega (arith, there.0), there.1),
          λ h. elim (same_number stored.index index) [
            | inl e ↦ not_both (dirs (place_at wal index)) stored.content gone (at_index index synced w ws stored joined none e h.1.0.1 h.1.1).1
            | inr other ↦ (later.same stored).1 (omega (arith, h.0, other), h.1)
          ],
        );
      }

  -- Where it stands, it holds records up to some number.
  row_with : (index synced : ℕ) (w : Writer) (ws : List Writer) → index ≤ 999 → AreJoined wal index synced (w ∷ ws)
      → NoneBeside index (w ∷ ws) → IsKeptIn wal records dirs w
      → (content : List ℕ) → dirs (place_at wal index) ≡ Some content → OwnRow wal records dirs (suc index) (max synced w.synced) ws
      → OwnRow wal records dirs index synced (w ∷ ws)
  unfolding AreJoined AreRanges AreByIndex most_synced ranges.greatest_synced
  row_with index synced w ws few joined none kept content there later =
      let here : Stored = record { side = side_at index; index = index; content = content } in
      let as_kept : IsKeptAs (log_number wal) w.from w.synced records (Some content) =
      subst (λ (o : Option (List ℕ)). IsKeptAs (log_number wal) w.from w.synced records o) (ap dirs (place_is wal index w joined.0) ∙ there) kept.kept in
      let read = kept_holds (log_number wal) content w.from w.synced records are kept.begins as_kept in
      record {
        segments = here ∷ later.segments;
        held = record { from = w.from; synced = w.synced; to = read.0 } ∷ later.held;
        are = (joined.1, kept.begins, read.1, read.2, later.are);
        kept = later.kept;
        by = (omega arith, later.by);
        holds = (read.3, later.holds);
        same = λ stored. (
          λ h. elim (within_cases here later.segments stored h) [
            | inl e ↦ subst (λ (s : Stored). (index ≤ s.index) × StandsIn dirs wal s) e (omega arith, ((named, few), there))
            | inr old ↦ let at = (later.same stored).0 old in (omega (arith, at.0), at.1)
          ],
          λ h. elim (same_number stored.index index) [
            | inl e ↦
                let at = at_index index synced w ws stored joined none e h.1.0.1 h.1.1 in
                let c : stored.content ≡ content = (let both : Some stored.content ≡ Some content = sym at.1 ∙ there in cc) in
                let is : here ≡ stored = (λ i. record { side = sym at.0 i; index = sym e i; content = sym c i }) in
                subst (λ (s : Stored). Contains (here ∷ later.segments) s) is (within_head here later.segments)
            | inr other ↦ within_tail here later.segments stored ((later.same stored).1 (omega (arith, h.0, other), h.1))
          ],
        );
      }

  pub own_row : (index synced : ℕ) (ws : List Writer) → index + length ws ≤ 1000 → AreJoined wal index synced ws
      → AllByRecursion (IsKeptIn wal records dirs) ws → NoneBeside index ws
      → OwnRow wal records dirs index synced ws
  unfolding AreJoined AreRanges AreByIndex most_synced ranges.greatest_synced
  own_row index synced [] few joined kept none = record {
    segments = [];
    held = [];
    are = tt;
    kept = omega arith;
    by = tt;
    holds = tt;
    same = λ stored. (
      λ h. absurd (none_within stored h),
      λ h. not_both (dirs (place_in wal stored.side stored.index)) stored.content
          (none stored.side stored.index h.0 h.1.0.1 (λ has. none_within (place_in wal stored.side stored.index) has)) h.1.1,
    );
  }
  own_row index synced (w ∷ ws) few joined kept none =
      let later = own_row (suc index) (max synced w.synced) ws (omega (arith, few)) joined.2 kept.1 (none_behind index synced w ws joined none) in
      elim (there_or_not (dirs (place_at wal index))) [
        | inl gone ↦ row_without index synced w ws joined none kept.0 gone later
        | inr (content, there) ↦ row_with index synced w ws (omega (arith, few)) joined none kept.0 content there later
      ]
