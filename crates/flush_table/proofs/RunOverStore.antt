-- One more WAL over a store: the directories have the store, and behind it what the WAL merges to.
use Rattle.std.proofs.Common.{◌≡◌, ℕ, ◌≤◌, Bool, true, false, le-ltb, List, [], ◌++◌, Option, Some, None, sym, subst, ap, ◌∙◌, refl, arith}
use Rattle.std.specs.Prelude.{nat_lt, if◌then◌else◌}
use Rattle.std.proofs.lemmas.List.{append_assoc}
use Rattle.crc_chunk.specs.Chunk.{IsChunkOf}
use Rattle.batch_repr.specs.declared.limits.TheConstants.{NUMBER_FIRST}
use Rattle.batch_repr.specs.declared.batch.Batch.{Batch}
use Rattle.batch_repr.specs.Batches.{end_after}
use Rattle.disk_face.specs.declared.Side.{Side}
use Rattle.disk_face.specs.declared.SegName.{SegName}
use Rattle.disk_face.specs.declared.FilePlace.TheVariants.{Segment, Table}
use Rattle.disk_face.specs.View.{Place, segment, table, File, Files, Dirs}
use Rattle.disk_face.specs.Listing.{IsSegmentName}
use Rattle.disk_face.specs.Image.{IsImageOf, IsImage, IsChanceFree, IsRestedFile, IsRested, as_read, dirs_as_read}
use Rattle.wal_recovery.specs.declared.reports.Mode.TheVariants.{Strict}
use Rattle.wal_recovery.specs.Listing.{Stored, StandsIn, place_in, from_wal}
use Rattle.wal_recovery.specs.Rows.{files_from}
use Rattle.wal_recovery.specs.Recovering.{RecoversFrom}
use Rattle.wal_recovery.specs.Base.{IsBaseOf, RecoversOnto}
use Rattle.wal_recovery.specs.Further.{IsSameElsewhere, StandBelow, SegmentsMerge}
use Rattle.wal_recovery.specs.Resting.{AreSegmentsStable, OnlySynced}
use Rattle.wal_recovery.proofs.Laws.{ends_behind, image_has_file, no_base, read_synced, reads_sent, recovers_further, rested_synced, stable_recovers_from}
use Rattle.flush_table.specs.Stores.{HasWholeTable, Used, IsUsed, StoreOf, IsNextWalOfStore, wal_from, first_from, base_of, next_in}
use Rattle.flush_table.proofs.Starting.{table_base}

-- ---- the used table

module _ (dirs others : Dirs) (same : (upto : ℕ) → dirs (table upto) ≡ others (table upto)) where
  whole_too : (upto : ℕ) → HasWholeTable dirs upto → HasWholeTable others upto
  whole_too upto (named, (bytes, there, whole)) = (named, (bytes, sym (same upto) ∙ there, whole))

  -- directories with the same tables use the same one
  used_too : (used : Option Used) → IsUsed others used → IsUsed dirs used
  used_too None none = λ upto whole. none upto (whole_too upto whole)
  used_too (Some used) is = record {
    named = is.named;
    bytes = is.bytes;
    there = same used.upto ∙ is.there;
    reads = is.reads;
    greatest = λ other whole. is.greatest other (whole_too other whole);
  }

-- the numbers of its batches end at its `next`
base_of_used : (dirs : Dirs) (used : Option Used) → IsUsed dirs used → IsBaseOf (first_from used) (base_of used)
base_of_used dirs None is = no_base NUMBER_FIRST [] refl
base_of_used dirs (Some used) is = table_base used.table is.reads.is

-- the next WAL is above it
used_below : (dirs : Dirs) (wal : ℕ) (used : Option Used) → IsNextWalOfStore dirs wal → IsUsed dirs used → wal_from used ≤ wal
used_below dirs wal None next is = omega arith
used_below dirs wal (Some used) next is = omega (arith, next.past used.upto is.bytes is.named is.there)

-- ---- images of files at rest that were synced

-- a table at rest stands in an image as it reads
pub table_image : (upto : ℕ) (o : Option File) (content : Option (List ℕ)) → ((f : File) → o ≡ Some f → IsRestedFile f)
    → IsImageOf (table upto) o content → content ≡ as_read (table upto) o
table_image upto None None rests im = refl
table_image upto None (Some bytes) rests im = absurd im
table_image upto (Some f) None rests im =
    let r = rests f refl in
    let clash : true ≡ false = sym (im r.created) ∙ r.stays in
    absurd cc
table_image upto (Some f) (Some bytes) rests im = let r = rests f refl in ap Some (im r.created ∙ sym r.reads)

module _ (old now : Files) (rested : IsRested old) (only : OnlySynced old now) where
  rests : IsRested now
  rests = rested_synced old now rested only

  same_read : dirs_as_read now ≡ dirs_as_read old
  same_read = read_synced old now only

  -- no file stands for a segment of the next WAL
  pub none_of_next : (wal : ℕ) → IsNextWalOfStore (dirs_as_read old) wal → (side : Side) (name : SegName) → IsSegmentName name → name.wal ≡ wal
      → now (segment side name) ≡ None
  none_of_next wal next side name named own = go (now p) refl
    where
      p : Place
      p = segment side name

      go : (o : Option File) → now p ≡ o → o ≡ None
      go None is = refl
      go (Some f) is =
          let below = next.above name.wal (record { side = side; index = name.index; content = f.sent })
          (named, sym (ap (λ (d : Dirs). d p) same_read) ∙ reads_sent p (now p) f is (rests p f is)) in
          absurd (omega (arith, below, own))

module _ (old now : Files) (rested : IsRested old) (only : OnlySynced old now) (dirs : Dirs) (image : IsImage now dirs) where
  tables_same : (upto : ℕ) → dirs (table upto) ≡ dirs_as_read old (table upto)
  tables_same upto =
      table_image upto (now (table upto)) (dirs (table upto)) (rests old now rested only (table upto)) (image (table upto))
      ∙ ap (λ (d : Dirs). d (table upto)) (same_read old now rested only)

  -- each segment of an image is of a WAL below the next one
  stand_below : (wal : ℕ) → IsNextWalOfStore (dirs_as_read old) wal → StandBelow wal dirs
  stand_below wal next number stored (named, stands) =
      let p : Place = place_in number stored.side stored.index in
      let f = image_has_file p (now p) stored.content (subst (λ (o : Option (List ℕ)). IsImageOf p (now p) o) stands (image p)) in
      next.above number (record { side = stored.side; index = stored.index; content = f.0.sent })
      (named, sym (ap (λ (d : Dirs). d p) (same_read old now rested only)) ∙ reads_sent p (now p) f.0 f.1 (rests old now rested only p f.0 f.1))

  -- an image has the store that was read
  pub store_of_image : (used : Option Used) (base : List Batch) → AreSegmentsStable (files_from (wal_from used) now) → IsChanceFree IsChunkOf now dirs
      → StoreOf Strict (dirs_as_read old) used base → StoreOf Strict dirs used base
  store_of_image used base stable free store =
      let r : RecoversOnto (first_from used) (base_of used) (from_wal (wal_from used) (dirs_as_read old)) base = store.recovers in
      record {
        is_used = used_too dirs (dirs_as_read old) tables_same used store.is_used;
        recovers = record {
          merged = r.merged;
          recovers =
              stable_recovers_from (wal_from used) now dirs (rests old now rested only) stable image free (first_from used) r.merged
              (subst (λ (d : Dirs). RecoversFrom (first_from used) (from_wal (wal_from used) d) r.merged) (sym (same_read old now rested only)) r.recovers);
          behind = r.behind;
        };
      }

-- ---- one more WAL

module _ (wal low : ℕ) (above : low ≤ wal) (dirs others : Dirs) (same : IsSameElsewhere wal dirs others) where
  same_from : IsSameElsewhere wal (from_wal low dirs) (from_wal low others)
  same_from (Segment side name) elsewhere = go (nat_lt name.wal low)
    where
      go : (b : Bool) → (if b then None else dirs (segment side name)) ≡ (if b then None else others (segment side name))
      go true = refl
      go false = same (segment side name) elsewhere
  same_from (Table upto) elsewhere = same (table upto) elsewhere

  stood_from : (number : ℕ) (stored : Stored) → StandsIn (from_wal low others) number stored → StandsIn others number stored
  stood_from number stored (named, stands) = (named, go (nat_lt number low) stands)
    where
      p : Place
      p = place_in number stored.side stored.index

      go : (b : Bool) → (if b then None else others p) ≡ Some stored.content → others p ≡ Some stored.content
      go true is = absurd cc
      go false is = is

  -- the WAL's own segments are left
  own_left : (stored : Stored) → from_wal low dirs (place_in wal stored.side stored.index) ≡ dirs (place_in wal stored.side stored.index)
  own_left stored = ap (λ (b : Bool). if b then None else dirs (place_in wal stored.side stored.index)) (le-ltb wal low above)

  merge_from : (first : ℕ) (own : List Batch) → SegmentsMerge dirs wal first own → SegmentsMerge (from_wal low dirs) wal first own
  merge_from first own m = record {
    segments = m.segments;
    are = record {
      order = m.are.order;
      same = λ stored. (
        λ h. let s = (m.are.same stored).0 h in (s.0, own_left stored ∙ s.1),
        λ s. (m.are.same stored).1 (s.0, sym (own_left stored) ∙ s.1),
      );
    };
    merges = m.merges;
  }

store_further : (wal : ℕ) (used : Option Used) (base own : List Batch) (others dirs : Dirs) → wal_from used ≤ wal → StandBelow wal others
    → IsSameElsewhere wal dirs others → StoreOf Strict others used base → SegmentsMerge dirs wal (next_in used base) own
    → StoreOf Strict dirs used (base ++ own)
store_further wal used base own others dirs above below same store merge =
    let low : ℕ = wal_from used in
    let first : ℕ = first_from used in
    let r : RecoversOnto first (base_of used) (from_wal low others) base = store.recovers in
    let ends : next_in used base ≡ end_after first r.merged =
    ap (end_after first) r.behind ∙ ends_behind first (base_of used) r.merged (base_of_used others used store.is_used) in
    record {
      is_used = used_too dirs others (λ upto. same (table upto) tt) used store.is_used;
      recovers = record {
        merged = r.merged ++ own;
        recovers =
            recovers_further wal first (from_wal low others) (from_wal low dirs) (same_from wal low above dirs others same)
            (λ number stored stands. below number stored (stood_from wal low above dirs others same number stored stands)) r.merged own r.recovers
            (merge_from wal low above dirs others same (end_after first r.merged) own
            (subst (λ (n : ℕ). SegmentsMerge dirs wal n own) ends merge));
        behind = ap (λ (l : List Batch). l ++ own) r.behind ∙ append_assoc (base_of used) r.merged own;
      };
    }

-- Files at rest had this store, and were synced since. Directories that are as an image of them but for the next WAL have that store, and
-- behind it what the WAL merges to from the number on that came next.
pub run_over_store : (wal : ℕ) (used : Option Used) (base own : List Batch) (old now : Files) → IsRested old → OnlySynced old now
    → AreSegmentsStable (files_from (wal_from used) now) → StoreOf Strict (dirs_as_read old) used base → IsNextWalOfStore (dirs_as_read old) wal
    → (others dirs : Dirs) → IsImage now others → IsChanceFree IsChunkOf now others → IsSameElsewhere wal dirs others
    → SegmentsMerge dirs wal (next_in used base) own → StoreOf Strict dirs used (base ++ own)
run_over_store wal used base own old now rested only stable store next others dirs image free same merge =
    store_further wal used base own others dirs (used_below (dirs_as_read old) wal used next store.is_used)
    (stand_below old now rested only others image wal next) same
    (store_of_image old now rested only others image used base stable free store) merge
